use Rattle.bring_up.proofs.stage.command.Goals as goal

pub returns : goal.returns
returns c = rw (c.and_then.ensures.value, c.command_word.ensures, c.none.ensures.value)
