use Rattle.schedule.specs.Bell.{command_word}
use Rattle.schedule.proofs.bell.command_word.Goals as goal

pub returns : goal.returns
unfolding command_word
returns c = c.without_bits.ensures
