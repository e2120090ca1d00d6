use Rattle.replayer.proofs.ActCases.{nothing_done}
use Rattle.replayer.proofs.keeper.act_nothing.Goals as goal

pub returns : goal.returns
returns c = nothing_done c.args.k _ _ _ _ c.call_line.ensures c.none.ensures.value
