use Rattle.replayer.proofs.ActCases.{call_done}
use Rattle.replayer.proofs.keeper.act_call.Goals as goal

pub returns : goal.returns
returns c = call_done c.args.k _ _ _ _ c.call_on-called.result c.call_on-called.ensures.result_value c.call_line.ensures
