use Rattle.replayer.proofs.ActCases.{open_done, open_refused}
use Rattle.replayer.proofs.keeper.act_open.Goals as goal

pub returns-in-Ok : goal.returns-in-Ok
returns-in-Ok c = open_done c.args.k _ _ _ _ _ c.open_in-opened.result c.open_in-opened.ensures.result_value c.none.ensures.value c.in-Ok.is c.call_line.ensures

pub returns-in-Err : goal.returns-in-Err
returns-in-Err c = open_refused c.args.k _ _ _ _ _ c.open_in-opened.result c.open_in-opened.ensures.result_value c.none-in-Err.ensures.value _ c.in-Err.is c.call_line-in-Err.ensures
