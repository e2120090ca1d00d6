use Rattle.replayer.proofs.ActCases.{scan_done}
use Rattle.replayer.proofs.keeper.act_scan.Goals as goal

pub returns : goal.returns
returns c = scan_done c.args.k _ _ _ _ c.scan_line.ensures
