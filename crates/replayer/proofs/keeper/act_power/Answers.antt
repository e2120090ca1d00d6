use Rattle.replayer.proofs.ActCases.{power_done}
use Rattle.replayer.proofs.keeper.act_power.Goals as goal

pub returns : goal.returns
returns c = power_done c.args.k _ _ _ _ _ _ c.port_power-powered.ensures c.scan_line-line.ensures
