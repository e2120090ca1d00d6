use Rattle.std.specs.Prelude.{Some}
use Rattle.replayer.proofs.ActCases.{act_as, scanned_as}
use mathlib.Core.Path.{ap, refl, ◌∙◌}
use Rattle.replayer.proofs.keeper.act.Goals as goal

pub returns-in_default : goal.returns-in_default
returns-in_default c = act_as c.args.k _ _ _ _ _ c.in_default.is c.act_nothing.ensures

pub returns-in-Open : goal.returns-in-Open
returns-in-Open c = act_as c.args.k _ _ _ _ _ (c.in-Some.is ∙ ap Some c.in-Open.is) c.act_open.ensures

pub returns-in-Call : goal.returns-in-Call
returns-in-Call c = act_as c.args.k _ _ _ _ _ (c.in-Some.is ∙ ap Some c.in-Call.is) c.act_call.ensures

pub returns-in-StartScan : goal.returns-in-StartScan
returns-in-StartScan c = scanned_as c.args.k _ _ _ _ _ _ _ (c.in-Some.is ∙ ap Some c.in-StartScan.is) refl c.start.ensures c.act_scan.ensures

pub returns-in-ScanStep : goal.returns-in-ScanStep
returns-in-ScanStep c = scanned_as c.args.k _ _ _ _ _ _ _ (c.in-Some.is ∙ ap Some c.in-ScanStep.is) refl c.step.ensures c.act_scan-in-ScanStep.ensures

pub returns-in-PortPower : goal.returns-in-PortPower
returns-in-PortPower c = act_as c.args.k _ _ _ _ _ (c.in-Some.is ∙ ap Some c.in-PortPower.is) c.act_power.ensures
