use Rattle.request.proofs.SettleCases.{setup_put, setup_kept}
use Rattle.request.proofs.settle.put_setup.Goals as goal

pub returns-then-is_control : goal.returns-then-is_control
returns-then-is_control c = search setup_put

pub returns-else-is_control : goal.returns-else-is_control
returns-else-is_control c = search setup_kept
