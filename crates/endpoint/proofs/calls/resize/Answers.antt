use Rattle.endpoint.proofs.Cases.{size_given}
use Rattle.endpoint.proofs.calls.resize.Goals as goal

pub returns : goal.returns
returns c = search size_given
