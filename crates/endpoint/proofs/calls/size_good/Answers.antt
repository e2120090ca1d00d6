use Rattle.endpoint.proofs.Cases.{size_is}
use Rattle.endpoint.proofs.calls.size_good.Goals as goal

pub returns : goal.returns
returns c = search size_is
