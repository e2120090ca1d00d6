use Rattle.endpoint.proofs.Cases.{fields_is}
use Rattle.endpoint.proofs.calls.fields_good.Goals as goal

pub returns : goal.returns
returns c = search fields_is
