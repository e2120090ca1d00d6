use Rattle.request.proofs.WordsLink.{own_request_fits, request_fits_lem, request_put}
use borrow.Author.Rules.{rules}
use Rattle.request.proofs.settle.put_request.Goals as goal

pub put_endpoint-requires-clause-slot_fits : goal.put_endpoint-requires-clause-slot_fits
put_endpoint-requires-clause-slot_fits c = search (request_fits_lem, rules)

pub returns-clause-slot_fits : goal.returns-clause-slot_fits
returns-clause-slot_fits c = search (own_request_fits, rules)
