use Rattle.pipe.proofs.WordsLaws.{encoded_fits, put_encoded}
use Rattle.pipe.proofs.slots.put_endpoint.Goals as goal

pub put_slot-requires : goal.put_slot-requires
put_slot-requires c = search encoded_fits

pub returns : goal.returns
returns c = search put_encoded
