use mathlib.Core.Path.{refl}
use Rattle.call_log.proofs.FieldsLaws.{fields_ext, read_whole}
use Rattle.call_log.specs.Fields.{fields_of}
use Rattle.call_log.proofs.fields.decode.Goals as goal

pub returns : goal.returns
unfolding fields_of
returns c =
    fields_ext (fields_of c.args.bytes.now) (read_whole c.args.bytes.now) _ _ _ _ _ _ _ _ _ _ _ _ _ _ _ refl refl refl refl refl refl refl refl c.number64.ensures
    c.number64-2.ensures c.number64-3.ensures c.number64-4.ensures c.number64-5.ensures c.number64-6.ensures
    c.number64-7.ensures
