use Rattle.bitset.proofs.CursorLaws.{end_test}
use Rattle.bitset.proofs.cursor.at_end.Goals as goal

pub returns : goal.returns
returns c = end_test c.args.c c.struct_known-1.given.1.0.fits
