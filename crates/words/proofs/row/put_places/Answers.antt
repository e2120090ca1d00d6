use native.Mathlib.Omega.{arith}
use lib.ListN.{length-set}
use Rattle.words.proofs.RowLaws.{parts_written}
use Rattle.words.proofs.row.put_places.Goals as goal

pub returns : goal.returns
returns c = parts_written _ _ _
