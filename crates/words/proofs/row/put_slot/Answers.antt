use native.Mathlib.Omega.{arith}
use lib.ListN.{length-set}
use Rattle.words.specs.Record.{put_slot}
use Rattle.words.proofs.row.put_slot.Goals as goal

pub returns : goal.returns
unfolding put_slot
returns c = rw (c.last_of.ensures, c.word_of.ensures)
