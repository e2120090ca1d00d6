use mathlib.Core.Path.{◌≡◌}
use Prim.Native.Nat.{◌+◌}
use lib.ListN.{length, take}
use Rattle.common.specs.Rows.{put_at}
use Rattle.job_sheet.specs.Sheets.{joined}
use Rattle.job_sheet.specs.Listing.{word_field}
use Rattle.job_sheet.proofs.listing.put_words.Given as goal

abbrev pub invariant-loop-word : goal.invariant-loop-word
invariant-loop-word l = (length l.out ≡ length l.initial.out) × (l.out ≡ put_at l.initial.out l.at (joined word_field (take l.word-index l.words))) × (l.next ≡ l.at + length (joined word_field (take l.word-index l.words)))
