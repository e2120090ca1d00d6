-- A writing in parts: the stages of a control request, then the chunks of another. Of these one has no place, so both are the whole.
use mathlib.Core.Path.{◌≡◌, ap}
use mathlib.Core.Bool.{Bool, true, false, not}
use mathlib.Core.List.{List}
use Prim.Native.Nat.{ℕ}
use Rattle.bitset.specs.Places.{set_places}
use Rattle.common.specs.Kinds.{is_control}
use Rattle.descriptor.specs.declared.qtd.QueueTransferDescriptor.{QueueTransferDescriptor as Record}
use Rattle.pool.specs.Plain as Deeds
use Rattle.pool.specs.declared.laying.Laying.{Laying}
use Rattle.pool.specs.declared.writing.Writing.{Writing}
use Rattle.pool.specs.Chains.{filled_from}
use Rattle.pool.specs.Words.{laid_of, marked_of, no_words, written_with}
use Rattle.pool.proofs.WordLaws.{no_places_lem}

abbrev pub words_if : Bool → List ℕ → List ℕ
words_if true w = w
words_if false w = no_words

-- the laying of a writing where its transfer is of this kind; else no place
abbrev pub laying_if : Bool → Laying → Laying
laying_if b l = record { places = words_if b l.places; base = l.base; transfer = l.transfer }

unfoldable pub stages_of : Writing → Laying
stages_of w = laying_if (is_control w.laying.transfer.kind) w.laying

unfoldable pub chunks_of : Writing → Laying
chunks_of w = laying_if (not (is_control w.laying.transfer.kind)) w.laying

abbrev laid_by : Laying → List ℕ → List Record → List Record
laid_by l w rs = filled_from (Deeds.Transfer l.transfer) l.base 0 (set_places w) rs

none_laid : (l : Laying) (rs : List Record) → laid_by l no_words rs ≡ rs
unfolding filled_from
none_laid l rs = ap (λ (ps : List ℕ). filled_from (Deeds.Transfer l.transfer) l.base 0 ps rs) no_places_lem

-- one of the two kinds lays all
one_lays : (l : Laying) (b : Bool) (rs : List Record) → laid_by l (words_if (not b) l.places) (laid_by l (words_if b l.places) rs) ≡ laid_of l rs
one_lays l true rs = none_laid l (laid_of l rs)
one_lays l false rs = ap (laid_of l) (none_laid l rs)

pub parts_written : (w : Writing) (rs : List Record) → marked_of w.marking (laid_of (chunks_of w) (laid_of (stages_of w) rs)) ≡ written_with w rs
unfolding stages_of chunks_of written_with
parts_written w rs = ap (marked_of w.marking) (one_lays w.laying (is_control w.laying.transfer.kind) rs)
