-- What a writing leaves: no place, nothing written; a transfer's or a token's places, what the chain of these places leaves. And what shows that it may be handed to the pool.
use Prim.Native.Nat.{ℕ}
use mathlib.Core.Path.{◌≡◌, sym, ap, subst, ◌∙◌}
use mathlib.Core.List.{List, [], ◌∷◌}
use native.Mathlib.Omega.{arith}
use lib.ListN.{length}
use Rattle.bitset.specs.Places.{Within, set_places}
use Rattle.bitset.proofs.PlaceLaws.{places_zero}
use Rattle.descriptor.specs.declared.qtd.QueueTransferDescriptor.{QueueTransferDescriptor as Record}
use Rattle.pool.specs.Plain as Deeds
use Rattle.pool.specs.declared.writing.Writing.{Writing}
use Rattle.pool.specs.Places.{packed}
use Rattle.std.specs.Prelude.{Option, Some, None}
use Rattle.pool.specs.declared.marking.Mark.{Mark}
use Rattle.pool.specs.Chains.{fill_of, filled_from, transfer_good}
use Rattle.pool.specs.Words.{AskWordsGood, LayingGood, MarkingGood, WritingGood, laid_of, marked_of, no_ask_words, no_laying, no_words, no_writing, where_places, written_with}
use Rattle.pool.proofs.PlaceLaws.{list_packed}

pub no_places_lem : set_places no_words ≡ []
unfolding set_places
no_places_lem = rw (places_zero 0 64, places_zero 64 64, places_zero 128 64, places_zero 192 64)

-- ---- what may be handed to the pool

-- nothing is asked where there is no place
no_place_asks : (P : List ℕ → Type 0) → where_places (set_places no_words) (P (set_places no_words))
no_place_asks P = subst (λ (ps : List ℕ). where_places ps (P ps)) (sym no_places_lem) tt

no_place_within : (n : ℕ) → Within n (set_places no_words)
no_place_within n = subst (λ (ps : List ℕ). Within n ps) (sym no_places_lem) tt

pub no_laying_good : (n : ℕ) → LayingGood n no_laying
unfolding no_laying
no_laying_good n =
    record { within = no_place_within n; transfer = no_place_asks (λ ps. transfer_good no_laying.transfer 0 n (length ps)) }

pub no_marking_good : (n : ℕ) → MarkingGood n None
no_marking_good n = record { within = tt }

pub no_writing_good : (n : ℕ) → WritingGood n no_writing
unfolding no_writing
no_writing_good n = record { laying = no_laying_good n; marking = no_marking_good n }

pub no_ask_words_good : (n : ℕ) → AskWordsGood n no_ask_words
unfolding no_ask_words
no_ask_words_good n = record { within = no_place_within n; short = omega arith; limited = omega arith }

-- ---- what is written

-- where nothing is marked, what is laid is all
none_marked : (w : Writing) (rs : List Record) → w.marking ≡ None → written_with w rs ≡ laid_of w.laying rs
unfolding written_with
none_marked w rs em = rw em

-- no place, nothing written
pub no_places_written : (w : Writing) (rs : List Record) → set_places w.laying.places ≡ [] → w.marking ≡ None → written_with w rs ≡ rs
unfolding filled_from
no_places_written w rs el em =
    none_marked w rs em ∙ ap (λ (ps : List ℕ). filled_from (Deeds.Transfer w.laying.transfer) w.laying.base 0 ps rs) el

-- a transfer alone is what its chain leaves
pub laid_is_packed : (w : Writing) (ps : List ℕ) (rs : List Record) → w.marking ≡ None → set_places w.laying.places ≡ ps
    → written_with w rs ≡ fill_of (record { places = packed ps; base = w.laying.base; deed = Deeds.Transfer w.laying.transfer }) rs
unfolding fill_of
laid_is_packed w ps rs em ep =
    none_marked w rs em
    ∙ ap (λ (qs : List ℕ). filled_from (Deeds.Transfer w.laying.transfer) w.laying.base 0 qs rs) (ep ∙ sym (list_packed ps))

-- a token alone is what the chain of its place leaves
pub marked_is_packed : (w : Writing) (base : ℕ) (m : Mark) (rs : List Record) → set_places w.laying.places ≡ [] → w.marking ≡ Some m
    → written_with w rs ≡ fill_of (record { places = packed (m.place ∷ []); base = base; deed = Deeds.Token m.token }) rs
unfolding written_with fill_of filled_from
marked_is_packed w base m rs el em =
    ap (λ (ps : List ℕ). marked_of w.marking (filled_from (Deeds.Transfer w.laying.transfer) w.laying.base 0 ps rs)) el
    ∙ ap (λ (x : Option Mark). marked_of x rs) em
    ∙ ap (λ (ps : List ℕ). filled_from (Deeds.Token m.token) base 0 ps rs) (sym (list_packed (m.place ∷ [])))
