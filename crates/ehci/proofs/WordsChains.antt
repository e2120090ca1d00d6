-- What is written over words is what its chain leaves, and what is asked over words is what the records of its list say.
use Rattle.std.specs.Prelude.{◌≡◌, ℕ, false, Option, Some, None, List, [], ◌∷◌}
use mathlib.Core.Path.{refl, sym, ap, subst, ◌∙◌}
use Rattle.bitset.specs.Places.{set_places}
use Rattle.descriptor.specs.declared.qtd.QueueTransferDescriptor.{QueueTransferDescriptor as Record}
use Rattle.pool.specs.Chains.{fill_of, no_ask, no_chain, read_of, seen_from, view_of}
use Rattle.pool.specs.Places.{packed}
use Rattle.pool.specs.Words.{LayingGood, MarkingGood, no_ask_words, no_laying, no_transfer, no_words, no_writing, where_places, written_with}
use Rattle.pool.specs.declared.asked.AskWords.{AskWords}
use Rattle.pool.specs.Plain.{Ask}
use Rattle.pool.specs.Plain as Deeds
use Rattle.pool.specs.declared.laying.Laying.{Laying}
use Rattle.pool.specs.declared.marking.Mark.{Mark}
use Rattle.pool.specs.declared.writing.Writing.{Writing}
use Rattle.pool.proofs.ChainLaws.{fill_no_chain}
use Rattle.pool.proofs.PlaceLaws.{list_packed}
use Rattle.pool.proofs.WordLaws.{laid_is_packed, marked_is_packed, no_laying_good, no_marking_good, no_places_lem, no_places_written, no_writing_good}
use Rattle.common.specs.declared.kinds.EndpointType.TheVariants.{Control}
use Rattle.settings.specs.declared.settings.Settings.{Settings}
use Rattle.request.specs.Words.{chain_at, laying_chain, marking_chain}
use Rattle.collection.specs.Words.{ask_view}
use Rattle.ehci.specs.Door.{seen_by}
use Rattle.ehci.specs.WordsDecides.{Writable, chain_else, chain_in, laid_only, marked_only}

-- ---- the chain of what is written

pub writing_fills : (s : Settings) (w : Writing) (rs : List Record) → where_places (set_places w.laying.places) (w.marking ≡ None)
    → fill_of (chain_in s w) rs ≡ written_with w rs
writing_fills s w rs = by (set_places w.laying.places) refl w.marking refl
  where
    by : (ps : List ℕ) → set_places w.laying.places ≡ ps → (y : Option Mark) → w.marking ≡ y → where_places ps (y ≡ None)
        → fill_of (chain_else ps (chain_at ps w.laying.base (Deeds.Transfer w.laying.transfer)) (marking_chain s.pool y)) rs ≡ written_with w rs
    by [] el None em one = fill_no_chain rs ∙ sym (no_places_written w rs el em)
    by [] el (Some m) em one = sym (marked_is_packed w s.pool m rs el em)
    by (p ∷ ps) el y em one = sym (laid_is_packed w (p ∷ ps) rs (em ∙ one) el)

pub no_writing_chain : (s : Settings) → chain_in s no_writing ≡ no_chain
unfolding no_writing no_laying
no_writing_chain s = ap (λ (ps : List ℕ). chain_else ps (chain_at ps 0 (Deeds.Transfer no_transfer)) no_chain) no_places_lem

pub laid_chain : (s : Settings) (l : Laying) → chain_in s (laid_only l) ≡ laying_chain l
unfolding laid_only
laid_chain s l = by (set_places l.places)
  where
    by : (ps : List ℕ) → chain_else ps (chain_at ps l.base (Deeds.Transfer l.transfer)) no_chain ≡ chain_at ps l.base (Deeds.Transfer l.transfer)
    by [] = refl
    by (p ∷ ps) = refl

pub marked_chain : (s : Settings) (m : Option Mark) → chain_in s (marked_only m) ≡ marking_chain s.pool m
unfolding marked_only no_laying
marked_chain s m =
    ap (λ (ps : List ℕ). chain_else ps (chain_at ps 0 (Deeds.Transfer no_transfer)) (marking_chain s.pool m)) no_places_lem

-- ---- what may be handed to the pool

where_known : (ps : List ℕ) (P : Type 0) → P → where_places ps P
where_known [] P p = tt
where_known (q ∷ qs) P p = p

pub no_writable : (n : ℕ) → Writable n no_writing
unfolding no_writing no_laying
no_writable n = record { good = no_writing_good n; one = where_known (set_places no_words) _ refl }

pub laid_writable : (n : ℕ) (l : Laying) → LayingGood n l → Writable n (laid_only l)
unfolding laid_only
laid_writable n l g = record { good = record { laying = g; marking = no_marking_good n }; one = where_known (set_places l.places) _ refl }

pub marked_writable : (n : ℕ) (m : Option Mark) → MarkingGood n m → Writable n (marked_only m)
unfolding marked_only no_laying
marked_writable n m g =
    record {
      good = record { laying = no_laying_good n; marking = g };
      one = subst (λ (ps : List ℕ). where_places ps (m ≡ None)) (sym no_places_lem) tt;
    }

-- ---- what is asked

pub asked_same : (a : AskWords) (rs : List Record)
    → seen_by (ask_view a) rs ≡ view_of (read_of a.stops (seen_from a.kind a.length a.limit 0 (set_places a.places) rs))
asked_same a rs = ap (λ (ps : List ℕ). view_of (read_of a.stops (seen_from a.kind a.length a.limit 0 ps rs))) (list_packed (set_places a.places))

abbrev none_at : List ℕ → Ask
none_at ps = record { places = packed ps; kind = Control; length = 0; limit = 0; stops = false }

pub no_ask_view : ask_view no_ask_words ≡ no_ask
unfolding no_ask_words no_ask
no_ask_view = ap none_at no_places_lem
