-- What a slot keeps besides its first word, in plain facts, both ways.
use Rattle.std.specs.Prelude.{◌≡◌, ℕ, ◌-◌, ◌^◌, ◌<◌, ◌≤◌, true, ◌&&◌, eqb, ◌≢◌, List, [], ◌∷◌}
use native.Mathlib.Decide.{ℕ_discrete as dec_eq}
use native.Mathlib.Omega.{arith}
use borrow.Author.Tests.{eqb-false, eqb-true, le-ltb, lt-ltb, ltb-true, ne_eqb, not-true}
use Rattle.bitset.specs.Places.{none_in}
use Rattle.common.proofs.TestLaws.{both_tells}
use Rattle.words.specs.Good.{no_places}
use Rattle.word_ranges.specs.Seen.{held_good, idle_id}

pub record Kept (phase last : ℕ) (places : List ℕ) : Type 0 where
  pub closed : phase ≡ 0 → last ≡ 0
  pub idle : phase ≡ 1 → last ≢ 2 ^ 64 - 1
  pub empty : phase < 2 → places ≡ no_places
  pub own : 2 ≤ phase → 1 ≤ last

-- ---- no place

module _ (a b c d : ℕ) where
  none_tells : none_in (a ∷ b ∷ c ∷ d ∷ []) ≡ true → ◌≡◌ {A = List ℕ} (a ∷ b ∷ c ∷ d ∷ []) no_places
  unfolding none_in
  none_tells e =
      let p = both_tells (eqb a 0 && eqb b 0 && eqb c 0) (eqb d 0) e in
      let q = both_tells (eqb a 0 && eqb b 0) (eqb c 0) p.0 in
      let r = both_tells (eqb a 0) (eqb b 0) q.0 in
      rw (eqb-true a 0 r.0, eqb-true b 0 r.1, eqb-true c 0 q.1, eqb-true d 0 p.1)

none_makes : (p : List ℕ) → p ≡ no_places → none_in p ≡ true
unfolding none_in
none_makes p e = rw e

-- ---- a slot

module _ (phase last a b c d : ℕ) where
  abbrev words : List ℕ
  words = a ∷ b ∷ c ∷ d ∷ []

  has_no_request : phase < 2 → held_good phase last words ≡ true → (none_in words ≡ true) × (idle_id phase last ≡ true)
  unfolding held_good
  has_no_request h e = both_tells (none_in words) (idle_id phase last) (rw (lt-ltb phase 2 h) at e)

  pub held_tells : held_good phase last words ≡ true → Kept phase last words
  unfolding held_good
  held_tells e =
      record {
        closed = λ p. eqb-true last 0 (rw p at (has_no_request (omega arith) e).1);
        idle = λ p q. omega (arith, ltb-true last (2 ^ 64 - 1) (rw p at (has_no_request (omega arith) e).1));
        empty = λ h. none_tells a b c d (has_no_request h e).0;
        own = λ h. omega (arith, eqb-false last 0 (not-true _ (rw (le-ltb phase 2 h) at e)));
      }

  pub held_makes : last < 2 ^ 64 → Kept phase last words → held_good phase last words ≡ true
  unfolding held_good
  held_makes fits k = by (dec_eq phase 0) (dec_eq phase 1)
    where
      by : Dec (phase ≡ 0) → Dec (phase ≡ 1) → held_good phase last words ≡ true
      by (yes p) d₁ =
          rw (lt-ltb phase 2 (omega arith), none_makes words (k.empty (omega arith)), p, k.closed p)
      by (no n) (yes p) =
          rw (lt-ltb phase 2 (omega arith), none_makes words (k.empty (omega arith)), p, lt-ltb last (2 ^ 64 - 1) (omega (arith, k.idle p)))
      by (no n) (no m) =
          rw (le-ltb phase 2 (omega arith), ne_eqb last 0 (λ z. omega (arith, k.own (omega arith))))
