-- The returns of the functions that look at one slot and at what all slots come to.
use Rattle.std.specs.Prelude.{◌≡◌, ℕ, ◌-◌, ◌*◌, ◌%◌, ◌^◌, ◌<◌, ◌≤◌, Bool, true, false, not, ◌&&◌, eqb, ltb, leb, List, get_or}
use mathlib.Core.Path.{refl, ◌∙◌}
use native.Mathlib.Decide.{ℕ_discrete as dec_eq}
use native.Mathlib.Omega.{arith}
use borrow.Author.Tests.{eqb-false, eqb-true, le-leb, le-ltb, lt-leb, lt-ltb, ltb-false, ltb-true}
use lib.Bits.{bit_and, bit_or}
use Rattle.bitset.specs.Places.{all_below, none_in}
use Rattle.bitset.proofs.BitLaws.{or_test}
use Rattle.common.proofs.TestLaws.{both_assoc, every_6}
use Rattle.word_ranges.specs.declared.seen.Seen.{Seen}
use Rattle.word_ranges.specs.Seen.{all_met, held_good, idle_id, see_of}

-- the code's test of a last id, where there is no request
id_same : (phase last : ℕ) → phase < 2 → leb last (phase * (2 ^ 64 - 2)) ≡ idle_id phase last
id_same phase last h = by (dec_eq phase 0)
  where
    none : (t : Bool) → eqb last 0 ≡ t → leb last 0 ≡ t
    none true e = le-leb last 0 (omega (arith, eqb-true last 0 e))
    none false e = lt-leb last 0 (omega (arith, eqb-false last 0 e))

    some : (t : Bool) → ltb last (2 ^ 64 - 1) ≡ t → leb last (1 * (2 ^ 64 - 2)) ≡ t
    some true e = le-leb last (2 ^ 64 - 2) (omega (arith, ltb-true last (2 ^ 64 - 1) e))
    some false e = lt-leb last (2 ^ 64 - 2) (omega (arith, ltb-false last (2 ^ 64 - 1) e))

    by : Dec (phase ≡ 0) → leb last (phase * (2 ^ 64 - 2)) ≡ idle_id phase last
    by (yes q) = rw q (none (eqb last 0) refl)
    by (no ne) = let one : phase ≡ 1 = omega arith in rw one (some (ltb last (2 ^ 64 - 1)) refl)

pub largest_fits : (phase : ℕ) → phase < 2 → phase * (2 ^ 64 - 2) < 2 ^ 64
largest_fits phase h = by (dec_eq phase 0)
  where
    by : Dec (phase ≡ 0) → phase * (2 ^ 64 - 2) < 2 ^ 64
    by (yes q) = rw q (omega arith)
    by (no ne) = let one : phase ≡ 1 = omega arith in rw one (omega arith)

module _ (s : Seen) (g : Bool) (word last : ℕ) (p : List ℕ) where
  pub slot_empty : word % 4 < 2
      → ◌≡◌ {A = Seen}
      (record {
        good =
            s.good && g
            && (eqb (bit_or (bit_or (bit_or (get_or p 0 0) (get_or p 1 0)) (get_or p 2 0)) (get_or p 3 0)) 0 && leb last (word % 4 * (2 ^ 64 - 2)));
        twice = s.twice;
        a = s.a;
        b = s.b;
        c = s.c;
        d = s.d;
      })
      (see_of s g word last p)
  unfolding see_of held_good none_in
  slot_empty h =
      rw (
        lt-ltb (word % 4) 2 h,
        id_same (word % 4) last h,
        or_test (bit_or (bit_or (get_or p 0 0) (get_or p 1 0)) (get_or p 2 0)) (get_or p 3 0),
        or_test (bit_or (get_or p 0 0) (get_or p 1 0)) (get_or p 2 0),
        or_test (get_or p 0 0) (get_or p 1 0),
        both_assoc s.good g (eqb (get_or p 0 0) 0 && eqb (get_or p 1 0) 0 && eqb (get_or p 2 0) 0 && eqb (get_or p 3 0) 0 && idle_id (word % 4) last),
      )

  pub slot_busy : 2 ≤ word % 4
      → ◌≡◌ {A = Seen}
      (record {
        good = s.good && g && not (eqb last 0);
        twice = bit_or (bit_or (bit_or (bit_or s.twice (bit_and s.a (get_or p 0 0))) (bit_and s.b (get_or p 1 0))) (bit_and s.c (get_or p 2 0))) (bit_and s.d (get_or p 3 0));
        a = bit_or s.a (get_or p 0 0);
        b = bit_or s.b (get_or p 1 0);
        c = bit_or s.c (get_or p 2 0);
        d = bit_or s.d (get_or p 3 0);
      })
      (see_of s g word last p)
  unfolding see_of held_good
  slot_busy h = rw (le-ltb (word % 4) 2 h, both_assoc s.good g (not (eqb last 0)))

pub met_all : (s : Seen) (D : ℕ) (all : List ℕ) → all ≡ all_below D
    → (s.good && eqb s.twice 0 && eqb s.a (get_or all 0 0) && eqb s.b (get_or all 1 0) && eqb s.c (get_or all 2 0) && eqb s.d (get_or all 3 0))
    ≡ all_met s D
unfolding all_met
met_all s D all e =
    every_6 s.good (eqb s.twice 0) (eqb s.a (get_or all 0 0)) (eqb s.b (get_or all 1 0)) (eqb s.c (get_or all 2 0)) (eqb s.d (get_or all 3 0))
    ∙ rw e
