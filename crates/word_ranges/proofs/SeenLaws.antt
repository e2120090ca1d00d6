-- What the pass over the slots comes to, both ways: every slot is good, and in each column nothing is met twice and all is met.
use Rattle.std.specs.Prelude.{◌≡◌, ℕ, zero, suc, ◌+◌, ◌<◌, ◌≤◌, Bool, true, false, ◌&&◌, eqb, ltb, List, [], ◌∷◌, get_or}
use mathlib.Core.Path.{refl, sym, ap, subst, ◌∙◌}
use native.Mathlib.Decide.{ℕ_discrete as dec_eq}
use native.Mathlib.Omega.{arith}
use borrow.Author.Tests.{eq-eqb, eqb-true, ltb-true}
use lib.Bits.{bit_and, bit_or, and_zero_r, or_zero_r}
use Rattle.bitset.specs.Judge.{met_in, twice_in}
use Rattle.bitset.specs.Places.{all_below}
use Rattle.bitset.proofs.BitLaws.{or_first, or_none, or_second}
use Rattle.common.proofs.TestLaws.{both_makes, both_tells}
use Rattle.words.specs.Good.{column, no_places}
use Rattle.words.specs.Record.{last_at, part_at, phase_in, places_at, word_at}
use Rattle.word_ranges.specs.declared.seen.Seen.{Seen}
use Rattle.word_ranges.specs.Bounds.{word_good}
use Rattle.word_ranges.specs.Seen.{all_met, held_good, mark_good, meet_places, see_of, seen_from}
use Rattle.word_ranges.proofs.HeldLaws.{held_tells}

-- ---- one column

pub record Column (a : ℕ) (col : List ℕ) (all : ℕ) : Type 0 where
  pub none_twice : twice_in a col ≡ 0
  pub all_met_lem : met_in a col ≡ all

module _ (a w : ℕ) (col : List ℕ) (all : ℕ) where
  column_more : bit_and a w ≡ 0 → Column (bit_or a w) col all → Column a (w ∷ col) all
  unfolding twice_in met_in
  column_more e c = record { none_twice = or_none (bit_and a w) (twice_in (bit_or a w) col) e c.none_twice; all_met_lem = c.all_met_lem }

  column_head : Column a (w ∷ col) all → bit_and a w ≡ 0
  unfolding twice_in
  column_head c = or_first (bit_and a w) (twice_in (bit_or a w) col) c.none_twice

  column_tail : Column a (w ∷ col) all → Column (bit_or a w) col all
  unfolding twice_in met_in
  column_tail c = record { none_twice = or_second (bit_and a w) (twice_in (bit_or a w) col) c.none_twice; all_met_lem = c.all_met_lem }

-- ---- one slot

module _ (s : Seen) (bounded : Bool) (w last : ℕ) where
  see_good : (p : List ℕ) → (see_of s bounded w last p).good ≡ (s.good && (bounded && held_good (phase_in w) last p))
  unfolding see_of
  see_good p = by (ltb (phase_in w) 2) refl
    where
      by : (t : Bool) → ltb (phase_in w) 2 ≡ t → (see_of s bounded w last p).good ≡ (s.good && (bounded && held_good (phase_in w) last p))
      by true e = rw e
      by false e = rw e

  -- a slot with no request has no place: it is as if its places were met
  see_same : (a b c d : ℕ) → held_good (phase_in w) last (a ∷ b ∷ c ∷ d ∷ []) ≡ true
      → see_of s bounded w last (a ∷ b ∷ c ∷ d ∷ [])
      ≡ meet_places s (bounded && held_good (phase_in w) last (a ∷ b ∷ c ∷ d ∷ [])) (a ∷ b ∷ c ∷ d ∷ [])
  unfolding see_of
  see_same a b c d h = by (ltb (phase_in w) 2) refl
    where
      good : Bool
      good = bounded && held_good (phase_in w) last (a ∷ b ∷ c ∷ d ∷ [])

      nothing : mark_good s good ≡ meet_places s good no_places
      nothing = simp (and_zero_r, or_zero_r)

      by : (t : Bool) → ltb (phase_in w) 2 ≡ t
          → see_of s bounded w last (a ∷ b ∷ c ∷ d ∷ []) ≡ meet_places s good (a ∷ b ∷ c ∷ d ∷ [])
      by true e =
          rw e (nothing ∙ ap (meet_places s good) (sym ((held_tells (phase_in w) last a b c d h).empty (ltb-true (phase_in w) 2 e))))
      by false e = rw e

-- ---- the pass

pub record Right (ws : List ℕ) (limit u k : ℕ) : Type 0 where
  pub bounded : word_good limit u (word_at ws k) ≡ true
  pub holds : held_good (phase_in (word_at ws k)) (last_at ws k) (places_at ws k) ≡ true

pub record Pass (ws : List ℕ) (limit u D k n : ℕ) (s : Seen) : Type 0 where
  pub good : s.good ≡ true
  pub none_twice : s.twice ≡ 0
  pub each : (i : ℕ) → k ≤ i → i < k + n → Right ws limit u i
  pub first : Column s.a (column ws 0 k n) (get_or (all_below D) 0 0)
  pub second : Column s.b (column ws 1 k n) (get_or (all_below D) 1 0)
  pub third : Column s.c (column ws 2 k n) (get_or (all_below D) 2 0)
  pub fourth : Column s.d (column ws 3 k n) (get_or (all_below D) 3 0)

module _ (ws : List ℕ) (limit u D : ℕ) where
  abbrev see_at : ℕ → Seen → Seen
  see_at k s = see_of s (word_good limit u (word_at ws k)) (word_at ws k) (last_at ws k) (places_at ws k)

  abbrev right_at : ℕ → Bool
  right_at k = word_good limit u (word_at ws k) && held_good (phase_in (word_at ws k)) (last_at ws k) (places_at ws k)

  same_at : (k : ℕ) (s : Seen) → held_good (phase_in (word_at ws k)) (last_at ws k) (places_at ws k) ≡ true
      → see_at k s ≡ meet_places s (right_at k) (places_at ws k)
  same_at k s h =
      see_same s (word_good limit u (word_at ws k)) (word_at ws k) (last_at ws k) (part_at ws k 0) (part_at ws k 1) (part_at ws k 2) (part_at ws k 3) h

  -- ---- at the end

  end_tells : (k : ℕ) (s : Seen) → all_met s D ≡ true → Pass ws limit u D k 0 s
  unfolding all_met column met_in twice_in
  end_tells k s e =
      let g = both_tells s.good _ e in
      let t = both_tells (eqb s.twice 0) _ g.1 in
      let a = both_tells (eqb s.a (get_or (all_below D) 0 0)) _ t.1 in
      let b = both_tells (eqb s.b (get_or (all_below D) 1 0)) _ a.1 in
      let c = both_tells (eqb s.c (get_or (all_below D) 2 0)) _ b.1 in
      let d = both_tells (eqb s.d (get_or (all_below D) 3 0)) true c.1 in
      record {
        good = g.0;
        none_twice = eqb-true s.twice 0 t.0;
        each = λ i h h'. absurd (omega arith);
        first = record { none_twice = refl; all_met_lem = eqb-true s.a (get_or (all_below D) 0 0) a.0 };
        second = record { none_twice = refl; all_met_lem = eqb-true s.b (get_or (all_below D) 1 0) b.0 };
        third = record { none_twice = refl; all_met_lem = eqb-true s.c (get_or (all_below D) 2 0) c.0 };
        fourth = record { none_twice = refl; all_met_lem = eqb-true s.d (get_or (all_below D) 3 0) d.0 };
      }

  end_makes : (k : ℕ) (s : Seen) → Pass ws limit u D k 0 s → all_met s D ≡ true
  unfolding all_met column met_in
  end_makes k s p =
      rw (
        p.good,
        eq-eqb s.twice 0 p.none_twice,
        eq-eqb s.a (get_or (all_below D) 0 0) p.first.all_met_lem,
        eq-eqb s.b (get_or (all_below D) 1 0) p.second.all_met_lem,
        eq-eqb s.c (get_or (all_below D) 2 0) p.third.all_met_lem,
        eq-eqb s.d (get_or (all_below D) 3 0) p.fourth.all_met_lem,
      )

  -- ---- one slot more

  -- what was met twice, with one, two and three columns of slot k
  abbrev twice_1 : Seen → ℕ → ℕ
  twice_1 s k = bit_or s.twice (bit_and s.a (part_at ws k 0))

  abbrev twice_2 : Seen → ℕ → ℕ
  twice_2 s k = bit_or (twice_1 s k) (bit_and s.b (part_at ws k 1))

  abbrev twice_3 : Seen → ℕ → ℕ
  twice_3 s k = bit_or (twice_2 s k) (bit_and s.c (part_at ws k 2))

  more : (k n : ℕ) (s : Seen) → Pass ws limit u D (suc k) n (see_at k s) → Pass ws limit u D k (suc n) s
  unfolding column
  more k n s p =
      let g = both_tells s.good (right_at k) (sym (see_good s (word_good limit u (word_at ws k)) (word_at ws k) (last_at ws k) (places_at ws k)) ∙ p.good) in
      let r = both_tells (word_good limit u (word_at ws k)) (held_good (phase_in (word_at ws k)) (last_at ws k) (places_at ws k)) g.1 in
      from g.0 (record { bounded = r.0; holds = r.1 })
      (subst (λ (t : Seen). Pass ws limit u D (suc k) n t) (same_at k s r.1) p)
    where
      here : Right ws limit u k → ((i : ℕ) → suc k ≤ i → i < suc k + n → Right ws limit u i) → (i : ℕ) → k ≤ i → i < k + suc n → Right ws limit u i
      here r later i h h' = by (dec_eq k i)
        where
          by : Dec (k ≡ i) → Right ws limit u i
          by (yes q) = subst (Right ws limit u) q r
          by (no ne) = later i (omega arith) (omega arith)

      from : s.good ≡ true → Right ws limit u k → Pass ws limit u D (suc k) n (meet_places s (right_at k) (places_at ws k)) → Pass ws limit u D k (suc n) s
      from g r q =
          let a = or_first (twice_1 s k) (bit_and s.b (part_at ws k 1)) (or_first (twice_2 s k) (bit_and s.c (part_at ws k 2)) (or_first (twice_3 s k) (bit_and s.d (part_at ws k 3)) q.none_twice)) in
          let b = or_first (twice_2 s k) (bit_and s.c (part_at ws k 2)) (or_first (twice_3 s k) (bit_and s.d (part_at ws k 3)) q.none_twice) in
          let c = or_first (twice_3 s k) (bit_and s.d (part_at ws k 3)) q.none_twice in
          record {
            good = g;
            none_twice = or_first s.twice (bit_and s.a (part_at ws k 0)) a;
            each = here r q.each;
            first = column_more s.a (part_at ws k 0) (column ws 0 (suc k) n) _ (or_second s.twice (bit_and s.a (part_at ws k 0)) a) q.first;
            second = column_more s.b (part_at ws k 1) (column ws 1 (suc k) n) _ (or_second (twice_1 s k) (bit_and s.b (part_at ws k 1)) b) q.second;
            third = column_more s.c (part_at ws k 2) (column ws 2 (suc k) n) _ (or_second (twice_2 s k) (bit_and s.c (part_at ws k 2)) c) q.third;
            fourth = column_more s.d (part_at ws k 3) (column ws 3 (suc k) n) _ (or_second (twice_3 s k) (bit_and s.d (part_at ws k 3)) q.none_twice) q.fourth;
          }

  less : (k n : ℕ) (s : Seen) → Pass ws limit u D k (suc n) s → Pass ws limit u D (suc k) n (see_at k s)
  unfolding column
  less k n s p = subst (λ (t : Seen). Pass ws limit u D (suc k) n t) (sym (same_at k s r.holds)) met
    where
      r : Right ws limit u k
      r = p.each k (omega arith) (omega arith)

      a : bit_and s.a (part_at ws k 0) ≡ 0
      a = column_head s.a (part_at ws k 0) (column ws 0 (suc k) n) _ p.first

      b : bit_and s.b (part_at ws k 1) ≡ 0
      b = column_head s.b (part_at ws k 1) (column ws 1 (suc k) n) _ p.second

      c : bit_and s.c (part_at ws k 2) ≡ 0
      c = column_head s.c (part_at ws k 2) (column ws 2 (suc k) n) _ p.third

      d : bit_and s.d (part_at ws k 3) ≡ 0
      d = column_head s.d (part_at ws k 3) (column ws 3 (suc k) n) _ p.fourth

      met : Pass ws limit u D (suc k) n (meet_places s (right_at k) (places_at ws k))
      met =
          record {
            good = both_makes s.good (right_at k) p.good (both_makes _ _ r.bounded r.holds);
            none_twice =
                or_none (twice_3 s k) (bit_and s.d (part_at ws k 3))
                (or_none (twice_2 s k) (bit_and s.c (part_at ws k 2))
                (or_none (twice_1 s k) (bit_and s.b (part_at ws k 1)) (or_none s.twice (bit_and s.a (part_at ws k 0)) p.none_twice a) b)
                c)
                d;
            each = λ i h h'. p.each i (omega arith) (omega arith);
            first = column_tail s.a (part_at ws k 0) (column ws 0 (suc k) n) _ p.first;
            second = column_tail s.b (part_at ws k 1) (column ws 1 (suc k) n) _ p.second;
            third = column_tail s.c (part_at ws k 2) (column ws 2 (suc k) n) _ p.third;
            fourth = column_tail s.d (part_at ws k 3) (column ws 3 (suc k) n) _ p.fourth;
          }

  pub pass_tells : (n k : ℕ) (s : Seen) → all_met (seen_from ws limit u k n s) D ≡ true → Pass ws limit u D k n s
  unfolding seen_from
  pass_tells zero k s e = end_tells k s e
  pass_tells (suc n) k s e = more k n s (pass_tells n (suc k) (see_at k s) e)

  pub pass_makes : (n k : ℕ) (s : Seen) → Pass ws limit u D k n s → all_met (seen_from ws limit u k n s) D ≡ true
  unfolding seen_from
  pass_makes zero k s p = end_makes k s p
  pass_makes (suc n) k s p = pass_makes n (suc k) (see_at k s) (less k n s p)
