-- The judge's two words say of every place how many words have it, and the other way round.
use Prim.Native.Nat.{ℕ, suc, ◌+◌, ◌^◌, ◌≤◌, ◌<◌, min}
use mathlib.Core.Path.{◌≡◌, refl, sym, ap, ◌∙◌}
use mathlib.Core.Bool.{Bool, true, false}
use mathlib.Core.List.{List, [], ◌∷◌, ◌++◌}
use native.Mathlib.Omega.{arith}
use borrow.Author.Tests.{eqb-true, eqb-false}
use lib.Bits.{bit_and, bit_or, or_lt, and_le_l}
use lib.Dec.{eqb, lit<}
use Rattle.bitset.specs.Words.{pick, bit, Fitting}
use Rattle.bitset.specs.Judge.{met_in, twice_in, sum_bit, owner_in}
use Rattle.bitset.proofs.BitLaws.{bit_le, zero_bit, and_bit, or_bit, same_word, or_first, or_second, or_none}

-- nothing in common: the bits add
apart_bit : (a b i : ℕ) → bit_and a b ≡ 0 → bit (bit_or a b) i ≡ bit a i + bit b i
apart_bit a b i e =
    let z : min (bit a i) (bit b i) ≡ 0 = sym (and_bit a b i) ∙ ap (λ (w : ℕ). bit w i) e ∙ zero_bit i in
    or_bit a b i ∙ omega (arith, z)

-- ---- from the two words to the sums

-- where no place is met twice, each place is met by as many words as have it
pub met_sum : (a : ℕ) (ws : List ℕ) (i : ℕ) → twice_in a ws ≡ 0 → bit (met_in a ws) i ≡ bit a i + sum_bit i ws
unfolding met_in twice_in sum_bit
met_sum a [] i e = omega arith
met_sum a (w ∷ ws) i e =
    omega (
      arith,
      met_sum (bit_or a w) ws i (or_second (bit_and a w) (twice_in (bit_or a w) ws) e),
      apart_bit a w i (or_first (bit_and a w) (twice_in (bit_or a w) ws) e),
    )

-- ---- from the sums to the two words

-- no bit of both: nothing in common
apart : (a b : ℕ) → a < 2 ^ 64 → ((i : ℕ) → i < 64 → bit a i + bit b i ≤ 1) → bit_and a b ≡ 0
apart a b h s = same_word 64 (bit_and a b) 0 (omega (arith, and_le_l a b)) (lit< tt) each
  where
    each : (i : ℕ) → i < 64 → bit (bit_and a b) i ≡ bit 0 i
    each i hi = and_bit a b i ∙ omega (arith, s i hi, zero_bit i)

pub sum_met : (a all : ℕ) (ws : List ℕ) → a < 2 ^ 64 → all < 2 ^ 64 → Fitting ws
    → ((i : ℕ) → i < 64 → bit a i + sum_bit i ws ≡ bit all i) → (twice_in a ws ≡ 0) × (met_in a ws ≡ all)
unfolding met_in twice_in sum_bit
sum_met a all [] ha hall f s = (refl, same_word 64 a all ha hall (λ i hi. omega (arith, s i hi)))
sum_met a all (w ∷ ws) ha hall f s =
    let none : bit_and a w ≡ 0 = apart a w ha (λ i hi. omega (arith, s i hi, bit_le all i)) in
    let rest : (twice_in (bit_or a w) ws ≡ 0) × (met_in (bit_or a w) ws ≡ all)
    = sum_met (bit_or a w) all ws (or_lt 64 a w ha f.0) hall f.1 (λ i hi. omega (arith, s i hi, apart_bit a w i none)) in
    (or_none (bit_and a w) (twice_in (bit_or a w) ws) none rest.0, rest.1)

-- what is judged, and the sums of every place
pub judged_sum : (a all : ℕ) (ws : List ℕ) → twice_in a ws ≡ 0 → met_in a ws ≡ all → (i : ℕ) → bit a i + sum_bit i ws ≡ bit all i
judged_sum a all ws t m i = sym (met_sum a ws i t) ∙ ap (λ (w : ℕ). bit w i) m

-- ---- one word more at the end, as a loop meets it

pub met_snoc : (a : ℕ) (ws : List ℕ) (w : ℕ) → met_in a (ws ++ (w ∷ [])) ≡ bit_or (met_in a ws) w
unfolding met_in
met_snoc a [] w = refl
met_snoc a (v ∷ ws) w = met_snoc (bit_or a v) ws w

-- nothing is met twice with one word more exactly where nothing was and this word has none of those met
pub twice_snoc : (a : ℕ) (ws : List ℕ) (w : ℕ) → twice_in a ws ≡ 0 → bit_and (met_in a ws) w ≡ 0 → twice_in a (ws ++ (w ∷ [])) ≡ 0
unfolding twice_in met_in
twice_snoc a [] w t e = or_none (bit_and a w) 0 e refl
twice_snoc a (v ∷ ws) w t e =
    or_none (bit_and a v) (twice_in (bit_or a v) (ws ++ (w ∷ []))) (or_first (bit_and a v) (twice_in (bit_or a v) ws) t)
    (twice_snoc (bit_or a v) ws w (or_second (bit_and a v) (twice_in (bit_or a v) ws) t) e)

pub twice_before : (a : ℕ) (ws : List ℕ) (w : ℕ) → twice_in a (ws ++ (w ∷ [])) ≡ 0 → (twice_in a ws ≡ 0) × (bit_and (met_in a ws) w ≡ 0)
unfolding twice_in met_in
twice_before a [] w t = (refl, or_first (bit_and a w) 0 t)
twice_before a (v ∷ ws) w t =
    let rest : (twice_in (bit_or a v) ws ≡ 0) × (bit_and (met_in (bit_or a v) ws) w ≡ 0)
    = twice_before (bit_or a v) ws w (or_second (bit_and a v) (twice_in (bit_or a v) (ws ++ (w ∷ []))) t) in
    (or_none (bit_and a v) (twice_in (bit_or a v) ws) (or_first (bit_and a v) (twice_in (bit_or a v) (ws ++ (w ∷ []))) t) rest.0, rest.1)

-- ---- owners

-- a place that no word has is no slot's, and one that some word has is some slot's
pub owner_none : (i k : ℕ) (ws : List ℕ) → sum_bit i ws ≡ 0 → owner_in i k ws ≡ 0
unfolding sum_bit owner_in
owner_none i k [] e = refl
owner_none i k (w ∷ ws) e = go (eqb (bit w i) 1) refl (owner_none i (suc k) ws (omega arith))
  where
    go : (b : Bool) → eqb (bit w i) 1 ≡ b → owner_in i (suc k) ws ≡ 0 → pick b (suc k) (owner_in i (suc k) ws) ≡ 0
    go true q rest = absurd (omega (arith, e, eqb-true (bit w i) 1 q))
    go false q rest = rest

pub owner_some : (i k : ℕ) (ws : List ℕ) → 1 ≤ sum_bit i ws → 1 ≤ owner_in i k ws
unfolding sum_bit owner_in
owner_some i k [] e = absurd (omega arith)
owner_some i k (w ∷ ws) e = go (eqb (bit w i) 1) refl (owner_some i (suc k) ws)
  where
    go : (b : Bool) → eqb (bit w i) 1 ≡ b → (1 ≤ sum_bit i ws → 1 ≤ owner_in i (suc k) ws) → 1 ≤ pick b (suc k) (owner_in i (suc k) ws)
    go true q rest = omega arith
    go false q rest = rest (omega (arith, e, bit_le w i, eqb-false (bit w i) 1 q))

-- what is judged: the sums are those of all places; then a place is free exactly where it has no owner
pub free_complement : (a all : ℕ) (ws : List ℕ) (i : ℕ) → twice_in a ws ≡ 0 → met_in a ws ≡ all → bit all i ≡ 1
    → (bit a i ≡ 1 → owner_in i 0 ws ≡ 0) × (bit a i ≡ 0 → 1 ≤ owner_in i 0 ws)
free_complement a all ws i t m h =
    let s : bit all i ≡ bit a i + sum_bit i ws = sym (ap (λ (w : ℕ). bit w i) m) ∙ met_sum a ws i t in
    ((λ f. owner_none i 0 ws (omega (arith, s, f))), (λ f. owner_some i 0 ws (omega (arith, s, f))))
