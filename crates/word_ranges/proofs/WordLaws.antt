-- The range rule of a slot's first word in plain facts, both ways: what it is, by its phase, and the packet size of an open slot.
use Rattle.std.specs.Prelude.{◌≡◌, ℕ, ◌+◌, ◌*◌, ◌%◌, ◌^◌, ◌<◌, ◌≤◌, true, leb, ◌≢◌}
use native.Mathlib.Decide.{ℕ_discrete as dec_eq}
use native.Mathlib.Omega.{arith}
use borrow.Author.Tests.{eq-eqb, le-leb, leb-true, ne_eqb}
use Rattle.common.proofs.TestLaws.{both_makes, both_tells}
use Rattle.slot.proofs.SlotLaws.{SizeGood, size_makes, size_tells}
use Rattle.words.specs.Record.{kind_in, phase_in, size_in}
use Rattle.word_ranges.specs.Bounds.{bound_at, bounds_of, size_right, word_good}

-- ---- a number of two bits

pub data Four (n : ℕ) : Type 0 where
  is_0 : n ≡ 0 → Four n
  is_1 : n ≡ 1 → Four n
  is_2 : n ≡ 2 → Four n
  is_3 : n ≡ 3 → Four n

pub four : (n : ℕ) → n < 4 → Four n
four n h = by (dec_eq n 0) (dec_eq n 1) (dec_eq n 2)
  where
    by : Dec (n ≡ 0) → Dec (n ≡ 1) → Dec (n ≡ 2) → Four n
    by (yes q) b c = is_0 q
    by (no a) (yes q) c = is_1 q
    by (no a) (no b) (yes q) = is_2 q
    by (no a) (no b) (no c) = is_3 (omega arith)

-- ---- the facts

-- closed: nothing; idle: a kind, a packet size and a toggle; linked: direction and length besides; unlinking: whether cancelled, and the boundary
pub data Word (u w : ℕ) : Type 0 where
  closed_word : w ≡ 0 → Word u w
  idle_word : phase_in w ≡ 1 → kind_in w ≢ 1 → w < 2 ^ 16 → Word u w
  linked_word : phase_in w ≡ 2 → kind_in w ≢ 1 → w < 2 ^ 49 → Word u w
  advances_word : phase_in w ≡ 3 → kind_in w ≢ 1 → kind_in w ≢ 3 → w < 2 ^ 50 * (u + 1) → Word u w
  frame_word : phase_in w ≡ 3 → kind_in w ≡ 3 → w < 2 ^ 64 → Word u w

-- a slot that is open has a packet size
abbrev pub Sized : ℕ → ℕ → Type 0
Sized limit w = phase_in w ≢ 0 → SizeGood limit (kind_in w) (size_in w)

module _ (limit u w : ℕ) where
  module _ (e : word_good limit u w ≡ true) where
    tests : (leb w (bound_at u (w % 16)) ≡ true) × (size_right limit w ≡ true)
    unfolding word_good
    tests = both_tells (leb w (bound_at u (w % 16))) (size_right limit w) e

    at : (n : ℕ) → w % 16 ≡ n → w ≤ bound_at u n
    at n q = rw q at (leb-true w (bound_at u (w % 16)) tests.0)

    tells : Four (phase_in w) → Four (kind_in w) → Word u w
    unfolding bounds_of
    tells (is_0 p) (is_0 k) = let h : w ≤ 0 = at 0 (omega arith) in closed_word (omega arith)
    tells (is_0 p) (is_1 k) = let h : w ≤ 0 = at 4 (omega arith) in absurd (omega arith)
    tells (is_0 p) (is_2 k) = let h : w ≤ 0 = at 8 (omega arith) in absurd (omega arith)
    tells (is_0 p) (is_3 k) = let h : w ≤ 0 = at 12 (omega arith) in absurd (omega arith)
    tells (is_1 p) (is_0 k) = idle_word p (λ z. omega arith) (omega (arith, at 1 (omega arith)))
    tells (is_1 p) (is_1 k) = let h : w ≤ 0 = at 5 (omega arith) in absurd (omega arith)
    tells (is_1 p) (is_2 k) = idle_word p (λ z. omega arith) (omega (arith, at 9 (omega arith)))
    tells (is_1 p) (is_3 k) = idle_word p (λ z. omega arith) (omega (arith, at 13 (omega arith)))
    tells (is_2 p) (is_0 k) = linked_word p (λ z. omega arith) (omega (arith, at 2 (omega arith)))
    tells (is_2 p) (is_1 k) = let h : w ≤ 0 = at 6 (omega arith) in absurd (omega arith)
    tells (is_2 p) (is_2 k) = linked_word p (λ z. omega arith) (omega (arith, at 10 (omega arith)))
    tells (is_2 p) (is_3 k) = linked_word p (λ z. omega arith) (omega (arith, at 14 (omega arith)))
    tells (is_3 p) (is_0 k) = advances_word p (λ z. omega arith) (λ z. omega arith) (omega (arith, at 3 (omega arith)))
    tells (is_3 p) (is_1 k) = let h : w ≤ 0 = at 7 (omega arith) in absurd (omega arith)
    tells (is_3 p) (is_2 k) = advances_word p (λ z. omega arith) (λ z. omega arith) (omega (arith, at 11 (omega arith)))
    tells (is_3 p) (is_3 k) = frame_word p k (omega (arith, at 15 (omega arith)))

    pub word_tells : Word u w
    word_tells = tells (four (phase_in w) (omega arith)) (four (kind_in w) (omega arith))

    pub word_sized : Sized limit w
    unfolding size_right
    word_sized n = size_tells limit (kind_in w) (size_in w) (rw (ne_eqb (phase_in w) 0 n) at tests.1)

  below : (n : ℕ) → w % 16 ≡ n → w ≤ bound_at u n → leb w (bound_at u (w % 16)) ≡ true
  below n q h = rw q (le-leb w (bound_at u n) h)

  makes : Word u w → Four (kind_in w) → leb w (bound_at u (w % 16)) ≡ true
  unfolding bounds_of
  makes (closed_word z) k = below 0 (omega arith) (omega arith)
  makes (idle_word p n h) (is_0 k) = below 1 (omega arith) (omega (arith, h))
  makes (idle_word p n h) (is_1 k) = absurd (n k)
  makes (idle_word p n h) (is_2 k) = below 9 (omega arith) (omega (arith, h))
  makes (idle_word p n h) (is_3 k) = below 13 (omega arith) (omega (arith, h))
  makes (linked_word p n h) (is_0 k) = below 2 (omega arith) (omega (arith, h))
  makes (linked_word p n h) (is_1 k) = absurd (n k)
  makes (linked_word p n h) (is_2 k) = below 10 (omega arith) (omega (arith, h))
  makes (linked_word p n h) (is_3 k) = below 14 (omega arith) (omega (arith, h))
  makes (advances_word p n m h) (is_0 k) = below 3 (omega arith) (omega (arith, h))
  makes (advances_word p n m h) (is_1 k) = absurd (n k)
  makes (advances_word p n m h) (is_2 k) = below 11 (omega arith) (omega (arith, h))
  makes (advances_word p n m h) (is_3 k) = absurd (m k)
  makes (frame_word p k h) j = below 15 (omega arith) (omega (arith, h))

  size_right_lem : Sized limit w → size_right limit w ≡ true
  unfolding size_right
  size_right_lem z = by (dec_eq (phase_in w) 0)
    where
      by : Dec (phase_in w ≡ 0) → size_right limit w ≡ true
      by (yes p) = rw (eq-eqb (phase_in w) 0 p)
      by (no n) = rw (ne_eqb (phase_in w) 0 n) (size_makes limit (kind_in w) (size_in w) (z n))

  pub word_makes : Word u w → Sized limit w → word_good limit u w ≡ true
  unfolding word_good
  word_makes x z = both_makes (leb w (bound_at u (w % 16))) (size_right limit w) (makes x (four (kind_in w) (omega arith))) (size_right_lem z)
