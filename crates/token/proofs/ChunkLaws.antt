-- The chunks of a request: how many they are, that each but the last is the limit, and that they add up to the length.
use Prim.Native.Nat.{ℕ, zero, suc, ◌+◌, ◌-◌, ◌*◌, ◌/◌, ◌^◌, ◌≤◌, ◌<◌, min}
use mathlib.Core.Path.{◌≡◌, refl, sym, ap}
use native.Mathlib.Decide.{ℕ_discrete as dec_eq}
use native.Mathlib.Nat.{add-mul-div_right, div-add-mod', le_of_lt, mod-lt, mul-le-mul_right, suc-mul}
use native.Mathlib.Numerals.{add-one}
use native.Mathlib.Omega.{arith}
use borrow.Author.Tests.{eq-eqb, ne_eqb}
use mir.Syntax.{w64}
use mir.Val.{Fits}
use Rattle.common.specs.declared.kinds.EndpointType.{EndpointType}
use Rattle.common.specs.declared.kinds.EndpointType.TheVariants.{Control, Isochronous, Bulk, Interrupt}
use Rattle.token.specs.Chunks.{bytes_below, chunk_at, chunk_count, need_of}

pub count_empty : (L C : ℕ) → L ≡ 0 → chunk_count L C ≡ 1
unfolding chunk_count
count_empty L C e = rw (eq-eqb L 0 e)

pub count_data : (L C : ℕ) → 1 ≤ C → (L ≡ 0 → ⊥) → chunk_count L C ≡ (L - 1) / C + 1
unfolding chunk_count
count_data L C h_c ne = rw (ne_eqb L 0 ne, up) (add-mul-div_right (L - 1) 1 h_c)
  where
    up : L + (C - 1) ≡ (L - 1) + 1 * C
    up = omega arith

add_one_mul : (k C : ℕ) → (k + 1) * C ≡ k * C + C
add_one_mul k C = rw add-one (suc-mul k C)

module _ (L C : ℕ) (h_c : 1 ≤ C) where
  -- length / limit, rounded up: no chunk too few, and none too many
  pub covers : L ≤ chunk_count L C * C
  covers = by (dec_eq L 0)
    where
      by : Dec (L ≡ 0) → L ≤ chunk_count L C * C
      by (yes e) = omega arith
      by (no ne) =
          omega (arith, ap (λ (x : ℕ). x * C) (count_data L C h_c ne), add_one_mul ((L - 1) / C) C, div-add-mod' (L - 1) C, mod-lt (L - 1) h_c)

  pub count_pos : 1 ≤ chunk_count L C
  count_pos = by (dec_eq L 0)
    where
      by : Dec (L ≡ 0) → 1 ≤ chunk_count L C
      by (yes e) = omega (arith, count_empty L C e)
      by (no ne) = omega (arith, count_data L C h_c ne)

  -- a chunk that has one after it starts where at least a limit is left, and a bit more
  pub before_last : (k : ℕ) → k + 1 < chunk_count L C → (k + 1) * C < L
  before_last k h = by (dec_eq L 0)
    where
      by : Dec (L ≡ 0) → (k + 1) * C < L
      by (yes e) = absurd (omega (arith, count_empty L C e))
      by (no ne) =
          let q : ℕ = (L - 1) / C in
          let below : (k + 1) * C ≤ q * C = mul-le-mul_right C (omega (arith, count_data L C h_c ne)) in
          omega (arith, div-add-mod' (L - 1) C)

  -- each but the last is the limit
  pub chunk_full : (k : ℕ) → k + 1 < chunk_count L C → chunk_at k L C ≡ C
  chunk_full k h = omega (arith, before_last k h, add_one_mul k C)

  -- the last holds a byte where there is one
  pub chunk_last : 1 ≤ L → 1 ≤ chunk_at (chunk_count L C - 1) L C
  chunk_last h =
      let ne : L ≡ 0 → ⊥ = λ e. omega arith in
      let e : chunk_count L C - 1 ≡ (L - 1) / C = omega (arith, count_data L C h_c ne) in
      rw e (omega (arith, div-add-mod' (L - 1) C))

  -- from the count on there is nothing
  pub chunk_past : (k : ℕ) → chunk_count L C ≤ k → chunk_at k L C ≡ 0
  chunk_past k h = omega (arith, covers, mul-le-mul_right C h)

pub chunk_le : (k L C : ℕ) → chunk_at k L C ≤ C
chunk_le k L C = omega arith

pub chunk_empty : (C : ℕ) → chunk_at 0 0 C ≡ 0
chunk_empty C = omega arith

-- n chunks are n limits, or all that there is
pub below_is : (n L C : ℕ) → bytes_below n L C ≡ min (n * C) L
unfolding bytes_below
below_is zero L C = omega arith
below_is (suc n) L C = omega (arith, below_is n L C, suc-mul n C)

-- the chunks of a request add up to its length
pub chunks_sum : (L C : ℕ) → 1 ≤ C → bytes_below (chunk_count L C) L C ≡ L
chunks_sum L C h_c = omega (arith, below_is (chunk_count L C) L C, covers L C h_c)

-- ---- the functions' returns

pub count_empty_case : (L C : ℕ) → L ≡ 0 → 1 ≡ chunk_count L C
count_empty_case L C e = sym (count_empty L C e)

pub count_data_case : (L C : ℕ) → 1 ≤ C → (L ≡ 0 → ⊥) → (L - 1) / C + 1 ≡ chunk_count L C
count_data_case L C h ne = sym (count_data L C h ne)

pub need_two : (k : EndpointType) (L C : ℕ) → k ≡ Control → L ≡ 0 → 2 ≡ need_of k L C
unfolding need_of
need_two k L C e z = rw (e, eq-eqb L 0 z)

pub need_three : (k : EndpointType) (L C : ℕ) → k ≡ Control → (L ≡ 0 → ⊥) → 3 ≡ need_of k L C
unfolding need_of
need_three k L C e z = rw (e, ne_eqb L 0 z)

pub need_chunks : (k : EndpointType) (L C n : ℕ) → (k ≡ Control → ⊥) → n ≡ chunk_count L C → n ≡ need_of k L C
unfolding need_of
need_chunks Control L C n e f = absurd (e refl)
need_chunks Isochronous L C n e f = f
need_chunks Bulk L C n e f = f
need_chunks Interrupt L C n e f = f

pub start_fits : (k C : ℕ) → k < 2 ^ 32 → C < 2 ^ 32 → Fits w64 (k * C)
start_fits k C h h' = omega (arith, mul-le-mul_right C (le_of_lt h), h')
