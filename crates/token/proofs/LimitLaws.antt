-- The working limit: the largest multiple of the packet size that is not above the limit, and at least one packet where one fits.
use Prim.Native.Nat.{ℕ, ◌-◌, ◌*◌, ◌/◌, ◌%◌, ◌≤◌}
use mathlib.Core.Path.{◌≡◌, refl}
use mathlib.Core.Bool.{Bool, true, false}
use mathlib.Core.Logic.{◌≢◌}
use native.Mathlib.Nat.{div-add-mod', mod-le, mod-zero, mul-le-mul_right, div-lt_iff_lt-mul}
use native.Mathlib.Omega.{arith}
use borrow.Author.Tests.{leb-false, leb-true}
use lib.Dec.{leb}
use Rattle.common.specs.declared.kinds.EndpointType.{EndpointType}
use Rattle.common.specs.declared.kinds.EndpointType.TheVariants.{Control, Isochronous, Bulk, Interrupt}
use Rattle.token.specs.Chunks.{working_limit}

-- ---- `whole_packets`, `working_limit`

pub none_whole : (limit size : ℕ) → size ≡ 0 → 0 ≡ limit - limit % size
none_whole limit size z = rw (z, mod-zero limit) (omega arith)

pub rest_within : (limit size : ℕ) → limit % size ≤ limit
rest_within limit size = mod-le limit size

pub limit_control : (k : EndpointType) (limit size : ℕ) → k ≡ Control → limit ≡ working_limit k limit size
limit_control k limit size e = rw e

pub limit_chunks : (k : EndpointType) (limit size n : ℕ) → (k ≡ Control → ⊥) → n ≡ limit - limit % size → n ≡ working_limit k limit size
limit_chunks Control limit size n e f = absurd (e refl)
limit_chunks Isochronous limit size n e f = f
limit_chunks Bulk limit size n e f = f
limit_chunks Interrupt limit size n e f = f

-- ---- what it is

pub working_most : (k : EndpointType) (limit size : ℕ) → working_limit k limit size ≤ limit
working_most Control limit size = omega arith
working_most Isochronous limit size = omega arith
working_most Bulk limit size = omega arith
working_most Interrupt limit size = omega arith

module _ (limit size : ℕ) where
  -- as many packets as the limit has room for
  whole : limit - limit % size ≡ limit / size * size
  whole = omega (arith, div-add-mod' limit size)

  pub working_multiple : (k : EndpointType) → k ≢ Control → working_limit k limit size ≡ limit / size * size
  working_multiple Control n = absurd (n refl)
  working_multiple Isochronous n = whole
  working_multiple Bulk n = whole
  working_multiple Interrupt n = whole

  module _ (least : 1 ≤ size) where
    -- no multiple that is not above the limit is larger
    largest : (m : ℕ) → m * size ≤ limit → m * size ≤ limit / size * size
    largest m h = mul-le-mul_right size (below m h)
      where
        below : (n : ℕ) → n * size ≤ limit → n ≤ limit / size
        below n g = go (leb n (limit / size)) refl
          where
            go : (b : Bool) → leb n (limit / size) ≡ b → n ≤ limit / size
            go true t = leb-true n (limit / size) t
            go false t = absurd (omega (arith, (div-lt_iff_lt-mul least).0 (leb-false n (limit / size) t), g))

    pub working_largest : (k : EndpointType) → k ≢ Control → (m : ℕ) → m * size ≤ limit → m * size ≤ working_limit k limit size
    working_largest k n m h = rw (working_multiple k n) (largest m h)

    -- a packet fits it where one fits the limit
    pub working_fits : (k : EndpointType) → k ≢ Control → size ≤ limit → size ≤ working_limit k limit size
    working_fits k n h = omega (arith, working_largest k n 1 (omega (arith, h)))
