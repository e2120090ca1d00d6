-- The number of a refusal is that of no result.
use Rattle.std.specs.Prelude.{Err}
use mathlib.Core.Bool.{false}
use mathlib.Core.Path.{◌≡◌}
use Rattle.common.specs.declared.answer.Refusal.{Refusal}
use Rattle.common.specs.declared.answer.Refusal.TheVariants.{InvalidParameter, SlotLimitReached, InvalidEndpoint, QueueFull, NotSupported, NoMemory, Timeout, NotReady}
use Rattle.common.specs.Answers.{refusal_number}
use Rattle.promises.specs.Events.{is_collected, is_done}
use Prim.Native.Nat.{◌≤◌}
use native.Mathlib.Omega.{arith}
use borrow.Author.Tests.{ne_eqb}

pub refusal_within : (r : Refusal) → (1 ≤ refusal_number r) × (refusal_number r ≤ 8)
refusal_within InvalidParameter = (omega arith, omega arith)
refusal_within SlotLimitReached = (omega arith, omega arith)
refusal_within InvalidEndpoint = (omega arith, omega arith)
refusal_within QueueFull = (omega arith, omega arith)
refusal_within NotSupported = (omega arith, omega arith)
refusal_within NoMemory = (omega arith, omega arith)
refusal_within Timeout = (omega arith, omega arith)
refusal_within NotReady = (omega arith, omega arith)

pub refusal_some : (r : Refusal) → refusal_number r ≡ 0 → ⊥
refusal_some r e = omega (arith, (refusal_within r).0, e)

pub undone : (r : Refusal) → is_done (Err r) ≡ false
undone r = ne_eqb (refusal_number r) 0 (refusal_some r)

pub uncollected : (r : Refusal) → is_collected (Err r) ≡ false
uncollected r =
    let most = (refusal_within r).1 in
    rw (undone r, ne_eqb (refusal_number r) 10 (λ e. omega (arith, most, e)), ne_eqb (refusal_number r) 11 (λ e. omega (arith, most, e)))
