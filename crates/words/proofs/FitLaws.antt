-- When a slot fits its two words: a good slot whose next id is the one after its request does.
use Prim.Native.Nat.{ℕ, ◌^◌, ◌≤◌, ◌<◌}
use mathlib.Core.Path.{◌≡◌}
use mathlib.Core.Bool.{true}
use native.Mathlib.Decide.{ℕ_discrete as dec_eq}
use native.Mathlib.Omega.{arith}
use Rattle.slot.specs.Ranges.{slot_good}
use Rattle.slot.specs.declared.slot.Slot.{Slot}
use Rattle.slot.proofs.SlotLaws.{Bounded, Phase, closed, idle, linked, slot_tells, unlinking}
use Rattle.words.specs.Record.{id_in}
use Rattle.words.proofs.RecordCases.{id_follows, id_wraps}

-- ---- ids

pub id_one : (last : ℕ) → 1 ≤ id_in last
id_one last = by (dec_eq last 0xFFFF_FFFF_FFFF_FFFF)
  where
    by : Dec (last ≡ 0xFFFF_FFFF_FFFF_FFFF) → 1 ≤ id_in last
    by (yes q) = omega (arith, id_wraps last q)
    by (no ne) = omega (arith, id_follows last ne)

pub id_below : (last : ℕ) → last < 2 ^ 64 → id_in last < 2 ^ 64
id_below last h = by (dec_eq last 0xFFFF_FFFF_FFFF_FFFF)
  where
    by : Dec (last ≡ 0xFFFF_FFFF_FFFF_FFFF) → id_in last < 2 ^ 64
    by (yes q) = omega (arith, id_wraps last q)
    by (no ne) = omega (arith, id_follows last ne, ne)

-- ---- the parts of a good slot

boundary_most : (kind boundary u : ℕ) → u ≤ 32 → Bounded kind boundary u → boundary < 16384
boundary_most kind boundary u h b = by (dec_eq kind 3)
  where
    by : Dec (kind ≡ 3) → boundary < 16384
    by (yes q) = b.frame q
    by (no ne) = omega (arith, b.advances ne)

pub record Small (e : Slot) : Type 0 where
  pub phase_small : e.phase < 4
  pub kind_small : e.kind < 4
  pub direction_small : e.direction < 2
  pub cancel_small : e.cancel < 2
  pub boundary_small : e.boundary < 16384
  pub request_small : e.phase < 2 → e.request ≡ 0

pub phase_small : (e : Slot) (u : ℕ) → u ≤ 32 → Phase e u → Small e
phase_small e u h (closed p k i n) =
    record {
      phase_small = omega arith;
      kind_small = omega arith;
      direction_small = omega (arith, n.direction_none);
      cancel_small = omega (arith, n.cancel_none);
      boundary_small = omega (arith, n.boundary_none);
      request_small = λ l. n.request_none;
    }
phase_small e u h (idle p o n) =
    record {
      phase_small = omega arith;
      kind_small = omega (arith, o.most);
      direction_small = omega (arith, n.direction_none);
      cancel_small = omega (arith, n.cancel_none);
      boundary_small = omega (arith, n.boundary_none);
      request_small = λ l. n.request_none;
    }
phase_small e u h (linked p o r d c b) =
    record {
      phase_small = omega arith;
      kind_small = omega (arith, o.most);
      direction_small = omega arith;
      cancel_small = omega arith;
      boundary_small = omega arith;
      request_small = λ l. absurd (omega (arith, l));
    }
phase_small e u h (unlinking p o r d c b) =
    record {
      phase_small = omega arith;
      kind_small = omega (arith, o.most);
      direction_small = omega arith;
      cancel_small = omega arith;
      boundary_small = boundary_most e.kind e.boundary u h b;
      request_small = λ l. absurd (omega (arith, l));
    }

-- ---- a slot that fits

module _ (E limit k u : ℕ) (e : Slot) (most : u ≤ 32) (right : slot_good E limit k u e ≡ true) where
  pub right_small : Small e
  right_small = phase_small e u most (slot_tells E limit k u e right).by_phase

-- ---- the slot of two words
