-- The returns of the functions on a slot's first two words.
use Prim.Native.Nat.{ℕ, ◌+◌, ◌-◌, ◌≤◌, ◌<◌}
use mathlib.Core.Path.{◌≡◌}
use borrow.Author.Tests.{eq-eqb, ne_eqb, le-leb, lt-leb}
use Rattle.slot.specs.Ids.{after_id}
use Rattle.slot.specs.declared.slot.Slot.{Slot}
use Rattle.words.specs.Record.{boundary_in, cancel_in, direction_in, id_in, kind_in, last_of, length_in, phase_in, request_in, size_in, slot_in, toggle_in}

-- ---- `id_in`

module _ (last : ℕ) where
  pub id_wraps : last ≡ 0xFFFF_FFFF_FFFF_FFFF → 1 ≡ id_in last
  unfolding after_id
  id_wraps e = rw (eq-eqb last 0xFFFF_FFFF_FFFF_FFFF e)

  pub id_follows : (last ≡ 0xFFFF_FFFF_FFFF_FFFF → ⊥) → last + 1 ≡ id_in last
  unfolding after_id
  id_follows ne = rw (ne_eqb last 0xFFFF_FFFF_FFFF_FFFF ne)

-- ---- `request_in`

module _ (phase last : ℕ) where
  pub request_own : 2 ≤ phase → last ≡ request_in phase last
  request_own h = rw (le-leb 2 phase h)

  pub request_none : phase < 2 → 0 ≡ request_in phase last
  request_none h = rw (lt-leb 2 phase h)

-- ---- `slot_in`

pub slot_parts : (w last i q : ℕ) → i ≡ id_in last → q ≡ request_in (phase_in w) last
    → ◌≡◌ {A = Slot}
    (record {
      phase = phase_in w;
      kind = kind_in w;
      size = size_in w;
      toggle = toggle_in w;
      id = i;
      request = q;
      direction = direction_in w;
      length = length_in w;
      cancel = cancel_in w;
      boundary = boundary_in w;
    })
    (slot_in w last)
unfolding slot_in
slot_parts w last i q ei eq = rw (ei, eq)

-- ---- `last_of`

module _ (e : Slot) where
  pub last_own : 2 ≤ e.phase → e.request ≡ last_of e
  unfolding last_of
  last_own h = rw (le-leb 2 e.phase h)

  pub last_before : e.phase < 2 → e.id - 1 ≡ last_of e
  unfolding last_of
  last_before h = rw (lt-leb 2 e.phase h)
