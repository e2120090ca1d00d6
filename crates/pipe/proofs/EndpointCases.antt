-- The returns of the functions that take a slot apart and put it together.
use Rattle.std.specs.Prelude.{◌≡◌, ℕ, ◌<◌, ◌≤◌}
use mathlib.Core.Path.{◌∙◌}
use borrow.Author.Tests.{eq-eqb, ne_eqb, le-ltb, lt-ltb}
use Rattle.common.specs.declared.kinds.Direction.TheVariants.{Out, In}
use Rattle.common.specs.declared.kinds.EndpointType.TheVariants.{Control, Isochronous, Bulk, Interrupt}
use Rattle.pipe.specs.declared.endpoints.Endpoint.{Endpoint}
use Rattle.pipe.specs.declared.endpoints.Endpoint.TheVariants.{Closed, Idle, Linked, Unlinking}
use Rattle.pipe.specs.declared.endpoints.Pipe.{Pipe}
use Rattle.pipe.specs.declared.endpoints.Request.{Request}
use Rattle.pipe.specs.declared.endpoints.UnlinkBoundary.{UnlinkBoundary}
use Rattle.pipe.specs.declared.endpoints.UnlinkBoundary.TheVariants.{Async, Periodic}
use Rattle.slot.specs.declared.slot.Slot.{Slot}
use Rattle.state.specs.Plain.{Ehci}
use Rattle.pipe.specs.Endpoints.{kind_of, kind_number, direction_of, pipe_of, request_of, boundary_of, decoded, endpoint_at, boundary_number, slot_with, bare_slot, encoded, flag_number}
use Rattle.state.specs.Slots.{slot_at}

pub kind_control : (n : ℕ) → n ≡ 0 → Control ≡ kind_of n
kind_control n e = rw (eq-eqb n 0 e)

pub kind_isochronous : (n : ℕ) → n ≡ 1 → Isochronous ≡ kind_of n
kind_isochronous n e = rw e

pub kind_bulk : (n : ℕ) → n ≡ 2 → Bulk ≡ kind_of n
kind_bulk n e = rw e

pub kind_interrupt : (n : ℕ) → (n ≡ 0 → ⊥) → (n ≡ 1 → ⊥) → (n ≡ 2 → ⊥) → Interrupt ≡ kind_of n
kind_interrupt n a b c = rw (ne_eqb n 0 a, ne_eqb n 1 b, ne_eqb n 2 c)

pub direction_out : (n : ℕ) → n ≡ 0 → Out ≡ direction_of n
direction_out n e = rw (eq-eqb n 0 e)

pub direction_in_lem : (n : ℕ) → (n ≡ 0 → ⊥) → In ≡ direction_of n
direction_in_lem n e = rw (ne_eqb n 0 e)

module _ (e : Slot) where
  pub boundary_periodic : e.kind ≡ 3 → Periodic e.boundary ≡ boundary_of e
  boundary_periodic h = rw (eq-eqb e.kind 3 h)

  pub boundary_async : (e.kind ≡ 3 → ⊥) → Async e.boundary ≡ boundary_of e
  boundary_async h = rw (ne_eqb e.kind 3 h)

  pub decode_idle : (p : Pipe) → e.phase ≡ 1 → p ≡ pipe_of e → Idle p ≡ decoded e
  unfolding decoded
  decode_idle p h ep = rw (ep, eq-eqb e.phase 1 h)

  pub decode_linked : (p : Pipe) (r : Request) → e.phase ≡ 2 → p ≡ pipe_of e → r ≡ request_of e → Linked p r ≡ decoded e
  unfolding decoded
  decode_linked p r h ep er = rw (ep, er, h)

  pub decode_unlinking : (p : Pipe) (r : Request) (b : UnlinkBoundary) → e.phase ≡ 3 → p ≡ pipe_of e → r ≡ request_of e
      → b ≡ boundary_of e → Unlinking p r b ≡ decoded e
  unfolding decoded
  decode_unlinking p r b h ep er eb = rw (ep, er, eb, h)

  pub decode_closed : (e.phase ≡ 1 → ⊥) → (e.phase ≡ 2 → ⊥) → (e.phase ≡ 3 → ⊥) → Closed ≡ decoded e
  unfolding decoded
  decode_closed a b c = rw (ne_eqb e.phase 1 a, ne_eqb e.phase 2 b, ne_eqb e.phase 3 c)

pub at_slot : (s : Ehci) (k : ℕ) (e : Slot) (r : Endpoint) → k < 32 → e ≡ slot_at s k → r ≡ decoded e → r ≡ endpoint_at s k
unfolding endpoint_at
at_slot s k e r h ee er = er ∙ rw (ee, lt-ltb k 32 h)

pub at_none : (s : Ehci) (k : ℕ) → 32 ≤ k → Closed ≡ endpoint_at s k
unfolding endpoint_at
at_none s k h = rw (le-ltb k 32 h)

pub encode_closed : (e : Endpoint) (r : Slot) → e ≡ Closed → r ≡ bare_slot 0 0 0 0 1 → r ≡ encoded e
encode_closed e r ee er = er ∙ rw ee

pub encode_idle : (e : Endpoint) (p : Pipe) (k g : ℕ) (r : Slot) → e ≡ Idle p → k ≡ kind_number p.kind → g ≡ flag_number p.toggle → r ≡ bare_slot 1 k p.size g p.next
    → r ≡ encoded e
encode_idle e p k g r ee ek eg er = er ∙ rw (ee, ek, eg)

pub encode_linked : (e : Endpoint) (p : Pipe) (q : Request) (r : Slot) → e ≡ Linked p q → r ≡ slot_with 2 p q 0 → r ≡ encoded e
encode_linked e p q r ee er = er ∙ rw ee

pub encode_unlinking : (e : Endpoint) (p : Pipe) (q : Request) (b : UnlinkBoundary) (n : ℕ) (r : Slot) → e ≡ Unlinking p q b
    → n ≡ boundary_number b → r ≡ slot_with 3 p q n → r ≡ encoded e
encode_unlinking e p q b n r ee en er = er ∙ rw (ee, en)
