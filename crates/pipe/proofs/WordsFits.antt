-- What an endpoint asks to fit the two words of its slot, by what it is.
use Rattle.std.specs.Prelude.{◌≡◌, ℕ, ◌^◌, ◌<◌, ◌≤◌, Bool, true, false}
use mathlib.Core.Path.{refl}
use native.Mathlib.Omega.{arith}
use Rattle.common.specs.declared.kinds.Direction.{Direction}
use Rattle.common.specs.declared.kinds.Direction.TheVariants.{Out, In}
use Rattle.common.specs.declared.kinds.EndpointType.{EndpointType}
use Rattle.common.specs.declared.kinds.EndpointType.TheVariants.{Control, Isochronous, Bulk, Interrupt}
use Rattle.slot.specs.Ids.{after_id}
use Rattle.words.specs.Record.{SlotFits}
use Rattle.words.proofs.FitLaws.{id_one}
use Rattle.pipe.specs.declared.endpoints.Endpoint.TheVariants.{Closed, Idle, Linked, Unlinking}
use Rattle.pipe.specs.declared.endpoints.Pipe.{Pipe}
use Rattle.pipe.specs.declared.endpoints.Request.{Request}
use Rattle.pipe.specs.declared.endpoints.UnlinkBoundary.{UnlinkBoundary}
use Rattle.pipe.specs.Endpoints.{boundary_number, direction_number, encoded, flag_number, kind_number, slot_with}

-- ---- the numbers

kind_below : (k : EndpointType) → kind_number k < 4
kind_below Control = omega arith
kind_below Isochronous = omega arith
kind_below Bulk = omega arith
kind_below Interrupt = omega arith

direction_below : (d : Direction) → direction_number d < 2
direction_below Out = omega arith
direction_below In = omega arith

flag_below : (b : Bool) → flag_number b < 2
flag_below true = omega arith
flag_below false = omega arith

-- ---- without a request

pub closed_fits : SlotFits (encoded Closed)
closed_fits =
    record {
      phase_fits = omega arith;
      kind_fits = omega arith;
      size_fits = omega arith;
      toggle_fits = omega arith;
      direction_fits = omega arith;
      length_fits = omega arith;
      cancel_fits = omega arith;
      boundary_fits = omega arith;
      id_least = omega arith;
      id_fits = omega arith;
      own_id = λ h. absurd (omega (arith, h));
      has_no_request = λ h. refl;
    }

pub idle_fits : (p : Pipe) → p.size < 2048 → 1 ≤ p.next → p.next < 2 ^ 64 → SlotFits (encoded (Idle p))
idle_fits p sized least most =
    record {
      phase_fits = omega arith;
      kind_fits = kind_below p.kind;
      size_fits = sized;
      toggle_fits = flag_below p.toggle;
      direction_fits = omega arith;
      length_fits = omega arith;
      cancel_fits = omega arith;
      boundary_fits = omega arith;
      id_least = least;
      id_fits = most;
      own_id = λ h. absurd (omega (arith, h));
      has_no_request = λ h. refl;
    }

-- ---- with one: the next id is the one after its own

module _ (p : Pipe) (q : Request) (sized : p.size < 2048) (own : p.next ≡ after_id q.id) (most : p.next < 2 ^ 64) (short : q.length < 0x1_0000_0000) where
  next_least : 1 ≤ p.next
  next_least = omega (arith, own, id_one q.id)

  request_fits_lem : (phase boundary : ℕ) → 2 ≤ phase → phase < 4 → boundary < 0x4000 → SlotFits (slot_with phase p q boundary)
  request_fits_lem phase boundary least below small =
      record {
        phase_fits = below;
        kind_fits = kind_below p.kind;
        size_fits = sized;
        toggle_fits = flag_below p.toggle;
        direction_fits = direction_below q.direction;
        length_fits = short;
        cancel_fits = flag_below q.cancelled;
        boundary_fits = small;
        id_least = next_least;
        id_fits = most;
        own_id = λ h. own;
        has_no_request = λ h. absurd (omega (arith, h));
      }

  pub linked_fits : SlotFits (encoded (Linked p q))
  linked_fits = request_fits_lem 2 0 (omega arith) (omega arith) (omega arith)

  pub unlinking_fits : (b : UnlinkBoundary) → boundary_number b < 0x4000 → SlotFits (encoded (Unlinking p q b))
  unlinking_fits b small = request_fits_lem 3 (boundary_number b) (omega arith) (omega arith) small
