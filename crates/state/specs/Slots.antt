-- One slot of the state, read from and written to the arrays.
use Rattle.std.specs.Prelude.{ℕ, get_or, set}
use Rattle.slot.specs.declared.slot.Slot.{Slot}
use Rattle.state.specs.Plain.{Ehci}

unfoldable pub slot_at : Ehci → ℕ → Slot
slot_at s k =
    record {
      phase = get_or s.phases k 0;
      kind = get_or s.kinds k 0;
      size = get_or s.sizes k 0;
      toggle = get_or s.toggles k 0;
      id = get_or s.ids k 0;
      request = get_or s.requests k 0;
      direction = get_or s.directions k 0;
      length = get_or s.lengths k 0;
      cancel = get_or s.cancels k 0;
      boundary = get_or s.boundaries k 0;
    }

unfoldable pub with_slot : Ehci → ℕ → Slot → Ehci
with_slot s k e =
    record {
      settings = s.settings;
      running = s.running;
      step = s.step;
      waited = s.waited;
      address = s.address;
      enabled = s.enabled;
      pending = s.pending;
      masked = s.masked;
      noted = s.noted;
      doorbell = s.doorbell;
      unanswered = s.unanswered;
      owner = s.owner;
      phases = set s.phases k e.phase;
      kinds = set s.kinds k e.kind;
      sizes = set s.sizes k e.size;
      toggles = set s.toggles k e.toggle;
      ids = set s.ids k e.id;
      requests = set s.requests k e.request;
      directions = set s.directions k e.direction;
      lengths = set s.lengths k e.length;
      cancels = set s.cancels k e.cancel;
      boundaries = set s.boundaries k e.boundary;
    }
