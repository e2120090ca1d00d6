-- A state with some of its fields replaced: one definition for each set that changes together.
use Rattle.std.specs.Prelude.{ℕ, List}
use Rattle.state.specs.Plain.{Ehci}

-- bring-up: running, the step, the reads of its wait; its start also turns the interrupt flag off
unfoldable pub with_bring_up : Ehci → ℕ → ℕ → ℕ → ℕ → Ehci
with_bring_up s running step waited enabled =
    record {
      settings = s.settings;
      running = running;
      step = step;
      waited = waited;
      address = s.address;
      enabled = enabled;
      pending = s.pending;
      masked = s.masked;
      noted = s.noted;
      doorbell = s.doorbell;
      unanswered = s.unanswered;
      owner = s.owner;
      phases = s.phases;
      kinds = s.kinds;
      sizes = s.sizes;
      toggles = s.toggles;
      ids = s.ids;
      requests = s.requests;
      directions = s.directions;
      lengths = s.lengths;
      cancels = s.cancels;
      boundaries = s.boundaries;
    }

-- the address that is allotted next
unfoldable pub with_next_address : Ehci → ℕ → Ehci
with_next_address s address =
    record {
      settings = s.settings;
      running = s.running;
      step = s.step;
      waited = s.waited;
      address = address;
      enabled = s.enabled;
      pending = s.pending;
      masked = s.masked;
      noted = s.noted;
      doorbell = s.doorbell;
      unanswered = s.unanswered;
      owner = s.owner;
      phases = s.phases;
      kinds = s.kinds;
      sizes = s.sizes;
      toggles = s.toggles;
      ids = s.ids;
      requests = s.requests;
      directions = s.directions;
      lengths = s.lengths;
      cancels = s.cancels;
      boundaries = s.boundaries;
    }

-- the interrupt flag, what is pending, what is masked
unfoldable pub with_interrupt : Ehci → ℕ → ℕ → ℕ → Ehci
with_interrupt s enabled pending masked =
    record {
      settings = s.settings;
      running = s.running;
      step = s.step;
      waited = s.waited;
      address = s.address;
      enabled = enabled;
      pending = pending;
      masked = masked;
      noted = s.noted;
      doorbell = s.doorbell;
      unanswered = s.unanswered;
      owner = s.owner;
      phases = s.phases;
      kinds = s.kinds;
      sizes = s.sizes;
      toggles = s.toggles;
      ids = s.ids;
      requests = s.requests;
      directions = s.directions;
      lengths = s.lengths;
      cancels = s.cancels;
      boundaries = s.boundaries;
    }

-- the note, the doorbell, the unlinks that are unanswered
unfoldable pub with_bell : Ehci → ℕ → ℕ → ℕ → Ehci
with_bell s noted doorbell unanswered =
    record {
      settings = s.settings;
      running = s.running;
      step = s.step;
      waited = s.waited;
      address = s.address;
      enabled = s.enabled;
      pending = s.pending;
      masked = s.masked;
      noted = noted;
      doorbell = doorbell;
      unanswered = unanswered;
      owner = s.owner;
      phases = s.phases;
      kinds = s.kinds;
      sizes = s.sizes;
      toggles = s.toggles;
      ids = s.ids;
      requests = s.requests;
      directions = s.directions;
      lengths = s.lengths;
      cancels = s.cancels;
      boundaries = s.boundaries;
    }

-- the boundaries of all slots
unfoldable pub with_boundaries : Ehci → List ℕ → Ehci
with_boundaries s boundaries =
    record {
      settings = s.settings;
      running = s.running;
      step = s.step;
      waited = s.waited;
      address = s.address;
      enabled = s.enabled;
      pending = s.pending;
      masked = s.masked;
      noted = s.noted;
      doorbell = s.doorbell;
      unanswered = s.unanswered;
      owner = s.owner;
      phases = s.phases;
      kinds = s.kinds;
      sizes = s.sizes;
      toggles = s.toggles;
      ids = s.ids;
      requests = s.requests;
      directions = s.directions;
      lengths = s.lengths;
      cancels = s.cancels;
      boundaries = boundaries;
    }

-- the owner row
unfoldable pub with_owner : Ehci → List ℕ → Ehci
with_owner s owner =
    record {
      settings = s.settings;
      running = s.running;
      step = s.step;
      waited = s.waited;
      address = s.address;
      enabled = s.enabled;
      pending = s.pending;
      masked = s.masked;
      noted = s.noted;
      doorbell = s.doorbell;
      unanswered = s.unanswered;
      owner = owner;
      phases = s.phases;
      kinds = s.kinds;
      sizes = s.sizes;
      toggles = s.toggles;
      ids = s.ids;
      requests = s.requests;
      directions = s.directions;
      lengths = s.lengths;
      cancels = s.cancels;
      boundaries = s.boundaries;
    }
