-- A rest with some of its fields replaced: one definition for each set that changes together.
use Rattle.std.specs.Prelude.{ℕ, List}
use Rattle.words.specs.declared.cores.Rest.{Rest}

-- bring-up: running, the step, the reads of its wait; its start also turns the interrupt flag off
abbrev pub rest_with_bring_up : Rest → ℕ → ℕ → ℕ → ℕ → Rest
rest_with_bring_up r running step waited enabled =
    record {
      running = running;
      step = step;
      address = r.address;
      enabled = enabled;
      noted = r.noted;
      doorbell = r.doorbell;
      unanswered = r.unanswered;
      pending = r.pending;
      masked = r.masked;
      waited = waited;
      free = r.free;
    }

-- the address that is allotted next
abbrev pub rest_with_next_address : Rest → ℕ → Rest
rest_with_next_address r address =
    record {
      running = r.running;
      step = r.step;
      address = address;
      enabled = r.enabled;
      noted = r.noted;
      doorbell = r.doorbell;
      unanswered = r.unanswered;
      pending = r.pending;
      masked = r.masked;
      waited = r.waited;
      free = r.free;
    }

-- the interrupt flag, what is pending, what is masked
abbrev pub rest_with_interrupt : Rest → ℕ → ℕ → ℕ → Rest
rest_with_interrupt r enabled pending masked =
    record {
      running = r.running;
      step = r.step;
      address = r.address;
      enabled = enabled;
      noted = r.noted;
      doorbell = r.doorbell;
      unanswered = r.unanswered;
      pending = pending;
      masked = masked;
      waited = r.waited;
      free = r.free;
    }

-- the note, the doorbell, the unlinks that are unanswered
abbrev pub rest_with_bell : Rest → ℕ → ℕ → ℕ → Rest
rest_with_bell r noted doorbell unanswered =
    record {
      running = r.running;
      step = r.step;
      address = r.address;
      enabled = r.enabled;
      noted = noted;
      doorbell = doorbell;
      unanswered = unanswered;
      pending = r.pending;
      masked = r.masked;
      waited = r.waited;
      free = r.free;
    }

-- the free places, which the state does not have: they are those that no slot has
abbrev pub rest_with_free : Rest → List ℕ → Rest
rest_with_free r free =
    record {
      running = r.running;
      step = r.step;
      address = r.address;
      enabled = r.enabled;
      noted = r.noted;
      doorbell = r.doorbell;
      unanswered = r.unanswered;
      pending = r.pending;
      masked = r.masked;
      waited = r.waited;
      free = free;
    }
