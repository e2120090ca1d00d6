-- A controller with two slots, on which the definitions are run.
use Rattle.std.specs.Prelude.{ℕ, true, List, ◌∷◌, ◌++◌, replicate}
use Rattle.settings.specs.declared.settings.Settings.{Settings}
use Rattle.common.specs.declared.kinds.EndpointType.TheVariants.{Bulk}
use Rattle.state.specs.Plain.{Ehci}
use Rattle.pipe.specs.Endpoints.{with_endpoint}
use Rattle.pipe.specs.declared.endpoints.Endpoint.TheVariants.{Idle}

-- by the limit C
abbrev pub two_at : ℕ → Settings
two_at limit =
    record {
      descriptors = 16;
      endpoints = 2;
      ports = 1;
      limit = limit;
      wait = 1;
      pool = 0x100000;
      heads = 0x200000;
      frames = 0x300000;
      setups = 0x400000;
    }

abbrev pub two_slots : Settings
two_slots = two_at 16384

-- the limit, the two slots' phases, kinds and packet sizes, and slot 0's request
unfoldable pub two_with : ℕ → ℕ → ℕ → ℕ → ℕ → ℕ → ℕ → ℕ → Ehci
two_with limit phase₀ phase₁ kind₀ kind₁ size₀ size₁ request =
    record {
      settings = two_at limit;
      running = 0;
      step = 0;
      waited = 0;
      address = 1;
      enabled = 0;
      pending = 0;
      masked = 0;
      noted = 0;
      doorbell = 0;
      unanswered = 0;
      owner = replicate 256 0;
      phases = phase₀ ∷ phase₁ ∷ replicate 30 0;
      kinds = kind₀ ∷ kind₁ ∷ replicate 30 0;
      sizes = size₀ ∷ size₁ ∷ replicate 30 0;
      toggles = replicate 32 0;
      ids = replicate 32 1;
      requests = request ∷ replicate 31 0;
      directions = replicate 32 0;
      lengths = replicate 32 0;
      cancels = replicate 32 0;
      boundaries = replicate 32 0;
    }

-- both closed; slot 0 open for bulk; slot 1 for interrupt as well; slot 0 with a linked request
abbrev pub none_open : Ehci
none_open = two_with 16384 0 0 0 0 0 0 0

abbrev pub one_open : Ehci
one_open = two_with 16384 1 0 2 0 512 0 0

abbrev pub both_open : Ehci
both_open = two_with 16384 1 1 2 3 512 1024 0

abbrev pub one_busy : Ehci
one_busy = two_with 16384 2 0 2 0 512 0 1

-- slot 0 open for bulk, after an odd number of packets
abbrev pub one_odd : Ehci
one_odd = with_endpoint one_open 0 (Idle (record { kind = Bulk; size = 512; toggle = true; next = 1 }))

-- both closed, by the limit
abbrev pub closed_at : ℕ → Ehci
closed_at limit = two_with limit 0 0 0 0 0 0 0

-- at C 7: slot 0 open for bulk of 7, slot 1 for control of 64; slot 0 with a linked request
abbrev pub tight_open : Ehci
tight_open = two_with 7 1 1 2 0 7 64 0

abbrev pub tight_busy : Ehci
tight_busy = two_with 7 2 1 2 0 7 64 1

abbrev pub opened : ℕ → ℕ → List ℕ
opened characteristics capabilities = 1 ∷ characteristics ∷ capabilities ∷ 0 ∷ 1 ∷ 1 ∷ replicate 11 0

-- the heads: the ring head's words are left 0 here
abbrev pub heads_of : List ℕ → List ℕ → List ℕ
heads_of slot₀ slot₁ = replicate 17 0 ++ (slot₀ ++ slot₁)

abbrev pub blank : List ℕ
blank = replicate 17 0

-- device 5, endpoint 1, bulk 512
abbrev pub bulk_head : List ℕ
bulk_head = opened 0xF2002105 0x40000000

-- device 127, endpoint 15, interrupt 1024
abbrev pub interrupt_head : List ℕ
interrupt_head = opened 0xF4002F7F 0x40000001

-- device 5, endpoint 1, bulk 7
abbrev pub tight_head : List ℕ
tight_head = opened 0xF0072105 0x40000000
