-- Which records a collect looks at: those of the slot's request, in the order of their places, and whether it stops at a short one.
use Rattle.std.specs.Prelude.{ℕ, ◌+◌, Bool, true, false, [], ◌∷◌, take, ◌==◌, nat_le, nat_lt}
use Rattle.pool.specs.Chains.{no_ask}
use Rattle.pool.specs.Places.{packed, places_from}
use Rattle.pool.specs.Plain.{Ask}
use Rattle.pool.specs.Transfers.{ends_short}
use Rattle.common.specs.Tests.{every}
use Rattle.settings.specs.declared.settings.Settings.{Settings}
use Rattle.settings.specs.Settings.{pool_length}
use Rattle.state.specs.Plain.{Ehci}
use Rattle.pipe.specs.Endpoints.{endpoint_at, limit_of}
use Rattle.pipe.specs.declared.endpoints.Endpoint.{Endpoint}
use Rattle.pipe.specs.declared.endpoints.Endpoint.TheVariants.{Closed, Idle, Linked, Unlinking}
use Rattle.pipe.specs.declared.endpoints.Pipe.{Pipe}
use Rattle.pipe.specs.declared.endpoints.Request.{Request}

-- what a state in its ranges, a pool that fits and the number of a slot have
unfoldable pub askable : Settings → ℕ → ℕ → Bool
askable s pool slot =
    every (nat_le s.descriptors 256 ∷ (pool_length s == pool) ∷ nat_le s.limit 16384 ∷ nat_lt slot 32 ∷ [])

-- the places that the slot owns, among the pool's
unfoldable pub request_ask : Ehci → ℕ → Pipe → Request → Ask
request_ask s slot p r =
    record {
      places = packed (places_from 0 (take s.settings.descriptors s.owner) (slot + 1) 256);
      kind = p.kind;
      length = r.length;
      limit = limit_of s.settings p;
      stops = ends_short p.kind r.direction;
    }

abbrev pub ask_at : Endpoint → Ehci → ℕ → Ask
ask_at Closed s slot = no_ask
ask_at (Idle p) s slot = no_ask
ask_at (Linked p r) s slot = request_ask s slot p r
ask_at (Unlinking p r b) s slot = request_ask s slot p r

abbrev pub ask_if : Bool → Ask → Ask
ask_if true a = a
ask_if false a = no_ask

unfoldable pub ask_of : Ehci → ℕ → ℕ → Ask
ask_of s pool slot = ask_if (askable s.settings pool slot) (ask_at (endpoint_at s slot) s slot)
