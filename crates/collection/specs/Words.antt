-- What cancel and collect over words leave, as the state that the words stand for.
use Rattle.std.specs.Prelude.{◌≡◌, ℕ, List, Err, Ok, ⊤}
use Rattle.register.specs.Writes.{no_writes}
use Rattle.bitset.specs.Places.{set_places}
use Rattle.common.specs.declared.answer.Refusal.{Refusal}
use Rattle.settings.specs.declared.settings.Settings.{Settings}
use Rattle.state.specs.Plain.{Ehci}
use Rattle.pool.specs.Places.{packed}
use Rattle.pool.specs.declared.asked.AskWords.{AskWords}
use Rattle.pool.specs.Plain.{Ask}
use Rattle.pool.specs.Transfers.{ends_short}
use Rattle.pipe.specs.Endpoints.{endpoint_at, limit_of}
use Rattle.pipe.specs.declared.endpoints.Endpoint.TheVariants.{Linked}
use Rattle.pipe.specs.declared.endpoints.Pipe.{Pipe}
use Rattle.pipe.specs.declared.endpoints.Request.{Request}
use Rattle.words.specs.declared.cores.Rest.{Rest}
use Rattle.words.specs.Record.{places_at}
use Rattle.words.specs.View.{state_of}
use Rattle.collection.specs.Plain.{Cancellation}
use Rattle.collection.specs.declared.collected.Collected.TheVariants.{Pending}
use Rattle.collection.specs.Plain.{Collection}
use Rattle.controller.specs.declared.left.Settled.{Settled as SettledWords}
use Rattle.collection.specs.declared.collected.Collected.{Collected}

abbrev pub cancelled_view : Settings → SettledWords ⊤ → List ℕ → Cancellation
cancelled_view s r ws = record { answer = r.answer; state = state_of s r.rest ws; writes = r.writes }

abbrev pub collected_view : Settings → SettledWords Collected → List ℕ → Collection
collected_view s r ws = record { answer = r.answer; state = state_of s r.rest ws; writes = r.writes }

abbrev pub ask_view : AskWords → Ask
ask_view a =
    record { places = packed (set_places a.places); kind = a.kind; length = a.length; limit = a.limit; stops = a.stops }

-- what is asked of a slot's own request
unfoldable pub request_ask_words : Settings → List ℕ → ℕ → Pipe → Request → AskWords
request_ask_words s ws slot p r =
    record {
      places = places_at ws slot;
      kind = p.kind;
      length = r.length;
      limit = limit_of s p;
      stops = ends_short p.kind r.direction;
    }

abbrev pub refused_cancel_words : Rest → Refusal → SettledWords ⊤
refused_cancel_words rest r = record { answer = Err r; rest = rest; writes = no_writes }

abbrev pub refused_collect_words : Rest → Refusal → SettledWords Collected
refused_collect_words rest r = record { answer = Err r; rest = rest; writes = no_writes }

abbrev pub pending_words : Rest → SettledWords Collected
pending_words rest = record { answer = Ok Pending; rest = rest; writes = no_writes }

-- slot k's linked request, but for its mark
pub record OwnRequest (s : Ehci) (k : ℕ) (p : Pipe) (r : Request) : Type 0 where
  pub own : Request
  pub linked : endpoint_at s k ≡ Linked p own
  pub same_id : r.id ≡ own.id
  pub same_length : r.length ≡ own.length
