-- What submit and writeback over words leave, as the state that the words stand for and the chain that is then written.
use Rattle.std.specs.Prelude.{ℕ, ◌+◌, ◌*◌, Bool, false, cond, not, ◌&&◌, List, [], ◌∷◌, nat_lt, slice_index, Option, Some, None, Err, Ok}
use Rattle.bitset.specs.Places.{has_place, set_places, without_of}
use Rattle.common.specs.declared.answer.Refusal.{Refusal}
use Rattle.controller.specs.declared.lent.Readings.{Readings}
use Rattle.pipe.specs.declared.endpoints.Endpoint.{Endpoint}
use Rattle.pipe.specs.declared.endpoints.Endpoint.TheVariants.{Linked}
use Rattle.pool.specs.Chains.{no_chain}
use Rattle.pool.specs.Places.{packed}
use Rattle.pool.specs.Transfers.{address_of, alternate_word}
use Rattle.pool.specs.Words.{no_laying}
use Rattle.pool.specs.Plain.{Chain}
use Rattle.pool.specs.Plain.{Deed}
use Rattle.pool.specs.Plain as Deeds
use Rattle.pool.specs.declared.laying.Laying.{Laying}
use Rattle.pool.specs.declared.marking.Mark.{Mark}
use Rattle.register.specs.Writes.{no_writes}
use Rattle.settings.specs.declared.settings.Settings.{Settings}
use Rattle.settings.specs.Settings.{shared_address}
use Rattle.slot.specs.Ids.{after_id}
use Rattle.words.specs.View.{state_of}
use Rattle.words.specs.Rest.{rest_with_free}
use Rattle.words.specs.declared.cores.Core.{Core}
use Rattle.words.specs.declared.cores.Rest.{Rest}
use Rattle.request.specs.Submit.{writes_with}
use Rattle.request.specs.Plain.{Submitted}
use Rattle.request.specs.Plain.{WrittenBack}
use Rattle.request.specs.declared.answers.Submitted.{Submitted as SubmittedWords}
use Rattle.request.specs.declared.answers.WrittenBack.{WrittenBack as WrittenBackWords}
use Rattle.request.specs.declared.judge.TransferRequest.{TransferRequest}
use Rattle.words.specs.Record.{size_in, toggle_in}
use Rattle.pipe.specs.Endpoints.{flag_of}

-- ---- as what the definitions leave

-- a deed at some places; where there is none nothing is written
abbrev pub chain_at : List ℕ → ℕ → Deed → Chain
chain_at [] base deed = no_chain
chain_at (p ∷ ps) base deed = record { places = packed (p ∷ ps); base = base; deed = deed }

abbrev pub laying_chain : Laying → Chain
laying_chain l = chain_at (set_places l.places) l.base (Deeds.Transfer l.transfer)

-- the token at its place, where one is marked; base is the address of the pool's area
abbrev pub marking_chain : ℕ → Option Mark → Chain
marking_chain base None = no_chain
marking_chain base (Some m) = record { places = packed (m.place ∷ []); base = base; deed = Deeds.Token m.token }

abbrev pub submitted_view : Settings → SubmittedWords → List ℕ → Submitted
submitted_view s r ws =
    record { answer = r.answer; state = state_of s r.rest ws; writes = r.writes; chain = laying_chain r.laying }

abbrev pub written_view : Settings → WrittenBackWords → List ℕ → WrittenBack
written_view s r ws =
    record { answer = r.answer; state = state_of s r.rest ws; chain = marking_chain s.pool r.marking }

-- ---- submit

unfoldable pub refused_words : Rest → Refusal → SubmittedWords
refused_words rest r = record { answer = Err r; rest = rest; writes = no_writes; laying = no_laying }

-- a request of this id, and of its slot's word the packet size and the toggle
abbrev pub request_with : TransferRequest → ℕ → ℕ → Endpoint
request_with t w id =
    Linked
    (record { kind = t.kind; size = size_in w; toggle = flag_of (toggle_in w); next = after_id id })
    (record { id = id; direction = t.direction; length = t.length; cancelled = false })

-- the address of the lowest place
abbrev pub first_of : Settings → List ℕ → ℕ
first_of s places = address_of s.pool (slice_index (set_places places) 0)

abbrev pub head_of : Settings → ℕ → ℕ
head_of s slot = s.heads + 128 * (slot + 1)

unfoldable pub laying_for : Settings → ℕ → TransferRequest → ℕ → List ℕ → Laying
laying_for s slot t limit places =
    record {
      places = places;
      base = s.pool;
      transfer =
          record {
            kind = t.kind;
            direction = t.direction;
            address = t.address;
            length = t.length;
            limit = limit;
            setup = s.setups + 8 * slot;
            alternate = alternate_word t.kind t.direction (shared_address s);
          };
    }

-- its places are no longer free
unfoldable pub accepted_words : Core → Readings → ℕ → TransferRequest → ℕ → ℕ → List ℕ → SubmittedWords
accepted_words c readings slot t limit id places =
    record {
      answer = Ok id;
      rest = rest_with_free c.rest (without_of c.rest.free places);
      writes = writes_with readings;
      laying = laying_for c.settings slot t limit places;
    }

-- ---- writeback

-- one of the D places, and not free
unfoldable pub taken_place : Settings → Rest → ℕ → Bool
taken_place s r place = nat_lt place s.descriptors && not (has_place r.free place)
