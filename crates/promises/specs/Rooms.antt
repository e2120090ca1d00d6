-- Room, exclusive places, and the chains of the requests that are accepted and not collected: statements of any machine.
use Rattle.std.specs.Prelude.{ℕ, suc, ◌+◌, ◌*◌, ◌≤◌, ◌<◌, List, [], ◌∷◌, ◌++◌, ◌⊎◌, ◌≡◌, drop, get_or, length}
use Rattle.descriptor.specs.declared.qtd.QueueTransferDescriptor.{QueueTransferDescriptor}
use Rattle.pool.specs.Chains.{blank, with_token}
use Rattle.pool.specs.Places.{Each, Within}
use Rattle.pool.specs.Transfers.{alternate_word, record_at}
use Rattle.pool.specs.declared.transfer.Transfer.{Transfer}
use Rattle.settings.specs.declared.settings.Settings.{Settings}
use Rattle.common.specs.Answers.{passed}
use Rattle.controller.specs.Readers.{free_count}
use Rattle.controller.specs.declared.lent.Readings.{Readings}
use Rattle.request.specs.declared.judge.TransferRequest.{TransferRequest}
use Rattle.ehci.specs.declared.call.Call.{Call}
use Rattle.ehci.specs.declared.call.Call.TheVariants.{Submit, Writeback}
use Rattle.ehci.specs.Replies.{answered_number}
use Rattle.promises.specs.Runs.{Always, History, Moment, Promise, Turn, turn_by}
use Rattle.promises.specs.Uses.{Use, limit_of_use, need_of_use, needs, uses}
use Rattle.promises.specs.Walks.{Terminated, chain_end, chain_walk}
use Rattle.promises.specs.Opened.{before_room, wanted}

-- the number that a call answers
abbrev pub number_at : Moment → Call → ℕ
number_at w c = answered_number (w.does c).reply.answer

abbrev pub Every : (Use → Type 0) → List Use → Type 0
Every P [] = Unit {0}
Every P (u ∷ us) = P u × Every P us

-- ---- room

-- that is more than the pool has, or it is not
abbrev pub Lacks : Settings → History → ℕ → TransferRequest → Type 0
Lacks s h k t = s.descriptors < wanted s h k t

abbrev pub Fits : Settings → History → ℕ → TransferRequest → Type 0
Fits s h k t = wanted s h k t ≤ s.descriptors

-- free descriptors equal D minus the sum of the needs; a submit answers 6 only where the room lacks and 0 only where it does not; and
-- where the history passes every earlier check, it answers 6 or 0 by the room alone
pub record Room (s : Settings) (h : History) (w : Moment) : Type 0 where
  pub free : free_count w.view + needs s (uses s h) ≡ s.descriptors
  pub six_lacks : (k : ℕ) (t : TransferRequest) (readings : Readings) → number_at w (Submit k t readings) ≡ 6 → Lacks s h k t
  pub zero_fits : (k : ℕ) (t : TransferRequest) (readings : Readings) → number_at w (Submit k t readings) ≡ 0 → Fits s h k t
  pub lacks_six : (k : ℕ) (t : TransferRequest) (readings : Readings) → before_room s h k t ≡ passed → Lacks s h k t
      → number_at w (Submit k t readings) ≡ 6
  pub fits_zero : (k : ℕ) (t : TransferRequest) (readings : Readings) → before_room s h k t ≡ passed → Fits s h k t
      → number_at w (Submit k t readings) ≡ 0

abbrev pub RoomExact : Promise
RoomExact = Always Room

-- ---- exclusive places

-- the places of all uses
abbrev pub places_in_use : List Use → List ℕ
places_in_use [] = []
places_in_use (u ∷ us) = u.places ++ places_in_use us

-- none is listed twice
abbrev pub Distinct : List ℕ → Type 0
Distinct [] = Unit {0}
Distinct (p ∷ ps) = Each (λ q. p ≡ q → ⊥) ps × Distinct ps

abbrev pub record_before : Turn → ℕ → QueueTransferDescriptor
record_before t p = get_or t.before.pool p blank

abbrev pub record_after : Turn → ℕ → QueueTransferDescriptor
record_after t p = get_or t.after.pool p blank

-- an accepted writeback of this place gives its record the call's token, and nothing else
pub record TokenWritten (t : Turn) (p : ℕ) : Type 0 where
  pub token : ℕ
  pub call_is : t.call ≡ Writeback p token
  pub accepted : answered_number t.answer ≡ 0
  pub only_token : record_after t p ≡ with_token (record_before t p) token

abbrev pub RecordStays : Turn → ℕ → Type 0
RecordStays t p = (record_after t p ≡ record_before t p) ⊎ TokenWritten t p

-- no place is in two uncollected requests and none twice in one; of their records any next call changes only the token of the place
-- that it writes back
pub record Exclusive (s : Settings) (h : History) (w : Moment) : Type 0 where
  pub distinct : Distinct (places_in_use (uses s h))
  pub within : Within s.descriptors (places_in_use (uses s h))
  pub records : (c : Call) → Each (RecordStays (turn_by w c)) (places_in_use (uses s h))

abbrev pub ExclusivePlaces : Promise
ExclusivePlaces = Always Exclusive

-- ---- chains of requests

-- what a use's request gives to its descriptors
abbrev pub transfer_for : Settings → Use → Transfer
transfer_for s u =
    record {
      kind = u.request.kind;
      direction = u.request.direction;
      address = u.request.address;
      length = u.request.length;
      limit = limit_of_use s u;
      setup = s.setups + 8 * u.slot;
      alternate = alternate_word u.request.kind u.request.direction (s.pool + 64 * s.descriptors);
    }

-- a record but for its token
abbrev pub untold : QueueTransferDescriptor → QueueTransferDescriptor
untold d = with_token d 0

-- from its overlay on, a request's chain meets the places of its submit and terminates; they are as many as its need, and the j-th
-- record there is its j-th descriptor, but for the token
pub record Led (s : Settings) (w : Moment) (u : Use) : Type 0 where
  pub leads : chain_walk s w.rows u.slot ≡ u.places
  pub ends : chain_end s w.rows u.slot ≡ Terminated
  pub as_many : length u.places ≡ need_of_use s u
  pub in_order : (j : ℕ) → j < length u.places
      → untold (get_or w.rows.pool (get_or u.places j 0) blank) ≡ untold (record_at (transfer_for s u) j (drop (suc j) u.places) s.pool)

abbrev pub ChainsLead : Promise
ChainsLead = Always (λ s h w. Every (Led s w) (uses s h))
