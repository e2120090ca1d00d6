-- What an accepted submit leaves: its descriptors with their tokens, its setup packet, its overlay; and what of it stays until it is collected.
use Rattle.std.specs.Prelude.{ℕ, zero, suc, ◌+◌, ◌-◌, ◌*◌, ◌/◌, ◌%◌, ◌^◌, ◌<◌, Bool, true, false, List, [], ◌∷◌, ◌++◌, map, ◌⊎◌, ◌≡◌, eqb, get_or, length, replicate}
use Rattle.token.specs.EhciQtd.{current_page, data_toggle, error_counter, in_code, interrupt_on_complete, out_code, pid_code, setup_code, status, total_bytes}
use Rattle.common.specs.declared.kinds.Direction.{Direction}
use Rattle.common.specs.declared.kinds.Direction.TheVariants.{Out, In}
use Rattle.common.specs.declared.kinds.EndpointType.{EndpointType}
use Rattle.common.specs.declared.kinds.EndpointType.TheVariants.{Control, Isochronous, Bulk, Interrupt}
use Rattle.descriptor.specs.Slots.{page_slots}
use Rattle.descriptor.specs.UsbSetup.{bm_request_type, b_request, w_index, w_length, w_value}
use Rattle.descriptor.specs.declared.qtd.QueueTransferDescriptor.{QueueTransferDescriptor}
use Rattle.pool.specs.Chains.{blank, with_token}
use Rattle.pool.specs.Places.{up_from}
use Rattle.settings.specs.declared.settings.Settings.{Settings}
use Rattle.controller.specs.declared.lent.Readings.{Readings}
use Rattle.request.specs.declared.judge.TransferRequest.{TransferRequest}
use Rattle.ehci.specs.declared.call.Call.{Call}
use Rattle.ehci.specs.declared.call.Call.TheVariants.{Collect, Submit, Writeback}
use Rattle.ehci.specs.Replies.{answered_number}
use Rattle.promises.specs.Runs.{Always, History, Moment, Promise, Rows, Turn, rows_of}
use Rattle.promises.specs.Events.{Submits, event, is_collected}
use Rattle.promises.specs.Slots.{limit_in}
use Rattle.promises.specs.Uses.{Use, limit_of_use, uses}
use Rattle.promises.specs.Bells.{submits}
use Rattle.promises.specs.Walks.{chain_walk}
use Rattle.promises.specs.Rooms.{Every, number_at}
use Rattle.promises.specs.Coverage.{bytes_of, records_met}

-- ---- a descriptor's words but next, its token by EHCI 3.5.3: the seven fields are all of its 32 bits

pub record Fields : Type 0 where
  pub alternate : ℕ
  pub pages : List ℕ
  pub upper : List ℕ
  pub status : ℕ
  pub pid : ℕ
  pub counter : ℕ
  pub page : ℕ
  pub interrupt : ℕ
  pub bytes : ℕ
  pub toggle : ℕ

abbrev pub fields_of : QueueTransferDescriptor → Fields
fields_of d =
    record {
      alternate = d.alternate;
      pages = d.pages;
      upper = d.upper;
      status = status d.token;
      pid = pid_code d.token;
      counter = error_counter d.token;
      page = current_page d.token;
      interrupt = interrupt_on_complete d.token;
      bytes = total_bytes d.token;
      toggle = data_toggle d.token;
    }

-- ---- "Tokens and plans"

-- so many bytes at an address: its page slots; upper slots 0; active and nothing else in its status, error counter 3, from the first page on
abbrev pub planned : ℕ → ℕ → ℕ → ℕ → ℕ → ℕ → Fields
planned alternate pid address bytes toggle interrupt =
    record {
      alternate = alternate;
      pages = page_slots address bytes;
      upper = replicate 5 0;
      status = 128;
      pid = pid;
      counter = 3;
      page = 0;
      interrupt = interrupt;
      bytes = bytes;
      toggle = toggle;
    }

abbrev pub pid_by : Direction → ℕ
pid_by Out = out_code
pid_by In = in_code

-- "Out after In data, otherwise In"
abbrev pub status_after : Direction → ℕ
status_after Out = in_code
status_after In = out_code

-- "setup (8 bytes, toggle 0); data if length > 0 (toggle 1); status (0 bytes, toggle 1, interrupt)"; the Bool: length is 0
abbrev pub stages : ℕ → Direction → ℕ → ℕ → Bool → List Fields
stages packet d address length true = planned 1 setup_code packet 8 0 0 ∷ planned 1 in_code 0 0 1 1 ∷ []
stages packet d address length false =
    planned 1 setup_code packet 8 0 0 ∷ planned 1 (pid_by d) address length 1 0 ∷ planned 1 (status_after d) 0 0 1 1 ∷ []

-- "for bulk and interrupt In requests .. every descriptor but the last gets as alternate one shared inactive descriptor", whose address is given
abbrev pub alternate_by : ℕ → Direction → ℕ
alternate_by shared Out = 1
alternate_by shared In = shared

-- "chunks of C, then the rest .. Toggle 0; only the last interrupts": so many of the limit, and the last
abbrev pub chunks : ℕ → ℕ → ℕ → ℕ → ℕ → ℕ → List Fields
chunks zero alternate pid limit address length = planned 1 pid address length 0 1 ∷ []
chunks (suc n) alternate pid limit address length =
    planned alternate pid address limit 0 0 ∷ chunks n alternate pid limit (address + limit) (length - limit)

-- of a request of that direction for so many bytes at an address, with its setup packet's address, if any, that of the shared descriptor, and
-- the limit
abbrev pub plan : EndpointType → ℕ → ℕ → Direction → ℕ → ℕ → ℕ → List Fields
plan Control packet shared d address length limit = stages packet d address length (eqb length 0)
plan Isochronous packet shared d address length limit = chunks ((length - 1) / limit) (alternate_by shared d) (pid_by d) limit address length
plan Bulk packet shared d address length limit = chunks ((length - 1) / limit) (alternate_by shared d) (pid_by d) limit address length
plan Interrupt packet shared d address length limit = chunks ((length - 1) / limit) (alternate_by shared d) (pid_by d) limit address length

-- the shared descriptor is at place D
abbrev pub plan_for : Settings → ℕ → ℕ → TransferRequest → List Fields
plan_for s limit k t = plan t.kind (s.setups + 8 * k) (s.pool + 64 * s.descriptors) t.direction t.address t.length limit

-- ---- setup packets: 8 bytes a slot

abbrev pub packet_at : Rows → ℕ → List ℕ
packet_at rows k = map (λ j. get_or rows.setups (8 * k + j) 0) (0 ∷ 1 ∷ 2 ∷ 3 ∷ 4 ∷ 5 ∷ 6 ∷ 7 ∷ [])

-- "Setup bytes by USB 9.3; the length field is the buffer's": the call gives bytes 0 to 5 as one number, byte 0 lowest
pub record Asks (bytes : List ℕ) (setup length : ℕ) : Type 0 where
  pub type_is : bm_request_type bytes ≡ setup % 2 ^ 8
  pub request_is : b_request bytes ≡ setup / 2 ^ 8 % 2 ^ 8
  pub value_is : w_value bytes ≡ setup / 2 ^ 16 % 2 ^ 16
  pub index_is : w_index bytes ≡ setup / 2 ^ 32 % 2 ^ 16
  pub length_is : w_length bytes ≡ length

-- ---- heads: word i of slot k's; the overlay's next, alternate and token are words 4, 5 and 6

abbrev pub word_at : Rows → ℕ → ℕ → ℕ
word_at rows k i = get_or rows.heads (17 * (k + 1) + i) 0

-- ---- at an accepted submit's exit

pub record Submitted (s : Settings) (limit : ℕ) (rows : Rows) (k : ℕ) (t : TransferRequest) : Type 0 where
  -- the descriptors that its overlay leads through are those of its plan, in order
  pub planned_so : map fields_of (records_met s rows k) ≡ plan_for s limit k t
  -- a control request's packet reads as the call asked, and the setup descriptor leads to it
  pub packet : t.kind ≡ Control → Asks (packet_at rows k) t.setup t.length
  pub leads : t.kind ≡ Control → bytes_of (get_or (records_met s rows k) 0 blank) ≡ up_from (s.setups + 8 * k) 8
  -- "Submit writes overlay next = first descriptor, alternate 1, token 0", but for the toggle, which is `TogglesKept`'s
  pub next_is : word_at rows k 4 ≡ s.pool + 64 * get_or (chain_walk s rows k) 0 0
  pub alternate_is : word_at rows k 5 ≡ 1
  pub token_is : word_at rows k 6 ≡ 2 ^ 31 * data_toggle (word_at rows k 6)

abbrev pub SubmitsPlanned : Promise
SubmitsPlanned =
    Always
    (λ s h w. (k : ℕ) (t : TransferRequest) (readings : Readings) → number_at w (Submit k t readings) ≡ 0
    → Submitted s (limit_in s h k t) (rows_of (w.does (Submit k t readings))) k t)

-- ---- until it is collected

-- any next call leaves the setup packet of an uncollected request; an accepted writeback gives its place's record the token. That no
-- other call changes such a record is `ExclusivePlaces`
pub record Stays (s : Settings) (h : History) (w : Moment) : Type 0 where
  pub packets : (c : Call) → Every (λ u. packet_at (rows_of (w.does c)) u.slot ≡ packet_at w.rows u.slot) (uses s h)
  pub written : (p token : ℕ) → number_at w (Writeback p token) ≡ 0
      → get_or (rows_of (w.does (Writeback p token))).pool p blank ≡ with_token (get_or w.rows.pool p blank) token

abbrev pub SubmittedStays : Promise
SubmittedStays = Always Stays

-- so in every world each uncollected control request's packet reads as its call asked
abbrev pub PacketsStand : Promise
PacketsStand =
    Always
    (λ s h w. Every (λ u. u.request.kind ≡ Control → Asks (packet_at w.rows u.slot) u.request.setup u.request.length) (uses s h))

-- and of each record of an uncollected request: an accepted writeback of a place, with its token
abbrev pub WritesTo : ℕ → ℕ → Turn → Type 0
WritesTo p token t = (t.call ≡ Writeback p token) × (answered_number t.answer ≡ 0)

-- no turn of the list writes the place back or submits to slot k
abbrev pub Untouched : Settings → ℕ → ℕ → History → Type 0
Untouched s k p [] = Unit {0}
Untouched s k p (t ∷ h) = ((token : ℕ) → WritesTo p token t → ⊥) × (submits s k t ≡ false) × Untouched s k p h

abbrev pub place_of : Use → ℕ → ℕ
place_of u j = get_or u.places j 0

abbrev pub planned_for : Settings → Use → ℕ → Fields
planned_for s u j = get_or (plan_for s (limit_of_use s u) u.slot u.request) j (planned 1 0 0 0 0 0)

-- the last turn that touched its j-th record is its submit, and the record is the j-th of its plan; or it is a writeback, and the record has
-- that token
pub record TokenStands (s : Settings) (h : History) (w : Moment) (u : Use) (j : ℕ) : Type 0 where
  pub since : History
  pub last : Turn
  pub before : History
  pub picture : h ≡ since ++ last ∷ before
  pub untouched : Untouched s u.slot (place_of u j) since
  pub stands : ((event s last ≡ Submits u.slot u.id u.request) × (fields_of (get_or w.rows.pool (place_of u j) blank) ≡ planned_for s u j))
      ⊎ WritesTo (place_of u j) (get_or w.rows.pool (place_of u j) blank).token last

abbrev pub TokensStand : Promise
TokensStand = Always (λ s h w. Every (λ u. (j : ℕ) → j < length u.places → TokenStands s h w u j) (uses s h))

-- ---- "Passed: descriptors freed, current 0, overlay terminated (next 1, alternate 1, rest 0)": words 3 to 16

abbrev pub CollectsEnded : Promise
CollectsEnded =
    Always
    (λ s h w. (k id : ℕ) (readings : Readings) → is_collected (w.does (Collect k id readings)).reply.answer ≡ true
    → (j : ℕ) → j < 14 → word_at (rows_of (w.does (Collect k id readings))) k (3 + j) ≡ get_or (0 ∷ 1 ∷ 1 ∷ replicate 11 0) j 0)
