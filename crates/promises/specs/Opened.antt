-- What submit asks, read off what a caller knows. No state; at the end, the law that ties the state to it.
use Rattle.std.specs.Prelude.{ℕ, ◌+◌, Bool, true, false, not, List, map, ◌≡◌, eqb, ltb}
use Rattle.token.specs.Chunks.{need_of}
use Rattle.common.specs.declared.kinds.EndpointType.{EndpointType}
use Rattle.pipe.specs.Endpoints.{endpoint_at, flag_number, kind_number}
use Rattle.common.specs.Kinds.{is_isochronous}
use Rattle.pipe.specs.declared.endpoints.Endpoint.{Endpoint}
use Rattle.pipe.specs.declared.endpoints.Endpoint.TheVariants.{Closed, Idle, Linked, Unlinking}
use Rattle.settings.specs.declared.settings.Settings.{Settings}
use Rattle.state.specs.Plain.{Ehci}
use Rattle.common.specs.Answers.{Check, Verdict, first, passed, refusal_number, refused}
use Rattle.controller.specs.Readers.{is_uncollected}
use Rattle.controller.specs.declared.lent.Readings.{Readings}
use Rattle.request.specs.Submit.{ranges_good}
use Rattle.request.specs.declared.judge.TransferRequest.{TransferRequest}
use Rattle.ehci.specs.declared.call.Call.TheVariants.{Submit}
use Rattle.ehci.specs.Replies.{answered_number}
use Rattle.promises.specs.Runs.{Always, History, Moment, Promise}
use Rattle.promises.specs.SubmitOrder.{before_lack, submit_order}
use Rattle.promises.specs.Walks.{is_in}
use Rattle.promises.specs.Slots.{Open, Shut, SlotKind, limit_in, runs_in, slot_in}
use Rattle.promises.specs.Uses.{needs, uses}

-- ---- what submit asks

abbrev pub is_shut : SlotKind → Bool
is_shut Shut = true
is_shut (Open kind size) = false

abbrev pub has_kind : EndpointType → SlotKind → Bool
has_kind kind Shut = false
has_kind kind (Open other size) = eqb (kind_number kind) (kind_number other)

-- slot k has a request that is accepted and not collected
abbrev pub is_busy : Settings → History → ℕ → Bool
is_busy s h k = is_in k (map (λ u. u.slot) (uses s h))

-- all but the last of what submit asks, as the history tells it
abbrev pub earlier_checks : Settings → History → ℕ → TransferRequest → List Check
earlier_checks s h k t =
    before_lack (is_shut (slot_in k h)) (not (runs_in h)) (is_busy s h k) (is_isochronous t.kind) (not (has_kind t.kind (slot_in k h)))
    (not (ranges_good t))

abbrev pub before_room : Settings → History → ℕ → TransferRequest → Verdict
before_room s h k t = first (earlier_checks s h k t)

-- what is in use and what a submit needs, together
abbrev pub wanted : Settings → History → ℕ → TransferRequest → ℕ
wanted s h k t = needs s (uses s h) + need_of t.kind t.length (limit_in s h k t)

abbrev pub submit_asks : Settings → History → ℕ → TransferRequest → List Check
submit_asks s h k t =
    submit_order (is_shut (slot_in k h)) (not (runs_in h)) (is_busy s h k) (is_isochronous t.kind) (not (has_kind t.kind (slot_in k h)))
    (not (ranges_good t)) (ltb s.descriptors (wanted s h k t))

abbrev pub verdict_number : Verdict → ℕ
verdict_number passed = 0
verdict_number (refused r) = refusal_number r

-- in every reached world a submit answers what the history says: 3, 8, 4, 5, 3, 1 or 6 exactly where it is due, and 0 where none is
abbrev pub SubmitVerdict : Promise
SubmitVerdict =
    Always
    (λ s h w. (k : ℕ) (t : TransferRequest) (readings : Readings)
    → answered_number (w.does (Submit k t readings)).reply.answer ≡ verdict_number (first (submit_asks s h k t)))

-- ---- the law that ties the state's fields to the history

abbrev pub kind_in : Endpoint → SlotKind
kind_in Closed = Shut
kind_in (Idle p) = Open p.kind p.size
kind_in (Linked p r) = Open p.kind p.size
kind_in (Unlinking p r b) = Open p.kind p.size

abbrev pub kind_now : Ehci → ℕ → SlotKind
kind_now s k = kind_in (endpoint_at s k)

-- in every reached world: which slots are open, of which kind and with which packet size; whether the controller runs; which slots have an uncollected request
pub record Tied (s : Settings) (h : History) (w : Moment) : Type 0 where
  pub slots : (k : ℕ) → slot_in k h ≡ kind_now w.view k
  pub runs : w.view.running ≡ flag_number (runs_in h)
  pub held : (k : ℕ) → is_busy s h k ≡ is_uncollected w.view k

abbrev pub FieldsTied : Promise
FieldsTied = Always Tied
