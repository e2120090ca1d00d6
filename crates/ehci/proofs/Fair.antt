-- What any call decides is fair: a refusal leaves all as before (7 not running), and there are at most six writes.
use Rattle.std.specs.Prelude.{◌≡◌, ℕ, ◌+◌, ◌≤◌, Bool, true, false, cond, not, ◌&&◌, eqb, ltb, leb, List, [], ◌∷◌, length, Err, Ok, Result}
use mathlib.Core.Path.{refl, sym, ap, subst, ◌∙◌}
use borrow.Author.Tests.{not-true}
use Rattle.register.specs.Bits.{any_of, only_bits, without_bits}
use Rattle.common.proofs.TestLaws.{false_true, both_tells}
use Rattle.pool.specs.declared.chain.Standing.{Standing}
use Rattle.pool.specs.declared.chain.View.{View}
use Rattle.pool.specs.Chains.{stands_active}
use Rattle.state.specs.Ranges.{in_ranges}
use Rattle.state.specs.Plain.{Ehci}
use Rattle.common.specs.Answers.{Check, Verdict, first, or_else, passed, refused, settle}
use Rattle.common.specs.declared.answer.Refusal.{Refusal}
use Rattle.common.specs.declared.answer.Refusal.TheVariants.{InvalidParameter, SlotLimitReached, InvalidEndpoint, QueueFull, NotSupported, NoMemory, Timeout, NotReady}
use Rattle.common.proofs.CheckLaws.{settled_by, verdicts_apart}
use Rattle.pipe.specs.Endpoints.{endpoint_at}
use Rattle.pipe.specs.declared.endpoints.Endpoint.{Endpoint}
use Rattle.pipe.specs.declared.endpoints.Endpoint.TheVariants.{Closed, Idle, Linked, Unlinking}
use Rattle.pipe.specs.declared.endpoints.Pipe.{Pipe}
use Rattle.pipe.specs.declared.endpoints.Request.{Request}
use Rattle.pipe.specs.declared.endpoints.UnlinkBoundary.{UnlinkBoundary}
use Rattle.opening.specs.Opening.{rows_are_fit}
use Rattle.controller.specs.Address.{allot_of}
use Rattle.controller.specs.Lent.{accepts_of, lengths}
use Rattle.controller.specs.Plain.{Allotment}
use Rattle.controller.specs.declared.lent.Readings.{Readings}
use Rattle.schedule.specs.Bell.{bell_of}
use Rattle.schedule.specs.Links.{detach_of, ended_overlay}
use Rattle.endpoint.specs.Calls.{ChangeLeft, OpenLeft, change_of, close_of, fields_good, open_checks, open_endpoint_of, set_address_of, set_packet_size_of, slot_checks, raised_good, clear_checks, clear_halt_of}
use Rattle.request.specs.Submit.{accepted_with, refused_submit, settled_submit, submit_checks, submit_of}
use Rattle.request.specs.Writeback.{refused_writeback, writeback_checks, writeback_of}
use Rattle.request.specs.Plain.{WrittenBack}
use Rattle.request.specs.declared.judge.TransferRequest.{TransferRequest}
use Rattle.collection.specs.Answers.{outcome_of, pending_collect}
use Rattle.collection.specs.declared.collected.Collected.TheVariants.{Complete, Failed as FailedCollect}
use Rattle.collection.specs.Calls.{Gathered, cancel_at, cancel_checks, cancel_of, collect_at, collect_checks, collect_of, end_if, ended, finish_of, gathered, keeping, linked_of, marked, pending_left, unlinking_of, with_frames as gathered_frames}
use Rattle.collection.specs.Unlinks.{Left, is_missing, passed_boundary, unlink_of, waiting_of}
use Rattle.interrupt.specs.Interrupts.{acknowledge_of, disable_of, drain_if, drain_of, enable_of, heard_if, rearm_if, rearm_of, settled_or, cleared_of, counted_of}
use Rattle.interrupt.specs.declared.drain.Cleared.{Cleared}
use Rattle.interrupt.specs.Plain.{Acknowledgement}
use Rattle.interrupt.specs.Plain.{Drainage}
use Rattle.interrupt.specs.declared.answers.Event.TheVariants.{PortChange, TransferActivity, Stopped}
use Rattle.interrupt.specs.Plain.{Settled}
use Rattle.bring_up.specs.BringUp.{again_of, any_uncollected, onward_of, ready, register_of, stage_of, start_of, step_of}
use Rattle.bring_up.specs.Plain.{BroughtUp}
use Rattle.bring_up.specs.declared.stage.Stage.{Stage}
use Rattle.ehci.specs.declared.call.Call.{Call}
use Rattle.ehci.specs.declared.call.Call.TheVariants.{StartBringUp, BringUpStep, AllocateAddress, OpenEndpoint, Close, SetAddress, SetPacketSize, Submit, Writeback, Cancel, Collect, Acknowledge, Drain, Rearm, Enable, Disable, ClearHalt}
use Rattle.ehci.specs.declared.call.EndpointFields.{EndpointFields}
use Rattle.ehci.specs.declared.call.InterruptReadings.{InterruptReadings}
use Rattle.ehci.specs.declared.reply.Answered.TheVariants.{Done, Pending, Cancelled, Failed}
use Rattle.ehci.specs.Replies.{brought_reply, changed_reply, collected_answer, drained_answer, refused_reply, replied, settled_reply}
use Rattle.ehci.specs.Decides.{Outcome, acknowledge_decided, acknowledge_reply, address_decided, allot_decided, allot_reply, call_of, came, cancel_came, cancel_decided, change_came, clear_decided, close_decided, collect_came, collect_decided, decide_of, drain_decided, drain_reply, fitting, open_came, open_decided, packet_decided, submit_came, submit_decided, with_frames, with_setups, writeback_decided, written_reply}
use Rattle.ehci.specs.Refusals.{left_by}
use Rattle.ehci.proofs.Counts.{acknowledged_few, bounded_few, counted_few, none_few, one_few, stage_few}
use Rattle.endpoint.specs.Plain.{Change}
use Rattle.ehci.specs.declared.reply.Answered.{Answered}

-- ---- checks that never answer 7

abbrev is_timeout : Refusal → Bool
is_timeout InvalidParameter = false
is_timeout SlotLimitReached = false
is_timeout InvalidEndpoint = false
is_timeout QueueFull = false
is_timeout NotSupported = false
is_timeout NoMemory = false
is_timeout Timeout = true
is_timeout NotReady = false

abbrev timely : List Check → Bool
timely [] = true
timely (c ∷ cs) = not (is_timeout c.1) && timely cs

abbrev timeout_in : Verdict → Bool
timeout_in passed = false
timeout_in (refused r) = is_timeout r

first_timely : (cs : List Check) → timely cs ≡ true → (r : Refusal) → first cs ≡ refused r → is_timeout r ≡ false
first_timely [] t r e = absurd (verdicts_apart r (sym e))
first_timely (c ∷ cs) t r e =
    let both = both_tells (not (is_timeout c.1)) (timely cs) t in
    by c.0 (not-true (is_timeout c.1) both.0) (first_timely cs both.1 r) e
  where
    by : (b : Bool) → is_timeout c.1 ≡ false → (first cs ≡ refused r → is_timeout r ≡ false) → or_else b c.1 (first cs) ≡ refused r → is_timeout r ≡ false
    by true n rest q = sym (ap timeout_in q) ∙ n
    by false n rest q = rest q

-- ---- an answer's refusal

abbrev pub is_refused : Result Answered Refusal → Bool
is_refused (Ok (Done given)) = false
is_refused (Ok Pending) = false
is_refused (Ok Cancelled) = false
is_refused (Ok (Failed token)) = false
is_refused (Err r) = true

abbrev pub refusal_in : Result Answered Refusal → Refusal
refusal_in (Ok (Done given)) = InvalidParameter
refusal_in (Ok Pending) = InvalidParameter
refusal_in (Ok Cancelled) = InvalidParameter
refusal_in (Ok (Failed token)) = InvalidParameter
refusal_in (Err r) = r

left_same : (s : Ehci) (r : Refusal) → is_timeout r ≡ false → left_by r s ≡ s
left_same s InvalidParameter n = refl
left_same s SlotLimitReached n = refl
left_same s InvalidEndpoint n = refl
left_same s QueueFull n = refl
left_same s NotSupported n = refl
left_same s NoMemory n = refl
left_same s Timeout n = absurd (false_true (sym n))
left_same s NotReady n = refl

module _ (s : Ehci) (hs fs us : List ℕ) where
  pub record Fair (o : Outcome) : Type 0 where
    pub few : o.decided.reply.writes.count ≤ 6
    pub keeps : (r : Refusal) → o.decided.reply.answer ≡ Err r → o ≡ came (refused_reply (left_by r s) r) hs fs us

  refusal_fair : (x : Refusal) → Fair (came (refused_reply (left_by x s) x) hs fs us)
  unfolding refused_reply replied
  refusal_fair x =
      record { few = none_few; keeps = λ r e. ap (λ (y : Refusal). came (refused_reply (left_by y s) y) hs fs us) (ap refusal_in e) }

  refused_fair : (x : Refusal) → is_timeout x ≡ false → Fair (came (refused_reply s x) hs fs us)
  refused_fair x n = subst (λ (z : Ehci). Fair (came (refused_reply z x) hs fs us)) (left_same s x n) (refusal_fair x)

  result_fair : (o : Outcome) → is_refused o.decided.reply.answer ≡ false → o.decided.reply.writes.count ≤ 6 → Fair o
  result_fair o n le = record { few = le; keeps = λ r e. absurd (false_true (sym n ∙ ap is_refused e)) }

  -- checks, then settle: the refusals leave all as before, and what is left where none holds is fair
  settle_fair : {A : Type 0} (g : A → Outcome) (cs : List Check) (old : Refusal → A) (new : A) → timely cs ≡ true
      → ((r : Refusal) → g (old r) ≡ came (refused_reply s r) hs fs us) → Fair (g new) → Fair (g (settle (first cs) old new))
  settle_fair g cs old new t same fair =
      settled_by (first cs) old new (λ x. Fair (g x)) (λ r e. subst Fair (sym (same r)) (refused_fair r (first_timely cs t r e))) (λ e. fair)

  -- ---- bring-up

  start_fair : Fair (came (brought_reply (start_of s)) hs fs us)
  unfolding start_of brought_reply refused_reply replied
  start_fair =
      settle_fair (λ (b : BroughtUp). came (brought_reply b) hs fs us) ((not (in_ranges s), InvalidParameter) ∷ (any_uncollected 0 32 s, QueueFull) ∷ []) _ _ refl
      (λ r. refl) (result_fair _ refl (one_few 8 0))

  onward_fair : (stage : Stage) (v : ℕ) → Fair (came (brought_reply (onward_of s stage v)) hs fs us)
  unfolding onward_of brought_reply replied
  onward_fair stage v = result_fair _ refl (stage_few stage v s.settings.frames s.settings.heads)

  picked_fair : (b : Bool) (x y : BroughtUp) → Fair (came (brought_reply x) hs fs us) → Fair (came (brought_reply y) hs fs us)
      → Fair (came (brought_reply (cond b x y)) hs fs us)
  picked_fair true x y fx fy = fx
  picked_fair false x y fx fy = fy

  again_fair : (register : ℕ) → Fair (came (brought_reply (again_of s register)) hs fs us)
  unfolding again_of brought_reply refused_reply replied
  again_fair register = picked_fair (ltb (s.waited + 1) s.settings.wait) _ _ (result_fair _ refl none_few) (refusal_fair Timeout)

  step_fair : (v : ℕ) → Fair (came (brought_reply (step_of s v)) hs fs us)
  unfolding step_of brought_reply refused_reply replied
  step_fair v =
      let stage : Stage = stage_of s.step in
      settle_fair (λ (b : BroughtUp). came (brought_reply b) hs fs us) ((not (in_ranges s), InvalidParameter) ∷ (eqb s.step 0, InvalidParameter) ∷ []) _ _ refl
      (λ r. refl) (picked_fair (ready stage v) (onward_of s stage v) (again_of s (register_of stage)) (onward_fair stage v) (again_fair (register_of stage)))

  -- ---- addresses and endpoints

  allot_fair : Fair (came (allot_decided s) hs fs us)
  unfolding allot_decided allot_of refused_reply replied
  allot_fair =
      settle_fair (λ (a : Allotment). came (allot_reply a) hs fs us) ((not (in_ranges s), InvalidParameter) ∷ (ltb 127 s.address, SlotLimitReached) ∷ []) _ _ refl
      (λ r. refl) (result_fair _ refl none_few)

  open_fair : (n : ℕ) (x : EndpointFields) → Fair (with_frames (open_decided s n hs (length fs) (length us) x) fs us)
  unfolding open_decided open_endpoint_of open_checks refused_reply replied
  open_fair n x =
      settle_fair (λ (o : OpenLeft). with_frames (open_came o) fs us)
      (open_checks s (lengths n (length hs) (length fs) (length us)) x.kind (fields_good s.settings.limit x.kind x.address x.number x.packet)) _ _ refl
      (λ r. refl) (result_fair _ refl none_few)

  change_fair : (n k : ℕ) (good : Bool) (s' : Ehci) (hs' : List ℕ) → Fair (with_frames (change_came (change_of s n hs (length fs) (length us) k good s' hs')) fs us)
  unfolding slot_checks changed_reply refused_reply replied
  change_fair n k good s' hs' =
      settle_fair (λ (c : ChangeLeft). with_frames (change_came c) fs us) (slot_checks s (lengths n (length hs) (length fs) (length us)) k good) _ _ refl
      (λ r. refl) (result_fair _ refl none_few)

  close_fair : (n k : ℕ) → Fair (with_frames (close_decided s n hs (length fs) (length us) k) fs us)
  unfolding close_decided close_of
  close_fair n k = change_fair n k true _ _

  address_fair : (n k a : ℕ) → Fair (with_frames (address_decided s n hs (length fs) (length us) k a) fs us)
  unfolding address_decided set_address_of
  address_fair n k a = change_fair n k (leb a 127) s _

  packet_fair : (n k size : ℕ) → Fair (with_frames (packet_decided s n hs (length fs) (length us) k size) fs us)
  unfolding packet_decided set_packet_size_of
  packet_fair n k size = change_fair n k (raised_good s k size) _ _

  clear_fair : (k : ℕ) → Fair (came (clear_decided s k) hs fs us)
  unfolding clear_decided clear_halt_of changed_reply refused_reply replied
  clear_fair k =
      settle_fair (λ (c : Change). came (changed_reply c) hs fs us) (clear_checks s k) _ _ refl (λ r. refl) (result_fair _ refl none_few)

  -- ---- requests

  submit_fair : (n : ℕ) (readings : Readings) (k : ℕ) (t : TransferRequest) → Fair (submit_decided s n hs fs us readings k t)
  unfolding submit_decided submit_of refused_submit settled_submit accepted_with refused_reply replied
  submit_fair n readings k t =
      settle_fair submit_came ((not (accepts_of s (lengths n (length hs) (length fs) (length us))), InvalidParameter) ∷ submit_checks s k t) _ _ refl
      (λ r. refl) (result_fair _ refl (one_few 0 _))

  writeback_fair : (n place token : ℕ) → Fair (came (writeback_decided s (lengths n (length hs) (length fs) (length us)) place token) hs fs us)
  unfolding writeback_decided writeback_of refused_writeback refused_reply replied
  writeback_fair n place token =
      settle_fair (λ (x : WrittenBack). came (written_reply x) hs fs us) (writeback_checks s (lengths n (length hs) (length fs) (length us)) place) _ _ refl
      (λ r. refl) (result_fair _ refl none_few)

  module _ (n : ℕ) (readings : Readings) (k id : ℕ) where
    unlink_fair : (p : Pipe) (r : Request) → Fair (with_setups (cancel_came (unlink_of s hs fs readings k p r)) us)
    unfolding unlink_of waiting_of refused_reply replied
    unlink_fair p r =
        settle_fair (λ (l : Left). with_setups (cancel_came l) us) ((is_missing (detach_of s hs fs k).predecessor, InvalidEndpoint) ∷ []) _ _ refl
        (λ x. refl) (result_fair _ refl (bounded_few (bell_of s) p.kind readings))

    cancel_at_lem : (x : Endpoint) → Fair (with_setups (cancel_came (cancel_at x s hs fs readings k)) us)
    unfolding refused_reply replied
    cancel_at_lem Closed = refused_fair InvalidEndpoint refl
    cancel_at_lem (Idle p) = refused_fair InvalidEndpoint refl
    cancel_at_lem (Linked p r) = unlink_fair p (marked r)
    cancel_at_lem (Unlinking p r u) = result_fair _ refl none_few

    cancel_fair : Fair (with_setups (cancel_decided s n hs fs (length us) readings k id) us)
    unfolding cancel_decided cancel_of refused_reply replied
    cancel_fair =
        settle_fair (λ (l : Left). with_setups (cancel_came l) us) (cancel_checks s (lengths n (length hs) (length fs) (length us)) k id) _ _ refl
        (λ x. refl) (cancel_at_lem (endpoint_at s k))

    gathers_fair : (p : Pipe) (r : Request) → Fair (with_setups (collect_came (pending_left (unlink_of s hs fs readings k p r))) us)
    unfolding unlink_of waiting_of refused_reply replied
    gathers_fair p r =
        settle_fair (λ (l : Left). with_setups (collect_came (pending_left l)) us) ((is_missing (detach_of s hs fs k).predecessor, InvalidEndpoint) ∷ []) _ _ refl
        (λ x. refl) (result_fair _ refl (bounded_few (bell_of s) p.kind readings))

    linked_fair : (stage : Standing) (p : Pipe) (r : Request) → Fair (with_setups (collect_came (linked_of s hs fs readings stage k p r)) us)
    unfolding linked_of replied
    linked_fair stage p r = by (stands_active stage)
      where
        by : (b : Bool) → Fair (with_setups (collect_came (cond b (gathered (pending_collect s) hs fs) (pending_left (unlink_of s hs fs readings k p r)))) us)
        by true = result_fair _ refl none_few
        by false = gathers_fair p r

    outcome_given : (c : Bool) (v : View) → is_refused (collected_answer (outcome_of c v)) ≡ false
    unfolding outcome_of
    outcome_given true v = refl
    outcome_given false v = by (eqb v.failed 0)
      where
        by : (b : Bool) → is_refused (collected_answer (cond b (Ok (Complete (record { length = v.moved; retried = v.retried }))) (Ok (FailedCollect v.failed)))) ≡ false
        by true = refl
        by false = refl

    unlinking_fair : (v : View) (p : Pipe) (r : Request) (u : UnlinkBoundary)
        → Fair (with_setups (collect_came (gathered_frames (unlinking_of s hs readings.frame v k p r u) fs)) us)
    unfolding unlinking_of finish_of replied
    unlinking_fair v p r u = by (passed_boundary u readings.frame)
      where
        by : (b : Bool) → Fair (with_setups (collect_came (gathered_frames (end_if b (ended (finish_of s v k p r) (ended_overlay hs k)) (ended (pending_collect s) hs)) fs)) us)
        by true = result_fair _ (outcome_given r.cancelled v) none_few
        by false = result_fair _ refl none_few

    collect_at_lem : (v : View) (x : Endpoint) → Fair (with_setups (collect_came (collect_at x s hs fs readings v k)) us)
    unfolding refused_reply replied
    collect_at_lem v Closed = refused_fair InvalidEndpoint refl
    collect_at_lem v (Idle p) = result_fair _ refl none_few
    collect_at_lem v (Linked p r) = linked_fair v.stage p r
    collect_at_lem v (Unlinking p r u) = unlinking_fair v (keeping readings p) r u

    collect_fair : (v : View) → Fair (with_setups (collect_decided s n hs fs (length us) readings v k id) us)
    unfolding collect_decided collect_of refused_reply replied
    collect_fair v =
        settle_fair (λ (g : Gathered). with_setups (collect_came g) us) (collect_checks s (lengths n (length hs) (length fs) (length us)) k id) _ _ refl
        (λ x. refl) (collect_at_lem v (endpoint_at s k))

  -- ---- interrupts

  acknowledge_fair : (x : InterruptReadings) → Fair (came (acknowledge_decided s x) hs fs us)
  unfolding acknowledge_decided acknowledge_of refused_reply replied
  acknowledge_fair x =
      settle_fair (λ (a : Acknowledgement). came (acknowledge_reply a) hs fs us) ((not (in_ranges s), InvalidParameter) ∷ []) _ _ refl
      (λ r. refl) (by (eqb (only_bits x.status 0x37) 0))
    where
      by : (b : Bool) → Fair (came (acknowledge_reply (heard_if b s (only_bits x.status 0x37) x.interrupts x.flag x.again)) hs fs us)
      by true = result_fair _ refl none_few
      by false = result_fair _ refl (acknowledged_few (only_bits x.status 0x37) x.interrupts x.flag x.again)

  event_given : (pending : ℕ) → is_refused (drained_answer (Ok (cleared_of pending).event)) ≡ false
  unfolding cleared_of
  event_given pending = by (any_of pending 4) (any_of pending 0x23)
    where
      by : (a b : Bool)
          → is_refused (drained_answer (Ok (cond {A = Cleared} a (record { event = PortChange; left = without_bits pending 4 })
          (cond b (record { event = TransferActivity; left = without_bits pending 0x23 }) (record { event = Stopped; left = 0 }))).event)) ≡ false
      by true b = refl
      by false true = refl
      by false false = refl

  drain_fair : (command : ℕ) → Fair (came (drain_decided s command) hs fs us)
  unfolding drain_decided drain_of refused_reply replied
  drain_fair command =
      settle_fair (λ (d : Drainage). came (drain_reply d) hs fs us) ((not (in_ranges s), InvalidParameter) ∷ []) _ _ refl
      (λ r. refl) (by (eqb s.pending 0))
    where
      by : (b : Bool) → Fair (came (drain_reply (drain_if b s (counted_of s command) (cleared_of s.pending))) hs fs us)
      by true = result_fair _ refl none_few
      by false = result_fair _ (event_given s.pending) (counted_few s command)

  settled_fair : (b : Bool) (x : Settled) → Fair (came (settled_reply x) hs fs us) → Fair (came (settled_reply (settled_or b s x)) hs fs us)
  unfolding settled_reply refused_reply replied
  settled_fair true x f = refused_fair InvalidParameter refl
  settled_fair false x f = f

  rearm_fair : Fair (came (settled_reply (rearm_of s)) hs fs us)
  unfolding rearm_of settled_reply replied
  rearm_fair = settled_fair (not (in_ranges s)) (rearm_if (eqb s.masked 0) s) (by (eqb s.masked 0))
    where
      by : (b : Bool) → Fair (came (settled_reply (rearm_if b s)) hs fs us)
      by true = result_fair _ refl none_few
      by false = result_fair _ refl (one_few 8 _)

  enable_fair : Fair (came (settled_reply (enable_of s)) hs fs us)
  unfolding enable_of settled_reply replied
  enable_fair = settled_fair (not (in_ranges s)) _ (result_fair _ refl (one_few 8 _))

  disable_fair : Fair (came (settled_reply (disable_of s)) hs fs us)
  unfolding disable_of settled_reply replied
  disable_fair = settled_fair (not (in_ranges s)) _ (result_fair _ refl (one_few 8 _))

  -- ---- any call

  call_fair : (n : ℕ) (v : View) (call : Call) → Fair (call_of s n hs fs us v call)
  call_fair n v StartBringUp = start_fair
  call_fair n v (BringUpStep w) = step_fair w
  call_fair n v AllocateAddress = allot_fair
  call_fair n v (OpenEndpoint x) = open_fair n x
  call_fair n v (Close k) = close_fair n k
  call_fair n v (SetAddress k a) = address_fair n k a
  call_fair n v (SetPacketSize k size) = packet_fair n k size
  call_fair n v (Submit k t readings) = submit_fair n readings k t
  call_fair n v (Writeback place token) = writeback_fair n place token
  call_fair n v (Cancel k id readings) = cancel_fair n readings k id
  call_fair n v (Collect k id readings) = collect_fair n readings k id v
  call_fair n v (Acknowledge x) = acknowledge_fair x
  call_fair n v (Drain w) = drain_fair w
  call_fair n v Rearm = rearm_fair
  call_fair n v Enable = enable_fair
  call_fair n v Disable = disable_fair
  call_fair n v (ClearHalt k) = clear_fair k

  pub decided_fair : (n : ℕ) (v : View) (call : Call) → Fair (decide_of s n hs fs us v call)
  unfolding decide_of
  decided_fair n v call = by (rows_are_fit s.settings n (length hs) (length fs) (length us))
    where
      by : (b : Bool) → Fair (fitting b (call_of s n hs fs us v call) (came (refused_reply s InvalidParameter) hs fs us))
      by true = call_fair n v call
      by false = refused_fair InvalidParameter refl
