-- Every call asks what 01 lists, in 01's order.
use Rattle.std.specs.Prelude.{Err, Ok, Result}
use Prim.Native.Nat.{ℕ, ◌+◌}
use mathlib.Core.Bool.{Bool, true, false, not, ◌&&◌, cond}
use mathlib.Core.List.{List, [], ◌∷◌, ◌++◌}
use mathlib.Core.Path.{◌≡◌, refl, sym, ap, ◌∙◌}
use borrow.Author.Tests.{not-false}
use lib.Dec.{eqb, ltb}
use lib.ListN.{length}
use Rattle.register.specs.Bits.{any_of, only_bits}
use Rattle.pool.specs.declared.chain.View.{View}
use Rattle.pool.specs.Chains.{stands_active}
use Rattle.common.proofs.TestLaws.{false_true}
use Rattle.state.specs.Ranges.{in_ranges}
use Rattle.state.specs.Plain.{Ehci}
use Rattle.pipe.specs.Endpoints.{endpoint_at}
use Rattle.pipe.specs.declared.endpoints.Endpoint.{Endpoint}
use Rattle.pipe.specs.declared.endpoints.Pipe.{Pipe}
use Rattle.pipe.specs.declared.endpoints.Request.{Request}
use Rattle.pipe.specs.declared.endpoints.Endpoint.TheVariants.{Closed, Idle, Linked, Unlinking}
use Rattle.common.specs.Answers.{Check, Verdict, first, or_else, passed, refused, settle}
use Rattle.common.specs.declared.answer.Refusal.{Refusal}
use Rattle.common.specs.declared.answer.Refusal.TheVariants.{InvalidParameter, SlotLimitReached, InvalidEndpoint, QueueFull, NotSupported, NoMemory, Timeout, NotReady}
use Rattle.common.proofs.CheckLaws.{let_pass, settled_by, verdicts_apart}
use Rattle.opening.specs.Opening.{rows_are_fit}
use Rattle.controller.specs.Address.{allot_of}
use Rattle.controller.specs.Lent.{accepts_of, lengths}
use Rattle.controller.specs.Plain.{Lengths}
use Rattle.controller.specs.Readers.{has_endpoint, holds_request, is_opened, is_uncollected}
use Rattle.schedule.specs.Links.{ended_overlay}
use Rattle.controller.specs.declared.lent.Readings.{Readings}
use Rattle.endpoint.specs.Calls.{clear_checks, clear_halt_of, close_of, open_checks, open_endpoint_of, set_address_of, set_packet_size_of, slot_checks}
use Rattle.request.specs.Submit.{accepted_with, refused_submit, settled_submit, submit_of}
use Rattle.request.specs.Writeback.{refused_writeback, writeback_of}
use Rattle.request.specs.declared.judge.TransferRequest.{TransferRequest}
use Rattle.collection.specs.Calls.{cancel_at, cancel_checks, cancel_of, collect_at, collect_checks, collect_of, crowded, end_if, ended, finish_of, gathered, keeping, linked_of, marked, pending_left, unlinking_of, with_frames}
use Rattle.collection.specs.Answers.{outcome_of, pending_collect}
use Rattle.collection.specs.Unlinks.{passed_boundary, unlink_of, waiting_of}
use Rattle.bring_up.specs.BringUp.{again_of, any_uncollected, onward_of, ready, register_of, stage_of, start_of, step_of}
use Rattle.bring_up.specs.declared.stage.Stage.{Stage}
use Rattle.interrupt.specs.Plain.{Settled}
use Rattle.interrupt.specs.Interrupts.{acknowledge_of, counted_of, disable_of, drain_if, drain_of, enable_of, heard_if, rearm_if, rearm_of, settled_or, cleared_of}
use Rattle.ehci.specs.declared.call.Call.{Call}
use Rattle.ehci.specs.declared.call.Call.TheVariants.{StartBringUp, BringUpStep, AllocateAddress, OpenEndpoint, Close, SetAddress, SetPacketSize, Submit, Writeback, Cancel, Collect, Acknowledge, Drain, Rearm, Enable, Disable, ClearHalt}
use Rattle.ehci.specs.declared.call.EndpointFields.{EndpointFields}
use Rattle.ehci.specs.declared.call.InterruptReadings.{InterruptReadings}
use Rattle.ehci.specs.declared.reply.Answered.TheVariants.{Done, Pending, Cancelled, Failed}
use Rattle.ehci.specs.Decides.{acknowledge_decided, acknowledge_reply, address_decided, allot_decided, allot_reply, call_of, cancel_came, cancel_decided, change_came, clear_decided, close_decided, collect_came, collect_decided, decide_of, drain_decided, drain_reply, open_came, open_decided, packet_decided, submit_came, submit_decided, writeback_decided, written_reply}
use Rattle.ehci.specs.Door.{apply_of}
use Rattle.ehci.specs.Replies.{answered_number, brought_reply, changed_reply, collected_answer, refused_reply, replied, settled_reply, simply}
use Rattle.promises.specs.Runs.{Everywhere, World, core, moment}
use Rattle.promises.specs.Opened.{verdict_number}
use Rattle.promises.specs.Checks.{InOrder, checks_of, finished, further_checks, late, lost, lost_at, refusal_in}
use Rattle.promises.proofs.effects.EffectDoor.{seen}
use Rattle.ehci.specs.declared.reply.Answered.{Answered}

-- what an answer says of the checks, and that its number says it
abbrev verdict_in : Result Answered Refusal → Verdict
verdict_in (Ok (Done given)) = passed
verdict_in (Ok Pending) = passed
verdict_in (Ok Cancelled) = passed
verdict_in (Ok (Failed token)) = passed
verdict_in (Err r) = refused r

number_says : (a : (Result Answered Refusal)) → refusal_in (answered_number a) ≡ verdict_number (verdict_in a)
number_says (Ok (Done given)) = refl
number_says (Ok Pending) = refl
number_says (Ok Cancelled) = refl
number_says (Ok (Failed token)) = refl
number_says (Err InvalidParameter) = refl
number_says (Err SlotLimitReached) = refl
number_says (Err InvalidEndpoint) = refl
number_says (Err QueueFull) = refl
number_says (Err NotSupported) = refl
number_says (Err NoMemory) = refl
number_says (Err Timeout) = refl
number_says (Err NotReady) = refl

-- checks, then settle: the answer is the first that holds, and none where what is new says none
settle_says : {A : Type 0} (says : A → Verdict) (v : Verdict) (old : Refusal → A) (new : A) → ((r : Refusal) → says (old r) ≡ refused r) → says new ≡ passed
    → says (settle v old new) ≡ v
settle_says says v old new no_old is-new = settled_by v old new (λ x. says x ≡ v) (λ r e. no_old r ∙ sym e) (λ e. is-new ∙ sym e)

-- and where what is new is asked more
pub first_goes : (cs ds : List Check) → first cs ≡ passed → first (cs ++ ds) ≡ first ds
first_goes [] ds e = refl
first_goes (c ∷ cs) ds e =
    let p = let_pass c.0 c.1 (first cs) e in
    rw p.0 (first_goes cs ds p.1)

first_stops : (cs ds : List Check) (r : Refusal) → first cs ≡ refused r → first (cs ++ ds) ≡ refused r
first_stops [] ds r e = absurd (verdicts_apart r (sym e))
first_stops (c ∷ cs) ds r e = by c.0 refl e (λ q. first_stops cs ds r q)
  where
    by : (b : Bool) → c.0 ≡ b → or_else c.0 c.1 (first cs) ≡ refused r → (first cs ≡ refused r → first (cs ++ ds) ≡ refused r)
        → or_else c.0 c.1 (first (cs ++ ds)) ≡ refused r
    by true q f rest = rw q (rw q at f)
    by false q f rest = rw q (rest (rw q at f))

settle_then : {A : Type 0} (says : A → Verdict) (cs ds : List Check) (old : Refusal → A) (new : A) → ((r : Refusal) → says (old r) ≡ refused r)
    → (first cs ≡ passed → says new ≡ first ds) → says (settle (first cs) old new) ≡ first (cs ++ ds)
settle_then says cs ds old new no_old is-new = by (first cs) refl
  where
    by : (v : Verdict) → first cs ≡ v → says (settle (first cs) old new) ≡ first (cs ++ ds)
    by passed e = rw e (is-new e ∙ sym (first_goes cs ds e))
    by (refused r) e = rw e (no_old r ∙ sym (first_stops cs ds r e))

module _ (w : World) where
  abbrev s : Ehci
  s = w.state

  abbrev fit : Bool
  fit = rows_are_fit s.settings (length w.rows.pool) (length w.rows.heads) (length w.rows.frames) (length w.rows.setups)

  abbrev says : Call → Verdict
  says c = verdict_in (call_of s (length w.rows.pool) w.rows.heads w.rows.frames w.rows.setups (seen w c) c).decided.reply.answer

  -- the rows are asked first, then the ranges
  by_ranges : (c : Call) → says c ≡ first ((not (in_ranges s), InvalidParameter) ∷ further_checks (moment core w) c) → verdict_in (core w c).reply.answer ≡ first (checks_of (moment core w) c)
  unfolding apply_of decide_of refused_reply replied accepts_of
  by_ranges c h = by (further_checks (moment core w) c) h fit refl
    where
      by : (ds : List Check) → says c ≡ first ((not (in_ranges s), InvalidParameter) ∷ ds)
          → (b : Bool) → fit ≡ b → verdict_in (core w c).reply.answer ≡ first ((not (moment core w).fits, InvalidParameter) ∷ ds)
      by ds q true e = rw e q
      by ds q false e = rw e

  by_fit : (c : Call) → says c ≡ first (checks_of (moment core w) c) → verdict_in (core w c).reply.answer ≡ first (checks_of (moment core w) c)
  unfolding apply_of decide_of refused_reply replied accepts_of
  by_fit c h = by fit refl h
    where
      by : (b : Bool) → fit ≡ b → says c ≡ first (checks_of (moment core w) c) → verdict_in (core w c).reply.answer ≡ first (checks_of (moment core w) c)
      by true e q = rw e (rw e at q)
      by false e q = rw e

  start_order : verdict_in (core w StartBringUp).reply.answer ≡ first (checks_of (moment core w) StartBringUp)
  unfolding start_of brought_reply replied
  start_order =
      by_ranges StartBringUp
      (settle_says (λ b. verdict_in (brought_reply b).reply.answer) (first ((not (in_ranges s), InvalidParameter) ∷ (any_uncollected 0 32 s, QueueFull) ∷ [])) _ _
      (λ r. refl) refl)

  again_says : (register : ℕ) → verdict_in (brought_reply (again_of s register)).reply.answer ≡ first ((not (ltb (s.waited + 1) s.settings.wait), Timeout) ∷ [])
  unfolding again_of brought_reply replied
  again_says register = by (ltb (s.waited + 1) s.settings.wait) refl
    where
      by : (b : Bool) → ltb (s.waited + 1) s.settings.wait ≡ b
          → verdict_in (brought_reply (again_of s register)).reply.answer ≡ first ((not (ltb (s.waited + 1) s.settings.wait), Timeout) ∷ [])
      by true e = rw e
      by false e = rw e

  stage_says : (stage : Stage) (v : ℕ) (b : Bool)
      → verdict_in (brought_reply (cond b (onward_of s stage v) (again_of s (register_of stage)))).reply.answer
      ≡ first (((not b && not (ltb (s.waited + 1) s.settings.wait)), Timeout) ∷ [])
  unfolding onward_of brought_reply replied
  stage_says stage v true = refl
  stage_says stage v false = again_says (register_of stage)

  step_order : (v : ℕ) → verdict_in (core w (BringUpStep v)).reply.answer ≡ first (checks_of (moment core w) (BringUpStep v))
  unfolding step_of brought_reply replied
  step_order v =
      by_ranges (BringUpStep v)
      (settle_then (λ b. verdict_in (brought_reply b).reply.answer) ((not (in_ranges s), InvalidParameter) ∷ (eqb s.step 0, InvalidParameter) ∷ [])
      ((late s v, Timeout) ∷ []) _ _ (λ r. refl) (λ e. stage_says (stage_of s.step) v (ready (stage_of s.step) v)))

  allot_order : verdict_in (core w AllocateAddress).reply.answer ≡ first (checks_of (moment core w) AllocateAddress)
  unfolding allot_of allot_decided replied
  allot_order =
      by_ranges AllocateAddress
      (settle_says (λ b. verdict_in (allot_reply b).reply.answer) (first ((not (in_ranges s), InvalidParameter) ∷ (ltb 127 s.address, SlotLimitReached) ∷ [])) _ _
      (λ r. refl) refl)

  open_order : (x : EndpointFields) → verdict_in (core w (OpenEndpoint x)).reply.answer ≡ first (checks_of (moment core w) (OpenEndpoint x))
  unfolding open_decided open_endpoint_of open_checks replied
  open_order x =
      by_fit (OpenEndpoint x)
      (settle_says (λ o. verdict_in (open_came o).decided.reply.answer) (first (checks_of (moment core w) (OpenEndpoint x))) _ _ (λ r. refl) refl)

  close_order : (k : ℕ) → verdict_in (core w (Close k)).reply.answer ≡ first (checks_of (moment core w) (Close k))
  unfolding close_decided close_of slot_checks changed_reply replied
  close_order k =
      by_fit (Close k) (settle_says (λ o. verdict_in (change_came o).decided.reply.answer) (first (checks_of (moment core w) (Close k))) _ _ (λ r. refl) refl)

  address_order : (k a : ℕ) → verdict_in (core w (SetAddress k a)).reply.answer ≡ first (checks_of (moment core w) (SetAddress k a))
  unfolding address_decided set_address_of slot_checks changed_reply replied
  address_order k a =
      by_fit (SetAddress k a)
      (settle_says (λ o. verdict_in (change_came o).decided.reply.answer) (first (checks_of (moment core w) (SetAddress k a))) _ _ (λ r. refl) refl)

  size_order : (k size : ℕ) → verdict_in (core w (SetPacketSize k size)).reply.answer ≡ first (checks_of (moment core w) (SetPacketSize k size))
  unfolding packet_decided set_packet_size_of slot_checks changed_reply replied
  size_order k size =
      by_fit (SetPacketSize k size)
      (settle_says (λ o. verdict_in (change_came o).decided.reply.answer) (first (checks_of (moment core w) (SetPacketSize k size))) _ _ (λ r. refl) refl)

  submit_order_lem : (k : ℕ) (t : TransferRequest) (rd : Readings) → verdict_in (core w (Submit k t rd)).reply.answer ≡ first (checks_of (moment core w) (Submit k t rd))
  unfolding submit_decided submit_of settled_submit accepted_with refused_submit
  submit_order_lem k t rd =
      by_fit (Submit k t rd)
      (settle_says (λ o. verdict_in (submit_came o).decided.reply.answer) (first (checks_of (moment core w) (Submit k t rd))) _ _ (λ r. refl) refl)

  writeback_order : (place token : ℕ) → verdict_in (core w (Writeback place token)).reply.answer ≡ first (checks_of (moment core w) (Writeback place token))
  unfolding writeback_decided writeback_of refused_writeback
  writeback_order place token =
      by_fit (Writeback place token)
      (settle_says (λ o. verdict_in (written_reply o).reply.answer) (first (checks_of (moment core w) (Writeback place token))) _ _ (λ r. refl) refl)

  -- a head that is asked to leave its schedule
  unlink_says : (rd : Readings) (k : ℕ) (p : Pipe) (r : Request)
      → verdict_in (cancel_came (unlink_of s w.rows.heads w.rows.frames rd k p r)).decided.reply.answer ≡ first ((lost (moment core w) k, InvalidEndpoint) ∷ [])
  unfolding unlink_of waiting_of replied
  unlink_says rd k p r =
      settle_says (λ l. verdict_in (cancel_came l).decided.reply.answer) (first ((lost (moment core w) k, InvalidEndpoint) ∷ [])) _ _ (λ r. refl) refl

  cancel_says : (k : ℕ) (rd : Readings) (x : Endpoint) → holds_request x ≡ true
      → verdict_in (cancel_came (cancel_at x s w.rows.heads w.rows.frames rd k)).decided.reply.answer ≡ first ((lost_at x (lost (moment core w) k), InvalidEndpoint) ∷ [])
  unfolding replied
  cancel_says k rd Closed h = absurd (false_true h)
  cancel_says k rd (Idle p) h = absurd (false_true h)
  cancel_says k rd (Linked p r) h = unlink_says rd k p (marked r)
  cancel_says k rd (Unlinking p r b) h = refl

  cancel_order : (k id : ℕ) (rd : Readings) → verdict_in (core w (Cancel k id rd)).reply.answer ≡ first (checks_of (moment core w) (Cancel k id rd))
  unfolding cancel_decided cancel_of replied
  cancel_order k id rd =
      by_fit (Cancel k id rd)
      (settle_then (λ l. verdict_in (cancel_came l).decided.reply.answer) (cancel_checks s lent k id) ((lost_at (endpoint_at s k) (lost (moment core w) k), InvalidEndpoint) ∷ []) _ _
      (λ r. refl) (λ e. cancel_says k rd (endpoint_at s k) (not-false (is_uncollected s k) (held e))))
    where
      lent : Lengths
      lent = lengths (length w.rows.pool) (length w.rows.heads) (length w.rows.frames) (length w.rows.setups)

      held : first (cancel_checks s lent k id) ≡ passed → not (is_uncollected s k) ≡ false
      held e =
          let a = let_pass (not (accepts_of s lent)) InvalidParameter _ e in
          let b = let_pass (crowded s k) InvalidParameter _ a.1 in
          let c = let_pass (not (is_opened s k)) InvalidEndpoint _ b.1 in
          (let_pass (not (is_uncollected s k)) InvalidEndpoint _ c.1).0

  -- what a passing collect answers is no refusal
  outcome_says : (b : Bool) (v : View) → verdict_in (collected_answer (outcome_of b v)) ≡ passed
  unfolding outcome_of
  outcome_says true v = refl
  outcome_says false v = by (eqb v.failed 0) refl
    where
      by : (t : Bool) → eqb v.failed 0 ≡ t → verdict_in (collected_answer (outcome_of false v)) ≡ passed
      by true e = rw e
      by false e = rw e

  pending_says : (rd : Readings) (k : ℕ) (p : Pipe) (r : Request)
      → verdict_in (collect_came (pending_left (unlink_of s w.rows.heads w.rows.frames rd k p r))).decided.reply.answer ≡ first ((lost (moment core w) k, InvalidEndpoint) ∷ [])
  unfolding unlink_of waiting_of replied
  pending_says rd k p r =
      settle_says (λ l. verdict_in (collect_came (pending_left l)).decided.reply.answer) (first ((lost (moment core w) k, InvalidEndpoint) ∷ [])) _ _ (λ r. refl) refl

  linked_says : (rd : Readings) (k : ℕ) (p : Pipe) (r : Request) (b : Bool)
      → verdict_in (collect_came (cond b (gathered (pending_collect s) w.rows.heads w.rows.frames)
      (pending_left (unlink_of s w.rows.heads w.rows.frames rd k p r)))).decided.reply.answer
      ≡ first (((not b && lost (moment core w) k), InvalidEndpoint) ∷ [])
  unfolding replied
  linked_says rd k p r true = refl
  linked_says rd k p r false = pending_says rd k p r

  unlinking_says : (v : View) (k : ℕ) (p : Pipe) (r : Request) (b : Bool)
      → verdict_in (collect_came (with_frames (end_if b (ended (finish_of s v k p r) (ended_overlay w.rows.heads k)) (ended (pending_collect s) w.rows.heads)) w.rows.frames)
      ).decided.reply.answer ≡ passed
  unfolding finish_of replied
  unlinking_says v k p r true = outcome_says r.cancelled v
  unlinking_says v k p r false = refl

  collect_says : (k : ℕ) (rd : Readings) (v : View) (x : Endpoint) → has_endpoint x ≡ true
      → verdict_in (collect_came (collect_at x s w.rows.heads w.rows.frames rd v k)).decided.reply.answer
      ≡ first ((lost_at x (not (stands_active v.stage) && lost (moment core w) k), InvalidEndpoint) ∷ [])
  unfolding replied linked_of unlinking_of
  collect_says k rd v Closed h = absurd (false_true h)
  collect_says k rd v (Idle p) h = refl
  collect_says k rd v (Linked p r) h = linked_says rd k p r (stands_active v.stage)
  collect_says k rd v (Unlinking p r b) h = unlinking_says v k (keeping rd p) r (passed_boundary b rd.frame)

  collect_order : (k id : ℕ) (rd : Readings) → verdict_in (core w (Collect k id rd)).reply.answer ≡ first (checks_of (moment core w) (Collect k id rd))
  unfolding collect_decided collect_of replied
  collect_order k id rd =
      by_fit (Collect k id rd)
      (settle_then (λ g. verdict_in (collect_came g).decided.reply.answer) (collect_checks s lent k id)
      ((lost_at (endpoint_at s k) (finished (moment core w) (Collect k id rd) && lost (moment core w) k), InvalidEndpoint) ∷ []) _ _
      (λ r. refl) (λ e. collect_says k rd (seen w (Collect k id rd)) (endpoint_at s k) (not-false (is_opened s k) (opened e))))
    where
      lent : Lengths
      lent = lengths (length w.rows.pool) (length w.rows.heads) (length w.rows.frames) (length w.rows.setups)

      opened : first (collect_checks s lent k id) ≡ passed → not (is_opened s k) ≡ false
      opened e =
          let a = let_pass (not (accepts_of s lent)) InvalidParameter _ e in
          let b = let_pass (crowded s k) InvalidParameter _ a.1 in
          (let_pass (not (is_opened s k)) InvalidEndpoint _ b.1).0

  acknowledge_order : (x : InterruptReadings) → verdict_in (core w (Acknowledge x)).reply.answer ≡ first (checks_of (moment core w) (Acknowledge x))
  unfolding acknowledge_decided acknowledge_of replied
  acknowledge_order x =
      by_ranges (Acknowledge x)
      (settle_says (λ a. verdict_in (acknowledge_reply a).reply.answer) (first ((not (in_ranges s), InvalidParameter) ∷ [])) _ _ (λ r. refl)
      (heard (eqb (only_bits x.status 0x37) 0)))
    where
      heard : (b : Bool) → verdict_in (acknowledge_reply (heard_if b s (only_bits x.status 0x37) x.interrupts x.flag x.again)).reply.answer ≡ passed
      heard true = refl
      heard false = refl

  drain_order : (command : ℕ) → verdict_in (core w (Drain command)).reply.answer ≡ first (checks_of (moment core w) (Drain command))
  unfolding drain_decided drain_of replied cleared_of
  drain_order command =
      by_ranges (Drain command)
      (settle_says (λ d. verdict_in (drain_reply d).reply.answer) (first ((not (in_ranges s), InvalidParameter) ∷ [])) _ _ (λ r. refl)
      (drained (eqb s.pending 0) (any_of s.pending 4) refl (any_of s.pending 0x23) refl))
    where
      drained : (z a : Bool) → any_of s.pending 4 ≡ a → (b : Bool) → any_of s.pending 0x23 ≡ b
          → verdict_in (drain_reply (drain_if z s (counted_of s command) (cleared_of s.pending))).reply.answer ≡ passed
      drained true a p b q = refl
      drained false true p b q = rw p
      drained false false p true q = rw (p, q)
      drained false false p false q = rw (p, q)

  settled_says : (b : Bool) (new : Settled) → verdict_in (simply new.answer) ≡ passed
      → verdict_in (settled_reply (settled_or b s new)).reply.answer ≡ first ((b, InvalidParameter) ∷ [])
  unfolding settled_reply replied
  settled_says true new e = refl
  settled_says false new e = e

  rearm_says : (b : Bool) → verdict_in (simply (rearm_if b s).answer) ≡ passed
  rearm_says true = refl
  rearm_says false = refl

  rearm_order : verdict_in (core w Rearm).reply.answer ≡ first (checks_of (moment core w) Rearm)
  unfolding rearm_of
  rearm_order = by_ranges Rearm (settled_says (not (in_ranges s)) _ (rearm_says (eqb s.masked 0)))

  enable_order : verdict_in (core w Enable).reply.answer ≡ first (checks_of (moment core w) Enable)
  unfolding enable_of
  enable_order = by_ranges Enable (settled_says (not (in_ranges s)) _ refl)

  disable_order : verdict_in (core w Disable).reply.answer ≡ first (checks_of (moment core w) Disable)
  unfolding disable_of
  disable_order = by_ranges Disable (settled_says (not (in_ranges s)) _ refl)

  clear_order : (k : ℕ) → verdict_in (core w (ClearHalt k)).reply.answer ≡ first (checks_of (moment core w) (ClearHalt k))
  unfolding clear_decided clear_halt_of changed_reply replied
  clear_order k = by_ranges (ClearHalt k) (settle_says (λ o. verdict_in (changed_reply o).reply.answer) (first (clear_checks s k)) _ _ (λ r. refl) refl)

in_turn : (w : World) (c : Call) → verdict_in (core w c).reply.answer ≡ first (checks_of (moment core w) c)
in_turn w StartBringUp = start_order w
in_turn w (BringUpStep v) = step_order w v
in_turn w AllocateAddress = allot_order w
in_turn w (OpenEndpoint x) = open_order w x
in_turn w (Close k) = close_order w k
in_turn w (SetAddress k a) = address_order w k a
in_turn w (SetPacketSize k size) = size_order w k size
in_turn w (Submit k t readings) = submit_order_lem w k t readings
in_turn w (Writeback place token) = writeback_order w place token
in_turn w (Cancel k id readings) = cancel_order w k id readings
in_turn w (Collect k id readings) = collect_order w k id readings
in_turn w (Acknowledge x) = acknowledge_order w x
in_turn w (Drain command) = drain_order w command
in_turn w Rearm = rearm_order w
in_turn w Enable = enable_order w
in_turn w Disable = disable_order w
in_turn w (ClearHalt k) = clear_order w k

pub in_order : Everywhere InOrder core
in_order w t c = number_says (core w c).reply.answer ∙ ap verdict_number (in_turn w c)
