-- Document 01, "Order of checks", call by call: what is asked, in its order, and what each answers. The first that holds answers.
use Rattle.pool.specs.Chains.{stands_active}
use Rattle.std.specs.Prelude.{ℕ, ◌+◌, Bool, false, not, cond, ◌&&◌, List, [], ◌∷◌, ◌≡◌, eqb, leb, ltb, length}
use Rattle.state.specs.Slots.{slot_at}
use Rattle.state.specs.Plain.{Ehci}
use Rattle.pipe.specs.Endpoints.{endpoint_at, kind_number}
use Rattle.common.specs.Kinds.{is_isochronous}
use Rattle.pipe.specs.declared.endpoints.Endpoint.{Endpoint}
use Rattle.pipe.specs.declared.endpoints.Endpoint.TheVariants.{Closed, Idle, Linked, Unlinking}
use Rattle.common.specs.Answers.{Check, first}
use Rattle.common.specs.declared.answer.Refusal.TheVariants.{InvalidParameter, SlotLimitReached, InvalidEndpoint, QueueFull, NotSupported, Timeout}
use Rattle.controller.specs.Readers.{free_count, is_opened, is_uncollected}
use Rattle.schedule.specs.Links.{detach_of}
use Rattle.endpoint.specs.Calls.{fields_good, lowest_slot, raised_good}
use Rattle.request.specs.Submit.{need_of_request, ranges_good}
use Rattle.request.specs.Writeback.{in_request}
use Rattle.collection.specs.Calls.{crowded, wrong_id}
use Rattle.collection.specs.Unlinks.{is_missing}
use Rattle.bring_up.specs.BringUp.{any_uncollected, ready, stage_of}
use Rattle.ehci.specs.declared.call.Call.{Call}
use Rattle.ehci.specs.declared.call.Call.TheVariants.{StartBringUp, BringUpStep, AllocateAddress, OpenEndpoint, Close, SetAddress, SetPacketSize, Submit, Writeback, Cancel, Collect, Acknowledge, Drain, Rearm, Enable, Disable, ClearHalt}
use Rattle.ehci.specs.Decides.{asks_of}
use Rattle.ehci.specs.Door.{seen_by}
use Rattle.ehci.specs.Replies.{answered_number}
use Rattle.promises.specs.Runs.{Moment}
use Rattle.promises.specs.SubmitOrder.{submit_order}
use Rattle.promises.specs.Opened.{verdict_number}

-- "the W-th read of a wait is not ready"
abbrev pub late : Ehci → ℕ → Bool
late s v = not (ready (stage_of s.step) v) && not (ltb (s.waited + 1) s.settings.wait)

-- no linked head leads to the slot's: only where a lent link was altered
abbrev pub lost : Moment → ℕ → Bool
lost w k = is_missing (detach_of w.view w.rows.heads w.rows.frames k).predecessor

abbrev pub lost_at : Endpoint → Bool → Bool
lost_at Closed b = false
lost_at (Idle p) b = false
lost_at (Linked p r) b = b
lost_at (Unlinking p r u) b = false

-- a collect unlinks where no descriptor is active before an error
abbrev pub finished : Moment → Call → Bool
finished w c = not (stands_active (seen_by (asks_of w.view (length w.rows.pool) c) w.rows.pool).stage)

abbrev pub further_checks : Moment → Call → List Check
-- "Starting bring-up: 4."
further_checks w StartBringUp = (any_uncollected 0 32 w.view, QueueFull) ∷ []
-- "a step with none begun (or after 7): 1"; 7
further_checks w (BringUpStep v) = (eqb w.view.step 0, InvalidParameter) ∷ (late w.view v, Timeout) ∷ []
-- "address after 127"
further_checks w AllocateAddress = (ltb 127 w.view.address, SlotLimitReached) ∷ []
-- "Open endpoint: 5, then address .. (1), then 2"
further_checks w (OpenEndpoint x) =
    (is_isochronous x.kind, NotSupported)
    ∷ (not (fields_good w.view.settings.limit x.kind x.address x.number x.packet), InvalidParameter)
    ∷ (leb w.view.settings.endpoints (lowest_slot w.view), SlotLimitReached)
    ∷ []
-- "Close, set address (0..=127), set packet size: 3, 4, 1."
further_checks w (Close k) = (not (is_opened w.view k), InvalidEndpoint) ∷ (is_uncollected w.view k, QueueFull) ∷ []
further_checks w (SetAddress k a) =
    (not (is_opened w.view k), InvalidEndpoint)
    ∷ (is_uncollected w.view k, QueueFull)
    ∷ (not (leb a 127), InvalidParameter)
    ∷ []
further_checks w (SetPacketSize k size) =
    (not (is_opened w.view k), InvalidEndpoint)
    ∷ (is_uncollected w.view k, QueueFull)
    ∷ (not (raised_good w.view k size), InvalidParameter)
    ∷ []
further_checks w (Submit k t readings) =
    submit_order (not (is_opened w.view k)) (eqb w.view.running 0) (is_uncollected w.view k) (is_isochronous t.kind)
    (not (eqb (kind_number t.kind) (slot_at w.view k).kind)) (not (ranges_good t))
    (ltb (free_count w.view) (need_of_request w.view k t))
-- "Writeback (place, token): 1 unless an uncollected request has that descriptor"
further_checks w (Writeback place token) = (not (in_request w.view place), InvalidParameter) ∷ []
-- "Cancel: 3 if not open, nothing uncollected, or wrong id." What stands before and after is met in no run (docs/DECISIONS.md)
further_checks w (Cancel k id readings) =
    (crowded w.view k, InvalidParameter)
    ∷ (not (is_opened w.view k), InvalidEndpoint)
    ∷ (not (is_uncollected w.view k), InvalidEndpoint)
    ∷ (wrong_id w.view k id, InvalidEndpoint)
    ∷ (lost_at (endpoint_at w.view k) (lost w k), InvalidEndpoint)
    ∷ []
-- "Collect: 3 if not open; 9 if nothing uncollected; 3 on a wrong id." Likewise
further_checks w (Collect k id readings) =
    (crowded w.view k, InvalidParameter)
    ∷ (not (is_opened w.view k), InvalidEndpoint)
    ∷ (wrong_id w.view k id, InvalidEndpoint)
    ∷ (lost_at (endpoint_at w.view k) (finished w (Collect k id readings) && lost w k), InvalidEndpoint)
    ∷ []
further_checks w (Acknowledge x) = []
further_checks w (Drain command) = []
further_checks w Rearm = []
further_checks w Enable = []
further_checks w Disable = []
-- 02 order 6: "clear-halt answers 3, then 4"
further_checks w (ClearHalt k) = (not (is_opened w.view k), InvalidEndpoint) ∷ (is_uncollected w.view k, QueueFull) ∷ []

-- "First: a lent row of a length other than opening fixed, or a state outside its ranges, 1."
abbrev pub checks_of : Moment → Call → List Check
checks_of w c = (not w.fits, InvalidParameter) ∷ further_checks w c

-- "0, 9, 10 and 11 are results; the rest are refusals": the number of the refusal, 0 for a result
abbrev pub refusal_in : ℕ → ℕ
refusal_in n = cond (leb 9 n) 0 n

-- for every world and call, and not only for those of a run
abbrev pub InOrder : Moment → Type 0
InOrder w = (c : Call) → refusal_in (answered_number (w.does c).reply.answer) ≡ verdict_number (first (checks_of w c))
