-- A collect of a linked request answers 9, and unlinks it if it is finished.
use Rattle.std.specs.Prelude.{Ok}
use Prim.Native.Nat.{ℕ, suc, ◌+◌, ◌≤◌, ◌<◌}
use mathlib.Core.Path.{◌≡◌, refl, sym, ap, ◌∙◌}
use mathlib.Core.Bool.{Bool, true, false, not, cond, ◌&&◌, ◌||◌}
use mathlib.Core.List.{List, [], ◌∷◌}
use native.Mathlib.Decide.{ℕ_discrete as dec_eq}
use native.Mathlib.Omega.{arith}
use borrow.Author.Tests.{eq-eqb, eqb-false, eqb-true, le-leb, lt-ltb}
use lib.ListN.{get_or, length, take}
use Rattle.pool.specs.declared.chain.Standing.TheVariants.{Active, Erring}
use Rattle.pool.specs.declared.chain.View.{View}
use Rattle.pool.proofs.StandingLaws.{waits_active, waits_other}
use Rattle.settings.specs.declared.settings.Settings.{Settings}
use Rattle.settings.specs.Settings.{pool_length}
use Rattle.pipe.specs.Endpoints.{endpoint_at, limit_of}
use Rattle.common.specs.Kinds.{is_interrupt}
use Rattle.pipe.specs.declared.endpoints.Endpoint.TheVariants.{Linked}
use Rattle.pipe.specs.declared.endpoints.Pipe.{Pipe}
use Rattle.pipe.specs.declared.endpoints.Request.{Request}
use Rattle.controller.specs.declared.lent.Readings.{Readings}
use Rattle.schedule.specs.Links.{detach_of}
use Rattle.collection.specs.Calls.{collect_of, Gathered, gathered}
use Rattle.collection.specs.Unlinks.{unlink_of, waiting_of}
use Rattle.collection.proofs.CallLaws.{collect_active, collect_unlinks}
use Rattle.ehci.specs.declared.call.Call.TheVariants.{Collect}
use Rattle.ehci.specs.declared.reply.Answered.TheVariants.{Pending}
use Rattle.ehci.specs.Decides.{asks_of, collect_decided, decide_of, with_setups, collect_came}
use Rattle.ehci.specs.Door.{Applied, apply_of, carried_out, seen_by}
use Rattle.ehci.specs.Replies.{replied}
use Rattle.promises.specs.Runs.{History, World, core, turn_of}
use Rattle.promises.specs.Events.{Other, Parts, Unlinks, event}
use Rattle.promises.specs.Chains.{is_finished}
use Rattle.promises.proofs.invariants.Sound.{Sound, slot_low, is_let_in, rows_fit}
use Rattle.promises.proofs.invariants.ChainInv.{Chained}
use Rattle.promises.proofs.invariants.ChainEvents.{unlink_event}
use lib.Dec.{eqb}
use Rattle.common.specs.declared.kinds.EndpointType.{EndpointType}
use Rattle.descriptor.specs.declared.qtd.QueueTransferDescriptor.{QueueTransferDescriptor}
use Rattle.pool.specs.Chains.{Seen, blank, is_active, is_erring, is_short, read_of, seen_from, standing_of, view_of, stands_active}
use Rattle.pool.specs.Transfers.{ends_short}
use Rattle.ehci.specs.declared.call.Call.{Call}
use Rattle.collection.specs.declared.collected.Collected.TheVariants as C
use Rattle.pool.specs.Places.{places_from}
use Rattle.pool.proofs.PlaceLaws.{list_packed}
use Rattle.collection.specs.Asks.{ask_of, askable, request_ask}
use Rattle.collection.specs.Answers.{pending_collect}
use Rattle.promises.proofs.theorems.ChainCancels.{no_detach_fails}
use Rattle.promises.proofs.effects.EffectRequests.{none_leaves, collect_unlinked}

-- ---- finished, as its descriptors say

finished_stage : (kind : EndpointType) (n limit i : ℕ) (short : Bool) (ps : List ℕ) (pool : List QueueTransferDescriptor)
    → stands_active (standing_of (read_of short (seen_from kind n limit i ps pool))) ≡ not (is_finished short pool ps)
unfolding seen_from standing_of read_of
finished_stage kind n limit i short [] pool = refl
finished_stage kind n limit i short (p ∷ ps) pool =
    by (is_active (get_or pool p blank).token) (is_erring (get_or pool p blank).token) (short && is_short (get_or pool p blank).token) (finished_stage kind n limit (suc i) short ps pool)
  where
    more : List Seen
    more = read_of short (seen_from kind n limit (suc i) ps pool)

    by : (a e b : Bool) → stands_active (standing_of more) ≡ not (is_finished short pool ps)
        → stands_active (cond a Active (cond e Erring (standing_of (cond b [] more)))) ≡ not (cond a false (cond (e || b) true (is_finished short pool ps)))
    by true e b rest = refl
    by false true b rest = refl
    by false false true rest = refl
    by false false false rest = rest

-- of one descriptor the rule says nothing new
pub finished_alike : (pool : List QueueTransferDescriptor) (ps : List ℕ) → length ps ≤ 1 → (b c : Bool) → is_finished b pool ps ≡ is_finished c pool ps
finished_alike pool [] h b c = refl
finished_alike pool (p ∷ []) h b c = by (is_active token) (is_erring token || (b && is_short token)) (is_erring token || (c && is_short token))
  where
    token : ℕ
    token = (get_or pool p blank).token

    by : (a x y : Bool) → cond a false (cond x true true) ≡ cond a false (cond y true true)
    by true x y = refl
    by false true true = refl
    by false true false = refl
    by false false true = refl
    by false false false = refl
finished_alike pool (p ∷ q ∷ ps) h b c = absurd (omega (arith, h))

module _ (s : Settings) (h : History) (w : World) (sound : Sound s w) (x : Chained s h w) (k : ℕ) (rd : Readings) (p : Pipe) (r : Request)
    (e : endpoint_at w.state k ≡ Linked p r) (roomy : w.state.unanswered < 32) where
  abbrev call : Call
  call = Collect k r.id rd

  abbrev view : View
  view = seen_by (asks_of w.state (length w.rows.pool) call) w.rows.pool

  abbrev gathers : Gathered
  gathers = collect_of w.state (length w.rows.pool) w.rows.heads w.rows.frames (length w.rows.setups) rd view k r.id

  collect_comes : core w call ≡ carried_out (with_setups (collect_came gathers) w.rows.setups) w.rows.pool
  unfolding apply_of decide_of collect_decided
  collect_comes = rw (rows_fit s w sound)

  -- not finished: 9, and nothing changes
  unfinished_is : view.stage ≡ Active → gathers ≡ gathered (pending_collect w.state) w.rows.heads w.rows.frames
  unfinished_is q =
      collect_active w.state (length w.rows.pool) w.rows.heads w.rows.frames (length w.rows.setups) rd view k p r
      (is_let_in s w sound) e roomy q

  abbrev unlinked : Gathered
  unlinked =
      record {
        came = record { answer = Ok C.Pending; state = (waiting_of w.state rd k p r).state; writes = (waiting_of w.state rd k p r).writes };
        rows = (detach_of w.state w.rows.heads w.rows.frames k).rows;
      }

  finished_is : (view.stage ≡ Active → ⊥) → gathers ≡ unlinked
  unfolding unlink_of waiting_of
  finished_is n =
      collect_unlinks w.state (length w.rows.pool) w.rows.heads w.rows.frames (length w.rows.setups) rd view k p r
      (is_let_in s w sound) e roomy n
      ∙ rw (no_detach_fails s h w sound x k p r e)

  comes_as : (g : Gathered) → gathers ≡ g → core w call ≡ carried_out (with_setups (collect_came g) w.rows.setups) w.rows.pool
  comes_as g q = collect_comes ∙ ap (λ (z : Gathered). carried_out (with_setups (collect_came z) w.rows.setups) w.rows.pool) q

  unfinished_event : view.stage ≡ Active → event s (turn_of w.rows call (core w call)) ≡ Other
  unfolding replied
  unfinished_event q =
      ap (λ (z : Applied). event s (turn_of w.rows call z)) (comes_as (gathered (pending_collect w.state) w.rows.heads w.rows.frames) (unfinished_is q))
      ∙ none_leaves s k rd.frame w.rows _ refl refl

  finished_event : (view.stage ≡ Active → ⊥) → event s (turn_of w.rows call (core w call)) ≡ cond (is_interrupt p.kind) (Parts k rd.frame) (Unlinks k)
  unfolding collect_unlinked
  finished_event n =
      ap (λ (z : Applied). event s (turn_of w.rows call z)) (comes_as unlinked (finished_is n))
      ∙ unlink_event s h w call _ sound x (collect_unlinked w k r.id rd p r e roomy (no_detach_fails s h w sound x k p r e))

  pub collect_waits : (core w call).reply.answer ≡ (Ok Pending)
  unfolding replied
  collect_waits = by (stands_active view.stage) refl
    where
      by : (b : Bool) → stands_active view.stage ≡ b → (core w call).reply.answer ≡ (Ok Pending)
      by true q =
          ap (λ (z : Applied). z.reply.answer) (comes_as (gathered (pending_collect w.state) w.rows.heads w.rows.frames) (unfinished_is (waits_active view.stage q)))
      by false q = ap (λ (z : Applied). z.reply.answer) (comes_as unlinked (finished_is (waits_other view.stage q)))

  -- what it looks at is what its places say
  asks : askable w.state.settings (length w.rows.pool) k ≡ true
  unfolding askable
  asks =
      let good = sound.ranges.good in
      let same : pool_length w.state.settings ≡ length w.rows.pool =
      ap pool_length sound.settings_are ∙ sym sound.pool_fits_lem in
      rw (
        le-leb w.state.settings.descriptors 256 good.descriptors_most,
        eq-eqb (pool_length w.state.settings) (length w.rows.pool) same,
        le-leb w.state.settings.limit 16384 good.limit_most,
        lt-ltb k 32 (slot_low s w sound k (Linked p r) e refl),
      )

  module _ (places : List ℕ) (own : places ≡ places_from 0 (take w.state.settings.descriptors w.state.owner) (k + 1) 256) where
    abbrev ends : Bool
    ends = is_finished (ends_short p.kind r.direction) w.rows.pool places

    stage_is : stands_active view.stage ≡ not ends
    unfolding asks_of ask_of request_ask view_of
    stage_is =
        rw (asks, e, list_packed (places_from 0 (take w.state.settings.descriptors w.state.owner) (k + 1) 256), ← own)
        (finished_stage p.kind r.length (limit_of w.state.settings p) 0 (ends_short p.kind r.direction) places w.rows.pool)

    pub collect_event : event s (turn_of w.rows call (core w call)) ≡ cond ends (cond (is_interrupt p.kind) (Parts k rd.frame) (Unlinks k)) Other
    collect_event = by ends refl
      where
        by : (b : Bool) → ends ≡ b
            → event s (turn_of w.rows call (core w call)) ≡ cond b (cond (is_interrupt p.kind) (Parts k rd.frame) (Unlinks k)) Other
        by true q = finished_event (waits_other view.stage (stage_is ∙ ap not q))
        by false q = unfinished_event (waits_active view.stage (stage_is ∙ ap not q))
