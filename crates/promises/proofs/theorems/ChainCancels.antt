-- No detach fails: a linked head is found, and a cancel of its request unlinks it.
use Rattle.std.specs.Prelude.{Ok}
use Prim.Native.Nat.{ℕ, ◌<◌}
use mathlib.Core.Path.{◌≡◌, refl, ap, ◌∙◌}
use mathlib.Core.Bool.{Bool, true, false, cond}
use mathlib.Core.List.{List}
use borrow.Author.Tests.{eq-eqb, lt-leb}
use Rattle.settings.specs.declared.settings.Settings.{Settings}
use Rattle.state.specs.Plain.{Ehci}
use Rattle.pipe.specs.Endpoints.{endpoint_at}
use Rattle.common.specs.Kinds.{is_interrupt}
use Rattle.pipe.specs.declared.endpoints.Endpoint.TheVariants.{Linked, Unlinking}
use Rattle.pipe.specs.declared.endpoints.Pipe.{Pipe}
use Rattle.pipe.specs.declared.endpoints.Request.{Request}
use Rattle.pipe.specs.declared.endpoints.UnlinkBoundary.{UnlinkBoundary}
use Rattle.controller.specs.declared.lent.Readings.{Readings}
use Rattle.schedule.specs.Links.{detach_of, same}
use Rattle.collection.specs.Calls.{cancel_of, marked, marked_of}
use Rattle.collection.specs.Unlinks.{Left, is_missing, left as left_with, unlink_of, waiting_of}
use Rattle.ehci.specs.declared.call.Call.{Call}
use Rattle.ehci.specs.declared.call.Call.TheVariants.{Cancel}
use Rattle.ehci.specs.declared.reply.Answered.TheVariants.{Done}
use Rattle.ehci.specs.declared.reply.Given.TheVariants.{Nothing}
use Rattle.ehci.specs.Decides.{cancel_came, cancel_decided, decide_of, with_setups}
use Rattle.ehci.specs.Door.{Applied, apply_of, carried_out}
use Rattle.ehci.specs.Replies.{replied}
use Rattle.promises.specs.Runs.{History, Opening, World, core, history_of, turn_of, world_of}
use Rattle.promises.specs.Events.{Parts, Unlinks, event}
use Rattle.promises.specs.Uses.{frame_slots, ring_slots}
use Rattle.promises.proofs.effects.EffectRequests.{cancel_unlinked}
use Rattle.promises.proofs.invariants.Sound.{Sound, is_let_in, rows_fit}
use Rattle.promises.proofs.invariants.ChainInv.{Chained, heads_long, linked_in}
use Rattle.promises.proofs.invariants.ChainDetach.{Met, at_first, at_later, frames_met, ring_met}
use Rattle.promises.proofs.invariants.ChainEvents.{unlink_event}

met_found : (s : Ehci) (h f : List ℕ) (k : ℕ) (ks : List ℕ) → Met s h f k ks → is_missing (detach_of s h f k).predecessor ≡ false
unfolding detach_of
met_found s h f k ks (at_first post e p) = rw p
met_found s h f k ks (at_later pre j post e p) = rw p

module _ (s : Settings) (h : History) (w : World) (sound : Sound s w) (x : Chained s h w) (k : ℕ) where
  -- the head of a linked request is always found
  pub no_detach_fails : (p : Pipe) (r : Request) → endpoint_at w.state k ≡ Linked p r
      → is_missing (detach_of w.state w.rows.heads w.rows.frames k).predecessor ≡ false
  no_detach_fails p r e = by (is_interrupt p.kind) refl
    where
      by : (b : Bool) → is_interrupt p.kind ≡ b → is_missing (detach_of w.state w.rows.heads w.rows.frames k).predecessor ≡ false
      by false q =
          met_found w.state w.rows.heads w.rows.frames k (ring_slots s h)
          (ring_met w.state sound.ranges sound.wide w.rows (ring_slots s h) (frame_slots s h) x (heads_long s w sound) sound.frames_fit k
          (ap (linked_in false) e ∙ ap (same false) q))
      by true q =
          met_found w.state w.rows.heads w.rows.frames k (frame_slots s h)
          (frames_met w.state sound.ranges sound.wide w.rows (ring_slots s h) (frame_slots s h) x (heads_long s w sound) sound.frames_fit k
          (ap (linked_in true) e ∙ ap (same true) q))

  module _ (rd : Readings) (p : Pipe) (r : Request) (e : endpoint_at w.state k ≡ Linked p r) (roomy : w.state.unanswered < 32) where
    abbrev unlinked : Left
    unlinked = record { came = waiting_of w.state rd k p (marked r); rows = (detach_of w.state w.rows.heads w.rows.frames k).rows }

    cancel_comes : core w (Cancel k r.id rd) ≡ carried_out (with_setups (cancel_came unlinked) w.rows.setups) w.rows.pool
    unfolding apply_of decide_of cancel_decided cancel_of unlink_of
    cancel_comes = rw (rows_fit s w sound, is_let_in s w sound, e, lt-leb 32 w.state.unanswered roomy, eq-eqb r.id r.id refl, no_detach_fails p r e)

    cancel_done : (core w (Cancel k r.id rd)).reply.answer ≡ Ok (Done Nothing)
    unfolding replied waiting_of
    cancel_done = ap (λ (z : Applied). z.reply.answer) cancel_comes

    pub cancel_unlinks : ((core w (Cancel k r.id rd)).reply.answer ≡ Ok (Done Nothing))
        × (event s (turn_of w.rows (Cancel k r.id rd) (core w (Cancel k r.id rd))) ≡ cond (is_interrupt p.kind) (Parts k rd.frame) (Unlinks k))
    unfolding cancel_unlinked
    cancel_unlinks = (
      cancel_done,
      ap (λ (z : Applied). event s (turn_of w.rows (Cancel k r.id rd) z)) cancel_comes
          ∙ unlink_event s h w (Cancel k r.id rd) _ sound x (cancel_unlinked w k r.id rd p r e roomy (no_detach_fails p r e)),
    )

  -- a cancel of a request that is unlinking marks it
  module _ (rd : Readings) (p : Pipe) (r : Request) (u : UnlinkBoundary) (e : endpoint_at w.state k ≡ Unlinking p r u) where
    mark_comes : core w (Cancel k r.id rd)
        ≡ carried_out (with_setups (cancel_came (left_with (marked_of w.state k p r u) w.rows.heads w.rows.frames)) w.rows.setups) w.rows.pool
    unfolding apply_of decide_of cancel_decided cancel_of
    mark_comes = rw (rows_fit s w sound, is_let_in s w sound, e, eq-eqb r.id r.id refl)

    pub mark_done : (core w (Cancel k r.id rd)).reply.answer ≡ Ok (Done Nothing)
    unfolding replied
    mark_done = ap (λ (z : Applied). z.reply.answer) mark_comes

-- with a slot linked, fewer than 32 unlinks are unanswered
abbrev pub RoomAt : Settings → History → World → Type 0
RoomAt s h w = (k : ℕ) (p : Pipe) (r : Request) → endpoint_at w.state k ≡ Linked p r → w.state.unanswered < 32

abbrev pub Roomy : Type 0
Roomy = (s : Settings) (w : World) → Opening s w → (cs : List Call) → RoomAt s (history_of core w cs) (world_of core w cs)
