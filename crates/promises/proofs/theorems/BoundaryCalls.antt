-- What a collect and a cancel answer, by the endpoint that they find.
use Rattle.std.specs.Prelude.{Result}
use Prim.Native.Nat.{ℕ}
use mathlib.Core.Bool.{true, false≢true}
use mathlib.Core.Path.{◌≡◌, refl, sym, ◌∙◌}
use borrow.Author.Tests.{eq-eqb}
use lib.ListN.{length}
use Rattle.settings.specs.declared.settings.Settings.{Settings}
use Rattle.state.specs.Plain.{Ehci}
use Rattle.pipe.specs.Endpoints.{endpoint_at}
use Rattle.pipe.specs.declared.endpoints.Endpoint.TheVariants.{Unlinking}
use Rattle.pipe.specs.declared.endpoints.Pipe.{Pipe}
use Rattle.pipe.specs.declared.endpoints.Request.{Request}
use Rattle.pipe.specs.declared.endpoints.UnlinkBoundary.{UnlinkBoundary}
use Rattle.controller.specs.declared.lent.Readings.{Readings}
use Rattle.collection.specs.Answers.{outcome_of}
use Rattle.collection.specs.Calls.{Gathered, collect_of, finish_of, pending_left, unlinking_of}
use Rattle.collection.specs.Unlinks.{Left, passed_boundary, unlink_of, waiting_of}
use Rattle.collection.proofs.Splits.{collect_split, unlink_split}
use Rattle.ehci.specs.declared.call.Call.TheVariants.{Collect}
use Rattle.ehci.specs.Decides.{collect_came, collect_decided, decide_of, with_setups}
use Rattle.ehci.specs.Door.{Applied, apply_of, carried_out}
use Rattle.ehci.specs.Replies.{collected_answer, replied}
use Rattle.promises.specs.Runs.{World, core}
use Rattle.promises.specs.Events.{is_collected}
use Rattle.promises.proofs.effects.EffectDoor.{seen, through}
use Rattle.promises.proofs.effects.EffectRequests.{outcome_collected}
use Rattle.promises.proofs.effects.RefusalNumbers.{uncollected}
use Rattle.promises.proofs.invariants.Sound.{Sound, is_let_in, rows_fit}
use Rattle.ehci.specs.declared.reply.Answered.{Answered}
use Rattle.common.specs.declared.answer.Refusal.{Refusal}

-- what a collect that collects found
pub record Found (w : World) (k id : ℕ) (readings : Readings) (a : (Result Answered Refusal)) : Type 0 where
  pub p : Pipe
  pub r : Request
  pub u : UnlinkBoundary
  pub unlinking : endpoint_at w.state k ≡ Unlinking p r u
  pub same : r.id ≡ id
  pub passed : passed_boundary u readings.frame ≡ true
  pub answer_is : a ≡ collected_answer (outcome_of r.cancelled (seen w (Collect k id readings)))

module _ (w : World) (k id : ℕ) (rd : Readings) where
  abbrev s : Ehci
  s = w.state

  abbrev Tells : Applied → Type 0
  Tells a = is_collected a.reply.answer ≡ true → Found w k id rd a.reply.answer

  abbrev Gathers : Gathered → Type 0
  Gathers g = Tells (carried_out (with_setups (collect_came g) w.rows.setups) w.rows.pool)

  unlink_none : (p : Pipe) (r : Request) → Gathers (pending_left (unlink_of s w.rows.heads w.rows.frames rd k p r))
  unfolding waiting_of replied
  unlink_none p r = unlink_split s w.rows.heads w.rows.frames rd k p r (λ (l : Left). Gathers (pending_left l)) (λ e. absurd (false≢true e)) (λ found e. absurd (false≢true e))

  pub collect_found : Tells (core w (Collect k id rd))
  unfolding collect_decided finish_of replied
  collect_found =
      through (λ _ _. Tells) w (Collect k id rd) (λ e. absurd (false≢true e))
      (collect_split s (length w.rows.pool) w.rows.heads w.rows.frames (length w.rows.setups) rd k id (seen w (Collect k id rd)) Gathers
      (λ x e. absurd (false≢true (sym (uncollected x) ∙ e))) (λ e. absurd (false≢true e))
      (λ p r ok e below same done. unlink_none p r)
      (λ p r u ok e same passed q. record { p = p; r = r; u = u; unlinking = e; same = same; passed = passed; answer_is = refl }))

  -- and what makes a collect collect
  module _ (z : Settings) (sound : Sound z w) where
    pub collect_makes : (p : Pipe) (r : Request) (u : UnlinkBoundary) → endpoint_at s k ≡ Unlinking p r u → r.id ≡ id → passed_boundary u rd.frame ≡ true
        → is_collected (core w (Collect k id rd)).reply.answer ≡ true
    unfolding apply_of decide_of collect_decided collect_of unlinking_of finish_of replied
    collect_makes p r u e same passed = rw (rows_fit z w sound, is_let_in z w sound, e, eq-eqb r.id id same, passed) (outcome_collected r.cancelled (seen w (Collect k id rd)))
