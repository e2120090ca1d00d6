-- Submit, writeback, cancel, collect.
use Rattle.std.specs.Prelude.{Err}
use Prim.Native.Nat.{ℕ, ◌+◌, ◌<◌}
use mathlib.Core.Bool.{Bool, true, false, not, cond, ◌&&◌}
use mathlib.Core.List.{List, [], ◌∷◌}
use mathlib.Core.Logic.{inl, inr}
use mathlib.Core.Path.{◌≡◌, refl, ap}
use borrow.Author.Tests.{eq-eqb, not-false}
use lib.Dec.{eqb}
use lib.ListN.{length}
use Rattle.register.specs.Writes.{no_writes}
use Rattle.pool.specs.declared.chain.View.{View}
use Rattle.settings.specs.declared.settings.Settings.{Settings}
use Rattle.state.specs.Plain.{Ehci}
use Rattle.common.specs.Answers.{first, passed}
use Rattle.common.specs.declared.answer.Refusal.{Refusal}
use Rattle.common.specs.declared.answer.Refusal.TheVariants.{InvalidParameter}
use Rattle.common.proofs.CheckLaws.{let_pass, settled_by}
use Rattle.pipe.specs.Endpoints.{endpoint_at}
use Rattle.pipe.specs.declared.endpoints.Endpoint.TheVariants.{Linked}
use Rattle.pipe.specs.declared.endpoints.Pipe.{Pipe}
use Rattle.pipe.specs.declared.endpoints.Request.{Request}
use Rattle.controller.specs.Lent.{accepts_of, lengths}
use Rattle.controller.specs.declared.lent.Readings.{Readings}
use Rattle.request.specs.Submit.{Outcome, accepted_with, answer_of, judge_of, refused_submit, settled_submit, submit_checks, submit_of}
use Rattle.request.specs.Writeback.{in_request, refused_writeback, writeback_checks, writeback_of}
use Rattle.request.specs.Plain.{WrittenBack}
use Rattle.request.specs.declared.judge.TransferRequest.{TransferRequest}
use Rattle.request.proofs.JudgeLaws.{judge_tells}
use Rattle.collection.specs.Answers.{outcome_of}
use Rattle.collection.specs.Calls.{Gathered, finish_of, marked, pending_left}
use Rattle.collection.specs.Unlinks.{Left, waiting_of, is_missing}
use Rattle.collection.proofs.Splits.{cancel_split, collect_split, unlink_split}
use Rattle.ehci.specs.declared.call.Call.TheVariants.{Cancel, Collect, Submit, Writeback}
use Rattle.ehci.specs.Decides.{cancel_came, cancel_decided, collect_came, collect_decided, submit_came, submit_decided, with_setups, writeback_decided, written_reply}
use Rattle.ehci.specs.Door.{carried_out}
use Rattle.ehci.specs.Replies.{collected_answer, replied}
use Rattle.promises.specs.Runs.{Rows, World, core}
use Rattle.promises.specs.Events.{Collects, Event, Other, Parts, Unlinks, is_collected}
use Rattle.promises.specs.Walks.{frame_walk, is_in, ring_walk}
use Rattle.promises.proofs.effects.RefusalNumbers.{uncollected, undone}
use Rattle.promises.proofs.effects.Effects.{Effect, accepts, collects, marks, unlinks, writes_back, Unlinked}
use Rattle.promises.proofs.effects.EffectDoor.{leaves, refused_still, rows_kept, seen, sides_of, stays_in, still_of, through, carried}
use Rattle.schedule.specs.Links.{detach_of}
use Rattle.token.specs.Overlay.{kept_toggle}

-- no head leaves where the words of heads and frames stay
pub none_leaves : (s : Settings) (k frame : ℕ) (old new : Rows) → new.heads ≡ old.heads → new.frames ≡ old.frames
    → cond (is_in (k + 1) (ring_walk s old) && not (is_in (k + 1) (ring_walk s new))) (Unlinks k)
    (cond (is_in (k + 1) (frame_walk s old 0) && not (is_in (k + 1) (frame_walk s new 0))) (Parts k frame) Other)
    ≡ Other
unfolding ring_walk frame_walk
none_leaves s k frame old new eh ef =
    rw (eh, ef, stays_in (is_in (k + 1) (ring_walk s old)), stays_in (is_in (k + 1) (frame_walk s old 0)))

-- what a passing collect answers is a collection
pub outcome_collected : (b : Bool) (v : View) → is_collected (collected_answer (outcome_of b v)) ≡ true
unfolding outcome_of
outcome_collected true v = refl
outcome_collected false v = by (eqb v.failed 0) refl
  where
    by : (t : Bool) → eqb v.failed 0 ≡ t → is_collected (collected_answer (outcome_of false v)) ≡ true
    by true e = rw e
    by false e = rw e

module _ (w : World) where
  abbrev s : Ehci
  s = w.state

  abbrev n : ℕ
  n = length w.rows.pool

  abbrev hs : List ℕ
  hs = w.rows.heads

  abbrev fs : List ℕ
  fs = w.rows.frames

  abbrev us : List ℕ
  us = w.rows.setups

  -- a row of another length, or a state outside its ranges
  abbrev unfit : Bool
  unfit = not (accepts_of s (lengths n (length hs) (length fs) (length us)))

  pub submit_effect : (k : ℕ) (t : TransferRequest) (rd : Readings) → Effect w (Submit k t rd) (core w (Submit k t rd))
  unfolding submit_decided submit_of settled_submit accepted_with refused_submit replied judge_of
  submit_effect k t rd =
      through Effect w (Submit k t rd) (refused_still w (Submit k t rd) InvalidParameter refl refl)
      (settled_by
      (first ((unfit, InvalidParameter) ∷ submit_checks s k t)) _ _
      (λ (o : Outcome). Effect w (Submit k t rd) (carried_out (submit_came o) w.rows.pool))
      (λ r e. refused_still w (Submit k t rd) r (rw (undone r)) refl)
      (λ e. accepts
      (record {
        k = k;
        t = t;
        readings = rd;
        judged = judge_tells s k t (ap answer_of (let_pass unfit InvalidParameter (first (submit_checks s k t)) e).1);
        state_is = refl;
        rows_are = refl;
        writes_are = refl;
        submits = refl;
        same = refl;
      })))

  pub writeback_effect : (place token : ℕ) → Effect w (Writeback place token) (core w (Writeback place token))
  unfolding writeback_decided writeback_of refused_writeback replied
  writeback_effect place token =
      through Effect w (Writeback place token) (refused_still w (Writeback place token) InvalidParameter refl refl)
      (settled_by (first (writeback_checks s (lengths n (length hs) (length fs) (length us)) place)) _ _
      (λ (x : WrittenBack). Effect w (Writeback place token) (carried w (written_reply x)))
      (λ r e. refused_still w (Writeback place token) r refl refl)
      (λ e. writes_back
      (record {
        place = place;
        token = token;
        in_request_lem = not-false (in_request s place) (let_pass (not (in_request s place)) InvalidParameter passed (let_pass unfit InvalidParameter (first ((not (in_request s place), InvalidParameter) ∷ [])) e).1).0;
        state_is = refl;
        rows_are = refl;
        silent = refl;
        nothing = refl;
        call_is = refl;
        accepted = refl;
        same = refl;
      })))

  module _ (k id : ℕ) (rd : Readings) where
    abbrev Cancels : Left → Type 0
    Cancels l = Effect w (Cancel k id rd) (carried_out (with_setups (cancel_came l) us) w.rows.pool)

    cancel_refused : (x : Refusal) → Effect w (Cancel k id rd) (leaves w (Cancel k id rd) s (Err x) no_writes)
    cancel_refused x = refused_still w (Cancel k id rd) x (none_leaves s.settings k rd.frame _ _ refl refl) refl

    -- where the head is found
    unfoldable pub cancel_unlinked : (p : Pipe) (r : Request) → endpoint_at s k ≡ Linked p r → s.unanswered < 32 → is_missing (detach_of s hs fs k).predecessor ≡ false
        → Unlinked w (Cancel k id rd) (carried_out (with_setups (cancel_came (record { came = waiting_of s rd k p (marked r); rows = (detach_of s hs fs k).rows })) us) w.rows.pool)
    unfolding waiting_of replied
    cancel_unlinked p r e below found =
        record {
          k = k;
          p = p;
          r = r;
          asked = marked r;
          readings = rd;
          linked = e;
          same_request = inr refl;
          cancels = inr (rw (eq-eqb k k refl));
          uncrowded = below;
          found = found;
          state_is = refl;
          rows_are = rows_kept w (Cancel k id rd) _ _ us;
          writes_are = refl;
          leaves = refl;
          same = refl;
        }

    pub cancel_effect : Effect w (Cancel k id rd) (core w (Cancel k id rd))
    unfolding cancel_decided replied
    cancel_effect =
        through Effect w (Cancel k id rd) (cancel_refused InvalidParameter)
        (cancel_split s n hs fs (length us) rd k id Cancels cancel_refused
        (λ p r ok e below same. unlink_split s hs fs rd k p (marked r) Cancels (cancel_refused _) (λ found. unlinks (cancel_unlinked p r e below found)))
        (λ p r u ok e same. marks
        (record {
          k = k;
          p = p;
          r = r;
          u = u;
          unlinking = e;
          cancels = rw (eq-eqb k k refl);
          state_is = refl;
          rows_are = rows_kept w (Cancel k id rd) hs fs us;
          silent = refl;
          nothing = none_leaves s.settings k rd.frame _ _ refl refl;
          same = refl;
        })))

    abbrev Collecting : Gathered → Type 0
    Collecting g = Effect w (Collect k id rd) (carried_out (with_setups (collect_came g) us) w.rows.pool)

    collect_refused : (x : Refusal) → Effect w (Collect k id rd) (leaves w (Collect k id rd) s (Err x) no_writes)
    collect_refused x =
        refused_still w (Collect k id rd) x (rw (uncollected x) (none_leaves s.settings k rd.frame _ _ refl refl)) refl

    -- where the head is found
    unfoldable pub collect_unlinked : (p : Pipe) (r : Request) → endpoint_at s k ≡ Linked p r → s.unanswered < 32 → is_missing (detach_of s hs fs k).predecessor ≡ false
        → Unlinked w (Collect k id rd) (carried_out (with_setups (collect_came (pending_left (record { came = waiting_of s rd k p r; rows = (detach_of s hs fs k).rows }))) us) w.rows.pool)
    unfolding waiting_of replied
    collect_unlinked p r e below found =
        record {
          k = k;
          p = p;
          r = r;
          asked = r;
          readings = rd;
          linked = e;
          same_request = inl refl;
          cancels = inl refl;
          uncrowded = below;
          found = found;
          state_is = refl;
          rows_are = rows_kept w (Collect k id rd) _ _ us;
          writes_are = refl;
          leaves = refl;
          same = refl;
        }

    collected_as : (b : Bool) (j : ℕ) (e : Event) → b ≡ true → j ≡ id → cond b (Collects k id rd.frame) e ≡ Collects k j rd.frame
    collected_as b j e q i = rw (q, i)

    pub collect_effect : Effect w (Collect k id rd) (core w (Collect k id rd))
    unfolding collect_decided finish_of replied no_writes
    collect_effect =
        through Effect w (Collect k id rd) (collect_refused InvalidParameter)
        (collect_split s n hs fs (length us) rd k id (seen w (Collect k id rd)) Collecting collect_refused
        (still_of w (Collect k id rd) _ _ _ (sides_of s) refl refl (none_leaves s.settings k rd.frame _ _ refl refl) (λ g. g) refl (λ i. i) refl)
        (λ p r ok e below same done. unlink_split s hs fs rd k p r (λ (l : Left). Collecting (pending_left l)) (collect_refused _) (λ found. unlinks (collect_unlinked p r e below found)))
        (λ p r u ok e same through-it. collects
        (record {
          k = k;
          p = p;
          r = r;
          u = u;
          frame = rd.frame;
          toggle = kept_toggle rd.overlay;
          view = seen w (Collect k id rd);
          unlinking = e;
          passed = through-it;
          state_is = refl;
          kept = refl;
          rows_are = rows_kept w (Collect k id rd) _ fs us;
          silent = refl;
          collects = collected_as _ r.id _ (outcome_collected r.cancelled (seen w (Collect k id rd))) same;
          same = refl;
        })))
