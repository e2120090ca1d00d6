-- Of any machine that keeps the exact rules and takes each event in its place: what left the ring passes by number.
use Prim.Native.Nat.{ℕ}
use mathlib.Core.Bool.{Bool, true, false, cond, true≢false, false≢true, ◌||◌}
use mathlib.Core.List.{List, [], ◌∷◌}
use mathlib.Core.Path.{◌≡◌, refl, ap, ◌∙◌}
use Rattle.settings.specs.declared.settings.Settings.{Settings}
use Rattle.common.specs.declared.kinds.EndpointType.{EndpointType}
use Rattle.common.specs.Kinds.{is_interrupt}
use Rattle.controller.specs.declared.lent.Readings.{Readings}
use Rattle.ehci.specs.declared.call.Call.{Call}
use Rattle.promises.specs.Runs.{Form, History, Machine, Turn, WorldIn, history_of, run_of}
use Rattle.promises.specs.Events.{Event, Other, Reads, Drains, Submits, Unlinks, Parts, Collects, event}
use Rattle.promises.specs.Bells.{is_submits_of, is_unlinks_of, kind_after, kind_at, newest_id, renews, unlinking, unlinks_of}
use Rattle.promises.specs.Boundaries.{CancelledAnswered, CancelledCollects, Exact, FramesKept, Orderly, PassesExactly, past, turn}

-- a turn that does not submit to k leaves the kind of its request
kind_stays : (k : ℕ) (x : Event) (old : EndpointType) → is_submits_of k x ≡ false → kind_after k x old ≡ old
kind_stays k Other old e = refl
kind_stays k Reads old e = refl
kind_stays k Drains old e = refl
kind_stays k (Submits j id r) old e = rw e
kind_stays k (Unlinks j) old e = refl
kind_stays k (Parts j frame) old e = refl
kind_stays k (Collects j id frame) old e = refl

unlinks_no_submit : (k : ℕ) (x : Event) → is_unlinks_of k x ≡ true → is_submits_of k x ≡ false
unlinks_no_submit k Other e = refl
unlinks_no_submit k Reads e = refl
unlinks_no_submit k Drains e = refl
unlinks_no_submit k (Submits j id r) e = absurd (false≢true e)
unlinks_no_submit k (Unlinks j) e = refl
unlinks_no_submit k (Parts j frame) e = refl
unlinks_no_submit k (Collects j id frame) e = refl

renewed : (a b : Bool) → (a || b) ≡ false → a ≡ false
renewed true b e = absurd (true≢false e)
renewed false b e = refl

module _ {f : Form} (m : Machine f) (s : Settings) (w : WorldIn f) (orderly : Orderly s (run_of m w)) where
  -- what leaves the ring is no interrupt request
  pub unlinking_kind : (cs : List Call) (k : ℕ) → unlinking s k (past s (run_of m w) cs) ≡ true → is_interrupt (kind_at s k (past s (run_of m w) cs)) ≡ false
  unfolding history_of unlinking kind_at
  unlinking_kind [] k e = refl
  unlinking_kind (c ∷ cs) k e = go (unlinks_of s k t) refl (renews s k t) refl e (unlinking_kind cs k)
    where
      t : Turn
      t = turn s (run_of m w) cs c

      h : History
      h = past s (run_of m w) cs

      go : (a : Bool) → unlinks_of s k t ≡ a → (b : Bool) → renews s k t ≡ b → cond a true (cond b false (unlinking s k h)) ≡ true
          → (unlinking s k h ≡ true → is_interrupt (kind_at s k h) ≡ false) → is_interrupt (kind_after k (event s t) (kind_at s k h)) ≡ false
      go true ea b eb e rec = ap is_interrupt (kind_stays k (event s t) (kind_at s k h) (unlinks_no_submit k (event s t) ea)) ∙ ((orderly cs c k).0 ea).1
      go false ea true eb e rec = absurd (false≢true e)
      go false ea false eb e rec = ap is_interrupt (kind_stays k (event s t) (kind_at s k h) (renewed _ _ eb)) ∙ rec e

  pub passes_exactly : Exact s (run_of m w) → PassesExactly s (run_of m w)
  passes_exactly exact cs k = (
    λ p. let e = ((exact cs k p.1 p.2).0 (unlinking_kind cs k p.0)).0 p.3 in (e.0, e.2),
    λ q. (
      q.0,
      newest_id s k (past s (run_of m w) cs),
      none_read,
      ((exact cs k (newest_id s k (past s (run_of m w) cs)) none_read).0 (unlinking_kind cs k q.0)).1 (q.0, refl, q.1),
    ),
  )
    where
      none_read : Readings
      none_read = record { command = 0; frame = 0; overlay = 0 }

-- and an interrupt request's boundary
pub frames_kept : {f : Form} (m : Machine f) (s : Settings) (w : WorldIn f) → Exact s (run_of m w) → FramesKept s (run_of m w)
frames_kept m s w exact cs k id readings done kind =
    let e = ((exact cs k id readings).1 kind).0 done in
    (e.0, e.2)

-- and what is cancelled is collected as such, once it is answered
pub answered_cancelled : {f : Form} (m : Machine f) (s : Settings) (w : WorldIn f) → Exact s (run_of m w) → CancelledCollects s (run_of m w) → CancelledAnswered s (run_of m w)
answered_cancelled m s w exact cancels cs k rd e =
    let id = newest_id s k (past s (run_of m w) cs) in (
      (λ kind off reached. cancels cs k id rd e (((exact cs k id rd).0 kind).1 (off, refl, reached))),
      (λ kind off nine. cancels cs k id rd e (((exact cs k id rd).1 kind).1 (off, refl, nine))),
    )
