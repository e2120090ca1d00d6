-- A request is marked cancelled only where a cancel of it was accepted.
use Prim.Native.Nat.{ℕ}
use mathlib.Core.Path.{◌≡◌, refl, sym, ap, subst, ◌∙◌}
use mathlib.Core.Logic.{⊎_elim}
use mathlib.Core.Bool.{Bool, true, false, cond, false≢true}
use mathlib.Core.List.{[], ◌∷◌}
use native.Mathlib.Decide.{ℕ_discrete as dec_eq}
use borrow.Author.Tests.{ne_eqb, eq-eqb}
use Rattle.settings.specs.declared.settings.Settings.{Settings}
use Rattle.state.specs.Plain.{Ehci}
use Rattle.pipe.specs.Endpoints.{decoded, encoded, endpoint_at}
use Rattle.pipe.specs.declared.endpoints.Endpoint.{Endpoint}
use Rattle.pipe.specs.declared.endpoints.Endpoint.TheVariants.{Closed, Idle, Linked, Unlinking}
use Rattle.pipe.proofs.EndpointLaws.{flag_there}
use Rattle.ehci.specs.declared.call.Call.{Call}
use Rattle.ehci.specs.Door.{Applied}
use Rattle.promises.specs.Runs.{History, Opening, Turn, World, left_by, turn_of}
use Rattle.promises.specs.Events.{Drains, Event, Other, Reads, event, leaving}
use Rattle.promises.specs.Bells.{cancelled, cancels_by, is_collects_of, is_submits_of, renews}
use Rattle.promises.proofs.effects.Effects.{Accepts, Collected, Effect, Marks, Unlinked, still, hears, joins, passes, counts, opens, closes, resizes, rewrites, accepts, writes_back, marks, unlinks, collects, leaving_by, clears}
use Rattle.promises.proofs.effects.SlotViews.{view_kept}
use Rattle.promises.proofs.invariants.Reached.{opening_is}
use Rattle.promises.proofs.invariants.Sound.{Sound}
use Rattle.promises.proofs.invariants.BellFacts.{fresh_closed}
use Rattle.promises.proofs.invariants.ViewsAfter.{view_after, viewed}
use lib.Dec.{eqb}

abbrev pub mark_in : Endpoint → Bool
mark_in Closed = false
mark_in (Idle p) = false
mark_in (Linked p r) = r.cancelled
mark_in (Unlinking p r u) = r.cancelled

mark_back : (x : Endpoint) → mark_in (decoded (encoded x)) ≡ mark_in x
unfolding decoded
mark_back Closed = refl
mark_back (Idle p) = refl
mark_back (Linked p r) = flag_there r.cancelled
mark_back (Unlinking p r u) = flag_there r.cancelled

abbrev pub Marked : Settings → History → World → Type 0
Marked s h w = (k : ℕ) → mark_in (endpoint_at w.state k) ≡ true → cancelled s k h ≡ true

-- ---- what a turn does to it

renews_none : (s : Settings) (k : ℕ) (t : Turn) (e : Event) → event s t ≡ e → is_submits_of k e ≡ false → is_collects_of k e ≡ false → renews s k t ≡ false
renews_none s k t e q a b = rw (q, a, b)

pub submits_leaving : (s : Settings) (j k frame : ℕ) (t : Turn) → is_submits_of j (leaving s k frame t) ≡ false
submits_leaving s j k frame t = leaving_by s k frame t (λ e. is_submits_of j e ≡ false) refl refl refl

renews_leaving : (s : Settings) (j k frame : ℕ) (t : Turn) → event s t ≡ leaving s k frame t → renews s j t ≡ false
renews_leaving s j k frame t q =
    leaving_by s k frame t (λ e. event s t ≡ e → renews s j t ≡ false) (λ e. renews_none s j t _ e refl refl) (λ e. renews_none s j t _ e refl refl)
    (λ e. renews_none s j t _ e refl refl) q

module _ (s : Settings) (k : ℕ) (t : Turn) (h : History) where
  cancelled_now : cancels_by k t.call t.answer ≡ true → cancelled s k (t ∷ h) ≡ true
  unfolding cancelled
  cancelled_now e = rw e

  cancelled_on : renews s k t ≡ false → cancelled s k h ≡ true → cancelled s k (t ∷ h) ≡ true
  unfolding cancelled
  cancelled_on n e = by (cancels_by k t.call t.answer) refl
    where
      by : (b : Bool) → cancels_by k t.call t.answer ≡ b
          → cond (cancels_by k t.call t.answer) true (cond (renews s k t) false (cancelled s k h)) ≡ true
      by true q = rw q
      by false q = rw (q, n, e)

-- ---- the steps

module _ (w : World) (c : Call) (a : Applied) (h : History) (sound : Sound w.state.settings w) where
  abbrev s : Settings
  s = w.state.settings

  abbrev t : Turn
  t = turn_of w.rows c a

  abbrev mark_at : Ehci → ℕ → Bool
  mark_at e k = mark_in (endpoint_at e k)

  -- a slot's mark is as it was
  on : (k : ℕ) → renews s k t ≡ false → mark_at a.reply.state k ≡ mark_at w.state k → Marked s h w
      → mark_at a.reply.state k ≡ true → cancelled s k (t ∷ h) ≡ true
  on k n same g e = cancelled_on s k t h n (g k (sym same ∙ e))

  -- a slot is not marked
  bare : (k : ℕ) → mark_at a.reply.state k ≡ false → mark_at a.reply.state k ≡ true → cancelled s k (t ∷ h) ≡ true
  bare k f e = absurd (false≢true (sym f ∙ e))

  quiet : (e : Event) → event s t ≡ e → ((k : ℕ) → is_submits_of k e ≡ false) → ((k : ℕ) → is_collects_of k e ≡ false)
      → ((k : ℕ) → mark_at a.reply.state k ≡ mark_at w.state k) → Marked s h w → Marked s (t ∷ h) (left_by a)
  quiet e q x y same g k m = on k (renews_none s k t e q (x k) (y k)) (same k) g m

  after : (x : Effect w c a) (k : ℕ) → mark_at a.reply.state k ≡ viewed mark_in w c a x k
  after = view_after mark_in w c a mark_back (λ p r b d. refl) sound

  -- at the slot that is given an endpoint, and at another
  here : (k j : ℕ) (x y : Bool) → j ≡ k → cond (eqb k j) x y ≡ x
  here k j x y e = rw (eq-eqb k j (sym e))

  elsewhere : (k j : ℕ) (x y : Bool) → (j ≡ k → ⊥) → cond (eqb k j) x y ≡ y
  elsewhere k j x y ne = rw (ne_eqb k j (λ e. ne (sym e)))

  accepts_marked : Accepts w c a → Marked s h w → Marked s (t ∷ h) (left_by a)
  accepts_marked x g k m = by (dec_eq k x.k)
    where
      by : Dec (k ≡ x.k) → cancelled s k (t ∷ h) ≡ true
      by (yes q) = bare k (after (accepts x) k ∙ here x.k k _ _ q) m
      by (no ne) =
          on k (renews_none s k t _ x.submits (ne_eqb x.k k (λ z. ne (sym z))) refl) (after (accepts x) k ∙ elsewhere x.k k _ _ ne) g m

  marks_marked : Marks w c a → Marked s h w → Marked s (t ∷ h) (left_by a)
  marks_marked x g k m = by (dec_eq k x.k)
    where
      by : Dec (k ≡ x.k) → cancelled s k (t ∷ h) ≡ true
      by (yes q) = subst (λ (j : ℕ). cancelled s j (t ∷ h) ≡ true) (sym q) (cancelled_now s x.k t h x.cancels)
      by (no ne) = on k (renews_none s k t Other x.nothing refl refl) (after (marks x) k ∙ elsewhere x.k k _ _ ne) g m

  unlinks_marked : Unlinked w c a → Marked s h w → Marked s (t ∷ h) (left_by a)
  unlinks_marked x g k m = by (dec_eq k x.k)
    where
      by : Dec (k ≡ x.k) → cancelled s k (t ∷ h) ≡ true
      by (yes q) =
          subst (λ (j : ℕ). cancelled s j (t ∷ h) ≡ true) (sym q)
          (⊎_elim
          (λ e. on x.k (renews_leaving s x.k x.k x.readings.frame t x.leaves)
          (after (unlinks x) x.k ∙ here x.k x.k _ _ refl ∙ ap (λ r. r.cancelled) e ∙ sym (ap mark_in x.linked)) g (subst (λ (j : ℕ). mark_at a.reply.state j ≡ true) q m))
          (λ e. cancelled_now s x.k t h e) x.cancels)
      by (no ne) = on k (renews_leaving s k x.k x.readings.frame t x.leaves) (after (unlinks x) k ∙ elsewhere x.k k _ _ ne) g m

  collects_marked : Collected w c a → Marked s h w → Marked s (t ∷ h) (left_by a)
  collects_marked x g k m = by (dec_eq k x.k)
    where
      by : Dec (k ≡ x.k) → cancelled s k (t ∷ h) ≡ true
      by (yes q) = bare k (after (collects x) k ∙ here x.k k _ _ q) m
      by (no ne) =
          on k (renews_none s k t _ x.collects refl (ne_eqb x.k k (λ z. ne (sym z)))) (after (collects x) k ∙ elsewhere x.k k _ _ ne) g m

  keeps_here : Marked s h w → Effect w c a → Marked s (t ∷ h) (left_by a)
  keeps_here g (still x) = quiet Other x.nothing (λ k. refl) (λ k. refl) (after (still x)) g
  keeps_here g (hears x) = quiet Reads x.hears (λ k. refl) (λ k. refl) (after (hears x)) g
  keeps_here g (joins x) = quiet Other x.nothing (λ k. refl) (λ k. refl) (after (joins x)) g
  keeps_here g (passes x) = quiet Drains x.drains (λ k. refl) (λ k. refl) (after (passes x)) g
  keeps_here g (counts x) = quiet Drains x.drains (λ k. refl) (λ k. refl) (after (counts x)) g
  keeps_here g (opens x) =
      quiet Other x.nothing (λ k. refl) (λ k. refl) (λ k. after (opens x) k ∙ view_kept mark_in w.state x.k _ (sym (ap mark_in x.closed)) k) g
  keeps_here g (closes x) =
      quiet Other x.nothing (λ k. refl) (λ k. refl) (λ k. after (closes x) k ∙ view_kept mark_in w.state x.k _ (sym (ap mark_in x.idle)) k) g
  keeps_here g (rewrites x) = quiet Other x.nothing (λ k. refl) (λ k. refl) (after (rewrites x)) g
  keeps_here g (resizes x) =
      quiet Other x.nothing (λ k. refl) (λ k. refl) (λ k. after (resizes x) k ∙ view_kept mark_in w.state x.k _ (sym (ap mark_in x.idle)) k) g
  keeps_here g (clears x) =
      quiet Other x.nothing (λ k. refl) (λ k. refl) (λ k. after (clears x) k ∙ view_kept mark_in w.state x.k _ (sym (ap mark_in x.idle)) k) g
  keeps_here g (accepts x) = accepts_marked x g
  keeps_here g (writes_back x) = quiet Other x.nothing (λ k. refl) (λ k. refl) (after (writes_back x)) g
  keeps_here g (marks x) = marks_marked x g
  keeps_here g (unlinks x) = unlinks_marked x g
  keeps_here g (collects x) = collects_marked x g

pub marked_opens : (s : Settings) (w : World) → Opening s w → Marked s [] w
marked_opens s w o k e =
    absurd (false≢true (sym (ap (λ (x : World). mark_in (endpoint_at x.state k)) (opening_is s w o).1 ∙ ap mark_in (fresh_closed s k)) ∙ e))

pub marked_keeps : (s : Settings) (h : History) (w : World) (c : Call) (a : Applied) → Sound s w → Marked s h w → Effect w c a → Marked s (turn_of w.rows c a ∷ h) (left_by a)
marked_keeps s h w c a sound =
    subst (λ (z : Settings). Sound z w → Marked z h w → Effect w c a → Marked z (turn_of w.rows c a ∷ h) (left_by a)) sound.settings_are (keeps_here w c a h) sound
