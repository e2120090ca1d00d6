-- What the controller may still read stays in use, form by form of an effect.
use Prim.Native.Nat.{ℕ, ◌+◌, ◌-◌, ◌%◌, ◌≤◌}
use mathlib.Core.Bool.{Bool, true, false, true≢false, ◌&&◌}
use mathlib.Core.List.{List, ◌∷◌}
use mathlib.Core.Logic.{inl, inr}
use mathlib.Core.Path.{◌≡◌, refl, sym, ap, subst, ◌∙◌}
use native.Mathlib.Decide.{ℕ_discrete as dec_eq}
use native.Mathlib.Omega.{arith}
use borrow.Author.Tests.{eq-eqb, eqb-false, eqb-true, le-leb, ne_eqb}
use Rattle.settings.specs.declared.settings.Settings.{Settings}
use Rattle.pipe.specs.Endpoints.{endpoint_at}
use Rattle.pipe.specs.declared.endpoints.Endpoint.{Endpoint}
use Rattle.pipe.specs.declared.endpoints.Endpoint.TheVariants.{Closed, Idle, Linked, Unlinking}
use Rattle.pipe.specs.declared.endpoints.Pipe.{Pipe}
use Rattle.pipe.specs.declared.endpoints.Request.{Request}
use Rattle.pipe.specs.declared.endpoints.UnlinkBoundary.{UnlinkBoundary}
use Rattle.pipe.specs.declared.endpoints.UnlinkBoundary.TheVariants.{Async, Periodic}
use Rattle.schedule.specs.Bell.{frames_passed, frame_of}
use Rattle.collection.specs.Unlinks.{passed_boundary}
use Rattle.ehci.specs.declared.call.Call.{Call}
use Rattle.ehci.specs.Door.{Applied}
use Rattle.promises.specs.Runs.{History, Turn, World, turn_of}
use Rattle.promises.specs.Walks.{chain_walk}
use Rattle.promises.specs.Events.{Event, Reads, Drains, Submits, Unlinks, Parts, Collects, event, rings}
use Rattle.promises.specs.Uses.{Use, uses, uses_after, without}
use Rattle.promises.specs.Bells.{Answered, Bell, Rung, bell, drains, is_answered, is_drains, is_reads, reads}
use Rattle.promises.specs.Faults.{Hold, Met, Reach, Since, Unanswered, Unrung, farther, holds, is_forgotten, joined, onward}
use Rattle.promises.proofs.invariants.Sound.{Sound}
use Rattle.promises.proofs.invariants.BellWaiting.{fallen}
use Rattle.promises.proofs.invariants.BellSlots.{Aside, Leaving, Slot, aside_collects, aside_parts, aside_submits}
use Rattle.promises.proofs.invariants.BellInvariant.{Calm, calm_bell}
use Rattle.promises.proofs.invariants.BellSteps.{StateInv}
use Rattle.promises.proofs.invariants.BellSummary.{Advances, Answers, Comes, Departs, Ends, Goes, Kept, Quiets, Summary}
use Rattle.promises.proofs.invariants.FaultHolds.{AllHeld, Fits, Gone, Held, InSchedule, bell_rings, carried, farther_aside, fits_any, fits_kept, joined_aside, used_stays, used_by, uses_aside}
use Rattle.promises.specs.Slots.{size_in}

answered_apart : Answered ≡ Rung → ⊥
answered_apart e = true≢false (ap is_answered e)

quiet_bell : (s : Settings) (t : Turn) (h : History) → rings t ≡ false → reads s t ≡ false → drains s t ≡ false → bell s (t ∷ h) ≡ bell s h
unfolding bell
quiet_bell s t h e r d = rw (e, r, d)

abbrev pub HeldInv : Settings → History → (ℕ → Endpoint) → Type 0
HeldInv s h f = AllHeld (uses s h) (bell s h) f (holds s h)

module _ (s : Settings) (w : World) (c : Call) (a : Applied) (h : History) (sound : Sound s w) (g : StateInv s h w.state) where
  abbrev t : Turn
  t = turn_of w.rows c a

  abbrev f : ℕ → Endpoint
  f = endpoint_at w.state

  abbrev f' : ℕ → Endpoint
  f' = endpoint_at a.reply.state

  abbrev us : List Use
  us = uses s h

  abbrev b : Bell
  b = bell s h

  -- one hold is carried through the turn, whose event is e
  abbrev Carries : Event → List Use → Type 0
  Carries e us' = (x : Hold) → Held us b f x → is_forgotten x.slot e x.reach ≡ false
      → used_by x.slot x.places us' × Fits (bell s (t ∷ h)) (f' x.slot) (farther x.slot (rings t) e x.reach)

  -- a turn that brings no new hold
  no_new : (e : Event) → event s t ≡ e → ((xs : List Hold) → joined s t e xs ≡ xs) → HeldInv s h f → Carries e (uses_after s t h e us) → HeldInv s (t ∷ h) f'
  unfolding uses holds
  no_new e q same inv one =
      rw (q, same (onward (rings t) e (holds s h))) (carried us (uses_after s t h e us) b (bell s (t ∷ h)) f f' (rings t) e one (holds s h) inv)

  -- in a calm turn that is not about a hold's slot the hold stays
  calm_hold : Calm s t h → (e : Event) → (x : Hold) → Aside x.slot e → Kept (f x.slot) (f' x.slot) → Fits b (f x.slot) x.reach
      → Fits (bell s (t ∷ h)) (f' x.slot) (farther x.slot (rings t) e x.reach)
  calm_hold calm e x aside kept y =
      rw (calm.no_ring, farther_aside x.slot e x.reach aside.no_unlink aside.no_part, calm_bell s t h calm) (fits_kept b (f x.slot) (f' x.slot) x.reach kept y)

  quiets_hold : Quiets s w c a h → HeldInv s h f → HeldInv s (t ∷ h) f'
  quiets_hold q inv =
      no_new (event s t) refl (λ xs. joined_aside s t xs (event s t) q.aside) inv
      (λ x y n. (
        subst (used_by x.slot x.places) (sym (uses_aside s t h us (event s t) q.aside)) y.used,
        calm_hold q.stays (event s t) x (q.aside x.slot) (q.kept x.slot) y.fits,
      ))

  -- an answer: no hold goes on that waited for it
  answers_hold : Answers s w c a h → HeldInv s h f → HeldInv s (t ∷ h) f'
  answers_hold q inv = no_new Reads q.event_is (λ xs. refl) inv (λ x y n. (y.used, at x.slot x.reach n (subst (λ (z : Endpoint). Fits b z x.reach) (sym (q.kept x.slot)) y.fits)))
    where
      at : (k : ℕ) (r : Reach) → is_forgotten k Reads r ≡ false → Fits b (f' k) r → Fits (bell s (t ∷ h)) (f' k) (farther k (rings t) Reads r)
      at k Met n y = fits_any b (bell s (t ∷ h)) (f' k) Met refl y
      at k Unrung n y = rw q.silent (fits_any b (bell s (t ∷ h)) (f' k) Unrung refl y)
      at k Unanswered n y = absurd (true≢false n)
      at k (Since start) n y = fits_any b (bell s (t ∷ h)) (f' k) (Since start) refl y

  -- a counted advance: what waits for two or more is rung for again
  advances_hold : Advances s w c a h → HeldInv s h f → HeldInv s (t ∷ h) f'
  advances_hold q inv = no_new Drains q.event_is (λ xs. refl) inv (λ x y n. (y.used, subst (λ (z : Endpoint). Fits (bell s (t ∷ h)) z (farther x.slot (rings t) Drains x.reach)) (sym (q.falls x.slot)) (at x.slot (f x.slot) x.reach (g.slot x.slot) y.fits)))
    where
      again : (n : ℕ) → 2 ≤ n → n ≤ w.state.unanswered → rings t ≡ true
      again n two few = q.rang ∙ le-leb 1 (w.state.unanswered - 1) (omega arith)

      gone : (k : ℕ) (p : Pipe) (r : Request) (u : UnlinkBoundary) (c : Reach) → Leaving s k h w.state.unanswered p r u → Gone b u c
          → Fits (bell s (t ∷ h)) (fallen (Unlinking p r u)) (farther k (rings t) Drains c)
      gone k p r (Async n) Met l y = absurd y
      gone k p r (Async n) Unrung l y = rw (again n y l.fits) (bell_rings s t h (again n y l.fits), omega arith)
      gone k p r (Async n) Unanswered l y = absurd (answered_apart (sym q.was ∙ y.0))
      gone k p r (Async n) (Since start) l y = absurd y
      gone k p r (Periodic n) Met l y = absurd y
      gone k p r (Periodic n) Unrung l y = absurd y
      gone k p r (Periodic n) Unanswered l y = absurd y
      gone k p r (Periodic n) (Since start) l y = y

      met : (k : ℕ) (c : Reach) → InSchedule c → InSchedule (farther k (rings t) Drains c)
      met k Met y = tt
      met k Unrung y = absurd y
      met k Unanswered y = absurd y
      met k (Since start) y = absurd y

      at : (k : ℕ) (z : Endpoint) (c : Reach) → Slot s k h w.state.unanswered z → Fits b z c → Fits (bell s (t ∷ h)) (fallen z) (farther k (rings t) Drains c)
      at k Closed c l y = absurd y
      at k (Idle p) c l y = absurd y
      at k (Linked p r) c l y = met k c y
      at k (Unlinking p r u) c l y = gone k p r u c l y

  -- a submit: its slot had no hold
  idle_none : (k : ℕ) (p : Pipe) (x : Hold) → f k ≡ Idle p → Held us b f x → x.slot ≡ k → ⊥
  idle_none k p x e y q = subst (λ (z : Endpoint). Fits b z x.reach) (ap f q ∙ e) y.fits

  comes_hold : Comes s w c a h → HeldInv s h f → HeldInv s (t ∷ h) f'
  unfolding uses holds
  comes_hold q inv = rw q.event_is (new, carried us (newest ∷ us) b (bell s (t ∷ h)) f f' (rings t) (Submits q.k q.id q.request) one (holds s h) inv)
    where
      places : List ℕ
      places = chain_walk s t.after q.k

      newest : Use
      newest = record { slot = q.k; id = q.id; request = q.request; size = size_in q.k h; places = places }

      new : Held (newest ∷ us) (bell s (t ∷ h)) f' (record { slot = q.k; places = places; reach = Met })
      new = record { used = inl (refl, refl); fits = subst (λ (z : Endpoint). Fits (bell s (t ∷ h)) z Met) (sym q.now) tt }

      one : Carries (Submits q.k q.id q.request) (newest ∷ us)
      one x y n = at (dec_eq x.slot q.k)
        where
          at : Dec (x.slot ≡ q.k) → used_by x.slot x.places (newest ∷ us) × Fits (bell s (t ∷ h)) (f' x.slot) (farther x.slot (rings t) (Submits q.k q.id q.request) x.reach)
          at (yes e) = absurd (idle_none q.k q.q x q.was y e)
          at (no ne) = (inr y.used, calm_hold q.stays (Submits q.k q.id q.request) x (aside_submits x.slot q.k ne q.id q.request) (Kept.same (q.others x.slot ne)) y.fits)

  -- an unlink from the frame list
  departs_hold : Departs s w c a h → HeldInv s h f → HeldInv s (t ∷ h) f'
  departs_hold q inv = no_new (Parts q.k q.frame) q.event_is (λ xs. refl) inv (λ x y n. (y.used, at x y (dec_eq x.slot q.k)))
    where
      left : (c : Reach) → InSchedule c → Gone (bell s (t ∷ h)) (Periodic (q.frame % 16384)) (farther q.k (rings t) (Parts q.k q.frame) c)
      left Met y = rw (eq-eqb q.k q.k refl) refl
      left Unrung y = absurd y
      left Unanswered y = absurd y
      left (Since start) y = absurd y

      at : (x : Hold) → Held us b f x → Dec (x.slot ≡ q.k) → Fits (bell s (t ∷ h)) (f' x.slot) (farther x.slot (rings t) (Parts q.k q.frame) x.reach)
      at x y (yes e) =
          subst (λ (i : ℕ). Fits (bell s (t ∷ h)) (f' i) (farther i (rings t) (Parts q.k q.frame) x.reach)) (sym e)
          (subst (λ (z : Endpoint). Fits (bell s (t ∷ h)) z (farther q.k (rings t) (Parts q.k q.frame) x.reach)) (sym q.now)
          (left x.reach (subst (λ (z : Endpoint). Fits b z x.reach) (ap f e ∙ q.was) y.fits)))
      at x y (no ne) = calm_hold q.stays (Parts q.k q.frame) x (aside_parts x.slot q.k ne q.frame) (Kept.same (q.others x.slot ne)) y.fits

  -- a collection: its boundary is passed, so its hold is forgotten by now
  ends_hold : Ends s w c a h → HeldInv s h f → HeldInv s (t ∷ h) f'
  ends_hold q inv = no_new (Collects q.k q.id q.frame) q.event_is (λ xs. refl) inv (λ x y n. at x y n (dec_eq x.slot q.k))
    where
      over : (u : UnlinkBoundary) (c : Reach) → passed_boundary u q.frame ≡ true → is_forgotten q.k (Collects q.k q.id q.frame) c ≡ false → Gone b u c → ⊥
      over (Async n) Met e n' y = y
      over (Async n) Unrung e n' y = omega (arith, eqb-true n 0 e)
      over (Async n) Unanswered e n' y = omega (arith, eqb-true n 0 e, y.1)
      over (Async n) (Since start) e n' y = y
      over (Periodic n) Met e n' y = y
      over (Periodic n) Unrung e n' y = y
      over (Periodic n) Unanswered e n' y = y
      over (Periodic n) (Since start) e n' y =
          true≢false (sym (ap (λ (z : ℕ). frames_passed z q.frame) (sym y) ∙ e) ∙ (sym (ap (λ (z : Bool). (z && frames_passed (frame_of start) q.frame)) (eq-eqb q.k q.k refl)) ∙ n'))

      at : (x : Hold) → Held us b f x → is_forgotten x.slot (Collects q.k q.id q.frame) x.reach ≡ false → Dec (x.slot ≡ q.k)
          → used_by x.slot x.places (without q.k q.id us) × Fits (bell s (t ∷ h)) (f' x.slot) (farther x.slot (rings t) (Collects q.k q.id q.frame) x.reach)
      at x y n (yes e) =
          absurd (over q.u x.reach q.passed (subst (λ (i : ℕ). is_forgotten i (Collects q.k q.id q.frame) x.reach ≡ false) e n)
          (subst (λ (z : Endpoint). Fits b z x.reach) (ap f e ∙ q.was) y.fits))
      at x y n (no ne) = (
        used_stays q.k q.id x.slot x.places us ne y.used,
        calm_hold q.stays (Collects q.k q.id q.frame) x (aside_collects x.slot q.k ne q.id q.frame) (Kept.same (q.others x.slot ne)) y.fits,
      )

  -- an unlink from the ring: it rings where no ring is out, and then every hold that left the ring is rung for
  goes_hold : Goes s w c a h → HeldInv s h f → HeldInv s (t ∷ h) f'
  goes_hold q inv = no_new (Unlinks q.k) q.event_is (λ xs. refl) inv (λ x y n. (y.used, by (rings t) refl x y (dec_eq x.slot q.k)))
    where
      -- without a ring the bell is as it was, and an unlink is unanswered already
      bell_stays : rings t ≡ false → bell s (t ∷ h) ≡ b
      bell_stays e = quiet_bell s t h e (ap is_reads q.event_is) (ap is_drains q.event_is)

      some : rings t ≡ false → 1 ≤ w.state.unanswered
      some e = omega (arith, sound.ranges.unanswered_least, eqb-false w.state.doorbell 0 (sym q.rang ∙ e))

      mine : (r : Bool) → rings t ≡ r → (c : Reach) → InSchedule c → Gone (bell s (t ∷ h)) (Async (w.state.unanswered + 1)) (farther q.k r (Unlinks q.k) c)
      mine true e Met y = rw (eq-eqb q.k q.k refl) (bell_rings s t h e, omega arith)
      mine false e Met y = rw (eq-eqb q.k q.k refl) (omega (arith, some e))
      mine r e Unrung y = absurd y
      mine r e Unanswered y = absurd y
      mine r e (Since start) y = absurd y

      others_gone : (r : Bool) → rings t ≡ r → (j : ℕ) → (j ≡ q.k → ⊥) → (u : UnlinkBoundary) (c : Reach) → Gone b u c → Gone (bell s (t ∷ h)) u (farther j r (Unlinks q.k) c)
      others_gone r e j ne (Async n) Met y = absurd y
      others_gone true e j ne (Async n) Unrung y = (bell_rings s t h e, omega arith)
      others_gone false e j ne (Async n) Unrung y = y
      others_gone true e j ne (Async n) Unanswered y = (bell_rings s t h e, y.1)
      others_gone false e j ne (Async n) Unanswered y = (bell_stays e ∙ y.0, y.1)
      others_gone r e j ne (Async n) (Since start) y = absurd y
      others_gone r e j ne (Periodic n) Met y = absurd y
      others_gone r e j ne (Periodic n) Unrung y = absurd y
      others_gone r e j ne (Periodic n) Unanswered y = absurd y
      others_gone r e j ne (Periodic n) (Since start) y = y

      others_met : (r : Bool) (j : ℕ) → (j ≡ q.k → ⊥) → (c : Reach) → InSchedule c → InSchedule (farther j r (Unlinks q.k) c)
      others_met r j ne Met y = rw (ne_eqb q.k j (λ e. ne (sym e))) tt
      others_met r j ne Unrung y = absurd y
      others_met r j ne Unanswered y = absurd y
      others_met r j ne (Since start) y = absurd y

      other : (r : Bool) → rings t ≡ r → (j : ℕ) → (j ≡ q.k → ⊥) → (z : Endpoint) (c : Reach) → Fits b z c → Fits (bell s (t ∷ h)) z (farther j r (Unlinks q.k) c)
      other r e j ne Closed c y = absurd y
      other r e j ne (Idle p) c y = absurd y
      other r e j ne (Linked p x) c y = others_met r j ne c y
      other r e j ne (Unlinking p x u) c y = others_gone r e j ne u c y

      by : (r : Bool) → rings t ≡ r → (x : Hold) → Held us b f x → Dec (x.slot ≡ q.k) → Fits (bell s (t ∷ h)) (f' x.slot) (farther x.slot (rings t) (Unlinks q.k) x.reach)
      by r e x y (yes i) =
          subst (λ (z : Bool). Fits (bell s (t ∷ h)) (f' x.slot) (farther x.slot z (Unlinks q.k) x.reach)) (sym e)
          (subst (λ (j : ℕ). Fits (bell s (t ∷ h)) (f' j) (farther j r (Unlinks q.k) x.reach)) (sym i)
          (subst (λ (z : Endpoint). Fits (bell s (t ∷ h)) z (farther q.k r (Unlinks q.k) x.reach)) (sym q.now)
          (mine r e x.reach (subst (λ (z : Endpoint). Fits b z x.reach) (ap f i ∙ q.was) y.fits))))
      by r e x y (no ne) =
          subst (λ (z : Bool). Fits (bell s (t ∷ h)) (f' x.slot) (farther x.slot z (Unlinks q.k) x.reach)) (sym e)
          (subst (λ (z : Endpoint). Fits (bell s (t ∷ h)) z (farther x.slot r (Unlinks q.k) x.reach)) (sym (q.others x.slot ne))
          (other r e x.slot ne (f x.slot) x.reach y.fits))

  pub holds_keep : Summary s w c a h → HeldInv s h f → HeldInv s (t ∷ h) f'
  holds_keep (Summary.quiets q) inv = quiets_hold q inv
  holds_keep (Summary.answers q) inv = answers_hold q inv
  holds_keep (Summary.advances q) inv = advances_hold q inv
  holds_keep (Summary.comes q) inv = comes_hold q inv
  holds_keep (Summary.goes q) inv = goes_hold q inv
  holds_keep (Summary.departs q) inv = departs_hold q inv
  holds_keep (Summary.ends q) inv = ends_hold q inv
