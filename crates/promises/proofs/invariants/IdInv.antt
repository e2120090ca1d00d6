-- Each slot's next id is the one that the history says.
use Prim.Native.Nat.{ℕ}
use mathlib.Core.Bool.{Bool, true, false, cond}
use mathlib.Core.List.{[], ◌∷◌}
use mathlib.Core.Path.{◌≡◌, refl, sym, ap, subst, ◌∙◌}
use native.Mathlib.Decide.{ℕ_discrete as dec_eq}
use borrow.Author.Tests.{ne_eqb}
use lib.Dec.{eqb}
use Rattle.settings.specs.declared.settings.Settings.{Settings}
use Rattle.state.specs.Plain.{Ehci}
use Rattle.pipe.specs.Endpoints.{decoded, encoded, endpoint_at}
use Rattle.pipe.specs.declared.endpoints.Endpoint.{Endpoint}
use Rattle.pipe.specs.declared.endpoints.Endpoint.TheVariants.{Closed, Idle, Linked, Unlinking}
use Rattle.controller.specs.Readers.{is_opened}
use Rattle.request.specs.Submit.{id_at}
use Rattle.slot.specs.Ids.{after_id}
use Rattle.ehci.specs.declared.call.Call.{Call}
use Rattle.ehci.specs.Door.{Applied}
use Rattle.promises.specs.Runs.{History, Opening, Turn, World, left_by, turn_of}
use Rattle.promises.specs.Events.{Event, Other, Reads, Drains, Submits, Collects, event, leaving}
use Rattle.promises.specs.Slots.{Change, ClearsHalt, ClosesSlot, Halted, OpensSlot, ResizesSlot, Running, Same, change}
use Rattle.promises.specs.Ids.{following, next_id, start_by, taken_by}
use Rattle.promises.proofs.effects.Effects.{Effect, Still, Switches, accepts, closes, collects, counts, hears, joins, marks, opens, passes, resizes, rewrites, still, unlinks, writes_back, leaving_by, clears}
use Rattle.promises.proofs.effects.SlotViews.{view_open, view_kept}
use Rattle.promises.proofs.invariants.Reached.{opening_is}
use Rattle.promises.proofs.invariants.Sound.{Sound}
use Rattle.promises.proofs.invariants.BellFacts.{fresh_closed}
use Rattle.promises.proofs.invariants.ViewsAfter.{view_after, viewed}

-- ---- the next id of a slot

abbrev pub next_in : Endpoint → ℕ
next_in Closed = 1
next_in (Idle p) = p.next
next_in (Linked p r) = p.next
next_in (Unlinking p r b) = p.next

abbrev pub next_now : Ehci → ℕ → ℕ
next_now s k = next_in (endpoint_at s k)

next_again : (x : Endpoint) → next_in (decoded (encoded x)) ≡ next_in x
unfolding decoded
next_again Closed = refl
next_again (Idle p) = refl
next_again (Linked p r) = refl
next_again (Unlinking p r b) = refl

-- it is the slot's id
pub next_slot : (s : Ehci) (k : ℕ) → is_opened s k ≡ true → next_now s k ≡ id_at s k
next_slot s k o = view_open next_in s k o (id_at s k) refl refl (λ b. refl)

after_follows : (n : ℕ) → after_id n ≡ following n
unfolding after_id
after_follows n = by (eqb n 18446744073709551615) refl
  where
    by : (b : Bool) → eqb n 18446744073709551615 ≡ b → after_id n ≡ following n
    by true e = rw e
    by false e = rw e

-- ---- the invariant

abbrev pub IdsTold : Settings → History → World → Type 0
IdsTold s h w = (k : ℕ) → next_id s k h ≡ next_now w.state k

pub ids_open : (s : Settings) (w : World) → Opening s w → IdsTold s [] w
unfolding next_id
ids_open s w o = subst (λ (x : World). IdsTold s [] x) (sym (opening_is s w o).1) (λ k. sym (ap next_in (fresh_closed s k)))

left_takes : (s : Settings) (k j frame n : ℕ) (t : Turn) → taken_by k (leaving s j frame t) n ≡ n
left_takes s k j frame n t = leaving_by s j frame t (λ e. taken_by k e n ≡ n) refl refl refl

module _ (w : World) (c : Call) (a : Applied) (h : History) (told : IdsTold w.state.settings h w) (sound : Sound w.state.settings w) where
  abbrev t : Turn
  t = turn_of w.rows c a

  abbrev old : Ehci
  old = w.state

  abbrev new : Ehci
  new = a.reply.state

  abbrev Told : Type 0
  Told = (k : ℕ) → next_id old.settings k (t ∷ h) ≡ next_now new k

  after : (x : Effect w c a) (k : ℕ) → next_now new k ≡ viewed next_in w c a x k
  after = view_after next_in w c a next_again (λ p r b d. refl) sound

  told_by : (e : Event) (x : Change) → event old.settings t ≡ e → change t ≡ x → ((k : ℕ) → taken_by k e (start_by k x (next_now old k)) ≡ next_now new k) → Told
  unfolding next_id
  told_by e x p q same k =
      ap (λ (y : Event). taken_by k y (start_by k (change t) (next_id old.settings k h))) p
      ∙ ap (λ (y : Change). taken_by k e (start_by k y (next_id old.settings k h))) q
      ∙ ap (λ (n : ℕ). taken_by k e (start_by k x n)) (told k)
      ∙ same k

  still_told : Still w c a → Told
  still_told x = by (change t) refl x.switches
    where
      kept : (k : ℕ) → next_now old k ≡ next_now new k
      kept k = sym (after (still x) k)

      by : (y : Change) → change t ≡ y → Switches y old.running x.sides.running → Told
      by Same e s = told_by Other Same x.nothing e kept
      by (OpensSlot k kind size) e s = absurd s
      by (ResizesSlot k size) e s = absurd s
      by (ClosesSlot k) e s = absurd s
      by (ClearsHalt k) e s = absurd s
      by Halted e s = told_by Other Halted x.nothing e kept
      by Running e s = told_by Other Running x.nothing e kept

  told_here : Effect w c a → Told
  told_here (still x) = still_told x
  told_here (hears x) = told_by Reads Same x.hears x.same (λ k. sym (after (hears x) k))
  told_here (joins x) = told_by Other Same x.nothing x.same (λ k. sym (after (joins x) k))
  told_here (passes x) = told_by Drains Same x.drains x.same (λ k. sym (after (passes x) k))
  told_here (counts x) = told_by Drains Same x.drains x.same (λ k. sym (after (counts x) k))
  told_here (opens x) = told_by Other (OpensSlot x.k x.kind x.packet) x.nothing x.changes (λ k. sym (after (opens x) k))
  told_here (closes x) = told_by Other (ClosesSlot x.k) x.nothing x.changes (λ k. sym (after (closes x) k))
  told_here (rewrites x) = told_by Other Same x.nothing x.same (λ k. sym (after (rewrites x) k))
  told_here (resizes x) =
      told_by Other (ResizesSlot x.k x.size) x.nothing x.changes
      (λ j. sym (after (resizes x) j ∙ view_kept next_in old x.k _ (sym (ap next_in x.idle)) j))
  told_here (clears x) =
      told_by Other (ClearsHalt x.k) x.nothing x.changes
      (λ j. sym (after (clears x) j ∙ view_kept next_in old x.k _ (sym (ap next_in x.idle)) j))
  told_here (accepts x) =
      told_by (Submits x.k (id_at old x.k) x.t) Same x.submits x.same
      (λ j. sym (after (accepts x) j
      ∙ ap (λ (n : ℕ). cond (eqb x.k j) n (next_now old j)) (after_follows (id_at old x.k) ∙ ap following (sym (next_slot old x.k x.judged.opened)))
      ∙ own x.k j))
    where
      own : (k j : ℕ) → cond (eqb k j) (following (next_now old k)) (next_now old j) ≡ cond (eqb k j) (following (next_now old j)) (next_now old j)
      own k j = by (dec_eq k j)
        where
          by : Dec (k ≡ j) → cond (eqb k j) (following (next_now old k)) (next_now old j) ≡ cond (eqb k j) (following (next_now old j)) (next_now old j)
          by (yes e) = ap (λ (i : ℕ). cond (eqb k j) (following (next_now old i)) (next_now old j)) e
          by (no ne) = rw (ne_eqb k j ne)
  told_here (writes_back x) = told_by Other Same x.nothing x.same (λ k. sym (after (writes_back x) k))
  told_here (marks x) =
      told_by Other Same x.nothing x.same (λ j. sym (after (marks x) j ∙ view_kept next_in old x.k _ (sym (ap next_in x.unlinking)) j))
  told_here (unlinks x) =
      told_by (leaving old.settings x.k x.readings.frame t) Same x.leaves x.same
      (λ j. left_takes old.settings j x.k x.readings.frame (next_now old j) t
      ∙ sym (after (unlinks x) j ∙ view_kept next_in old x.k _ (sym (ap next_in x.linked)) j))
  told_here (collects x) =
      told_by (Collects x.k x.r.id x.frame) Same x.collects x.same
      (λ j. sym (after (collects x) j ∙ view_kept next_in old x.k _ (sym (ap next_in x.unlinking)) j))

pub ids_keep : (s : Settings) (h : History) (w : World) (c : Call) (a : Applied) → Sound s w → IdsTold s h w → Effect w c a → IdsTold s (turn_of w.rows c a ∷ h) (left_by a)
ids_keep s h w c a sound told x =
    subst (λ (z : Settings). Sound z w → IdsTold z h w → IdsTold z (turn_of w.rows c a ∷ h) (left_by a)) sound.settings_are
    (λ good was. told_here w c a h was good x) sound told
