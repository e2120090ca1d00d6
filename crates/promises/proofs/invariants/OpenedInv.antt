-- The tie between the slots and the running that a history tells of and a state.
use Prim.Native.Nat.{ℕ}
use mathlib.Core.Bool.{true, cond}
use mathlib.Core.List.{[], ◌∷◌}
use mathlib.Core.Path.{◌≡◌, refl, sym, ap, subst, ◌∙◌}
use lib.Dec.{eqb}
use Rattle.settings.specs.declared.settings.Settings.{Settings}
use Rattle.state.specs.Slots.{slot_at, with_slot}
use Rattle.state.specs.State.{with_bell, with_boundaries, with_owner}
use Rattle.state.specs.Plain.{Ehci}
use Rattle.pipe.specs.Endpoints.{decoded, encoded, flag_number, kind_of, with_endpoint}
use Rattle.pipe.specs.declared.endpoints.Endpoint.{Endpoint}
use Rattle.pipe.specs.declared.endpoints.Endpoint.TheVariants.{Closed, Idle, Linked, Unlinking}
use Rattle.pipe.proofs.EndpointLaws.{kind_there}
use Rattle.opening.specs.Opening.{fresh_state}
use Rattle.controller.specs.Readers.{is_opened}
use Rattle.request.specs.Submit.{state_with}
use Rattle.collection.specs.Calls.{finish_of}
use Rattle.collection.specs.Unlinks.{waiting_of}
use Rattle.ehci.specs.declared.call.Call.{Call}
use Rattle.ehci.specs.Door.{Applied}
use Rattle.promises.specs.Runs.{History, Opening, Turn, World, left_by, turn_of}
use Rattle.promises.specs.Opened.{kind_now, kind_in}
use Rattle.promises.specs.Slots.{Change, ClosesSlot, Halted, Open, OpensSlot, ResizesSlot, Running, Same, SlotKind, resized, change, runs_after, runs_in, slot_after, slot_in, ClearsHalt}
use Rattle.promises.proofs.effects.Effects.{Effect, Still, Switches, accepts, closes, collects, counts, hears, joins, marks, opens, passes, resizes, rewrites, still, unlinks, writes_back, Resizes, clears}
use Rattle.promises.proofs.invariants.Reached.{opening_is}
use Rattle.promises.proofs.effects.SlotViews.{view_open, view_kept}
use Rattle.promises.proofs.invariants.Sound.{Sound, of_state}
use Rattle.promises.proofs.invariants.BellFacts.{fresh_closed}
use Rattle.promises.proofs.invariants.ViewsAfter.{view_after, viewed}
use Rattle.common.specs.declared.kinds.EndpointType.{EndpointType}
use native.Mathlib.Decide.{ℕ_discrete as dec_eq}
use borrow.Author.Tests.{ne_eqb}

-- ---- the kind of a slot

-- an endpoint that is encoded and decoded has the same kind
kind_again : (x : Endpoint) → kind_in (decoded (encoded x)) ≡ kind_in x
unfolding decoded
kind_again Closed = refl
kind_again (Idle p) = rw (kind_there p.kind)
kind_again (Linked p r) = rw (kind_there p.kind)
kind_again (Unlinking p r b) = rw (kind_there p.kind)

-- the kind of an open slot is what its number stands for
pub kind_slot : (s : Ehci) (k : ℕ) → is_opened s k ≡ true → kind_now s k ≡ Open (kind_of (slot_at s k).kind) (slot_at s k).size
kind_slot s k o = view_open kind_in s k o (Open (kind_of (slot_at s k).kind) (slot_at s k).size) refl refl (λ b. refl)

-- ---- the invariant

pub record Told (h : History) (s : Ehci) : Type 0 where
  pub slots : (k : ℕ) → slot_in k h ≡ kind_now s k
  pub runs : s.running ≡ flag_number (runs_in h)

pub told_opens : (s : Settings) (w : World) → Opening s w → Told [] w.state
unfolding slot_in runs_in fresh_state
told_opens s w o =
    subst (λ (x : World). Told [] x.state) (sym (opening_is s w o).1)
    (record { slots = λ k. sym (ap kind_in (fresh_closed s k)); runs = refl })

module _ (w : World) (c : Call) (a : Applied) (h : History) (told : Told h w.state) where
  abbrev t : Turn
  t = turn_of w.rows c a

  abbrev old : Ehci
  old = w.state

  abbrev new : Ehci
  new = a.reply.state

  told_by : (x : Change) → change t ≡ x → ((k : ℕ) → slot_after k x (slot_in k h) ≡ kind_now new k) → new.running ≡ flag_number (runs_after x (runs_in h))
      → Told (t ∷ h) new
  unfolding slot_in runs_in
  told_by x e slots runs =
      record {
        slots = λ k. ap (λ (y : Change). slot_after k y (slot_in k h)) e ∙ slots k;
        runs = runs ∙ sym (ap (λ (y : Change). flag_number (runs_after y (runs_in h))) e);
      }

  unchanged : change t ≡ Same → ((k : ℕ) → kind_now new k ≡ kind_now old k) → new.running ≡ old.running → Told (t ∷ h) new
  unchanged e kinds run = told_by Same e (λ k. told.slots k ∙ sym (kinds k)) (run ∙ told.runs)

  module _ (sound : Sound w.state.settings w) where
    after : (x : Effect w c a) (k : ℕ) → kind_now new k ≡ viewed kind_in w c a x k
    after = view_after kind_in w c a kind_again (λ p r b d. refl) sound

    still_told : Still w c a → Told (t ∷ h) new
    still_told x = by (change t) refl x.switches
      where
        kinds : (k : ℕ) → slot_in k h ≡ kind_now new k
        kinds k = told.slots k ∙ sym (after (still x) k)

        run : new.running ≡ x.sides.running
        run = ap (λ (y : Ehci). y.running) x.state_is

        by : (y : Change) → change t ≡ y → Switches y old.running x.sides.running → Told (t ∷ h) new
        by Same e s = told_by Same e kinds (run ∙ s ∙ told.runs)
        by (OpensSlot k kind size) e s = absurd s
        by (ResizesSlot k size) e s = absurd s
        by (ClosesSlot k) e s = absurd s
        by (ClearsHalt k) e s = absurd s
        by Halted e s = told_by Halted e kinds (run ∙ s)
        by Running e s = told_by Running e kinds (run ∙ s)

    -- the slot that is given another size has its kind
    resized_here : (x : Resizes w c a) (j : ℕ) → cond (eqb x.k j) (resized (slot_in j h) x.size) (slot_in j h) ≡ cond (eqb x.k j) (Open x.p.kind x.size) (kind_now old j)
    resized_here x j = ap (λ (z : SlotKind). cond (eqb x.k j) (resized z x.size) z) (told.slots j) ∙ own (dec_eq x.k j)
      where
        own : Dec (x.k ≡ j) → cond (eqb x.k j) (resized (kind_now old j) x.size) (kind_now old j) ≡ cond (eqb x.k j) (Open x.p.kind x.size) (kind_now old j)
        own (yes e) =
            ap (λ (z : SlotKind). cond (eqb x.k j) (resized z x.size) (kind_now old j)) (ap (λ (i : ℕ). kind_now old i) (sym e) ∙ ap kind_in x.idle)
        own (no ne) = rw (ne_eqb x.k j ne)

    told_here : Effect w c a → Told (t ∷ h) new
    unfolding with_bell with_boundaries state_with waiting_of finish_of with_owner with_endpoint with_slot
    told_here (still x) = still_told x
    told_here (hears x) = unchanged x.same (after (hears x)) (ap (λ (y : Ehci). y.running) x.state_is ∙ x.runs_on.0)
    told_here (joins x) = unchanged x.same (after (joins x)) (ap (λ (y : Ehci). y.running) x.state_is ∙ x.runs_on.0)
    told_here (passes x) = unchanged x.same (after (passes x)) (ap (λ (y : Ehci). y.running) x.state_is ∙ x.runs_on.0)
    told_here (counts x) = unchanged x.same (after (counts x)) (ap (λ (y : Ehci). y.running) x.state_is ∙ x.runs_on.0)
    told_here (opens x) =
        told_by (OpensSlot x.k x.kind x.packet) x.changes (λ j. ap (λ (z : SlotKind). cond (eqb x.k j) (Open x.kind x.packet) z) (told.slots j) ∙ sym (after (opens x) j))
        (ap (λ (y : Ehci). y.running) x.state_is ∙ told.runs)
    told_here (closes x) =
        told_by (ClosesSlot x.k) x.changes (λ j. ap (λ (z : SlotKind). cond (eqb x.k j) (kind_in Closed) z) (told.slots j) ∙ sym (after (closes x) j))
        (ap (λ (y : Ehci). y.running) x.state_is ∙ told.runs)
    told_here (rewrites x) = unchanged x.same (after (rewrites x)) (ap (λ (y : Ehci). y.running) x.state_is)
    told_here (resizes x) =
        told_by (ResizesSlot x.k x.size) x.changes (λ j. resized_here x j ∙ sym (after (resizes x) j))
        (ap (λ (y : Ehci). y.running) x.state_is ∙ told.runs)
    told_here (clears x) =
        told_by (ClearsHalt x.k) x.changes (λ j. told.slots j ∙ sym (after (clears x) j ∙ view_kept kind_in old x.k _ (sym (ap kind_in x.idle)) j))
        (ap (λ (y : Ehci). y.running) x.state_is ∙ told.runs)
    told_here (accepts x) =
        unchanged x.same
        (λ j. after (accepts x) j
        ∙ view_kept kind_in old x.k _
        (sym (kind_slot old x.k x.judged.opened ∙ ap (λ (n : ℕ). Open (kind_of n) (slot_at old x.k).size) (sym x.judged.same_kind)
        ∙ ap (λ (y : EndpointType). Open y (slot_at old x.k).size) (kind_there x.t.kind))) j)
        (ap (λ (y : Ehci). y.running) x.state_is)
    told_here (writes_back x) = unchanged x.same (after (writes_back x)) (ap (λ (y : Ehci). y.running) x.state_is)
    told_here (marks x) =
        unchanged x.same (λ j. after (marks x) j ∙ view_kept kind_in old x.k _ (sym (ap kind_in x.unlinking)) j) (ap (λ (y : Ehci). y.running) x.state_is)
    told_here (unlinks x) =
        unchanged x.same (λ j. after (unlinks x) j ∙ view_kept kind_in old x.k _ (sym (ap kind_in x.linked)) j) (ap (λ (y : Ehci). y.running) x.state_is)
    told_here (collects x) =
        unchanged x.same (λ j. after (collects x) j ∙ view_kept kind_in old x.k _ (sym (ap kind_in x.unlinking)) j) (ap (λ (y : Ehci). y.running) x.state_is)

pub told_keeps : (s : Settings) (h : History) (w : World) (c : Call) (a : Applied) → Sound s w → Told h w.state → Effect w c a
    → Told (turn_of w.rows c a ∷ h) (left_by a).state
told_keeps s h w c a sound told = told_here w c a h told (of_state s w sound)
