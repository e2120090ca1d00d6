-- The tie between the toggles that a history tells of and a state.
use Prim.Native.Nat.{ℕ}
use mathlib.Core.Bool.{Bool, true, false, cond}
use mathlib.Core.List.{[], ◌∷◌}
use mathlib.Core.Path.{◌≡◌, refl, sym, ap, subst, ◌∙◌}
use lib.Dec.{eqb}
use Rattle.token.specs.EhciQtd.{data_toggle}
use Rattle.token.specs.Overlay.{kept_toggle}
use Rattle.token.specs.Tokens.{only_if}
use Rattle.token.proofs.OverlayLaws.{kept_flag}
use Rattle.settings.specs.declared.settings.Settings.{Settings}
use Rattle.state.specs.Plain.{Ehci}
use Rattle.pipe.specs.Endpoints.{decoded, encoded, flag_number}
use Rattle.pipe.specs.declared.endpoints.Endpoint.{Endpoint}
use Rattle.pipe.specs.declared.endpoints.Endpoint.TheVariants.{Closed, Idle, Linked, Unlinking}
use Rattle.pipe.proofs.EndpointLaws.{flag_there}
use Rattle.controller.specs.Readers.{is_opened}
use Rattle.request.specs.Submit.{id_at, toggle_at}
use Rattle.ehci.specs.declared.call.Call.{Call}
use Rattle.ehci.specs.Door.{Applied}
use Rattle.promises.specs.Runs.{History, Opening, Turn, World, left_by, turn_of}
use Rattle.promises.specs.Events.{Collects, Drains, Event, Other, Reads, Submits, event, leaving}
use Rattle.promises.specs.Slots.{Change, ClearsHalt, ClosesSlot, Halted, OpensSlot, ResizesSlot, Running, Same, change}
use Rattle.promises.specs.Toggles.{flip_by, overlay_given, toggle_after, toggle_in, toggle_now, toggle_of}
use Rattle.promises.proofs.effects.Effects.{Effect, Still, Switches, accepts, clears, closes, collects, counts, hears, joins, leaving_by, marks, opens, passes, resizes, rewrites, still, unlinks, writes_back}
use Rattle.promises.proofs.effects.SlotViews.{view_kept, view_open}
use Rattle.promises.proofs.invariants.BellFacts.{fresh_closed}
use Rattle.promises.proofs.invariants.Reached.{opening_is}
use Rattle.promises.proofs.invariants.Sound.{Sound}
use Rattle.promises.proofs.invariants.ViewsAfter.{view_after, viewed}

-- ---- the toggle of a slot

toggle_again : (x : Endpoint) → toggle_of (decoded (encoded x)) ≡ toggle_of x
unfolding decoded
toggle_again Closed = refl
toggle_again (Idle p) = rw (flag_there p.toggle)
toggle_again (Linked p r) = rw (flag_there p.toggle)
toggle_again (Unlinking p r b) = rw (flag_there p.toggle)

-- an open slot's is the one that a submit reads
pub toggle_slot : (s : Ehci) (k : ℕ) → is_opened s k ≡ true → toggle_now s k ≡ flag_number (toggle_at s k)
toggle_slot s k o = view_open toggle_of s k o (flag_number (toggle_at s k)) refl refl (λ b. refl)

pub flag_only : (b : Bool) → flag_number b ≡ only_if b 1
flag_only true = refl
flag_only false = refl

-- ---- the invariant

abbrev pub TogglesTold : Settings → History → World → Type 0
TogglesTold s h w = (k : ℕ) → toggle_in s k h ≡ toggle_now w.state k

pub toggles_open : (s : Settings) (w : World) → Opening s w → TogglesTold s [] w
unfolding toggle_in
toggles_open s w o = subst (λ (x : World). TogglesTold s [] x) (sym (opening_is s w o).1) (λ k. sym (ap toggle_of (fresh_closed s k)))

left_flips : (s : Settings) (k j frame token n : ℕ) (t : Turn) → toggle_after k (flip_by (leaving s j frame t) token Same) n ≡ n
left_flips s k j frame token n t = leaving_by s j frame t (λ e. toggle_after k (flip_by e token Same) n ≡ n) refl refl refl

module _ (w : World) (c : Call) (a : Applied) (h : History) (told : TogglesTold w.state.settings h w) (sound : Sound w.state.settings w) where
  abbrev t : Turn
  t = turn_of w.rows c a

  abbrev old : Ehci
  old = w.state

  abbrev new : Ehci
  new = a.reply.state

  abbrev Told : Type 0
  Told = (k : ℕ) → toggle_in old.settings k (t ∷ h) ≡ toggle_now new k

  after : (x : Effect w c a) (k : ℕ) → toggle_now new k ≡ viewed toggle_of w c a x k
  after = view_after toggle_of w c a toggle_again (λ p r b d. refl) sound

  told_by : (e : Event) (x : Change) → event old.settings t ≡ e → change t ≡ x
      → ((k : ℕ) → toggle_after k (flip_by e (overlay_given c) x) (toggle_now old k) ≡ toggle_now new k) → Told
  unfolding toggle_in
  told_by e x p q same k =
      ap (λ (y : Event). toggle_after k (flip_by y (overlay_given c) (change t)) (toggle_in old.settings k h)) p
      ∙ ap (λ (y : Change). toggle_after k (flip_by e (overlay_given c) y) (toggle_in old.settings k h)) q
      ∙ ap (λ (n : ℕ). toggle_after k (flip_by e (overlay_given c) x) n) (told k)
      ∙ same k

  still_told : Still w c a → Told
  still_told x = by (change t) refl x.switches
    where
      kept : (k : ℕ) → toggle_now old k ≡ toggle_now new k
      kept k = sym (after (still x) k)

      by : (y : Change) → change t ≡ y → Switches y old.running x.sides.running → Told
      by Same e s = told_by Other Same x.nothing e kept
      by (OpensSlot k kind size) e s = absurd s
      by (ResizesSlot k size) e s = absurd s
      by (ClosesSlot k) e s = absurd s
      by (ClearsHalt k) e s = absurd s
      by Halted e s = told_by Other Halted x.nothing e kept
      by Running e s = told_by Other Running x.nothing e kept

  told_here : Effect w c a → Told
  told_here (still x) = still_told x
  told_here (hears x) = told_by Reads Same x.hears x.same (λ k. sym (after (hears x) k))
  told_here (joins x) = told_by Other Same x.nothing x.same (λ k. sym (after (joins x) k))
  told_here (passes x) = told_by Drains Same x.drains x.same (λ k. sym (after (passes x) k))
  told_here (counts x) = told_by Drains Same x.drains x.same (λ k. sym (after (counts x) k))
  told_here (opens x) = told_by Other (OpensSlot x.k x.kind x.packet) x.nothing x.changes (λ k. sym (after (opens x) k))
  told_here (closes x) = told_by Other (ClosesSlot x.k) x.nothing x.changes (λ k. sym (after (closes x) k))
  told_here (rewrites x) = told_by Other Same x.nothing x.same (λ k. sym (after (rewrites x) k))
  told_here (resizes x) =
      told_by Other (ResizesSlot x.k x.size) x.nothing x.changes
      (λ j. sym (after (resizes x) j ∙ view_kept toggle_of old x.k _ (sym (ap toggle_of x.idle)) j))
  told_here (clears x) = told_by Other (ClearsHalt x.k) x.nothing x.changes (λ k. sym (after (clears x) k))
  told_here (accepts x) =
      told_by (Submits x.k (id_at old x.k) x.t) Same x.submits x.same
      (λ j. sym (after (accepts x) j ∙ view_kept toggle_of old x.k _ (sym (toggle_slot old x.k x.judged.opened)) j))
  told_here (writes_back x) = told_by Other Same x.nothing x.same (λ k. sym (after (writes_back x) k))
  told_here (marks x) =
      told_by Other Same x.nothing x.same (λ j. sym (after (marks x) j ∙ view_kept toggle_of old x.k _ (sym (ap toggle_of x.unlinking)) j))
  told_here (unlinks x) =
      told_by (leaving old.settings x.k x.readings.frame t) Same x.leaves x.same
      (λ j. left_flips old.settings j x.k x.readings.frame (overlay_given c) (toggle_now old j) t
      ∙ sym (after (unlinks x) j ∙ view_kept toggle_of old x.k _ (sym (ap toggle_of x.linked)) j))
  told_here (collects x) =
      told_by (Collects x.k x.r.id x.frame) Same x.collects x.same
      (λ j. sym (after (collects x) j ∙ ap (λ (n : ℕ). cond (eqb x.k j) n (toggle_now old j)) left))
    where
      left : flag_number x.toggle ≡ data_toggle (overlay_given c)
      left = ap flag_number x.kept ∙ flag_only (kept_toggle (overlay_given c)) ∙ kept_flag (overlay_given c)

pub toggles_keep : (s : Settings) (h : History) (w : World) (c : Call) (a : Applied) → Sound s w → TogglesTold s h w → Effect w c a
    → TogglesTold s (turn_of w.rows c a ∷ h) (left_by a)
toggles_keep s h w c a sound told e =
    subst (λ (z : Settings). Sound z w → TogglesTold z h w → TogglesTold z (turn_of w.rows c a ∷ h) (left_by a)) sound.settings_are
    (λ good knows. told_here w c a h knows good e) sound told
