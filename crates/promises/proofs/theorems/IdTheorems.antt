-- The ids of this port: 1, 2, .. from a slot's opening on.
use Prim.Native.Nat.{ℕ}
use mathlib.Core.Bool.{false, cond, false≢true}
use mathlib.Core.List.{List}
use mathlib.Core.Path.{◌≡◌, refl, sym, ap, subst, ◌∙◌}
use borrow.Author.Tests.{eq-eqb}
use Rattle.settings.specs.declared.settings.Settings.{Settings}
use Rattle.request.specs.Submit.{id_at}
use Rattle.request.specs.declared.judge.TransferRequest.{TransferRequest}
use Rattle.ehci.specs.declared.call.Call.{Call}
use Rattle.ehci.specs.Door.{Applied}
use Rattle.promises.specs.Runs.{EveryRun, History, Opening, Turn, World, core, history_of, turn_of, world_of}
use Rattle.promises.specs.Events.{Event, Other, Reads, Drains, Submits, Unlinks, Parts, Collects, event, leaves_frames, leaves_ring, leaving}
use Rattle.promises.specs.Bells.{is_submits_of}
use Rattle.promises.specs.Ids.{IdsInTurn, next_id}
use Rattle.promises.proofs.effects.Effects.{Effect, accepts, clears, closes, collects, counts, hears, joins, marks, opens, passes, resizes, rewrites, still, unlinks, writes_back}
use Rattle.promises.proofs.effects.EffectOf.{effect}
use Rattle.promises.proofs.invariants.IdInv.{IdsTold, ids_keep, ids_open, next_slot}
use Rattle.promises.proofs.invariants.Reached.{reached}
use Rattle.promises.proofs.invariants.Sound.{Sound}
use Rattle.promises.proofs.any_machine.Numbers.{if_none}

ids : (s : Settings) (w : World) → Opening s w → (cs : List Call) → Sound s (world_of core w cs) × IdsTold s (history_of core w cs) (world_of core w cs)
ids = reached IdsTold ids_open ids_keep

-- an accepted submit, and the id that it found
module _ (w : World) (c : Call) (a : Applied) (h : History) (told : IdsTold w.state.settings h w) (k id : ℕ) (r : TransferRequest)
    (submits : event w.state.settings (turn_of w.rows c a) ≡ Submits k id r) where
  abbrev t : Turn
  t = turn_of w.rows c a

  never : (e : Event) → event w.state.settings t ≡ e → is_submits_of k e ≡ false → id ≡ next_id w.state.settings k h
  never e p off = absurd (false≢true (sym off ∙ ap (is_submits_of k) (sym p ∙ submits) ∙ eq-eqb k k refl))

  leaves : (j frame : ℕ) → is_submits_of k (leaving w.state.settings j frame t) ≡ false
  leaves j frame =
      if_none (is_submits_of k) (leaves_ring w.state.settings j t) (Unlinks j) (cond (leaves_frames w.state.settings j t) (Parts j frame) Other) refl
      (if_none (is_submits_of k) (leaves_frames w.state.settings j t) (Parts j frame) Other refl refl)

  slot_in_lem : Event → ℕ → ℕ
  slot_in_lem Other d = d
  slot_in_lem Reads d = d
  slot_in_lem Drains d = d
  slot_in_lem (Submits j i q) d = j
  slot_in_lem (Unlinks j) d = d
  slot_in_lem (Parts j frame) d = d
  slot_in_lem (Collects j i frame) d = d

  id_in_lem : Event → ℕ → ℕ
  id_in_lem Other d = d
  id_in_lem Reads d = d
  id_in_lem Drains d = d
  id_in_lem (Submits j i q) d = i
  id_in_lem (Unlinks j) d = d
  id_in_lem (Parts j frame) d = d
  id_in_lem (Collects j i frame) d = d

  due : Effect w c a → id ≡ next_id w.state.settings k h
  unfolding slot_in_lem id_in_lem
  due (still x) = never Other x.nothing refl
  due (hears x) = never Reads x.hears refl
  due (joins x) = never Other x.nothing refl
  due (passes x) = never Drains x.drains refl
  due (counts x) = never Drains x.drains refl
  due (opens x) = never Other x.nothing refl
  due (closes x) = never Other x.nothing refl
  due (rewrites x) = never Other x.nothing refl
  due (resizes x) = never Other x.nothing refl
  due (clears x) = never Other x.nothing refl
  due (accepts x) =
      let same = sym x.submits ∙ submits in
      let slot : x.k ≡ k = ap (λ (e : Event). slot_in_lem e 0) same in
      let its : id_at w.state x.k ≡ id = ap (λ (e : Event). id_in_lem e 0) same in
      sym its ∙ sym (next_slot w.state x.k x.judged.opened) ∙ sym (told x.k) ∙ ap (λ (j : ℕ). next_id w.state.settings j h) slot
  due (writes_back x) = never Other x.nothing refl
  due (marks x) = never Other x.nothing refl
  due (unlinks x) = never (leaving w.state.settings x.k x.readings.frame t) x.leaves (leaves x.k x.readings.frame)
  due (collects x) = never (Collects x.k x.r.id x.frame) x.collects refl

pub ids_in_turn : EveryRun IdsInTurn core
ids_in_turn s w o cs c k id r e =
    let at = ids s w o cs in
    let now = world_of core w cs in
    subst (λ (z : Settings). IdsTold z (history_of core w cs) now → event z (turn_of now.rows c (core now c)) ≡ Submits k id r → id ≡ next_id z k (history_of core w cs))
    at.0.settings_are
    (λ told submits. due now c (core now c) (history_of core w cs) told k id r submits (effect now c)) at.1 e
