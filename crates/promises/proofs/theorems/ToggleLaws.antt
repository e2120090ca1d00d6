-- The overlay of an accepted request has the toggle that the history tells.
use Prim.Native.Nat.{ℕ}
use mathlib.Core.Bool.{Bool, cond}
use mathlib.Core.List.{List}
use mathlib.Core.Path.{◌≡◌, refl, sym, ap, subst, ◌∙◌}
use Rattle.token.specs.EhciQtd.{data_toggle}
use Rattle.token.specs.Tokens.{only_if}
use Rattle.token.proofs.OverlayLaws.{overlay_toggle}
use Rattle.common.specs.Kinds.{is_control}
use Rattle.common.specs.declared.kinds.EndpointType.{EndpointType}
use Rattle.common.specs.declared.kinds.EndpointType.TheVariants.{Control, Isochronous, Bulk, Interrupt}
use Rattle.settings.specs.declared.settings.Settings.{Settings}
use Rattle.controller.specs.declared.lent.Readings.{Readings}
use Rattle.request.specs.Submit.{toggle_at}
use Rattle.request.specs.declared.judge.TransferRequest.{TransferRequest}
use Rattle.ehci.specs.declared.call.Call.{Call}
use Rattle.ehci.specs.declared.call.Call.TheVariants.{Submit}
use Rattle.ehci.specs.Replies.{answered_number}
use Rattle.promises.specs.Runs.{EveryRun, History, Opening, Rows, World, core, history_of, rows_of, world_of}
use Rattle.promises.specs.Submissions.{word_at}
use Rattle.promises.specs.Toggles.{TogglesKept, TogglesTied, toggle_for, toggle_in}
use Rattle.promises.proofs.effects.EffectOf.{effect}
use Rattle.promises.proofs.invariants.Reached.{reached}
use Rattle.promises.proofs.invariants.Sound.{Sound}
use Rattle.promises.proofs.invariants.ToggleInv.{TogglesTold, flag_only, toggle_slot, toggles_keep, toggles_open}
use Rattle.promises.proofs.theorems.CoverHolds.{accepted_by, zero_accepts}
use Rattle.promises.proofs.theorems.SubmissionLaws.{token_there}

told : (s : Settings) (w : World) → Opening s w → (cs : List Call) → Sound s (world_of core w cs) × TogglesTold s (history_of core w cs) (world_of core w cs)
told = reached TogglesTold toggles_open toggles_keep

pub toggles_tied : EveryRun TogglesTied core
toggles_tied s w o cs = (told s w o cs).1

for_kind : (kind : EndpointType) (b : Bool) → cond (is_control kind) 0 (only_if b 1) ≡ toggle_for kind (only_if b 1)
for_kind Control b = refl
for_kind Isochronous b = refl
for_kind Bulk b = refl
for_kind Interrupt b = refl

kept_holds : (w : World) (h : History) → Sound w.state.settings w → TogglesTold w.state.settings h w → (k : ℕ) (t : TransferRequest) (rd : Readings)
    → answered_number (core w (Submit k t rd)).reply.answer ≡ 0
    → data_toggle (word_at (rows_of (core w (Submit k t rd))) k 6) ≡ toggle_for t.kind (toggle_in w.state.settings k h)
kept_holds w h sound knows k t rd done =
    let a = core w (Submit k t rd) in
    let accepted = zero_accepts k t a.reply.answer done in
    accepted_by w (Submit k t rd) a k accepted.0 t accepted.1
    (λ j r. data_toggle (word_at (rows_of a) j 6) ≡ toggle_for r.kind (toggle_in w.state.settings j h))
    (λ x. ap (λ (rows : Rows). data_toggle (word_at rows x.k 6)) x.rows_are
    ∙ ap data_toggle (token_there w x.k x.t sound x.judged)
    ∙ overlay_toggle x.t.kind (toggle_at w.state x.k)
    ∙ for_kind x.t.kind (toggle_at w.state x.k)
    ∙ ap (toggle_for x.t.kind) (sym (knows x.k ∙ toggle_slot w.state x.k x.judged.opened ∙ flag_only (toggle_at w.state x.k))))
    (effect w (Submit k t rd))

pub toggles_kept : EveryRun TogglesKept core
toggles_kept s w o cs k t rd done =
    let now = world_of core w cs in
    let h = history_of core w cs in
    let at = told s w o cs in
    subst (λ (z : Settings). Sound z now → TogglesTold z h now → data_toggle (word_at (rows_of (core now (Submit k t rd))) k 6) ≡ toggle_for t.kind (toggle_in z k h))
    at.0.settings_are (λ sound knows. kept_holds now h sound knows k t rd done) at.0 at.1
