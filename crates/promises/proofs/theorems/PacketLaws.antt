-- In every world of a run each uncollected control request's setup packet reads as its call asked.
use Prim.Native.Nat.{ℕ}
use mathlib.Core.Path.{◌≡◌, refl, sym, subst, ◌∙◌}
use mathlib.Core.List.{List, [], ◌∷◌}
use Rattle.common.specs.declared.kinds.EndpointType.TheVariants.{Control}
use Rattle.settings.specs.declared.settings.Settings.{Settings}
use Rattle.request.specs.Submit.{id_at}
use Rattle.ehci.specs.declared.call.Call.{Call}
use Rattle.ehci.specs.Door.{Applied}
use Rattle.promises.specs.Runs.{EveryRun, History, Opening, Rows, Turn, World, core, left_by, rows_of, turn_of}
use Rattle.promises.specs.Events.{Collects, Drains, Event, Other, Reads, Submits, event, leaving}
use Rattle.promises.specs.Uses.{Use, uses, uses_after, without}
use Rattle.promises.specs.Rooms.{Every}
use Rattle.promises.specs.Submissions.{Asks, PacketsStand, packet_at}
use Rattle.promises.proofs.effects.Effects.{Accepts, Effect, still, hears, joins, passes, counts, opens, closes, resizes, rewrites, accepts, writes_back, marks, unlinks, collects, clears}
use Rattle.promises.proofs.invariants.Reached.{reached}
use Rattle.promises.proofs.invariants.Sound.{Sound}
use Rattle.promises.proofs.invariants.UseInv.{Held, every_both, every_map, without_every}
use Rattle.promises.proofs.invariants.UseSteps.{uses_by, uses_leaving}
use Rattle.promises.proofs.invariants.UseHeld.{Kept, kept_keeps, kept_opens}
use Rattle.promises.proofs.theorems.SubmissionLaws.{packet_asks, packets_stay}

abbrev ReadsIn : Rows → Use → Type 0
ReadsIn rows u = u.request.kind ≡ Control → Asks (packet_at rows u.slot) u.request.setup u.request.length

abbrev Stand : Settings → History → World → Type 0
Stand s h w = Every (ReadsIn w.rows) (uses s h)

module _ (w : World) (h : History) (c : Call) (a : Applied) (sound : Sound w.state.settings w) (kept : Held w.state.settings h w) (x : Effect w c a)
    (stand : Stand w.state.settings h w) where
  abbrev s : Settings
  s = w.state.settings

  abbrev t : Turn
  t = turn_of w.rows c a

  -- the old ones, as they stand now
  on : Every (ReadsIn (rows_of a)) (uses s h)
  on =
      every_map (λ u. ReadsIn w.rows u × (packet_at (rows_of a) u.slot ≡ packet_at w.rows u.slot)) (ReadsIn (rows_of a))
      (λ u e kind. subst (λ (b : List ℕ). Asks b u.request.setup u.request.length) (sym e.1) (e.0 kind)) (uses s h)
      (every_both (ReadsIn w.rows) (λ u. packet_at (rows_of a) u.slot ≡ packet_at w.rows u.slot) (uses s h) stand (packets_stay w h sound kept c a x))

  same : (us : List Use) → uses s (t ∷ h) ≡ us → Every (ReadsIn (rows_of a)) us → Stand s (t ∷ h) (left_by a)
  same us e = subst (Every (ReadsIn (rows_of a))) (sym e)

  quiet : (e : Event) → event s t ≡ e → uses_after s t h e (uses s h) ≡ uses s h → Stand s (t ∷ h) (left_by a)
  quiet e q z = same (uses s h) (uses_by s t h e q ∙ z) on

  joined : Accepts w c a → Stand s (t ∷ h) (left_by a)
  joined y =
      same _ (uses_by s t h (Submits y.k (id_at w.state y.k) y.t) y.submits)
      ((λ kind. subst (λ (rows : Rows). Asks (packet_at rows y.k) y.t.setup y.t.length) (sym y.rows_are) (packet_asks w y.k y.t sound y.judged kind)), on)

  stands_on : Effect w c a → Stand s (t ∷ h) (left_by a)
  stands_on (still y) = quiet Other y.nothing refl
  stands_on (hears y) = quiet Reads y.hears refl
  stands_on (joins y) = quiet Other y.nothing refl
  stands_on (passes y) = quiet Drains y.drains refl
  stands_on (counts y) = quiet Drains y.drains refl
  stands_on (opens y) = quiet Other y.nothing refl
  stands_on (closes y) = quiet Other y.nothing refl
  stands_on (rewrites y) = quiet Other y.nothing refl
  stands_on (resizes y) = quiet Other y.nothing refl
  stands_on (clears y) = quiet Other y.nothing refl
  stands_on (accepts y) = joined y
  stands_on (writes_back y) = quiet Other y.nothing refl
  stands_on (marks y) = quiet Other y.nothing refl
  stands_on (unlinks y) = quiet (leaving s y.k y.readings.frame t) y.leaves (uses_leaving s t h y.k y.readings.frame (uses s h))
  stands_on (collects y) =
      same (without y.k y.r.id (uses s h)) (uses_by s t h (Collects y.k y.r.id y.frame) y.collects)
      (without_every y.k y.r.id (ReadsIn (rows_of a)) (ReadsIn (rows_of a)) (λ u e f. e) (uses s h) on)

-- ---- of a run

abbrev Both : Settings → History → World → Type 0
Both s h w = Kept s h w × Stand s h w

begins : (s : Settings) (w : World) → Opening s w → Both s [] w
unfolding uses
begins s w o = (kept_opens s w o, tt)

keeps : (s : Settings) (h : History) (w : World) (c : Call) (a : Applied) → Sound s w → Both s h w → Effect w c a → Both s (turn_of w.rows c a ∷ h) (left_by a)
keeps s h w c a sound now x = (
  kept_keeps s h w c a sound now.0 x,
  subst (λ (z : Settings). Sound z w → Held z h w → Stand z h w → Stand z (turn_of w.rows c a ∷ h) (left_by a)) sound.settings_are
      (λ good kept stand. stands_on w h c a good kept x stand x) sound now.0.1 now.1,
)

pub packets_stand : EveryRun PacketsStand core
packets_stand s w o cs = (reached Both begins keeps s w o cs).1.1
