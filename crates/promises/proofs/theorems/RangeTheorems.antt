-- Every world of a run is in its ranges; a state that is in them is refused for nothing else.
use Prim.Native.Nat.{ℕ}
use mathlib.Core.Bool.{true}
use mathlib.Core.List.{List, [], ◌∷◌}
use mathlib.Core.Logic.{◌⊎◌, inl, inr}
use mathlib.Core.Path.{◌≡◌, refl, sym, subst}
use Rattle.settings.specs.declared.settings.Settings.{Settings}
use Rattle.common.specs.declared.kinds.Direction.{Direction}
use Rattle.common.specs.declared.kinds.EndpointType.{EndpointType}
use Rattle.pipe.specs.Endpoints.{endpoint_at}
use Rattle.pipe.specs.declared.endpoints.Endpoint.{Endpoint}
use Rattle.pipe.specs.declared.endpoints.Endpoint.TheVariants.{Closed, Idle, Linked, Unlinking}
use Rattle.controller.specs.Readers.{holds_request}
use Rattle.ehci.specs.declared.call.Call.{Call}
use Rattle.promises.specs.Runs.{EveryRun, History, Opening, World, core, history_of, moment, world_of}
use Rattle.promises.specs.Uses.{Use, uses}
use Rattle.promises.specs.Ranges.{InRanges, RangesKept, RunsWhileHeld}
use Rattle.promises.proofs.effects.Effects.{Idles}
use Rattle.promises.proofs.invariants.IdleInv.{idles_keeps, idles_opens}
use Rattle.promises.proofs.invariants.Reached.{opening_is, reached}
use Rattle.promises.proofs.theorems.RoomPromises.{held}
use Rattle.promises.proofs.invariants.Sound.{Sound, is_let_in}
use Rattle.promises.proofs.invariants.UseInv.{HeldIn, Nobody, Waits, tenant_of, tenants_apart}

pub sound_ranges : (s : Settings) (h : History) (w : World) → Sound s w → InRanges s h (moment core w)
sound_ranges s h w g = record { settings_stay = g.settings_are; accepted = is_let_in s w g; is_let_in = is_let_in s w g }

-- what runs, and while it does
abbrev pub Runs : Settings → History → World → Type 0
Runs s h w = Idles w.state

pub runs_opens : (s : Settings) (w : World) → Opening s w → Runs s [] w
runs_opens s w o = subst (λ (x : World). Idles x.state) (sym (opening_is s w o).1) (idles_opens s)

pub runs : (s : Settings) (w : World) → Opening s w → (cs : List Call) → Sound s (world_of core w cs) × Runs s (history_of core w cs) (world_of core w cs)
runs = reached Runs runs_opens (λ s h w c a g i x. idles_keeps s w c a g i x)

pub ranges_kept : EveryRun RangesKept core
ranges_kept s w o cs = sound_ranges s _ _ (runs s w o cs).0

-- a slot with a tenant has an uncollected request
tenant_held : (x : Endpoint) (kind : EndpointType) (z id : ℕ) (d : Direction) (n : ℕ) → tenant_of x ≡ Waits kind z id d n → holds_request x ≡ true
tenant_held Closed kind z id d n e = absurd (tenants_apart kind z id d n Nobody refl e)
tenant_held (Idle p) kind z id d n e = absurd (tenants_apart kind z id d n Nobody refl e)
tenant_held (Linked p r) kind z id d n e = refl
tenant_held (Unlinking p r b) kind z id d n e = refl

held_runs : (s : Settings) (w : World) (us : List Use) → HeldIn s us w → Idles w.state → (us ≡ []) ⊎ (w.state.running ≡ 1)
held_runs s w [] held i = inl refl
held_runs s w (u ∷ us) held i =
    inr (i.runs u.slot (tenant_held (endpoint_at w.state u.slot) u.request.kind u.size u.id u.request.direction u.request.length held.each.0.holds))

pub runs_while_held : EveryRun RunsWhileHeld core
runs_while_held s w o cs = held_runs s (world_of core w cs) (uses s (history_of core w cs)) (held s w o cs).1 (runs s w o cs).1
