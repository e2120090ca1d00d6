-- While bring-up is begun the controller does not run; a request is uncollected only while it does.
use Prim.Native.Nat.{ℕ}
use mathlib.Core.Bool.{true, false}
use mathlib.Core.List.{List}
use mathlib.Core.Path.{◌≡◌, refl, sym, ap, subst, ◌∙◌}
use native.Mathlib.Decide.{ℕ_discrete as dec_eq}
use native.Mathlib.Omega.{arith}
use borrow.Author.Tests.{eqb-false}
use Rattle.settings.specs.declared.settings.Settings.{Settings}
use Rattle.common.proofs.TestLaws.{false_true}
use Rattle.state.specs.Slots.{slot_at, with_slot}
use Rattle.state.specs.State.{with_bell, with_boundaries, with_owner}
use Rattle.state.specs.Plain.{Ehci}
use Rattle.pipe.specs.Endpoints.{endpoint_at, with_endpoint, with_toggle}
use Rattle.pipe.specs.declared.endpoints.Endpoint.{Endpoint}
use Rattle.pipe.specs.declared.endpoints.Endpoint.TheVariants.{Closed, Idle}
use Rattle.pipe.proofs.EndpointLaws.{endpoint_other, endpoint_same}
use Rattle.opening.specs.Opening.{fresh_state}
use Rattle.controller.specs.Readers.{holds_request, is_uncollected}
use Rattle.schedule.specs.Bell.{fallen_from}
use Rattle.endpoint.specs.Calls.{new_endpoint, with_size}
use Rattle.request.specs.Submit.{state_with}
use Rattle.collection.specs.Calls.{finish_of}
use Rattle.collection.specs.Unlinks.{waiting_of}
use Rattle.ehci.specs.declared.call.Call.{Call}
use Rattle.ehci.specs.Door.{Applied}
use Rattle.promises.specs.Runs.{World}
use Rattle.promises.proofs.effects.Effects.{Effect, Idles, accepts, besides, clears, closes, collects, counts, hears, joins, marks, opens, passes, resizes, rewrites, still, unlinks, writes_back}
use Rattle.promises.proofs.effects.EffectDoor.{idles_on}
use Rattle.promises.proofs.effects.SlotViews.{view_boundaries}
use Rattle.promises.proofs.invariants.Sound.{Sound, slot_low}
use Rattle.promises.proofs.invariants.BellFacts.{fresh_closed}

moved : (s t : Ehci) → t ≡ s → Idles s → Idles t
moved s t e i = subst (λ (x : Ehci). Idles x) (sym e) i

-- a controller that runs, whatever else changes
running_idles : (s t : Ehci) → t.running ≡ s.running → t.step ≡ s.step → s.running ≡ 1 → Idles s → Idles t
running_idles s t er es on i = record { stopped = λ h. er ∙ i.stopped (λ z. h (es ∙ z)); runs = λ k u. er ∙ on }

-- a slot without a request is closed or opened
vacant_idles : (s : Ehci) (k : ℕ) (x : Endpoint) → endpoint_at (with_endpoint s k x) k ≡ x → holds_request x ≡ false → Idles s → Idles (with_endpoint s k x)
unfolding with_endpoint with_slot
vacant_idles s k x same bare i = record { stopped = i.stopped; runs = λ j u. by j u (dec_eq j k) }
  where
    by : (j : ℕ) → is_uncollected (with_endpoint s k x) j ≡ true → Dec (j ≡ k) → s.running ≡ 1
    by j u (yes e) =
        absurd (false_true (sym bare ∙ sym (ap holds_request same) ∙ sym (ap (λ (n : ℕ). is_uncollected (with_endpoint s k x) n) e) ∙ u))
    by j u (no ne) = i.runs j (sym (ap holds_request (endpoint_other s k x j ne)) ∙ u)

-- whether a slot holds a request is not a matter of its boundary
pub bounds_aside : (s : Ehci) (bs : List ℕ) (k : ℕ) → is_uncollected (with_boundaries s bs) k ≡ is_uncollected s k
bounds_aside = view_boundaries holds_request (λ p r b c. refl)

module _ (s : Settings) (w : World) (c : Call) (a : Applied) (g : Sound s w) (i : Idles w.state) where
  pub idles_keeps : Effect w c a → Idles a.reply.state
  unfolding with_bell with_boundaries endpoint_at slot_at state_with with_endpoint with_slot with_owner waiting_of finish_of
  idles_keeps (still x) = x.idles i
  idles_keeps (hears x) =
      moved (besides (with_bell w.state _ _ _) x.sides) _ x.state_is
      (record { stopped = λ h. x.runs_on.0 ∙ i.stopped (λ z. h (x.runs_on.1 ∙ z)); runs = λ k u. x.runs_on.0 ∙ i.runs k u })
  idles_keeps (joins x) = moved _ _ x.state_is (idles_on w.state x.sides x.runs_on.0 x.runs_on.1 i)
  idles_keeps (passes x) = moved _ _ x.state_is (idles_on w.state x.sides x.runs_on.0 x.runs_on.1 i)
  idles_keeps (counts x) =
      moved _ _ x.state_is
      (record {
        stopped = λ h. x.runs_on.0 ∙ i.stopped (λ z. h (x.runs_on.1 ∙ z));
        runs = λ k u. x.runs_on.0 ∙ i.runs k (sym (bounds_aside w.state (fallen_from 0 32 w.state.phases w.state.kinds w.state.boundaries) k) ∙ u);
      })
  idles_keeps (opens x) =
      moved _ _ x.state_is
      (vacant_idles w.state x.k (new_endpoint x.kind x.packet)
      (endpoint_same w.state x.k (new_endpoint x.kind x.packet) g.wide (omega (arith, x.below, g.ranges.good.endpoints_most)) tt) refl i)
  idles_keeps (closes x) =
      moved _ _ x.state_is
      (vacant_idles w.state x.k Closed
      (endpoint_same w.state x.k Closed g.wide (slot_low s w g x.k (Idle x.p) x.idle refl) tt) refl i)
  idles_keeps (rewrites x) = moved _ _ x.state_is i
  idles_keeps (resizes x) =
      moved _ _ x.state_is
      (vacant_idles w.state x.k (Idle (with_size x.p x.size))
      (endpoint_same w.state x.k (Idle (with_size x.p x.size)) g.wide (slot_low s w g x.k (Idle x.p) x.idle refl) tt) refl i)
  idles_keeps (clears x) =
      moved _ _ x.state_is
      (vacant_idles w.state x.k (Idle (with_toggle x.p false))
      (endpoint_same w.state x.k (Idle (with_toggle x.p false)) g.wide (slot_low s w g x.k (Idle x.p) x.idle refl) tt) refl i)
  idles_keeps (accepts x) =
      moved _ _ x.state_is
      (running_idles w.state _ refl refl (omega (arith, eqb-false w.state.running 0 x.judged.runs, g.ranges.running_flag)) i)
  idles_keeps (writes_back x) = moved _ _ x.state_is i
  idles_keeps (marks x) = moved _ _ x.state_is (running_idles w.state _ refl refl (i.runs x.k (ap holds_request x.unlinking)) i)
  idles_keeps (unlinks x) = moved _ _ x.state_is (running_idles w.state _ refl refl (i.runs x.k (ap holds_request x.linked)) i)
  idles_keeps (collects x) = moved _ _ x.state_is (running_idles w.state _ refl refl (i.runs x.k (ap holds_request x.unlinking)) i)

pub idles_opens : (s : Settings) → Idles (fresh_state s)
unfolding fresh_state
idles_opens s = record { stopped = λ h. refl; runs = λ k u. absurd (false_true (sym (ap holds_request (fresh_closed s k)) ∙ u)) }
