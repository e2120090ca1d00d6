-- What is seen of a slot's endpoint, but for its boundary, after each effect: at most one slot is given another endpoint.
use Prim.Native.Nat.{ℕ, ◌<◌}
use mathlib.Core.Bool.{cond, false}
use mathlib.Core.Path.{◌≡◌, refl, ap, ◌∙◌}
use native.Mathlib.Omega.{arith}
use lib.Dec.{eqb}
use Rattle.state.specs.State.{with_bell, with_owner}
use Rattle.state.specs.Plain.{Ehci}
use Rattle.pipe.specs.Endpoints.{decoded, encoded, endpoint_at, with_endpoint, with_toggle}
use Rattle.pipe.specs.declared.endpoints.Endpoint.{Endpoint}
use Rattle.pipe.specs.declared.endpoints.Endpoint.TheVariants.{Closed, Idle, Linked, Unlinking}
use Rattle.pipe.specs.declared.endpoints.Pipe.{Pipe}
use Rattle.pipe.specs.declared.endpoints.Request.{Request}
use Rattle.pipe.specs.declared.endpoints.UnlinkBoundary.{UnlinkBoundary}
use Rattle.pipe.proofs.EndpointLaws.{Wide, bell_wide, owner_aside, owner_wide}
use Rattle.controller.proofs.ReaderLaws.{open_below}
use Rattle.schedule.specs.Bell.{bell_of}
use Rattle.endpoint.specs.Calls.{new_endpoint, with_size}
use Rattle.request.specs.Submit.{linked_with, state_with}
use Rattle.collection.specs.Calls.{finish_of, marked}
use Rattle.collection.specs.Unlinks.{bounded_of, waiting_of}
use Rattle.ehci.specs.declared.call.Call.{Call}
use Rattle.ehci.specs.Door.{Applied}
use Rattle.promises.specs.Runs.{World}
use Rattle.promises.proofs.effects.Effects.{Effect, accepts, clears, closes, collects, counts, hears, joins, marks, opens, passes, resizes, rewrites, still, unlinks, writes_back}
use Rattle.promises.proofs.effects.SlotViews.{view_bell, view_besides, view_boundaries, view_given}
use Rattle.promises.proofs.invariants.Sound.{Sound, slot_low}

module _ {A : Type 0} (view : Endpoint → A) (w : World) (c : Call) (a : Applied) where
  abbrev old : Ehci
  old = w.state

  abbrev seen : ℕ → A
  seen j = view (endpoint_at old j)

  abbrev given : ℕ → Endpoint → ℕ → A
  given k x j = cond (eqb k j) (view x) (seen j)

  abbrev pub viewed : Effect w c a → ℕ → A
  viewed (still x) = seen
  viewed (hears x) = seen
  viewed (joins x) = seen
  viewed (passes x) = seen
  viewed (counts x) = seen
  viewed (opens x) = given x.k (new_endpoint x.kind x.packet)
  viewed (closes x) = given x.k Closed
  viewed (rewrites x) = seen
  viewed (resizes x) = given x.k (Idle (with_size x.p x.size))
  viewed (clears x) = given x.k (Idle (with_toggle x.p false))
  viewed (accepts x) = given x.k (linked_with old x.k x.t)
  viewed (writes_back x) = seen
  viewed (marks x) = given x.k (Unlinking x.p (marked x.r) x.u)
  viewed (unlinks x) = given x.k (Unlinking x.p x.asked (bounded_of (bell_of old) x.p.kind x.readings).boundary)
  viewed (collects x) = given x.k (Idle (with_toggle x.p x.toggle))

  module _ (back : (x : Endpoint) → view (decoded (encoded x)) ≡ view x) (alike : (p : Pipe) (r : Request) (b d : UnlinkBoundary) → view (Unlinking p r b) ≡ view (Unlinking p r d))
      (sound : Sound w.state.settings w) where
    as_in : (st : Ehci) → a.reply.state ≡ st → ((j : ℕ) → view (endpoint_at st j) ≡ seen j) → (j : ℕ) → view (endpoint_at a.reply.state j) ≡ seen j
    as_in st e same j = ap (λ (y : Ehci). view (endpoint_at y j)) e ∙ same j

    given_in : (st : Ehci) (k : ℕ) (x : Endpoint) → a.reply.state ≡ with_endpoint st k x → Wide st → k < 32 → ((j : ℕ) → view (endpoint_at st j) ≡ seen j)
        → (j : ℕ) → view (endpoint_at a.reply.state j) ≡ given k x j
    given_in st k x e wide low same j =
        ap (λ (y : Ehci). view (endpoint_at y j)) e ∙ view_given view back st k x wide low j ∙ ap (λ (z : A). cond (eqb k j) (view x) z) (same j)

    pub view_after : (x : Effect w c a) (j : ℕ) → view (endpoint_at a.reply.state j) ≡ viewed x j
    unfolding state_with waiting_of finish_of
    view_after (still x) = as_in _ x.state_is (view_besides view old x.sides)
    view_after (hears x) = as_in _ x.state_is (λ j. view_besides view _ x.sides j ∙ view_bell view old _ _ _ j)
    view_after (joins x) = as_in _ x.state_is (view_besides view old x.sides)
    view_after (passes x) = as_in _ x.state_is (view_besides view old x.sides)
    view_after (counts x) = as_in _ x.state_is (λ j. view_besides view _ x.sides j ∙ view_boundaries view alike _ _ j ∙ view_bell view old _ _ _ j)
    view_after (opens x) = given_in old x.k _ x.state_is sound.wide (omega (arith, x.below, sound.ranges.good.endpoints_most)) (λ j. refl)
    view_after (closes x) = given_in old x.k _ x.state_is sound.wide (slot_low _ w sound x.k (Idle x.p) x.idle refl) (λ j. refl)
    view_after (rewrites x) = as_in old x.state_is (λ j. refl)
    view_after (resizes x) = given_in old x.k _ x.state_is sound.wide (slot_low _ w sound x.k (Idle x.p) x.idle refl) (λ j. refl)
    view_after (clears x) = given_in old x.k _ x.state_is sound.wide (slot_low _ w sound x.k (Idle x.p) x.idle refl) (λ j. refl)
    view_after (accepts x) =
        given_in (with_owner old _) x.k _ x.state_is (owner_wide old _ sound.wide) (open_below old x.k x.judged.opened) (λ j. ap view (owner_aside old _ j))
    view_after (writes_back x) = as_in old x.state_is (λ j. refl)
    view_after (marks x) =
        given_in old x.k _ x.state_is sound.wide (slot_low _ w sound x.k (Unlinking x.p x.r x.u) x.unlinking refl) (λ j. refl)
    view_after (unlinks x) =
        given_in (with_bell old _ _ _) x.k _ x.state_is (bell_wide old _ _ _ sound.wide) (slot_low _ w sound x.k (Linked x.p x.r) x.linked refl)
        (view_bell view old _ _ _)
    view_after (collects x) =
        given_in (with_owner old _) x.k _ x.state_is (owner_wide old _ sound.wide) (slot_low _ w sound x.k (Unlinking x.p x.r x.u) x.unlinking refl)
        (λ j. ap view (owner_aside old _ j))
