-- What is seen of a slot's endpoint, but for its boundary, as the state changes: who is in it, its kind, whether it holds a request.
use Prim.Native.Nat.{ℕ, ◌<◌}
use mathlib.Core.Bool.{Bool, true, false, cond}
use mathlib.Core.List.{List}
use mathlib.Core.Path.{◌≡◌, refl, sym, ap, ◌∙◌}
use native.Mathlib.Decide.{ℕ_discrete as dec_eq}
use borrow.Author.Tests.{lt-ltb, eq-eqb, ne_eqb}
use lib.Dec.{eqb, ltb}
use Rattle.state.specs.Slots.{slot_at}
use Rattle.state.specs.State.{with_bell, with_boundaries}
use Rattle.state.specs.Plain.{Ehci}
use Rattle.pipe.specs.Endpoints.{decoded, encoded, endpoint_at, with_endpoint, pipe_of, request_of}
use Rattle.pipe.specs.declared.endpoints.Endpoint.{Endpoint}
use Rattle.pipe.specs.declared.endpoints.Endpoint.TheVariants.{Unlinking, Idle, Linked}
use Rattle.pipe.specs.declared.endpoints.Pipe.{Pipe}
use Rattle.pipe.specs.declared.endpoints.Request.{Request}
use Rattle.pipe.specs.declared.endpoints.UnlinkBoundary.{UnlinkBoundary}
use Rattle.pipe.proofs.EndpointLaws.{Wide, endpoint_other, slot_same}
use Rattle.promises.proofs.effects.Effects.{Sides, besides}
use Rattle.common.proofs.TestLaws.{false_true}
use Rattle.controller.specs.Readers.{is_opened}

module _ {A : Type 0} (view : Endpoint → A) where
  abbrev view_at : Ehci → ℕ → A
  view_at s k = view (endpoint_at s k)

  -- what stands beside and the bell say nothing of it
  pub view_besides : (s : Ehci) (x : Sides) (j : ℕ) → view_at (besides s x) j ≡ view_at s j
  unfolding endpoint_at slot_at
  view_besides s x j = refl

  pub view_bell : (s : Ehci) (n d u j : ℕ) → view_at (with_bell s n d u) j ≡ view_at s j
  unfolding endpoint_at slot_at with_bell
  view_bell s n d u j = refl

  -- nor do the boundaries
  pub view_boundaries : ((p : Pipe) (r : Request) (b c : UnlinkBoundary) → view (Unlinking p r b) ≡ view (Unlinking p r c)) → (s : Ehci) (l : List ℕ) (j : ℕ)
      → view_at (with_boundaries s l) j ≡ view_at s j
  unfolding endpoint_at slot_at with_boundaries decoded
  view_boundaries alike s l j = by (ltb j 32) refl (eqb (slot_at s j).phase 1) refl (eqb (slot_at s j).phase 2) refl (eqb (slot_at s j).phase 3) refl
    where
      by : (a : Bool) → ltb j 32 ≡ a → (x : Bool) → eqb (slot_at s j).phase 1 ≡ x → (y : Bool) → eqb (slot_at s j).phase 2 ≡ y → (z : Bool) → eqb (slot_at s j).phase 3 ≡ z
          → view_at (with_boundaries s l) j ≡ view_at s j
      by false a x p y q z r = rw a
      by true a true p y q z r = rw (a, p)
      by true a false p true q z r = rw (a, p, q)
      by true a false p false q true r = rw (a, p, q, r) (alike _ _ _ _)
      by true a false p false q false r = rw (a, p, q, r)

  -- slot k is given an endpoint
  module _ (back : (x : Endpoint) → view (decoded (encoded x)) ≡ view x) (s : Ehci) (k : ℕ) (x : Endpoint) (w : Wide s) (low : k < 32) where
    pub view_same : view_at (with_endpoint s k x) k ≡ view x
    unfolding endpoint_at with_endpoint
    view_same = rw (lt-ltb k 32 low, slot_same s k (encoded x) w low) (back x)

    pub view_given : (j : ℕ) → view_at (with_endpoint s k x) j ≡ cond (eqb k j) (view x) (view_at s j)
    view_given j = by (dec_eq k j)
      where
        by : Dec (k ≡ j) → view_at (with_endpoint s k x) j ≡ cond (eqb k j) (view x) (view_at s j)
        by (yes e) = rw (eq-eqb k j e) (ap (view_at (with_endpoint s k x)) (sym e) ∙ view_same)
        by (no ne) = rw (ne_eqb k j ne) (ap view (endpoint_other s k x j (λ e. ne (sym e))))

  -- an open slot has a pipe, whatever its request
  pub view_open : (s : Ehci) (k : ℕ) → is_opened s k ≡ true → (seen : A) → view (Idle (pipe_of (slot_at s k))) ≡ seen
      → view (Linked (pipe_of (slot_at s k)) (request_of (slot_at s k))) ≡ seen
      → ((b : UnlinkBoundary) → view (Unlinking (pipe_of (slot_at s k)) (request_of (slot_at s k)) b) ≡ seen) → view_at s k ≡ seen
  unfolding endpoint_at decoded
  view_open s k o seen idle linked leaving = by (ltb k 32) refl (eqb (slot_at s k).phase 1) refl (eqb (slot_at s k).phase 2) refl (eqb (slot_at s k).phase 3) refl o
    where
      by : (a : Bool) → ltb k 32 ≡ a → (x : Bool) → eqb (slot_at s k).phase 1 ≡ x → (y : Bool) → eqb (slot_at s k).phase 2 ≡ y → (z : Bool) → eqb (slot_at s k).phase 3 ≡ z
          → is_opened s k ≡ true → view_at s k ≡ seen
      by true a true p y q z r o = rw (a, p) idle
      by true a false p true q z r o = rw (a, p, q) linked
      by true a false p false q true r o = rw (a, p, q, r) (leaving _)
      by true a false p false q false r o = absurd (false_true (rw (a, p, q, r) at o))
      by false a x p y q z r o = absurd (false_true (rw a at o))

  -- a slot that is given an endpoint of which the same is seen
  pub view_kept : (s : Ehci) (k : ℕ) (v : A) → v ≡ view_at s k → (j : ℕ) → cond (eqb k j) v (view_at s j) ≡ view_at s j
  view_kept s k v e j = by (dec_eq k j)
    where
      by : Dec (k ≡ j) → cond (eqb k j) v (view_at s j) ≡ view_at s j
      by (yes q) = rw (eq-eqb k j q) (e ∙ ap (view_at s) q)
      by (no ne) = rw (ne_eqb k j ne)
