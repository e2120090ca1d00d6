-- What the controller may still read is in use; so no submit is given a place of it.
use Prim.Native.Nat.{ℕ, ◌≤◌}
use mathlib.Core.Bool.{Bool, true, false, cond, true≢false}
use mathlib.Core.List.{List, [], ◌∷◌}
use mathlib.Core.Logic.{◌⊎◌, inl, inr}
use mathlib.Core.Path.{◌≡◌, refl, sym, subst, ◌∙◌}
use borrow.Author.Tests.{eq-eqb, eqb-true}
use lib.Dec.{eqb}
use Rattle.settings.specs.declared.settings.Settings.{Settings}
use Rattle.pipe.specs.declared.endpoints.Endpoint.{Endpoint}
use Rattle.pipe.specs.declared.endpoints.Endpoint.TheVariants.{Closed, Idle, Linked, Unlinking}
use Rattle.pipe.specs.declared.endpoints.UnlinkBoundary.{UnlinkBoundary}
use Rattle.pipe.specs.declared.endpoints.UnlinkBoundary.TheVariants.{Async, Periodic}
use Rattle.controller.specs.Readers.{holds_request}
use Rattle.schedule.specs.Bell.{frame_of}
use Rattle.promises.specs.Runs.{History, Turn}
use Rattle.promises.specs.Events.{Event, Other, Reads, Drains, Submits, Unlinks, Parts, Collects, rings}
use Rattle.promises.specs.Uses.{Use, is_of, uses_after, without}
use Rattle.promises.specs.Bells.{Bell, Rung, bell, is_parts_of, is_unlinks_of}
use Rattle.promises.specs.Faults.{Hold, Met, Reach, Since, Unanswered, Unrung, departed, farther, is_forgotten, joined, onward}
use Rattle.promises.proofs.invariants.BellSlots.{Aside}
use Rattle.promises.proofs.invariants.BellSummary.{Kept}
use Rattle.common.proofs.TestLaws.{both_first}

-- ---- a hold, by the bell and its slot's endpoint

abbrev pub InSchedule : Reach → Type 0
InSchedule Met = Unit {0}
InSchedule Unrung = ⊥
InSchedule Unanswered = ⊥
InSchedule (Since start) = ⊥

-- one that left the ring waits for two or more advances, or the ring out is the one that it waits for
abbrev pub Gone : Bell → UnlinkBoundary → Reach → Type 0
Gone b (Async n) Met = ⊥
Gone b (Async n) Unrung = 2 ≤ n
Gone b (Async n) Unanswered = (b ≡ Rung) × (1 ≤ n)
Gone b (Async n) (Since start) = ⊥
Gone b (Periodic n) Met = ⊥
Gone b (Periodic n) Unrung = ⊥
Gone b (Periodic n) Unanswered = ⊥
Gone b (Periodic n) (Since start) = n ≡ frame_of start

abbrev pub Fits : Bell → Endpoint → Reach → Type 0
Fits b Closed c = ⊥
Fits b (Idle p) c = ⊥
Fits b (Linked p r) c = InSchedule c
Fits b (Unlinking p r u) c = Gone b u c

-- a use has its places
abbrev pub used_by : ℕ → List ℕ → List Use → Type 0
used_by k places [] = ⊥
used_by k places (u ∷ us) = ((u.slot ≡ k) × (u.places ≡ places)) ⊎ used_by k places us

pub record Held (us : List Use) (b : Bell) (f : ℕ → Endpoint) (x : Hold) : Type 0 where
  pub used : used_by x.slot x.places us
  pub fits : Fits b (f x.slot) x.reach

abbrev pub AllHeld : List Use → Bell → (ℕ → Endpoint) → List Hold → Type 0
AllHeld us b f [] = Unit {0}
AllHeld us b f (x ∷ xs) = Held us b f x × AllHeld us b f xs

-- each hold that is not forgotten is carried on
pub carried : (us us' : List Use) (b b' : Bell) (f f' : ℕ → Endpoint) (rung : Bool) (e : Event)
    → ((x : Hold) → Held us b f x → is_forgotten x.slot e x.reach ≡ false → used_by x.slot x.places us' × Fits b' (f' x.slot) (farther x.slot rung e x.reach))
    → (xs : List Hold) → AllHeld us b f xs → AllHeld us' b' f' (onward rung e xs)
carried us us' b b' f f' rung e one [] a = tt
carried us us' b b' f f' rung e one (x ∷ xs) a = go (is_forgotten x.slot e x.reach) refl (carried us us' b b' f f' rung e one xs a.1)
  where
    go : (c : Bool) → is_forgotten x.slot e x.reach ≡ c → AllHeld us' b' f' (onward rung e xs)
        → AllHeld us' b' f' (cond (is_forgotten x.slot e x.reach) (onward rung e xs) (record { slot = x.slot; places = x.places; reach = farther x.slot rung e x.reach } ∷ onward rung e xs))
    go true q rest = rw q rest
    go false q rest = rw q (let y = one x a.0 q in (record { used = y.0; fits = y.1 }, rest))

-- ---- what a hold keeps

pub fits_kept : (b : Bell) (x y : Endpoint) (c : Reach) → Kept x y → Fits b x c → Fits b y c
fits_kept b x y c (Kept.same e) g = subst (λ (z : Endpoint). Fits b z c) (sym e) g
fits_kept b x y c (Kept.bare h i) g = absurd (none x h g)
  where
    none : (z : Endpoint) → holds_request z ≡ false → Fits b z c → ⊥
    none Closed q g = g
    none (Idle p) q g = g
    none (Linked p r) q g = true≢false q
    none (Unlinking p r u) q g = true≢false q
fits_kept b x y c (Kept.marks p r u h i) g = subst (λ (z : Endpoint). Fits b z c) (sym i) (subst (λ (z : Endpoint). Fits b z c) h g)

-- a turn that is not about k, and does not ring, leaves its hold where it was
pub farther_aside : (k : ℕ) (e : Event) (c : Reach) → is_unlinks_of k e ≡ false → is_parts_of k e ≡ false → farther k false e c ≡ c
farther_aside k e Met u p = go e u p
  where
    go : (e : Event) → is_unlinks_of k e ≡ false → is_parts_of k e ≡ false → departed k false e ≡ Met
    go Other u p = refl
    go Reads u p = refl
    go Drains u p = refl
    go (Submits j id r) u p = refl
    go (Unlinks j) u p = rw u
    go (Parts j frame) u p = rw p
    go (Collects j id frame) u p = refl
farther_aside k e Unrung u p = refl
farther_aside k e Unanswered u p = refl
farther_aside k e (Since start) u p = refl

pub uses_aside : (s : Settings) (t : Turn) (h : History) (us : List Use) (e : Event) → ((k : ℕ) → Aside k e) → uses_after s t h e us ≡ us
uses_aside s t h us Other a = refl
uses_aside s t h us Reads a = refl
uses_aside s t h us Drains a = refl
uses_aside s t h us (Submits j id r) a = absurd (true≢false (sym (eq-eqb j j refl) ∙ (a j).no_submit))
uses_aside s t h us (Unlinks j) a = refl
uses_aside s t h us (Parts j frame) a = refl
uses_aside s t h us (Collects j id frame) a = absurd (true≢false (sym (eq-eqb j j refl) ∙ (a j).no_collect))

pub joined_aside : (s : Settings) (t : Turn) (xs : List Hold) (e : Event) → ((k : ℕ) → Aside k e) → joined s t e xs ≡ xs
joined_aside s t xs Other a = refl
joined_aside s t xs Reads a = refl
joined_aside s t xs Drains a = refl
joined_aside s t xs (Submits j id r) a = absurd (true≢false (sym (eq-eqb j j refl) ∙ (a j).no_submit))
joined_aside s t xs (Unlinks j) a = refl
joined_aside s t xs (Parts j frame) a = refl
joined_aside s t xs (Collects j id frame) a = refl

-- a collection of another slot leaves the use
pub used_stays : (k id j : ℕ) (places : List ℕ) (us : List Use) → (j ≡ k → ⊥) → used_by j places us → used_by j places (without k id us)
used_stays k id j places [] ne g = g
used_stays k id j places (u ∷ us) ne g = go (is_of k id u) refl g (used_stays k id j places us ne)
  where
    go : (c : Bool) → is_of k id u ≡ c → ((u.slot ≡ j) × (u.places ≡ places)) ⊎ used_by j places us → (used_by j places us → used_by j places (without k id us))
        → used_by j places (cond c (without k id us) (u ∷ without k id us))
    go true q (inl h) rec = absurd (ne (sym h.0 ∙ eqb-true u.slot k (both_first (eqb u.slot k) (eqb u.id id) q)))
    go true q (inr h) rec = rec h
    go false q (inl h) rec = inl h
    go false q (inr h) rec = inr (rec h)

-- the bell after a turn that rings
pub bell_rings : (s : Settings) (t : Turn) (h : History) → rings t ≡ true → bell s (t ∷ h) ≡ Rung
unfolding bell
bell_rings s t h e = rw e

-- a hold that awaits no answer does not go by the bell
abbrev pub awaits : Reach → Bool
awaits Met = false
awaits Unrung = false
awaits Unanswered = true
awaits (Since start) = false

pub fits_any : (b b' : Bell) (x : Endpoint) (c : Reach) → awaits c ≡ false → Fits b x c → Fits b' x c
fits_any b b' Closed c n g = g
fits_any b b' (Idle p) c n g = g
fits_any b b' (Linked p r) c n g = g
fits_any b b' (Unlinking p r (Async m)) Met n g = g
fits_any b b' (Unlinking p r (Async m)) Unrung n g = g
fits_any b b' (Unlinking p r (Async m)) Unanswered n g = absurd (true≢false n)
fits_any b b' (Unlinking p r (Async m)) (Since start) n g = g
fits_any b b' (Unlinking p r (Periodic m)) c n g = frames c g
  where
    frames : (c : Reach) → Gone b (Periodic m) c → Gone b' (Periodic m) c
    frames Met g = g
    frames Unrung g = g
    frames Unanswered g = g
    frames (Since start) g = g
