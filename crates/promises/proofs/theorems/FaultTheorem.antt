-- No submit is ever given a place that the controller may still read.
use Prim.Native.Nat.{ℕ}
use mathlib.Core.Bool.{Bool, true, false, true≢false, false≢true, ◌||◌, or-true}
use mathlib.Core.List.{List, [], ◌∷◌, ◌++◌}
use mathlib.Core.Logic.{◌⊎◌, inl, inr}
use mathlib.Core.Path.{◌≡◌, refl, sym, ap, ◌∙◌}
use borrow.Author.Tests.{eqb-true}
use lib.Dec.{eqb}
use Rattle.settings.specs.declared.settings.Settings.{Settings}
use Rattle.pool.specs.Places.{Each}
use Rattle.pipe.specs.Endpoints.{endpoint_at}
use Rattle.pipe.specs.declared.endpoints.Endpoint.{Endpoint}
use Rattle.ehci.specs.declared.call.Call.{Call}
use Rattle.promises.specs.Runs.{EveryRun, History, Opening, Turn, World, core, history_of, run_of, world_of}
use Rattle.promises.specs.Walks.{chain_walk, is_in}
use Rattle.promises.specs.Events.{Submits, event}
use Rattle.promises.specs.Uses.{Use, uses}
use Rattle.promises.specs.Rooms.{Distinct, places_in_use}
use Rattle.promises.specs.Bells.{Bell, bell}
use Rattle.promises.specs.Boundaries.{turn}
use Rattle.promises.specs.Faults.{Hold, NeverGiven, holds, is_held, may_read}
use Rattle.promises.proofs.effects.EffectOf.{effect}
use Rattle.promises.proofs.theorems.RoomPromises.{exclusive_places}
use Rattle.promises.proofs.invariants.ChainLists.{in_append}
use Rattle.promises.proofs.invariants.BellSummary.{summary}
use Rattle.promises.proofs.theorems.BoundaryCore.{bells_reached, named}
use Rattle.promises.proofs.invariants.FaultHolds.{AllHeld, used_by}
use Rattle.promises.proofs.invariants.FaultSteps.{HeldInv, holds_keep}

-- ---- what is read is in use

used_in : (place k : ℕ) (places : List ℕ) (us : List Use) → used_by k places us → is_in place places ≡ true → is_in place (places_in_use us) ≡ true
used_in place k places [] g e = absurd g
used_in place k places (u ∷ us) g e = in_append place u.places (places_in_use us) ∙ go g (used_in place k places us)
  where
    go : ((u.slot ≡ k) × (u.places ≡ places)) ⊎ used_by k places us → (used_by k places us → is_in place places ≡ true → is_in place (places_in_use us) ≡ true)
        → (is_in place u.places || is_in place (places_in_use us)) ≡ true
    go (inl x) rec = rw (ap (is_in place) x.1 ∙ e)
    go (inr x) rec = rw (rec x e) (or-true (is_in place u.places))

held_in_lem : (us : List Use) (b : Bell) (f : ℕ → Endpoint) (place : ℕ) (xs : List Hold) → AllHeld us b f xs → is_held place xs ≡ true → is_in place (places_in_use us) ≡ true
held_in_lem us b f place [] a e = absurd (false≢true e)
held_in_lem us b f place (x ∷ xs) a e = go (is_in place x.places) refl e (held_in_lem us b f place xs a.1)
  where
    go : (c : Bool) → is_in place x.places ≡ c → (c || is_held place xs) ≡ true → (is_held place xs ≡ true → is_in place (places_in_use us) ≡ true) → is_in place (places_in_use us) ≡ true
    go true q e rec = used_in place x.slot x.places us a.0.used q
    go false q e rec = rec e

-- ---- no place is listed twice

each_apart : (p place : ℕ) (ps : List ℕ) → Each (λ (q : ℕ). p ≡ q → ⊥) ps → p ≡ place → is_in place ps ≡ false
each_apart p place [] a e = refl
each_apart p place (q ∷ ps) a e = go (eqb q place) refl (each_apart p place ps a.1 e)
  where
    go : (c : Bool) → eqb q place ≡ c → is_in place ps ≡ false → (c || is_in place ps) ≡ false
    go true x rec = absurd (a.0 (e ∙ sym (eqb-true q place x)))
    go false x rec = rec

apart_later : (place : ℕ) (a b : Bool) → (a || b) ≡ false → b ≡ false
apart_later place true b e = absurd (true≢false e)
apart_later place false b e = e

distinct_apart : (place : ℕ) (ps qs : List ℕ) → Distinct (ps ++ qs) → is_in place ps ≡ true → is_in place qs ≡ false
distinct_apart place [] qs d e = absurd (false≢true e)
distinct_apart place (p ∷ ps) qs d e = go (eqb p place) refl e (distinct_apart place ps qs d.1)
  where
    go : (c : Bool) → eqb p place ≡ c → (c || is_in place ps) ≡ true → (is_in place ps ≡ true → is_in place qs ≡ false) → is_in place qs ≡ false
    go true x e rec = apart_later place (is_in place ps) (is_in place qs) (sym (in_append place ps qs) ∙ each_apart p place (ps ++ qs) d.0 (eqb-true p place x))
    go false x e rec = rec e

-- ---- of a run

holds_reached : (s : Settings) (w : World) → Opening s w → (cs : List Call) → HeldInv s (history_of core w cs) (endpoint_at (world_of core w cs).state)
unfolding world_of history_of holds
holds_reached s w o [] = tt
holds_reached s w o (c ∷ cs) =
    let b = bells_reached s w o cs in
    let now = world_of core w cs in
    holds_keep s now c (core now c) (history_of core w cs) b.0 b.1 (summary s now c (core now c) (history_of core w cs) b.0 b.1 (effect now c) (named s w o cs c)) (holds_reached s w o cs)

distinct_now : (s : Settings) (w : World) → Opening s w → (cs : List Call) (c : Call) (k id : ℕ) (r : _) → event s (turn s (run_of core w) cs c) ≡ Submits k id r
    → Distinct (chain_walk s (turn s (run_of core w) cs c).after k ++ places_in_use (uses s (history_of core w cs)))
unfolding history_of uses
distinct_now s w o cs c k id r e = rw e at (exclusive_places s w o (c ∷ cs)).distinct

pub never_given : EveryRun NeverGiven core
unfolding may_read
never_given s w o cs c k id r place e given = go (is_held place (holds s h)) refl
  where
    h : History
    h = history_of core w cs

    t : Turn
    t = turn s (run_of core w) cs c

    -- the submit's places are none of those in use before it
    fresh : is_in place (places_in_use (uses s h)) ≡ false
    fresh = distinct_apart place (chain_walk s t.after k) (places_in_use (uses s h)) (distinct_now s w o cs c k id r e) given

    go : (b : Bool) → is_held place (holds s h) ≡ b → is_held place (holds s h) ≡ false
    go true q = absurd (true≢false (sym (held_in_lem (uses s h) (bell s h) (endpoint_at (world_of core w cs).state) place (holds s h) (holds_reached s w o cs) q) ∙ fresh))
    go false q = q
