-- A turn of the loops over the pool: what was done so far and what is left make the whole.
use Prim.Native.Nat.{ℕ, ◌+◌, ◌-◌, ◌*◌, ◌≤◌, ◌<◌, ◌^◌}
use mathlib.Core.Path.{◌≡◌, refl, sym, ap, ◌∙◌}
use mathlib.Core.Bool.{Bool, true, false, cond}
use mathlib.Core.List.{List, [], ◌∷◌}
use native.Mathlib.Omega.{arith}
use borrow.Author.Tests.{eqb-true}
use lib.Dec.{eqb}
use Rattle.common.specs.declared.kinds.EndpointType.{EndpointType}
use Rattle.token.specs.EhciQtd.{total_bytes}
use Rattle.pool.specs.declared.chain.Standing.{Standing}
use Rattle.pool.specs.declared.chain.Standing.TheVariants.{Inactive, Erring, Active}
use Rattle.pool.specs.declared.chain.View.{View}
use Rattle.pool.specs.Transfers.{requested_at}
use Rattle.pool.specs.Chains.{Seen, first_error, is_active, is_erring, is_retried, joined, length_of, number_if, or_else, retried_of, see_of, stage_else, standing_of, view_of}
use Rattle.pool.proofs.ChainCases.{requested_lt, retried_few}

-- ---- the fill

-- ---- the fold

stage_step_lem : (a z : Standing) (A B : Bool)
    → stage_else (stage_else a (cond A Active (cond B Erring Inactive))) z ≡ stage_else a (cond A Active (cond B Erring z))
stage_step_lem Inactive z true B = refl
stage_step_lem Inactive z false true = refl
stage_step_lem Inactive z false false = refl
stage_step_lem Erring z A B = refl
stage_step_lem Active z A B = refl

failed_step : (a z w : ℕ) (B : Bool) → (B ≡ true → eqb w 0 ≡ false) → or_else (or_else a (number_if B w 0)) z ≡ or_else a (number_if B w z)
failed_step a z w B = go (eqb a 0) refl B
  where
    go : (b : Bool) → eqb a 0 ≡ b → (B : Bool) → (B ≡ true → eqb w 0 ≡ false) → or_else (or_else a (number_if B w 0)) z ≡ or_else a (number_if B w z)
    go true e true h = rw (e, h refl)
    go true e false h = rw e
    go false e B h = rw (e, e)

-- an erring token is not 0
erring_set : (w : ℕ) → is_erring w ≡ true → eqb w 0 ≡ false
erring_set w h = go (eqb w 0) refl
  where
    go : (b : Bool) → eqb w 0 ≡ b → b ≡ false
    go true e = sym h ∙ ap is_erring (eqb-true w 0 e)
    go false e = refl

moved_step : (a x z : ℕ) → (a + (x + 0)) + z ≡ a + (x + z)
moved_step a x z = omega arith

pub join_step : (u : View) (s : Seen) (ss : List Seen) → joined (joined u (view_of (s ∷ []))) (view_of ss) ≡ joined u (view_of (s ∷ ss))
unfolding view_of standing_of first_error length_of retried_of
join_step u s ss = λ i. record {
  stage = stage_step_lem u.stage (standing_of ss) (is_active s.token) (is_erring s.token) i;
  failed = failed_step u.failed (first_error ss) s.token (is_erring s.token) (erring_set s.token) i;
  moved = moved_step u.moved (s.requested - total_bytes s.token) (length_of ss) i;
  retried = moved_step u.retried (number_if (is_retried s.token) 1 0) (retried_of ss) i;
}

or_none : (a : ℕ) → a ≡ or_else a 0
or_none a = go (eqb a 0) refl
  where
    go : (b : Bool) → eqb a 0 ≡ b → a ≡ or_else a 0
    go true e = rw e (eqb-true a 0 e)
    go false e = rw e

stage_none : (a : Standing) → a ≡ stage_else a Inactive
stage_none Inactive = refl
stage_none Erring = refl
stage_none Active = refl

add_none : (a : ℕ) → a ≡ a + 0
add_none a = omega arith

pub join_none : (u : View) → u ≡ joined u (view_of [])
unfolding view_of standing_of first_error length_of retried_of
join_none u = λ i. record { stage = stage_none u.stage i; failed = or_none u.failed i; moved = add_none u.moved i; retried = add_none u.retried i }

none_join : (v : View) → joined (record { stage = Inactive; failed = 0; moved = 0; retried = 0 }) v ≡ v
none_join v = λ i. record { stage = v.stage; failed = v.failed; moved = none_add v.moved i; retried = none_add v.retried i }
  where
    none_add : (a : ℕ) → 0 + a ≡ a
    none_add a = omega arith

pub seen_start : (v u : View) → u ≡ view_of [] → joined u v ≡ v
unfolding view_of standing_of first_error length_of retried_of
seen_start v u e = ap (λ (w : View). joined w v) e ∙ none_join v

-- what has moved stays far below 2^64, and as many at most were retried as were seen
pub more_bounded : (kind : EndpointType) (len limit k w : ℕ) (u v : View) → v ≡ see_of u (requested_at kind len limit k) w
    → len < 2 ^ 32 → limit ≤ 16384 → (u.moved ≤ k * 2 ^ 32) × (u.retried ≤ k) → (v.moved ≤ (k + 1) * 2 ^ 32) × (v.retried ≤ k + 1)
unfolding view_of length_of retried_of
more_bounded kind len limit k w u v e h h' l =
    let m : v.moved ≡ u.moved + ((requested_at kind len limit k - total_bytes w) + 0) = ap (λ (x : View). x.moved) e in
    let n : v.retried ≡ u.retried + (number_if (is_retried w) 1 0 + 0) = ap (λ (x : View). x.retried) e in
    (omega (arith, m, requested_lt kind len limit k h h', l.0), omega (arith, n, retried_few w, l.1))

pub none_bounded : (u : View) → u ≡ view_of [] → (u.moved ≤ 0 * 2 ^ 32) × (u.retried ≤ 0)
unfolding view_of length_of retried_of
none_bounded u e =
    let m : u.moved ≡ 0 = ap (λ (x : View). x.moved) e in
    let n : u.retried ≡ 0 = ap (λ (x : View). x.retried) e in
    (omega (arith, m), omega (arith, n))

-- ---- what a turn asks
