-- The loop that looks for a closed slot.
use Rattle.std.specs.Prelude.{◌≡◌, ℕ, suc, ◌+◌, ◌-◌, ◌<◌, ◌≤◌, List, get_or}
use native.Mathlib.Numerals.{add-one}
use native.Mathlib.Omega.{arith}
use borrow.Author.Tests.{eq-eqb, ne_eqb}
use Rattle.endpoint.specs.Lowest.{closed_from}

module _ (l : List ℕ) (k n : ℕ) where
  more : k < n → n - k ≡ suc (n - suc k)
  more h = omega arith

  pub found : get_or l k 0 ≡ 0 → k < n → (r : ℕ) → closed_from l k (n - k) ≡ r → k ≡ r
  unfolding closed_from
  found e h r q = rw (more h, eq-eqb (get_or l k 0) 0 e) at q

  pub not_here : (get_or l k 0 ≡ 0 → ⊥) → k < n → (r : ℕ) → closed_from l k (n - k) ≡ r → closed_from l (k + 1) (n - (k + 1)) ≡ r
  unfolding closed_from
  not_here e h r q = rw (add-one k) (rw (more h, ne_eqb (get_or l k 0) 0 e) at q)

  pub nowhere : n ≤ k → (r : ℕ) → closed_from l k (n - k) ≡ r → k ≡ r
  unfolding closed_from
  nowhere h r q = rw none at q
    where
      none : n - k ≡ 0
      none = omega arith
