-- Halves of words, and differences.
use Prim.Native.Nat.{ℕ, suc, ◌+◌, ◌-◌, ◌*◌, ◌/◌, ◌^◌, ◌≤◌, ◌<◌, min}
use mathlib.Core.Path.{◌≡◌}
use native.Mathlib.Nat.{pow-suc}
use native.Mathlib.Omega.{arith}

pub half_below : (k x : ℕ) → x < 2 ^ suc k → x / 2 < 2 ^ k
half_below k x h = let p : 2 ^ suc k ≡ 2 ^ k * 2 = pow-suc 2 k in omega arith

pub less_none : (n : ℕ) → n - 0 ≡ n
less_none n = omega arith

pub less_more : (n a b : ℕ) → n - (a + b) ≡ n - a - b
less_more n a b = omega arith

-- at most a word's
pub few : (n : ℕ) → min n 64 ≤ 64
few n = omega arith
