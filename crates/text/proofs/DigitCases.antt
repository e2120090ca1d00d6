-- The returns of the functions that put digits.
use Prim.Native.Nat.{ℕ, ◌+◌, ◌-◌, ◌/◌, ◌%◌, ◌≤◌, ◌<◌}
use mathlib.Core.Path.{◌≡◌}
use mathlib.Core.List.{List, [], ◌∷◌}
use native.Mathlib.Omega.{arith}
use lib.ListN.{length}
use Rattle.common.specs.Rows.{put_at}
use Rattle.text.specs.Text.{decimal_up_to, hex, hex_digit}
use Rattle.text.proofs.Puts.{put_none, put_then}
use Rattle.text.proofs.TextLaws.{decimal_low, decimal_more, decimal_none, hex_length, hex_more, hex_none}

module _ (o : List ℕ) (at k n : ℕ) where
  pub digits_none : k ≡ 0 → (o ≡ put_at o at (decimal_up_to k n)) × (at ≡ at + length (decimal_up_to k n))
  digits_none e = rw (decimal_none k n e) (put_none o at, omega arith)

  pub hex_put_none : k ≡ 0 → (o ≡ put_at o at (hex n k)) × (at ≡ at + k)
  hex_put_none e = rw (hex_none n k e) (put_none o at, omega arith)

module _ (o p : List ℕ) (at k n x r : ℕ) where
  pub digits_low : (k ≡ 0 → ⊥) → n < 10 → x ≡ 48 + n → p ≡ put_at o at (x ∷ []) → r ≡ at + 1
      → (p ≡ put_at o at (decimal_up_to k n)) × (r ≡ at + length (decimal_up_to k n))
  digits_low z h e f l = rw (decimal_low k n z h, ← e) (f, l)

module _ (o p q : List ℕ) (at k n i x r : ℕ) (room : at + k ≤ length o) (z : k ≡ 0 → ⊥) where
  pub digits_more : 10 ≤ n → p ≡ put_at o at (decimal_up_to (k - 1) (n / 10)) → i ≡ at + length (decimal_up_to (k - 1) (n / 10)) → x ≡ 48 + n % 10
      → q ≡ put_at p i (x ∷ []) → r ≡ i + 1 → (q ≡ put_at o at (decimal_up_to k n)) × (r ≡ at + length (decimal_up_to k n))
  digits_more h e l d f m =
      rw (decimal_more k n z h, ← d) (put_then o p q (decimal_up_to (k - 1) (n / 10)) (x ∷ []) at i r (omega arith) e l f m)

  pub hex_put_more : p ≡ put_at o at (hex (n / 16) (k - 1)) → i ≡ at + (k - 1) → x ≡ hex_digit (n % 16)
      → q ≡ put_at p i (x ∷ []) → r ≡ i + 1 → (q ≡ put_at o at (hex n k)) × (r ≡ at + k)
  hex_put_more e l d f m =
      let i-is : i ≡ at + length (hex (n / 16) (k - 1)) = omega (arith, hex_length (n / 16) (k - 1)) in
      (rw (hex_more n k z, ← d) (put_then o p q (hex (n / 16) (k - 1)) (x ∷ []) at i r (omega arith) e i-is f m).0, omega (arith, z))
