-- The digits of a number: how many there are, and that they say it.
use Prim.Native.Nat.{ℕ, zero, suc, ◌+◌, ◌-◌, ◌*◌, ◌/◌, ◌%◌, ◌^◌, ◌≤◌, ◌<◌}
use mathlib.Core.Bool.{Bool, true, false, cond}
use mathlib.Core.Path.{◌≡◌, refl}
use mathlib.Core.List.{List, [], ◌∷◌, ◌++◌}
use native.Mathlib.Nat.{div-add-mod, div-lt_iff_lt-mul}
use native.Mathlib.Numerals.{sub-one, unary_clauses}
use native.Mathlib.Omega.{arith}
use borrow.Author.Tests.{le-ltb, lt-ltb}
use lib.Dec.{ltb}
use lib.ListN.{length, length-append}
use Rattle.text.specs.Text.{decimal, decimal_up_to, hex, hex_digit, read_decimal}

-- ---- a step of each definition, as the code has it

pub decimal_none : (k n : ℕ) → k ≡ 0 → decimal_up_to k n ≡ []
unfolding decimal_up_to
decimal_none k n e = rw e

pub decimal_low : (k n : ℕ) → (k ≡ 0 → ⊥) → n < 10 → decimal_up_to k n ≡ (48 + n) ∷ []
unfolding decimal_up_to
decimal_low zero n z h = absurd (z refl)
decimal_low (suc k) n z h = rw (lt-ltb n 10 h)

pub decimal_more : (k n : ℕ) → (k ≡ 0 → ⊥) → 10 ≤ n → decimal_up_to k n ≡ decimal_up_to (k - 1) (n / 10) ++ ((48 + n % 10) ∷ [])
unfolding decimal_up_to
decimal_more zero n z h = absurd (z refl)
decimal_more (suc k) n z h = rw (le-ltb n 10 h, sub-one (suc k))

pub hex_none : (n k : ℕ) → k ≡ 0 → hex n k ≡ []
unfolding hex
hex_none n k e = rw e

pub hex_more : (n k : ℕ) → (k ≡ 0 → ⊥) → hex n k ≡ hex (n / 16) (k - 1) ++ (hex_digit (n % 16) ∷ [])
unfolding hex
hex_more n zero z = absurd (z refl)
hex_more n (suc k) z = rw (sub-one (suc k))

-- ---- how many

pub decimal_most : (k n : ℕ) → length (decimal_up_to k n) ≤ k
unfolding decimal_up_to
decimal_most zero n = omega arith
decimal_most (suc k) n = go (ltb n 10) (decimal_most k (n / 10))
  where
    go : (b : Bool) → length (decimal_up_to k (n / 10)) ≤ k
        → length (cond b ((48 + n) ∷ []) (decimal_up_to k (n / 10) ++ ((48 + n % 10) ∷ []))) ≤ suc k
    go true h = omega arith
    go false h = simp length-append (omega arith)

-- at most 20 bytes
pub decimal_length : (n : ℕ) → length (decimal n) ≤ 20
unfolding decimal
decimal_length n = decimal_most 20 n

pub hex_length : (n k : ℕ) → length (hex n k) ≡ k
unfolding hex
hex_length n zero = refl
hex_length n (suc k) = simp (length-append, hex_length (n / 16) k) (omega arith)

-- ---- the digits say the number

read_append : (a b : List ℕ) (before : ℕ) → read_decimal (a ++ b) before ≡ read_decimal b (read_decimal a before)
unfolding read_decimal
read_append [] b before = refl
read_append (x ∷ a) b before = read_append a b (10 * before + (x - 48))

reads_up_to : (k n : ℕ) → n < 10 ^ k → read_decimal (decimal_up_to k n) 0 ≡ n
unfolding decimal_up_to read_decimal
reads_up_to zero n h = omega (arith, h)
reads_up_to (suc k) n h = go (ltb n 10) refl (reads_up_to k (n / 10) tenth)
  where
    ten : n < 10 ^ k * 10
    ten = simp unary_clauses at h

    tenth : n / 10 < 10 ^ k
    tenth = (div-lt_iff_lt-mul {k = 10} {x = n} {y = 10 ^ k} (omega arith)).1 ten

    go : (b : Bool) → ltb n 10 ≡ b → read_decimal (decimal_up_to k (n / 10)) 0 ≡ n / 10
        → read_decimal (cond b ((48 + n) ∷ []) (decimal_up_to k (n / 10) ++ ((48 + n % 10) ∷ []))) 0 ≡ n
    go true e rec = omega arith
    go false e rec = rw (read_append (decimal_up_to k (n / 10)) ((48 + n % 10) ∷ []) 0, rec) (omega (arith, div-add-mod n 10))

pub decimal_reads : (n : ℕ) → n < 2 ^ 64 → read_decimal (decimal n) 0 ≡ n
unfolding decimal
decimal_reads n h = reads_up_to 20 n (omega arith)

-- the definitions run
pub zero_says : decimal 0 ≡ 48 ∷ []
unfolding decimal decimal_up_to
zero_says = refl

pub largest_says : decimal 18446744073709551615
    ≡ 49 ∷ 56 ∷ 52 ∷ 52 ∷ 54 ∷ 55 ∷ 52 ∷ 52 ∷ 48 ∷ 55 ∷ 51 ∷ 55 ∷ 48 ∷ 57 ∷ 53 ∷ 53 ∷ 49 ∷ 54 ∷ 49 ∷ 53 ∷ []
unfolding decimal decimal_up_to
largest_says = refl

pub hex_says : hex 48879 6 ≡ 48 ∷ 48 ∷ 98 ∷ 101 ∷ 101 ∷ 102 ∷ []
unfolding hex
hex_says = refl
