-- A list of f of each number: its length, its elements, and when two are the same but for one element.
use Prim.Native.Nat.{ℕ, zero, suc, ◌+◌, ◌<◌}
use mathlib.Core.Path.{◌≡◌, refl, sym, ap, ◌∙◌}
use mathlib.Core.Bool.{Bool, true, false}
use mathlib.Core.Logic.{◌≢◌}
use native.Mathlib.Omega.{arith}
use borrow.Author.Tests.{eqb-true, eqb-false}
use lib.Dec.{eqb}
use lib.ListN.{get_or, length, length-set, set}
use lib.Seq.{ext_get_or, get_or-set_same, get_or-set_other}
use Rattle.words.specs.View.{each_from}

pub each_same : (f g : ℕ → ℕ) (k n : ℕ) → ((j : ℕ) → j < k + n → f j ≡ g j) → each_from f k n ≡ each_from g k n
unfolding each_from
each_same f g k zero h = refl
each_same f g k (suc n) h =
    rw (h k (omega arith), each_same f g (suc k) n (λ j l. h j (omega (arith, l))))

pub each_length : (f : ℕ → ℕ) (k n : ℕ) → length (each_from f k n) ≡ n
unfolding each_from
each_length f k zero = refl
each_length f k (suc n) = ap suc (each_length f (suc k) n)

pub each_at : (f : ℕ → ℕ) (k n j d : ℕ) → j < n → get_or (each_from f k n) j d ≡ f (k + j)
unfolding each_from
each_at f k zero j d h = absurd (omega arith)
each_at f k (suc n) zero d h = ap f (omega arith)
each_at f k (suc n) (suc j) d h = each_at f (suc k) n j d (omega arith) ∙ ap f (omega arith)

pub each_here : (f : ℕ → ℕ) (n j : ℕ) → j < n → get_or (each_from f 0 n) j 0 ≡ f j
each_here f n j h = each_at f 0 n j 0 h ∙ ap f (omega arith)

-- one element replaced
pub each_set : (g f : ℕ → ℕ) (n k v : ℕ) → k < n → g k ≡ v → ((j : ℕ) → j ≢ k → g j ≡ f j)
    → each_from g 0 n ≡ set (each_from f 0 n) k v
each_set g f n k v h e o =
    ext_get_or 0 (each_from g 0 n) (set (each_from f 0 n) k v)
    (each_length g 0 n ∙ sym (length-set (each_from f 0 n) k v ∙ each_length f 0 n))
    (λ j l. go j (omega (arith, l, each_length g 0 n)) (eqb j k) refl)
  where
    go : (j : ℕ) → j < n → (b : Bool) → eqb j k ≡ b → get_or (each_from g 0 n) j 0 ≡ get_or (set (each_from f 0 n) k v) j 0
    go j l true q =
        let p : j ≡ k = eqb-true j k q in
        rw p (each_here g n k h ∙ e ∙ sym (get_or-set_same (each_from f 0 n) k v 0 (omega (arith, each_length f 0 n))))
    go j l false q =
        each_here g n j l ∙ o j (eqb-false j k q) ∙ sym (each_here f n j l)
        ∙ sym (get_or-set_other (each_from f 0 n) k j v 0 (eqb-false j k q))
