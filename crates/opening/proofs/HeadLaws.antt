-- Where one head's words change, every other head has its words.
use Rattle.std.specs.Prelude.{◌≡◌, ℕ, ◌+◌, ◌*◌, ◌<◌, Bool, true, false, ltb, ◌≢◌, List}
use mathlib.Core.Path.{refl}
use native.Mathlib.Omega.{arith}
use borrow.Author.Tests.{ltb-false, ltb-true}
use Rattle.opening.specs.Heads.{head_word}
use Rattle.common.proofs.RowLaws.{Only}

-- every other head, the ring head too, has its words
pub other_head : (k : ℕ) (old new : List ℕ) → Only (17 * (k + 1)) 17 old new → (place i : ℕ) → place ≢ k + 1 → i < 17
    → head_word new place i ≡ head_word old place i
other_head k old new o place i ne lt = by (ltb place (k + 1)) refl
  where
    by : (t : Bool) → ltb place (k + 1) ≡ t → head_word new place i ≡ head_word old place i
    by true q = let l = ltb-true place (k + 1) q in o.before (17 * place + i) (omega arith)
    by false q = let l = ltb-false place (k + 1) q in o.behind (17 * place + i) (omega (arith, ne))
