-- A list as the code holds it: empty, with one more, and its things.
use mathlib.Core.Path.{◌≡◌, sym, ◌∙◌}
use mathlib.Core.List.{List, [], ◌∷◌, ◌++◌, append_assoc}
use Prim.Native.Nat.{ℕ, suc, ◌+◌, ◌-◌, ◌<◌}
use native.Mathlib.Omega.{arith}
use lib.ListN.{length, length-append, replicate, set, take}
use lib.Seq.{set-append_seam, take-append_seam}
use Rattle.std.proofs.lemmas.List.{ext_get_or, get_or-replicate, length-replicate}
use Rattle.job_sheet.specs.declared.few.Few.{Few}
use Rattle.job_sheet.specs.Few.{IsFresh, few_of, filled, pushed}

module _ {A : Type 0} (size : ℕ) (none : A) where
  pub filled_taken : (xs : List A) → take (length xs) (filled size none xs) ≡ xs
  unfolding filled
  filled_taken xs = take-append_seam xs (replicate (size - length xs) none)

  filled_more : (xs : List A) (x : A) → length xs < size → set (filled size none xs) (length xs) x ≡ filled size none (xs ++ (x ∷ []))
  unfolding filled
  filled_more xs x h =
      let rest : size - length xs ≡ suc (size - (length xs + 1)) = omega arith in
      rw (rest, length-append) (set-append_seam xs _ _ x ∙ sym (append_assoc xs (x ∷ []) _))

  -- one more
  pub few_more : (xs : List A) (x : A) → length xs < size → pushed (few_of size none xs) x ≡ few_of size none (xs ++ (x ∷ []))
  few_more xs x h = λ i. record { row = filled_more xs x h i; count = sym (length-append xs (x ∷ [])) i }

  -- a row of nothing else
  pub few_none : (f : Few A size) → IsFresh (λ x. x ≡ none) f → length f.row ≡ size → f ≡ few_of size none []
  unfolding filled
  few_none f h l =
      let same : f.row ≡ replicate size none =
      ext_get_or none f.row (replicate size none) (l ∙ sym (length-replicate size none))
      (λ i b. h.1 i none b ∙ sym (get_or-replicate size i none none (omega (arith, b, l)))) in
      let whole : size - 0 ≡ size = omega arith in
      rw whole (λ i. record { row = same i; count = h.0 i })
