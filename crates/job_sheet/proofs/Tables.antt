-- A table of records of one width among the bytes of a sheet: written, and found by its places.
use mathlib.Core.Path.{◌≡◌, refl, sym, ◌∙◌}
use mathlib.Core.List.{List, [], ◌∷◌, ◌++◌, append_assoc, append-nil}
use Prim.Native.Nat.{ℕ, zero, suc, ◌+◌, ◌*◌, ◌<◌}
use native.Mathlib.Omega.{arith}
use lib.ListN.{drop, get_or, length, length-append, take}
use lib.Seq.{drop-append-add, drop-drop, take-add}
use Rattle.job_sheet.specs.Sheets.{All, joined}
use Rattle.job_sheet.specs.Reading.{up_to}

module _ {A : Type 0} (w : A → List ℕ) where
  pub joined_append : (xs ys : List A) → joined w (xs ++ ys) ≡ joined w xs ++ joined w ys
  unfolding joined
  joined_append [] ys = refl
  joined_append (x ∷ xs) ys = rw (joined_append xs ys) (sym (append_assoc (w x) (joined w xs) (joined w ys)))

  -- records whose bytes are those at their places: the table's bytes
  pub table_written : (k base : ℕ) (bytes : List ℕ) (f : ℕ → A) (n : ℕ) → ((i : ℕ) → i < n → w (f i) ≡ take k (drop (base + k * i) bytes))
      → joined w (up_to f n) ≡ take (k * n) (drop base bytes)
  unfolding joined up_to
  table_written k base bytes f zero h =
      let none : k * 0 ≡ 0 = omega arith in
      rw none
  table_written k base bytes f (suc n) h =
      let more : k * suc n ≡ k * n + k = omega arith in
      joined_append (up_to f n) (f n ∷ [])
      ∙ rw (table_written k base bytes f n (λ i l. h i (omega (arith, l))), append-nil, h n (omega arith), more)
      (sym (take-add (k * n) k (drop base bytes) ∙ rw drop-drop))

  module _ (k : ℕ) (size : (x : A) → length (w x) ≡ k) where
    pub joined_length : (xs : List A) → length (joined w xs) ≡ k * length xs
    unfolding joined
    joined_length [] = omega arith
    joined_length (x ∷ xs) = rw (length-append, size, joined_length xs) (omega arith)

    -- what stands at the place of record i
    pub table_at : (d : A) (xs : List A) (i : ℕ) (post : List ℕ) → i < length xs
        → drop (k * i) (joined w xs ++ post) ≡ w (get_or xs i d) ++ (joined w (drop (suc i) xs) ++ post)
    unfolding joined
    table_at d [] i post h = absurd (omega (arith, h))
    table_at d (x ∷ xs) zero post h =
        let none : k * 0 ≡ 0 = omega arith in
        rw none (append_assoc (w x) (joined w xs) post)
    table_at d (x ∷ xs) (suc i) post h =
        let more : k * suc i ≡ length (w x) + k * i = omega (arith, size x) in
        rw (more, append_assoc) (drop-append-add (w x) (joined w xs ++ post) (k * i) ∙ table_at d xs i post (omega arith))

pub all_at : {A : Type 0} (P : A → Type 0) (d : A) (xs : List A) (i : ℕ) → All P xs → i < length xs → P (get_or xs i d)
unfolding All
all_at P d [] i a h = absurd (omega (arith, h))
all_at P d (x ∷ xs) zero a h = a.0
all_at P d (x ∷ xs) (suc i) a h = all_at P d xs i a.1 (omega arith)

all_append : {A : Type 0} (P : A → Type 0) (xs : List A) (y : A) → All P xs → P y → All P (xs ++ (y ∷ []))
unfolding All
all_append P [] y a p = (p, tt)
all_append P (x ∷ xs) y a p = (a.0, all_append P xs y a.1 p)

pub up_all : {A : Type 0} (P : A → Type 0) (f : ℕ → A) (n : ℕ) → ((i : ℕ) → i < n → P (f i)) → All P (up_to f n)
unfolding All up_to
up_all P f zero h = tt
up_all P f (suc n) h = all_append P (up_to f n) (f n) (up_all P f n (λ i l. h i (omega (arith, l)))) (h n (omega arith))
