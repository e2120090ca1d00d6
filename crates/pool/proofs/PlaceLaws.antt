-- What places are found: all below the row's length, ascending, each the owner's, and as many as there are; and what taking and freeing them does.
use Prim.Native.Nat.{ℕ, zero, suc, ◌+◌, ◌-◌, ◌≤◌, ◌<◌, min}
use mathlib.Core.Path.{◌≡◌, refl, sym, ap, ◌∙◌}
use mathlib.Core.Bool.{Bool, true, false}
use mathlib.Core.List.{List, [], ◌∷◌}
use native.Mathlib.Omega.{arith}
use borrow.Author.Tests.{eq-eqb, ne_eqb, eqb-true, eqb-false}
use lib.Dec.{eqb}
use lib.ListN.{get_or, length, replicate}
use lib.Seq.{take-append_seam}
use Rattle.pool.specs.Places.{Ascending, Each, Within, bit_of, clear_of, count_of, list_if, list_of, mark_of, packed, places_from, up_from}
use Rattle.pool.proofs.Each.{each_map}

-- ---- the places that hold x

-- p is one of the places of a row whose first is i, and holds x
abbrev Holds : ℕ → List ℕ → ℕ → ℕ → Type 0
Holds i owner x p = (i ≤ p) × (p < i + length owner) × (get_or owner (p - i) 0 ≡ x)

each_if : (P : ℕ → Type 0) (b c : Bool) (i : ℕ) (A B : List ℕ) → (c ≡ true → P i) → Each P A → Each P B → Each P (list_if b [] (list_if c (i ∷ A) B))
each_if P true c i A B h a b = tt
each_if P false true i A B h a b = (h refl, a)
each_if P false false i A B h a b = b

later : (i y x : ℕ) (ys : List ℕ) (p : ℕ) → Holds (suc i) ys x p → Holds i (y ∷ ys) x p
later i y x ys p h =
    let one : p - i ≡ suc (p - suc i) = omega (arith, h.0) in
    (omega (arith, h.0), omega (arith, h.1), ap (λ (k : ℕ). get_or (y ∷ ys) k 0) one ∙ h.2)

here : (i y x : ℕ) (ys : List ℕ) → y ≡ x → Holds i (y ∷ ys) x i
here i y x ys e =
    let none : i - i ≡ 0 = omega arith in
    (omega arith, omega arith, ap (λ (k : ℕ). get_or (y ∷ ys) k 0) none ∙ e)

holds : (i : ℕ) (owner : List ℕ) (x n : ℕ) → Each (Holds i owner x) (places_from i owner x n)
unfolding places_from
holds i [] x n = tt
holds i (y ∷ ys) x n =
    each_if (Holds i (y ∷ ys) x) (eqb n 0) (eqb y x) i (places_from (suc i) ys x (n - 1)) (places_from (suc i) ys x n) (λ e. here i y x ys (eqb-true y x e))
    (each_map (Holds (suc i) ys x) (Holds i (y ∷ ys) x) (later i y x ys) (places_from (suc i) ys x (n - 1)) (holds (suc i) ys x (n - 1)))
    (each_map (Holds (suc i) ys x) (Holds i (y ∷ ys) x) (later i y x ys) (places_from (suc i) ys x n) (holds (suc i) ys x n))

pub places_within : (owner : List ℕ) (x n : ℕ) → Within (length owner) (places_from 0 owner x n)
places_within owner x n = each_map (Holds 0 owner x) (λ (p : ℕ). p < length owner) (λ p h. omega (arith, h.1)) (places_from 0 owner x n) (holds 0 owner x n)

pub places_hold : (owner : List ℕ) (x n : ℕ) → Each (λ p. get_or owner p 0 ≡ x) (places_from 0 owner x n)
places_hold owner x n = each_map (Holds 0 owner x) (λ (p : ℕ). get_or owner p 0 ≡ x) (λ p h. ap (λ (k : ℕ). get_or owner k 0) (whole_of p) ∙ h.2) (places_from 0 owner x n) (holds 0 owner x n)
  where
    whole_of : (p : ℕ) → p ≡ p - 0
    whole_of p = omega arith

ascending_if : (b c : Bool) (i : ℕ) (A B : List ℕ) → Each (λ q. i < q) A → Ascending A → Ascending B → Ascending (list_if b [] (list_if c (i ∷ A) B))
ascending_if true c i A B h a b = tt
ascending_if false true i A B h a b = (h, a)
ascending_if false false i A B h a b = b

pub places_ascend : (i : ℕ) (owner : List ℕ) (x n : ℕ) → Ascending (places_from i owner x n)
unfolding places_from
places_ascend i [] x n = tt
places_ascend i (y ∷ ys) x n =
    ascending_if (eqb n 0) (eqb y x) i (places_from (suc i) ys x (n - 1)) (places_from (suc i) ys x n)
    (each_map (Holds (suc i) ys x) (λ (q : ℕ). i < q) (λ p h. omega (arith, h.0)) (places_from (suc i) ys x (n - 1)) (holds (suc i) ys x (n - 1)))
    (places_ascend (suc i) ys x (n - 1))
    (places_ascend (suc i) ys x n)

length_if : (n i : ℕ) (A B : List ℕ) (c₀ : ℕ) (b c : Bool) → eqb n 0 ≡ b → length A ≡ min (n - 1) c₀ → length B ≡ min n c₀
    → length (list_if b [] (list_if c (i ∷ A) B)) ≡ min n (bit_of c + c₀)
length_if n i A B c₀ true c e a b = omega (arith, eqb-true n 0 e)
length_if n i A B c₀ false true e a b = omega (arith, a, eqb-false n 0 e)
length_if n i A B c₀ false false e a b = omega (arith, b)

-- as many as there are, at most n
pub places_length : (i : ℕ) (owner : List ℕ) (x n : ℕ) → length (places_from i owner x n) ≡ min n (count_of x owner)
unfolding places_from count_of
places_length i [] x n = omega arith
places_length i (y ∷ ys) x n =
    length_if n i (places_from (suc i) ys x (n - 1)) (places_from (suc i) ys x n) (count_of x ys) (eqb n 0) (eqb y x) refl
    (places_length (suc i) ys x (n - 1))
    (places_length (suc i) ys x n)

count_le : (x : ℕ) (owner : List ℕ) → count_of x owner ≤ length owner
unfolding count_of
count_le x [] = omega arith
count_le x (y ∷ ys) = go (eqb y x) (count_le x ys)
  where
    go : (b : Bool) → count_of x ys ≤ length ys → bit_of b + count_of x ys ≤ suc (length ys)
    go true h = omega (arith, h)
    go false h = omega (arith, h)

pub places_few : (i : ℕ) (owner : List ℕ) (x n : ℕ) → length (places_from i owner x n) ≤ length owner
places_few i owner x n = omega (arith, places_length i owner x n, count_le x owner)

empty_list : (l : List ℕ) → length l ≡ 0 → l ≡ []
empty_list [] e = refl
empty_list (p ∷ l) e = absurd (omega (arith, e))

pub places_none : (i : ℕ) (owner : List ℕ) (x n : ℕ) → count_of x owner ≡ 0 → places_from i owner x n ≡ []
places_none i owner x n e = empty_list (places_from i owner x n) (omega (arith, e, places_length i owner x n))

-- ---- a list packed and read again

pub list_packed : (ps : List ℕ) → list_of (packed ps) ≡ ps
unfolding list_of packed
list_packed ps = take-append_seam ps (replicate (256 - length ps) 0)

-- ---- every place of a pool

pub up_length : (i n : ℕ) → length (up_from i n) ≡ n
unfolding up_from
up_length i zero = refl
up_length i (suc n) = ap suc (up_length (suc i) n)

up_between : (i n : ℕ) → Each (λ p. (i ≤ p) × (p < i + n)) (up_from i n)
unfolding up_from
up_between i zero = tt
up_between i (suc n) =
    ((omega arith, omega arith), each_map (λ (p : ℕ). (suc i ≤ p) × (p < suc i + n)) (λ (p : ℕ). (i ≤ p) × (p < i + suc n)) (λ p h. (omega (arith, h.0), omega (arith, h.1))) (up_from (suc i) n) (up_between (suc i) n))

pub up_within : (n : ℕ) → Within n (up_from 0 n)
up_within n = each_map (λ (p : ℕ). (0 ≤ p) × (p < 0 + n)) (λ (p : ℕ). p < n) (λ p h. omega (arith, h.1)) (up_from 0 n) (up_between 0 n)

pub up_ascends : (i n : ℕ) → Ascending (up_from i n)
unfolding up_from
up_ascends i zero = tt
up_ascends i (suc n) =
    (each_map (λ (p : ℕ). (suc i ≤ p) × (p < suc i + n)) (λ (p : ℕ). i < p) (λ p h. omega (arith, h.0)) (up_from (suc i) n) (up_between (suc i) n), up_ascends (suc i) n)

-- ---- taking

pub mark_length : (owner : List ℕ) (n x : ℕ) → length (mark_of owner n x) ≡ length owner
unfolding mark_of
mark_length [] n x = refl
mark_length (y ∷ ys) n x = go (eqb n 0) (eqb y 0) (mark_length ys (n - 1) x) (mark_length ys n x)
  where
    go : (b c : Bool) → length (mark_of ys (n - 1) x) ≡ length ys → length (mark_of ys n x) ≡ length ys
        → length (list_if b (y ∷ ys) (list_if c (x ∷ mark_of ys (n - 1) x) (y ∷ mark_of ys n x))) ≡ suc (length ys)
    go true c p q = refl
    go false true p q = ap suc p
    go false false p q = ap suc q

-- what is taken is what was free and lowest
pub mark_takes : (i : ℕ) (owner : List ℕ) (n x m : ℕ) → (x ≡ 0 → ⊥) → count_of x owner ≡ 0 → n ≤ m
    → places_from i (mark_of owner n x) x m ≡ places_from i owner 0 n
unfolding mark_of places_from count_of
mark_takes i [] n x m ne none h = refl
mark_takes i (y ∷ ys) n x m ne none h = go (eqb n 0) refl (eqb y 0) refl (eqb y x) refl (mark_takes (suc i) ys (n - 1) x (m - 1) ne) (mark_takes (suc i) ys n x m ne)
  where
    go : (b : Bool) → eqb n 0 ≡ b → (c : Bool) → eqb y 0 ≡ c → (d : Bool) → eqb y x ≡ d
        → (count_of x ys ≡ 0 → n - 1 ≤ m - 1 → places_from (suc i) (mark_of ys (n - 1) x) x (m - 1) ≡ places_from (suc i) ys 0 (n - 1))
        → (count_of x ys ≡ 0 → n ≤ m → places_from (suc i) (mark_of ys n x) x m ≡ places_from (suc i) ys 0 n)
        → places_from i (mark_of (y ∷ ys) n x) x m ≡ places_from i (y ∷ ys) 0 n
    go b eb c ec true ed one other = absurd (omega (arith, rw ed at none))
    go true eb c ec false ed one other = rw eb (places_none i (y ∷ ys) x m none)
    go false eb true ec false ed one other =
        let pos : m ≡ 0 → ⊥ = λ e. eqb-false n 0 eb (omega (arith, h, e)) in
        rw (eb, ec, ne_eqb m 0 pos, eq-eqb x x refl, one (omega (arith, rw ed at none)) (omega (arith, h)))
    go false eb false ec false ed one other =
        let pos : m ≡ 0 → ⊥ = λ e. eqb-false n 0 eb (omega (arith, h, e)) in
        rw (eb, ec, ne_eqb m 0 pos, ed, other (omega (arith, rw ed at none)) h)

-- places of another owner are as they were
pub mark_others : (i : ℕ) (owner : List ℕ) (n x y m : ℕ) → (y ≡ x → ⊥) → (y ≡ 0 → ⊥) → places_from i (mark_of owner n x) y m ≡ places_from i owner y m
unfolding mark_of places_from
mark_others i [] n x y m nx nz = refl
mark_others i (z ∷ zs) n x y m nx nz = go (eqb n 0) refl (eqb z 0) refl (mark_others (suc i) zs (n - 1) x y m nx nz) (mark_others (suc i) zs n x y m nx nz) (mark_others (suc i) zs n x y (m - 1) nx nz)
  where
    go : (b : Bool) → eqb n 0 ≡ b → (c : Bool) → eqb z 0 ≡ c
        → places_from (suc i) (mark_of zs (n - 1) x) y m ≡ places_from (suc i) zs y m
        → places_from (suc i) (mark_of zs n x) y m ≡ places_from (suc i) zs y m
        → places_from (suc i) (mark_of zs n x) y (m - 1) ≡ places_from (suc i) zs y (m - 1)
        → places_from i (mark_of (z ∷ zs) n x) y m ≡ places_from i (z ∷ zs) y m
    go true eb c ec p q r = rw eb
    go false eb true ec p q r = rw (eb, ec, ne_eqb x y (λ e. nx (sym e)), eqb-true z 0 ec, ne_eqb 0 y (λ e. nz (sym e)), p)
    go false eb false ec p q r = rw (eb, ec, q, r)

-- a place has its owner, or the new one
pub mark_either : (P : ℕ → Type 0) (owner : List ℕ) (n x : ℕ) → Each P owner → P x → Each P (mark_of owner n x)
unfolding mark_of
mark_either P [] n x e p = tt
mark_either P (y ∷ ys) n x e p = go (eqb n 0) (eqb y 0) (mark_either P ys (n - 1) x e.1 p) (mark_either P ys n x e.1 p)
  where
    go : (b c : Bool) → Each P (mark_of ys (n - 1) x) → Each P (mark_of ys n x) → Each P (list_if b (y ∷ ys) (list_if c (x ∷ mark_of ys (n - 1) x) (y ∷ mark_of ys n x)))
    go true c q r = e
    go false true q r = (p, q)
    go false false q r = (e.0, r)

-- what was free and is free no more
pub mark_count : (owner : List ℕ) (n x : ℕ) → (x ≡ 0 → ⊥) → count_of 0 (mark_of owner n x) ≡ count_of 0 owner - n
unfolding mark_of count_of
mark_count [] n x ne = omega arith
mark_count (y ∷ ys) n x ne = go (eqb n 0) refl (eqb y 0) refl (mark_count ys (n - 1) x ne) (mark_count ys n x ne)
  where
    go : (b : Bool) → eqb n 0 ≡ b → (c : Bool) → eqb y 0 ≡ c → count_of 0 (mark_of ys (n - 1) x) ≡ count_of 0 ys - (n - 1) → count_of 0 (mark_of ys n x) ≡ count_of 0 ys - n
        → count_of 0 (mark_of (y ∷ ys) n x) ≡ count_of 0 (y ∷ ys) - n
    go true eb c ec p q = rw eb (omega (arith, eqb-true n 0 eb))
    go false eb true ec p q = rw (eb, ec, ne_eqb x 0 ne) (omega (arith, p, eqb-false n 0 eb))
    go false eb false ec p q = rw (eb, ec, ec) (omega (arith, q))

-- ---- freeing

-- a place that held x is free, any other as it was
pub clear_hit_at : (x : ℕ) (owner : List ℕ) (p : ℕ) → get_or owner p 0 ≡ x → get_or (clear_of x owner) p 0 ≡ 0
unfolding clear_of
clear_hit_at x [] p e = refl
clear_hit_at x (y ∷ ys) zero e = rw (eq-eqb y x e)
clear_hit_at x (y ∷ ys) (suc p) e = go (eqb y x) (clear_hit_at x ys p e)
  where
    go : (b : Bool) → get_or (clear_of x ys) p 0 ≡ 0 → get_or (list_if b (0 ∷ clear_of x ys) (y ∷ clear_of x ys)) (suc p) 0 ≡ 0
    go true q = q
    go false q = q

pub clear_miss_at : (x : ℕ) (owner : List ℕ) (p : ℕ) → (get_or owner p 0 ≡ x → ⊥) → get_or (clear_of x owner) p 0 ≡ get_or owner p 0
unfolding clear_of
clear_miss_at x [] p e = refl
clear_miss_at x (y ∷ ys) zero e = rw (ne_eqb y x e)
clear_miss_at x (y ∷ ys) (suc p) e = go (eqb y x) (clear_miss_at x ys p e)
  where
    go : (b : Bool) → get_or (clear_of x ys) p 0 ≡ get_or ys p 0 → get_or (list_if b (0 ∷ clear_of x ys) (y ∷ clear_of x ys)) (suc p) 0 ≡ get_or ys p 0
    go true q = q
    go false q = q

-- none of x's is left
pub clear_none : (x : ℕ) (owner : List ℕ) → (x ≡ 0 → ⊥) → count_of x (clear_of x owner) ≡ 0
unfolding clear_of count_of
clear_none x [] ne = refl
clear_none x (y ∷ ys) ne = go (eqb y x) refl (clear_none x ys ne)
  where
    go : (b : Bool) → eqb y x ≡ b → count_of x (clear_of x ys) ≡ 0 → count_of x (clear_of x (y ∷ ys)) ≡ 0
    go true e q = rw (e, ne_eqb 0 x (λ z. ne (sym z)), q)
    go false e q = rw (e, e, q)

-- and as many more are free
pub clear_count : (x : ℕ) (owner : List ℕ) → (x ≡ 0 → ⊥) → count_of 0 (clear_of x owner) ≡ count_of 0 owner + count_of x owner
unfolding clear_of count_of
clear_count x [] ne = refl
clear_count x (y ∷ ys) ne = go (eqb y x) refl (clear_count x ys ne)
  where
    go : (b : Bool) → eqb y x ≡ b → count_of 0 (clear_of x ys) ≡ count_of 0 ys + count_of x ys → count_of 0 (clear_of x (y ∷ ys)) ≡ count_of 0 (y ∷ ys) + count_of x (y ∷ ys)
    go true e q =
        let set : y ≡ 0 → ⊥ = λ z. ne (sym (eqb-true y x e) ∙ z) in
        rw (e, ne_eqb y 0 set) (omega (arith, q))
    go false e q = rw (e, q) (omega arith)

-- places of another owner are as they were
pub clear_others : (i x : ℕ) (owner : List ℕ) (y m : ℕ) → (y ≡ x → ⊥) → (y ≡ 0 → ⊥) → places_from i (clear_of x owner) y m ≡ places_from i owner y m
unfolding clear_of places_from
clear_others i x [] y m nx nz = refl
clear_others i x (z ∷ zs) y m nx nz = go (eqb z x) refl (clear_others (suc i) x zs y m nx nz) (clear_others (suc i) x zs y (m - 1) nx nz)
  where
    go : (b : Bool) → eqb z x ≡ b → places_from (suc i) (clear_of x zs) y m ≡ places_from (suc i) zs y m → places_from (suc i) (clear_of x zs) y (m - 1) ≡ places_from (suc i) zs y (m - 1)
        → places_from i (clear_of x (z ∷ zs)) y m ≡ places_from i (z ∷ zs) y m
    go true e p q = rw (e, eqb-true z x e, ne_eqb 0 y (λ w. nz (sym w)), ne_eqb x y (λ w. nx (sym w)), p)
    go false e p q = rw (e, p, q)
