-- Lists of slots: what is in them, what is left when one is taken out, and how long a list of different slots can be.
use Prim.Native.Nat.{ℕ, zero, suc, ◌+◌, ◌≤◌, ◌<◌}
use mathlib.Core.Path.{◌≡◌, refl, sym, ap, subst, ◌∙◌}
use mathlib.Core.Bool.{Bool, true, false, not, ◌&&◌, ◌||◌}
use mathlib.Core.List.{List, [], ◌∷◌, ◌++◌, map}
use mathlib.Core.Logic.{◌⊎◌, inl, inr}
use native.Mathlib.Decide.{ℕ_discrete as dec_eq}
use native.Mathlib.Omega.{arith}
use borrow.Author.Tests.{eq-eqb, ne_eqb}
use lib.Dec.{eqb}
use lib.ListN.{length}
use Rattle.common.proofs.TestLaws.{false_true}
use Rattle.schedule.specs.Walks.{Avoids, Distinct, In}
use Rattle.promises.specs.Walks.{is_in}
use Rattle.promises.specs.Uses.{remove}

-- ---- in a list, or not

module _ (k : ℕ) where
  pub in_same : (ks : List ℕ) → is_in k (k ∷ ks) ≡ true
  in_same ks = rw (eq-eqb k k refl)

  pub avoids_out : (ks : List ℕ) → Avoids k ks → is_in k ks ≡ false
  avoids_out [] a = refl
  avoids_out (j ∷ ks) a = rw (ne_eqb j k a.0) (avoids_out ks a.1)

  pub out_avoids : (ks : List ℕ) → is_in k ks ≡ false → Avoids k ks
  out_avoids [] e = tt
  out_avoids (j ∷ ks) e = by (dec_eq j k) (λ q. out_avoids ks q)
    where
      by : Dec (j ≡ k) → (is_in k ks ≡ false → Avoids k ks) → Avoids k (j ∷ ks)
      by (yes q) rest = absurd (false_true (sym e ∙ rw (eq-eqb j k q)))
      by (no ne) rest = (ne, rest (rw (ne_eqb j k ne) at e))

  pub in_tells : (ks : List ℕ) → is_in k ks ≡ true → In k ks
  in_tells [] e = false_true e
  in_tells (j ∷ ks) e = by (dec_eq j k) (λ q. in_tells ks q)
    where
      by : Dec (j ≡ k) → (is_in k ks ≡ true → In k ks) → In k (j ∷ ks)
      by (yes q) rest = inl (sym q)
      by (no ne) rest = inr (rest (rw (ne_eqb j k ne) at e))

pub in_later : (i k : ℕ) (ks : List ℕ) → is_in i ks ≡ true → is_in i (k ∷ ks) ≡ true
in_later i k ks e = by (eqb k i)
  where
    by : (b : Bool) → (b || is_in i ks) ≡ true
    by true = refl
    by false = e

-- a slot's head is at the place after it
pub in_places : (k : ℕ) (ks : List ℕ) → is_in (k + 1) (map (λ (j : ℕ). j + 1) ks) ≡ is_in k ks
in_places k [] = refl
in_places k (j ∷ ks) = by (dec_eq j k) (in_places k ks)
  where
    by : Dec (j ≡ k) → is_in (k + 1) (map (λ (i : ℕ). i + 1) ks) ≡ is_in k ks → is_in (k + 1) (map (λ (i : ℕ). i + 1) (j ∷ ks)) ≡ is_in k (j ∷ ks)
    by (yes q) rest = rw (eq-eqb (j + 1) (k + 1) (omega arith), eq-eqb j k q)
    by (no ne) rest = rw (ne_eqb (j + 1) (k + 1) (λ e. ne (omega arith)), ne_eqb j k ne) rest

pub in_append : (k : ℕ) (ks js : List ℕ) → is_in k (ks ++ js) ≡ (is_in k ks || is_in k js)
in_append k [] js = refl
in_append k (j ∷ ks) js = by (eqb j k) (in_append k ks js)
  where
    by : (b : Bool) → is_in k (ks ++ js) ≡ (is_in k ks || is_in k js)
        → (b || is_in k (ks ++ js)) ≡ (b || is_in k ks || is_in k js)
    by true rest = refl
    by false rest = rest

-- ---- one taken out

module _ (k : ℕ) where
  pub remove_out : (ks : List ℕ) → Avoids k ks → remove k ks ≡ ks
  remove_out [] a = refl
  remove_out (j ∷ ks) a = rw (ne_eqb j k a.0) (ap (λ (l : List ℕ). j ∷ l) (remove_out ks a.1))

  pub in_remove : (i : ℕ) (ks : List ℕ) → is_in i (remove k ks) ≡ (not (eqb i k) && is_in i ks)
  in_remove i [] = by (eqb i k)
    where
      by : (b : Bool) → false ≡ (not b && false)
      by true = refl
      by false = refl
  in_remove i (j ∷ ks) = by (dec_eq j k) (dec_eq i k) (in_remove i ks)
    where
      by : Dec (j ≡ k) → Dec (i ≡ k) → is_in i (remove k ks) ≡ (not (eqb i k) && is_in i ks)
          → is_in i (remove k (j ∷ ks)) ≡ (not (eqb i k) && is_in i (j ∷ ks))
      by (yes q) (yes p) rest = rw (eq-eqb j k q, rest, eq-eqb i k p)
      by (yes q) (no n) rest = rw (eq-eqb j k q, rest, ne_eqb i k n, ne_eqb j i (λ e. n (omega arith)))
      by (no m) (yes p) rest = rw (ne_eqb j k m, rest, eq-eqb i k p, ne_eqb j i (λ e. m (omega arith)))
      by (no m) (no n) rest = rw (ne_eqb j k m, rest, ne_eqb i k n)

  pub avoids_remove : (i : ℕ) (ks : List ℕ) → Avoids i ks → Avoids i (remove k ks)
  avoids_remove i [] a = tt
  avoids_remove i (j ∷ ks) a = by (dec_eq j k) (avoids_remove i ks a.1)
    where
      by : Dec (j ≡ k) → Avoids i (remove k ks) → Avoids i (remove k (j ∷ ks))
      by (yes q) rest = rw (eq-eqb j k q) rest
      by (no ne) rest = rw (ne_eqb j k ne) (a.0, rest)

  pub distinct_remove : (ks : List ℕ) → Distinct ks → Distinct (remove k ks)
  distinct_remove [] d = tt
  distinct_remove (j ∷ ks) d = by (dec_eq j k) (distinct_remove ks d.1)
    where
      by : Dec (j ≡ k) → Distinct (remove k ks) → Distinct (remove k (j ∷ ks))
      by (yes q) rest = rw (eq-eqb j k q) rest
      by (no ne) rest = rw (ne_eqb j k ne) (avoids_remove j ks d.0, rest)

  remove_length : (ks : List ℕ) → Distinct ks → length ks ≤ length (remove k ks) + 1
  remove_length [] d = omega arith
  remove_length (j ∷ ks) d = by (dec_eq j k) (remove_length ks d.1)
    where
      by : Dec (j ≡ k) → length ks ≤ length (remove k ks) + 1 → length (j ∷ ks) ≤ length (remove k (j ∷ ks)) + 1
      by (yes q) rest = rw (eq-eqb j k q, remove_out ks (subst (λ (i : ℕ). Avoids i ks) q d.0)) (omega arith)
      by (no ne) rest = rw (ne_eqb j k ne) (omega (arith, rest))

-- ---- where a slot stands in a list

pub data Stands (k : ℕ) (ks : List ℕ) : Type 0 where
  first : (post : List ℕ) → ks ≡ k ∷ post → Stands k ks
  later : (pre : List ℕ) (j : ℕ) (post : List ℕ) → ks ≡ pre ++ j ∷ k ∷ post → Stands k ks

pub stands : (k : ℕ) (ks : List ℕ) → is_in k ks ≡ true → Stands k ks
stands k [] e = absurd (false_true e)
stands k (j ∷ ks) e = by (dec_eq j k) (λ q. stands k ks q)
  where
    on : Stands k ks → Stands k (j ∷ ks)
    on (first post q) = later [] j post (ap (λ (l : List ℕ). j ∷ l) q)
    on (later pre i post q) = later (j ∷ pre) i post (ap (λ (l : List ℕ). j ∷ l) q)

    by : Dec (j ≡ k) → (is_in k ks ≡ true → Stands k ks) → Stands k (j ∷ ks)
    by (yes q) rest = first ks (ap (λ (i : ℕ). i ∷ ks) q)
    by (no ne) rest = on (rest (rw (ne_eqb j k ne) at e))

avoids_append : (x : ℕ) (pre l : List ℕ) → Avoids x (pre ++ l) → Avoids x pre × Avoids x l
avoids_append x [] l a = (tt, a)
avoids_append x (j ∷ pre) l a = let r = avoids_append x pre l a.1 in ((a.0, r.0), r.1)

-- all different: so each of two neighbours is nowhere else
pub record Neighbours (j k : ℕ) (pre post : List ℕ) : Type 0 where
  pub j_before : Avoids j pre
  pub k_before : Avoids k pre
  pub apart : j ≡ k → ⊥
  pub j_after : Avoids j post
  pub k_after : Avoids k post

pub neighbours : (j k : ℕ) (pre post : List ℕ) → Distinct (pre ++ j ∷ k ∷ post) → Neighbours j k pre post
neighbours j k [] post d =
    record {
      j_before = tt;
      k_before = tt;
      apart = λ e. d.0.0 (sym e);
      j_after = d.0.1;
      k_after = d.1.0;
    }
neighbours j k (x ∷ pre) post d =
    let n = neighbours j k pre post d.1 in
    let a = (avoids_append x pre (j ∷ k ∷ post) d.0).1 in
    record {
      j_before = ((λ e. a.0 (sym e)), n.j_before);
      k_before = ((λ e. a.1.0 (sym e)), n.k_before);
      apart = n.apart;
      j_after = n.j_after;
      k_after = n.k_after;
    }

pub remove_later : (j k : ℕ) (pre post : List ℕ) → Neighbours j k pre post → remove k (pre ++ j ∷ k ∷ post) ≡ pre ++ j ∷ post
remove_later j k [] post n =
    rw (ne_eqb j k n.apart, eq-eqb k k refl) (ap (λ (l : List ℕ). j ∷ l) (remove_out k post n.k_after))
remove_later j k (x ∷ pre) post n =
    rw (ne_eqb x k n.k_before.0) (ap (λ (l : List ℕ). x ∷ l) (remove_later j k pre post rest))
  where
    rest : Neighbours j k pre post
    rest =
        record {
          j_before = n.j_before.1;
          k_before = n.k_before.1;
          apart = n.apart;
          j_after = n.j_after;
          k_after = n.k_after;
        }

pub remove_first : (k : ℕ) (post : List ℕ) → Avoids k post → remove k (k ∷ post) ≡ post
remove_first k post a = rw (eq-eqb k k refl) (remove_out k post a)

-- another slot of the list is before, or the neighbour, or after
pub elsewhere : (i j k : ℕ) (pre post : List ℕ) → is_in i (pre ++ j ∷ k ∷ post) ≡ true → (i ≡ k → ⊥) → In i pre ⊎ ((i ≡ j) ⊎ In i post)
elsewhere i j k [] post e n = by (dec_eq j i)
  where
    by : Dec (j ≡ i) → In i [] ⊎ ((i ≡ j) ⊎ In i post)
    by (yes q) = inr (inl (sym q))
    by (no m) = inr (inr (in_tells i post (rw (ne_eqb j i m, ne_eqb k i (λ q. n (sym q))) at e)))
elsewhere i j k (x ∷ pre) post e n = by (dec_eq x i) (λ q. elsewhere i j k pre post q n)
  where
    on : In i pre ⊎ ((i ≡ j) ⊎ In i post) → In i (x ∷ pre) ⊎ ((i ≡ j) ⊎ In i post)
    on (inl m) = inl (inr m)
    on (inr m) = inr m

    by : Dec (x ≡ i) → (is_in i (pre ++ j ∷ k ∷ post) ≡ true → In i pre ⊎ ((i ≡ j) ⊎ In i post)) → In i (x ∷ pre) ⊎ ((i ≡ j) ⊎ In i post)
    by (yes q) rest = inl (inl (sym q))
    by (no m) rest = on (rest (rw (ne_eqb x i m) at e))

-- ---- different slots below a number are at most so many

pub few : (n : ℕ) (ks : List ℕ) → Distinct ks → ((i : ℕ) → is_in i ks ≡ true → i < n) → length ks ≤ n
few zero [] d b = omega arith
few zero (k ∷ ks) d b = absurd (omega (arith, b k (in_same k ks)))
few (suc n) ks d b = omega (arith, remove_length n ks d, few n (remove n ks) (distinct_remove n ks d) below)
  where
    below : (i : ℕ) → is_in i (remove n ks) ≡ true → i < n
    below i e = by (dec_eq i n)
      where
        rest : (not (eqb i n) && is_in i ks) ≡ true
        rest = sym (in_remove n i ks) ∙ e

        by : Dec (i ≡ n) → i < n
        by (yes q) = absurd (false_true (rw (eq-eqb i n q) at rest))
        by (no m) = let here : is_in i ks ≡ true = rw (ne_eqb i n m) at rest in omega (arith, m, b i here)
