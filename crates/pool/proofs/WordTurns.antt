-- A turn of the loops over a set's places: what was done so far and what is left make the whole.
use Prim.Native.Nat.{ℕ, zero, suc, ◌+◌, ◌-◌, ◌*◌, ◌/◌, ◌%◌, ◌≤◌, ◌<◌, ◌^◌}
use mathlib.Core.Path.{◌≡◌, refl, sym, ap, subst, ◌∙◌}
use mathlib.Core.Bool.{Bool, true, false, not}
use mathlib.Core.List.{List, [], ◌∷◌, ◌++◌}
use native.Mathlib.Nat.{le_trans, mul-le-mul_right}
use native.Mathlib.Numerals.{add-one}
use native.Mathlib.Omega.{arith}
use lib.Dec.{T, eqb}
use lib.ListN.{get_or, length, length-append, set}
use Rattle.bitset.specs.declared.cursor.Cursor.{Cursor}
use Rattle.bitset.specs.Places.{Within, set_places}
use Rattle.bitset.specs.Rest.{is_none, place_at, rest_of, tail_of}
use Rattle.bitset.specs.Words.{cons_if, places_of}
use Rattle.bitset.proofs.CursorLaws.{rest_end, rest_step}
use Rattle.common.specs.declared.kinds.EndpointType.{EndpointType}
use Rattle.common.specs.declared.kinds.EndpointType.TheVariants.{Control, Isochronous, Bulk, Interrupt}
use Rattle.common.specs.Kinds.{is_control}
use Rattle.descriptor.specs.declared.qtd.QueueTransferDescriptor.{QueueTransferDescriptor}
use Rattle.pool.specs.Plain.{Deed}
use Rattle.pool.specs.Plain as Deeds
use Rattle.pool.specs.declared.laying.Laying.{Laying}
use Rattle.pool.specs.declared.transfer.Transfer.{Transfer}
use Rattle.pool.specs.Places.{up_from}
use Rattle.pool.specs.Chains.{blank, filled_from, fresh_at, starts_good, transfer_good, written_of}
use Rattle.pool.specs.Words.{LayingGood, TurnGood, opened_to, next_good, where_places}

-- ---- how many places there are

if_few : (b : Bool) (i k : ℕ) (l : List ℕ) → length l ≤ k → length (cons_if b i l) ≤ suc k
if_few true i k l h = omega (arith, h)
if_few false i k l h = omega (arith, h)

pub word_few : (i k x : ℕ) → length (places_of i k x) ≤ k
unfolding places_of
word_few i zero x = omega arith
word_few i (suc k) x = if_few (eqb (x % 2) 0) i k (places_of (suc i) k (x / 2)) (word_few (suc i) k (x / 2))

pub set_few : (w : List ℕ) → length (set_places w) ≤ 256
unfolding set_places
set_few w =
    let a : List ℕ = places_of 0 64 (get_or w 0 0) in
    let b : List ℕ = places_of 64 64 (get_or w 1 0) in
    let c : List ℕ = places_of 128 64 (get_or w 2 0) in
    let d : List ℕ = places_of 192 64 (get_or w 3 0) in
    omega (
      arith,
      length-append a (b ++ (c ++ d)),
      length-append b (c ++ d),
      length-append c d,
      word_few 0 64 (get_or w 0 0),
      word_few 64 64 (get_or w 1 0),
      word_few 128 64 (get_or w 2 0),
      word_few 192 64 (get_or w 3 0),
    )

-- ---- the loop's test

pub goes_on : (r b : Bool) → r ≡ not b → T r → b ≡ false
goes_on r false e h = refl
goes_on r true e h = absurd (subst (λ (y : Bool). T y) e h)

pub stops : (r b : Bool) → r ≡ not b → T (not r) → b ≡ true
stops r true e h = refl
stops r false e h = absurd (subst (λ (y : Bool). T (not y)) e h)

pub none_yet : (m : ℕ) → 0 + m ≡ m
none_yet m = omega arith

-- ---- a step of the cursor

module _ (c d : Cursor) (p : ℕ) (some : is_none (rest_of c) ≡ false) (ep : p ≡ place_at c) (ed : rest_of d ≡ tail_of (rest_of c)) where
  pub rest_is : rest_of c ≡ p ∷ rest_of d
  rest_is = rest_step c some ∙ ap (λ (q : ℕ). q ∷ tail_of (rest_of c)) (sym ep) ∙ ap (λ (l : List ℕ). p ∷ l) (sym ed)

  both_in : (n : ℕ) → Within n (rest_of c) → Within n (p ∷ rest_of d)
  both_in n w = subst (λ (l : List ℕ). Within n l) rest_is w

  pub here_in : (n : ℕ) → Within n (rest_of c) → p < n
  here_in n w = (both_in n w).0

  pub rest_in : (n : ℕ) → Within n (rest_of c) → Within n (rest_of d)
  rest_in n w = (both_in n w).1

  pub fewer : length (rest_of d) < length (rest_of c)
  fewer = omega (arith, ap length rest_is)

  pub counted : (k m : ℕ) → k + length (rest_of c) ≡ m → k + 1 + length (rest_of d) ≡ m
  counted k m e = omega (arith, ap length rest_is, e)

  pub filled_on : (deed : Deed) (base k : ℕ) (zs all : List QueueTransferDescriptor) → filled_from deed base k (rest_of c) zs ≡ all
      → (w : QueueTransferDescriptor) → w ≡ written_of deed base k (rest_of d) (get_or zs p blank)
      → filled_from deed base (k + 1) (rest_of d) (set zs p w) ≡ all
  unfolding filled_from
  filled_on deed base k zs all left w ew =
      ap (λ (j : ℕ). filled_from deed base j (rest_of d) (set zs p w)) (add-one k)
      ∙ ap (λ (v : QueueTransferDescriptor). filled_from deed base (suc k) (rest_of d) (set zs p v)) ew
      ∙ ap (λ (l : List ℕ). filled_from deed base k l zs) (sym rest_is)
      ∙ left

pub filled_end : (c : Cursor) (deed : Deed) (base k : ℕ) (zs all : List QueueTransferDescriptor) → is_none (rest_of c) ≡ true
    → filled_from deed base k (rest_of c) zs ≡ all → zs ≡ all
unfolding filled_from
filled_end c deed base k zs all none left = ap (λ (l : List ℕ). filled_from deed base k l zs) (sym (rest_end c none)) ∙ left

-- ---- what a turn asks

pub where_some : (ps : List ℕ) (P : Type 0) → 0 < length ps → where_places ps P → P
where_some [] P h g = absurd (omega (arith, h))
where_some (p ∷ ps) P h g = g

next_in_lem : (base n : ℕ) (ps : List ℕ) → base + 64 * n ≤ 2 ^ 32 → Within n ps → next_good base ps
next_in_lem base n [] h w = tt
next_in_lem base n (q ∷ qs) h w = let l : q < n = w.0 in omega (arith, h, l)

chunk_start : (kind : EndpointType) (t : Transfer) (count k : ℕ) → is_control kind ≡ false → k < count → starts_good kind t count → k * t.limit ≤ t.length
chunk_start Control t count k e h g = absurd (let z : ◌≡◌ {A = ℕ} 0 1 = cc in omega arith)
chunk_start Isochronous t count k e h g = le_trans (mul-le-mul_right t.limit (omega (arith, h))) g
chunk_start Bulk t count k e h g = le_trans (mul-le-mul_right t.limit (omega (arith, h))) g
chunk_start Interrupt t count k e h g = le_trans (mul-le-mul_right t.limit (omega (arith, h))) g

module _ (n : ℕ) (l : Laying) (k : ℕ) (rest : List ℕ) (h : k < length (set_places l.places)) (w : Within n rest) where
  abbrev ps : List ℕ
  ps = set_places l.places

  some_places : 0 < length ps
  some_places = omega (arith, h)

  good_of : LayingGood n l → transfer_good l.transfer l.base n (length ps)
  good_of g = where_some ps (transfer_good l.transfer l.base n (length ps)) some_places g.transfer

  pub turn_good : LayingGood n l → TurnGood l k rest
  turn_good g =
      let t : transfer_good l.transfer l.base n (length ps) = good_of g in
      record {
        buffer = t.1;
        setup = t.2;
        starts = λ c. chunk_start l.transfer.kind l.transfer (length ps) k c h t.3;
        limited = t.4;
        next = next_in_lem l.base n rest t.0 w;
      }

-- ---- the first records as opening leaves them

pub open_on_lem : (count k : ℕ) (zs all : List QueueTransferDescriptor) (w : QueueTransferDescriptor) → k < count → w ≡ fresh_at (up_from (k + 1) (count - (k + 1)))
    → filled_from Deeds.Open 0 k (up_from k (count - k)) zs ≡ all → filled_from Deeds.Open 0 (k + 1) (up_from (k + 1) (count - (k + 1))) (set zs k w) ≡ all
unfolding filled_from up_from
open_on_lem count k zs all w h ew left =
    let m : ℕ = count - (k + 1) in
    let one : count - k ≡ suc m = omega (arith, h) in
    ap (λ (j : ℕ). filled_from Deeds.Open 0 j (up_from j m) (set zs k w)) (add-one k)
    ∙ ap (λ (v : QueueTransferDescriptor). filled_from Deeds.Open 0 (suc k) (up_from (suc k) m) (set zs k v)) (ew ∙ ap (λ (j : ℕ). fresh_at (up_from j m)) (add-one k))
    ∙ ap (λ (j : ℕ). filled_from Deeds.Open 0 k (up_from k j) zs) (sym one)
    ∙ left

pub open_end : (count k : ℕ) (zs all : List QueueTransferDescriptor) → count ≤ k → filled_from Deeds.Open 0 k (up_from k (count - k)) zs ≡ all → zs ≡ all
unfolding filled_from up_from
open_end count k zs all h left =
    let none : count - k ≡ 0 = omega (arith, h) in
    ap (λ (j : ℕ). filled_from Deeds.Open 0 k (up_from k j) zs) (sym none) ∙ left

pub open_start : (count : ℕ) (ys : List QueueTransferDescriptor) → filled_from Deeds.Open 0 0 (up_from 0 (count - 0)) ys ≡ opened_to count ys
unfolding opened_to
open_start count ys =
    let whole : count - 0 ≡ count = omega arith in
    ap (λ (j : ℕ). filled_from Deeds.Open 0 0 (up_from 0 j) ys) whole

-- ---- the loop's test, as an equation

pub more_on : (r b : Bool) → r ≡ not b → r ≡ true → b ≡ false
more_on r true e t = let z : false ≡ true = sym e ∙ t in cc
more_on r false e t = refl

pub more_stops : (r b : Bool) → r ≡ not b → r ≡ false → b ≡ true
more_stops r true e t = refl
more_stops r false e t = let z : true ≡ false = sym e ∙ t in cc
