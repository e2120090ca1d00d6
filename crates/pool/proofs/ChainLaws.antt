-- What a chain does to the pool: records that it does not list stay, each listed one is written from what was there, and EHCI's walk
-- meets a request's places in order and ends there.
use Prim.Native.Nat.{ℕ, zero, suc, ◌+◌, ◌-◌, ◌*◌, ◌%◌, ◌≤◌, ◌<◌, ◌^◌}
use mathlib.Core.Path.{◌≡◌, refl, sym, ap, subst, ◌∙◌}
use mathlib.Core.List.{List, [], ◌∷◌, ◌++◌, map}
use native.Mathlib.Decide.{ℕ_discrete as dec_eq}
use native.Mathlib.Omega.{arith}
use lib.Dec.{eqb}
use lib.ListN.{drop, get_or, length, replicate, set, length-append, length-replicate, length-set}
use lib.Seq.{ext_get_or, get_or-set_other, get_or-set_same}
use Rattle.descriptor.proofs.HeadFields.{next_reads}
use Rattle.descriptor.specs.declared.qtd.QueueTransferDescriptor.{QueueTransferDescriptor as Record}
use Rattle.descriptor.specs.Descriptors.{word_of_next, terminated, with_next}
use Rattle.descriptor.specs.EhciQtd.{qtd_address, terminate}
use Rattle.pool.specs.Plain.{Deed}
use Rattle.pool.specs.Plain as Deeds
use Rattle.pool.specs.declared.transfer.Transfer.{Transfer}
use Rattle.pool.specs.EhciChain.{follow, stop_if}
use Rattle.pool.specs.Places.{Ascending, Each, Within, packed, up_from}
use Rattle.pool.specs.Transfers.{address_of, next_of, record_at}
use Rattle.pool.specs.Chains.{blank, fill_of, filled_from, fresh_at, met_from, next_at, no_chain, place_of, with_token, written_of}
use Rattle.pool.proofs.Each.{each_at, each_map}
use Rattle.pool.proofs.PlaceLaws.{list_packed, up_ascends, up_length, up_within}

pub filled_length : (deed : Deed) (base k : ℕ) (ps : List ℕ) (rs : List Record) → length (filled_from deed base k ps rs) ≡ length rs
unfolding filled_from
filled_length deed base k [] rs = refl
filled_length deed base k (p ∷ ps) rs =
    let w : Record = written_of deed base k ps (get_or rs p blank) in
    filled_length deed base (suc k) ps (set rs p w) ∙ length-set rs p w

-- a record that is not listed stays
pub filled_others : (deed : Deed) (base k : ℕ) (ps : List ℕ) (rs : List Record) (q : ℕ) → Each (λ p. q ≡ p → ⊥) ps
    → get_or (filled_from deed base k ps rs) q blank ≡ get_or rs q blank
unfolding filled_from
filled_others deed base k [] rs q e = refl
filled_others deed base k (p ∷ ps) rs q e =
    let w : Record = written_of deed base k ps (get_or rs p blank) in
    filled_others deed base (suc k) ps (set rs p w) q e.1 ∙ get_or-set_other rs p q w blank e.0

above : (p : ℕ) (ps : List ℕ) → Each (λ q. p < q) ps → Each (λ q. p ≡ q → ⊥) ps
above p ps e = each_map (λ (q : ℕ). p < q) (λ (q : ℕ). p ≡ q → ⊥) (λ q l z. omega (arith, l, z)) ps e

set_within : (n : ℕ) (rs : List Record) (p : ℕ) (w : Record) (ps : List ℕ) → Within (length rs) ps → Within (length (set rs p w)) ps
set_within n rs p w ps e = subst (λ (m : ℕ). Within m ps) (sym (length-set rs p w)) e

-- a listed record is written from what was there
pub filled_listed : (deed : Deed) (base k : ℕ) (ps : List ℕ) (rs : List Record) (j : ℕ) → Ascending ps → Within (length rs) ps → j < length ps
    → get_or (filled_from deed base k ps rs) (get_or ps j 0) blank ≡ written_of deed base (k + j) (drop (suc j) ps) (get_or rs (get_or ps j 0) blank)
unfolding filled_from
filled_listed deed base k [] rs j up e h = absurd (omega (arith, h))
filled_listed deed base k (p ∷ ps) rs zero up e h =
    let w : Record = written_of deed base k ps (get_or rs p blank) in
    let none : k ≡ k + 0 = omega arith in
    filled_others deed base (suc k) ps (set rs p w) p (above p ps up.0) ∙ get_or-set_same rs p w blank e.0
    ∙ ap (λ (m : ℕ). written_of deed base m ps (get_or rs p blank)) none
filled_listed deed base k (p ∷ ps) rs (suc j) up e h =
    let w : Record = written_of deed base k ps (get_or rs p blank) in
    let q : ℕ = get_or ps j 0 in
    let l : j < length ps = omega (arith, h) in
    let apart : q ≡ p → ⊥ = λ z. omega (arith, z, each_at (λ (r : ℕ). p < r) ps j up.0 l) in
    let one : suc k + j ≡ k + suc j = omega arith in
    filled_listed deed base (suc k) ps (set rs p w) j up.1 (set_within (length rs) rs p w ps e.1) l
    ∙ ap (λ (r : Record). written_of deed base (suc k + j) (drop (suc j) ps) r) (get_or-set_other rs p q w blank apart)
    ∙ ap (λ (m : ℕ). written_of deed base m (drop (suc j) ps) (get_or rs q blank)) one

-- ---- the chain read back

-- each record's next word leads to the record after it
abbrev Linked : ℕ → List Record → List ℕ → Type 0
Linked base rs [] = Unit
Linked base rs (p ∷ ps) = ((get_or rs p blank).next ≡ word_of_next (next_of base ps)) × Linked base rs ps

next_word : (t : Transfer) (k : ℕ) (rest : List ℕ) (base : ℕ) → (record_at t k rest base).next ≡ word_of_next (next_of base rest)
unfolding record_at with_next
next_word t k rest base = refl

filled_linked : (t : Transfer) (base k : ℕ) (ps : List ℕ) (rs : List Record) → Ascending ps → Within (length rs) ps
    → Linked base (filled_from (Deeds.Transfer t) base k ps rs) ps
unfolding filled_from
filled_linked t base k [] rs up e = tt
filled_linked t base k (p ∷ ps) rs up e =
    let w : Record = record_at t k ps base in (
      ap
          (λ (r : Record). r.next)
          (filled_others (Deeds.Transfer t) base (suc k) ps (set rs p w) p (above p ps up.0) ∙ get_or-set_same rs p w blank e.0)
          ∙ next_word t k ps base,
      filled_linked t base (suc k) ps (set rs p w) up.1 (set_within (length rs) rs p w ps e.1),
    )

place_back : (base p : ℕ) → place_of base (address_of base p) ≡ p
place_back base p = omega arith

step : (next : ℕ → ℕ) (m w a : ℕ) → terminate w ≡ 0 → qtd_address w ≡ a → follow next (suc m) w ≡ a ∷ follow next m (next a)
unfolding follow
step next m w a e f =
    ap (λ (z : ℕ). stop_if (eqb z 1) (qtd_address w ∷ follow next m (next (qtd_address w)))) e ∙ ap (λ (z : ℕ). z ∷ follow next m (next z)) f

met_linked : (base n : ℕ) (rs : List Record) (ps : List ℕ) (m : ℕ) → base % 64 ≡ 0 → base + 64 * n ≤ 2 ^ 32 → Within n ps → Linked base rs ps → length ps ≤ m
    → met_from base rs m (word_of_next (next_of base ps)) ≡ ps
unfolding met_from follow
met_linked base n rs [] zero a h w l f = refl
met_linked base n rs [] (suc m) a h w l f = refl
met_linked base n rs (p ∷ ps) zero a h w l f = absurd (omega (arith, f))
met_linked base n rs (p ∷ ps) (suc m) a h w l f =
    let low : address_of base p < 2 ^ 32 = omega (arith, h, w.0) in
    let even : address_of base p % 32 ≡ 0 = omega (arith, a) in
    let reads = next_reads (address_of base p) low even in
    let on : next_at base rs (address_of base p) ≡ word_of_next (next_of base ps) = ap (λ (q : ℕ). (get_or rs q blank).next) (place_back base p) ∙ l.0 in
    let rest : met_from base rs m (word_of_next (next_of base ps)) ≡ ps = met_linked base n rs ps m a h w.1 l.1 (omega (arith, f)) in
    ap (map (place_of base)) (step (next_at base rs) m (word_of_next (next_of base (p ∷ ps))) (address_of base p) reads.0 reads.1)
    ∙ ap (λ (q : ℕ). q ∷ map (place_of base) (follow (next_at base rs) m (next_at base rs (address_of base p)))) (place_back base p)
    ∙ ap (λ (v : ℕ). p ∷ map (place_of base) (follow (next_at base rs) m v)) on
    ∙ ap (λ (l : List ℕ). p ∷ l) rest

-- from the first place on, EHCI's walk meets exactly a request's places, in order, however far it may go
pub met_chain : (t : Transfer) (base m : ℕ) (ps : List ℕ) (rs : List Record) → base % 64 ≡ 0 → base + 64 * length rs ≤ 2 ^ 32 → Ascending ps → Within (length rs) ps
    → length ps ≤ m → met_from base (filled_from (Deeds.Transfer t) base 0 ps rs) m (word_of_next (next_of base ps)) ≡ ps
met_chain t base m ps rs a h up e f = met_linked base (length rs) (filled_from (Deeds.Transfer t) base 0 ps rs) ps m a h e (filled_linked t base 0 ps rs up e) f

-- and the addresses that it meets are those of the places
followed_linked : (base n : ℕ) (rs : List Record) (ps : List ℕ) (m : ℕ) → base % 64 ≡ 0 → base + 64 * n ≤ 2 ^ 32 → Within n ps → Linked base rs ps → length ps ≤ m
    → follow (next_at base rs) m (word_of_next (next_of base ps)) ≡ map (address_of base) ps
unfolding follow
followed_linked base n rs [] zero a h w l f = refl
followed_linked base n rs [] (suc m) a h w l f = refl
followed_linked base n rs (p ∷ ps) zero a h w l f = absurd (omega (arith, f))
followed_linked base n rs (p ∷ ps) (suc m) a h w l f =
    let low : address_of base p < 2 ^ 32 = omega (arith, h, w.0) in
    let even : address_of base p % 32 ≡ 0 = omega (arith, a) in
    let reads = next_reads (address_of base p) low even in
    let on : next_at base rs (address_of base p) ≡ word_of_next (next_of base ps) = ap (λ (q : ℕ). (get_or rs q blank).next) (place_back base p) ∙ l.0 in
    let rest : follow (next_at base rs) m (word_of_next (next_of base ps)) ≡ map (address_of base) ps = followed_linked base n rs ps m a h w.1 l.1 (omega (arith, f)) in
    step (next_at base rs) m (word_of_next (next_of base (p ∷ ps))) (address_of base p) reads.0 reads.1
    ∙ ap (λ (v : ℕ). address_of base p ∷ follow (next_at base rs) m v) on ∙ ap (λ (l : List ℕ). address_of base p ∷ l) rest

pub follow_chain : (t : Transfer) (base m : ℕ) (ps : List ℕ) (rs : List Record) → base % 64 ≡ 0 → base + 64 * length rs ≤ 2 ^ 32 → Ascending ps → Within (length rs) ps
    → length ps ≤ m → follow (next_at base (filled_from (Deeds.Transfer t) base 0 ps rs)) m (word_of_next (next_of base ps)) ≡ map (address_of base) ps
follow_chain t base m ps rs a h up e f =
    followed_linked base (length rs) (filled_from (Deeds.Transfer t) base 0 ps rs) ps m a h e (filled_linked t base 0 ps rs up e) f

-- ---- small chains

pub fill_none : (base : ℕ) (deed : Deed) (rs : List Record) → fill_of (record { places = packed []; base = base; deed = deed }) rs ≡ rs
unfolding fill_of filled_from
fill_none base deed rs = rw (list_packed [])

pub fill_no_chain : (rs : List Record) → fill_of no_chain rs ≡ rs
unfolding no_chain
fill_no_chain rs = fill_none 0 Deeds.Leave rs

pub fill_token : (base p w : ℕ) (rs : List Record) → fill_of (record { places = packed (p ∷ []); base = base; deed = Deeds.Token w }) rs ≡ set rs p (with_token (get_or rs p blank) w)
unfolding fill_of filled_from
fill_token base p w rs = rw (list_packed (p ∷ []))

up_at : (i n k : ℕ) → k < n → get_or (up_from i n) k 0 ≡ i + k
unfolding up_from
up_at i zero k h = absurd (omega (arith, h))
up_at i (suc n) zero h = omega arith
up_at i (suc n) (suc k) h = up_at (suc i) n k (omega (arith, h)) ∙ along i k
  where
    along : (i k : ℕ) → suc i + k ≡ i + suc k
    along i k = omega arith

up_drop : (i n k : ℕ) → k ≤ n → drop k (up_from i n) ≡ up_from (i + k) (n - k)
unfolding up_from
up_drop i n zero h =
    let none : i ≡ i + 0 = omega arith in
    let all : n ≡ n - 0 = omega arith in
    ap (λ (a : ℕ). up_from a n) none ∙ ap (up_from (i + 0)) all
up_drop i zero (suc k) h = absurd (omega (arith, h))
up_drop i (suc n) (suc k) h =
    let on : suc i + k ≡ i + suc k = omega arith in
    let less : n - k ≡ suc n - suc k = omega arith in
    up_drop (suc i) n k (omega (arith, h)) ∙ ap (λ (a : ℕ). up_from a (n - k)) on ∙ ap (up_from (i + suc k)) less

-- each of the opened records, by the places after it
opened_at : (base n : ℕ) (rs : List Record) (i : ℕ) → length rs ≡ n → i < n
    → get_or (filled_from Deeds.Open base 0 (up_from 0 n) rs) i blank ≡ fresh_at (up_from (suc i) (n - suc i))
opened_at base n rs i e h =
    let at : get_or (up_from 0 n) i 0 ≡ i = up_at 0 n i h ∙ along i in
    let l : i < length (up_from 0 n) = omega (arith, h, up_length 0 n) in
    let within : Within (length rs) (up_from 0 n) = subst (λ (m : ℕ). Within m (up_from 0 n)) (sym e) (up_within n) in
    ap (λ (j : ℕ). get_or (filled_from Deeds.Open base 0 (up_from 0 n) rs) j blank) (sym at)
    ∙ filled_listed Deeds.Open base 0 (up_from 0 n) rs i (up_ascends 0 n) within l
    ∙ ap fresh_at (up_drop 0 n (suc i) (omega (arith, h)) ∙ ap (λ (j : ℕ). up_from j (n - suc i)) (along (suc i)))
  where
    along : (i : ℕ) → 0 + i ≡ i
    along i = omega arith

fresh_zero : (i m : ℕ) → 0 < m → fresh_at (up_from i m) ≡ blank
unfolding up_from
fresh_zero i zero h = absurd (omega (arith, h))
fresh_zero i (suc m) h = refl

fresh_last : (i m : ℕ) → m ≡ 0 → fresh_at (up_from i m) ≡ terminated
unfolding up_from
fresh_last i zero h = refl
fresh_last i (suc m) h = absurd (omega (arith, h))

module _ (k count : ℕ) (r : Record) where
  pub fresh_shared : r ≡ terminated → k + 1 ≡ count → r ≡ fresh_at (up_from (k + 1) (count - (k + 1)))
  fresh_shared e z = e ∙ sym (fresh_last (k + 1) (count - (k + 1)) (omega (arith, z)))

  pub fresh_blank : r ≡ blank → k < count → (k + 1 ≡ count → ⊥) → r ≡ fresh_at (up_from (k + 1) (count - (k + 1)))
  fresh_blank e h z = e ∙ sym (fresh_zero (k + 1) (count - (k + 1)) (omega (arith, h, z)))

-- so many zero records, and one more
pub has_row_length : (n : ℕ) (d : Record) → length (replicate n blank ++ d ∷ []) ≡ n + 1
has_row_length n d = length-append (replicate n blank) (d ∷ []) ∙ ap (λ (m : ℕ). m + 1) (length-replicate n blank)

pub row_zero : (n i : ℕ) (d : Record) → i < n → get_or (replicate n blank ++ d ∷ []) i blank ≡ blank
row_zero zero i d h = absurd (omega (arith, h))
row_zero (suc n) zero d h = refl
row_zero (suc n) (suc i) d h = row_zero n i d (omega (arith, h))

pub row_last : (n : ℕ) (d : Record) → get_or (replicate n blank ++ d ∷ []) n blank ≡ d
row_last zero d = refl
row_last (suc n) d = row_last n d

-- opening every place leaves zero words in all but the last, and there the shared descriptor
pub fill_open : (n : ℕ) (rs : List Record) → length rs ≡ n + 1
    → filled_from Deeds.Open 0 0 (up_from 0 (n + 1)) rs ≡ replicate n blank ++ terminated ∷ []
fill_open n rs e =
    let now : List Record = filled_from Deeds.Open 0 0 (up_from 0 (n + 1)) rs in
    let long : length now ≡ n + 1 = filled_length Deeds.Open 0 0 (up_from 0 (n + 1)) rs ∙ e in
    ext_get_or blank now (replicate n blank ++ terminated ∷ []) (long ∙ sym (has_row_length n terminated))
    (λ i h. here i (subst (λ (m : ℕ). i < m) long h))
  where
    here : (i : ℕ) → i < n + 1 → get_or (filled_from Deeds.Open 0 0 (up_from 0 (n + 1)) rs) i blank ≡ get_or (replicate n blank ++ terminated ∷ []) i blank
    here i h = by (dec_eq i n)
      where
        by : Dec (i ≡ n) → get_or (filled_from Deeds.Open 0 0 (up_from 0 (n + 1)) rs) i blank ≡ get_or (replicate n blank ++ terminated ∷ []) i blank
        by (yes z) =
            opened_at 0 (n + 1) rs i e h ∙ fresh_last (suc i) (n + 1 - suc i) (omega (arith, z))
            ∙ sym (ap (λ (j : ℕ). get_or (replicate n blank ++ terminated ∷ []) j blank) z ∙ row_last n terminated)
        by (no z) =
            opened_at 0 (n + 1) rs i e h ∙ fresh_zero (suc i) (n + 1 - suc i) (omega (arith, z, h))
            ∙ sym (row_zero n i terminated (omega (arith, z, h)))
