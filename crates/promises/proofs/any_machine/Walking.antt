-- A walk, step by step: what each word's lead does to it, and that it reads only the words of the records that it meets.
use Prim.Native.Nat.{ℕ, zero, suc, ◌+◌, ◌*◌, ◌-◌, ◌/◌, ◌<◌}
use mathlib.Core.Path.{◌≡◌, refl, sym, ap, ◌∙◌}
use mathlib.Core.Bool.{Bool, true, false}
use mathlib.Core.List.{List, [], ◌∷◌, map}
use native.Mathlib.Omega.{arith}
use borrow.Author.Tests.{eq-eqb, lt-ltb}
use lib.Dec.{eqb}
use lib.ListN.{drop, get_or, length}
use Rattle.descriptor.specs.EhciQtd.{qtd_address, terminate}
use Rattle.descriptor.specs.declared.qtd.QueueTransferDescriptor.{QueueTransferDescriptor}
use Rattle.pool.specs.Chains.{blank, next_at, place_of}
use Rattle.pool.specs.EhciChain.{follow, stop_if}
use Rattle.pool.specs.Places.{Each, Within}
use Rattle.pool.specs.Transfers.{address_of}
use Rattle.settings.specs.declared.settings.Settings.{Settings}
use Rattle.settings.specs.Settings.{pool_length}
use Rattle.promises.specs.Walks.{End, Ends, Lead, On, Terminated, ended, meets, next_leads, onward, place_at, walk_from}

-- ---- one word

module _ (leads : ℕ → Lead) (word_at : ℕ → ℕ) (n w : ℕ) where
  pub goes_on : (p : ℕ) → leads w ≡ On p → walk_from leads word_at (suc n) w ≡ meets p (walk_from leads word_at n (word_at p))
  unfolding walk_from
  goes_on p e = ap (λ (l : Lead). onward l (λ q. walk_from leads word_at n (word_at q))) e

  pub comes_to : (z : End) → leads w ≡ Ends z → walk_from leads word_at (suc n) w ≡ ended z
  unfolding walk_from
  comes_to z e = ap (λ (l : Lead). onward l (λ q. walk_from leads word_at n (word_at q))) e

-- a record's own address leads to it
pub own_place : (base size count address p : ℕ) → (address - base) / size ≡ p → p < count → address ≡ base + size * p
    → place_at base size count address ≡ On p
own_place base size count address p e l a = rw (e, lt-ltb p count l, eq-eqb address (base + size * p) a)

-- ---- the words of the records that are met

pub walk_along : (leads : ℕ → Lead) (old new : ℕ → ℕ) (n w : ℕ) → Each (λ p. new p ≡ old p) (walk_from leads old n w).met
    → walk_from leads new n w ≡ walk_from leads old n w
unfolding walk_from
walk_along leads old new zero w e = refl
walk_along leads old new (suc n) w e = by (leads w) (λ v. walk_along leads old new n v) e
  where
    by : (l : Lead) → ((v : ℕ) → Each (λ p. new p ≡ old p) (walk_from leads old n v).met → walk_from leads new n v ≡ walk_from leads old n v)
        → Each (λ p. new p ≡ old p) (onward l (λ p. walk_from leads old n (old p))).met
        → onward l (λ p. walk_from leads new n (new p)) ≡ onward l (λ p. walk_from leads old n (old p))
    by (On p) on f = ap (λ (v : ℕ). meets p (walk_from leads new n v)) f.0 ∙ ap (meets p) (on (old p) f.1)
    by (Ends z) on f = refl

-- ---- a chain of descriptors by the addresses that EHCI's walk follows

module _ (s : Settings) (pool : List QueueTransferDescriptor) where
  abbrev word_of_next : ℕ → ℕ
  word_of_next p = (get_or pool p blank).next

  abbrev addresses : ℕ → ℕ → List ℕ
  addresses m w = follow (next_at s.pool pool) m w

  abbrev Followed : Bool → ℕ → ℕ → List ℕ → Type 0
  Followed b m w ps =
      stop_if b (qtd_address w ∷ addresses m (next_at s.pool pool (qtd_address w))) ≡ map (address_of s.pool) ps

  -- where these are those of some places, and it might go on, the walk meets these places and terminates
  pub chain_walked : (m w : ℕ) (ps : List ℕ) → Within (pool_length s) ps → length ps < m → addresses m w ≡ map (address_of s.pool) ps
      → walk_from (next_leads s) word_of_next m w ≡ record { met = ps; end = Terminated }
  unfolding follow
  chain_walked zero w ps i l e = absurd (omega (arith, l))
  chain_walked (suc m) w [] i l e = by (eqb (terminate w) 1) refl e
    where
      by : (b : Bool) → eqb (terminate w) 1 ≡ b → Followed b m w [] → walk_from (next_leads s) word_of_next (suc m) w ≡ ended Terminated
      by true q f = comes_to (next_leads s) word_of_next m w Terminated (rw q)
      by false q f = let some : ◌≡◌ {A = ℕ} (suc _) 0 = ap length f in absurd (omega (arith, some))
  chain_walked (suc m) w (p ∷ ps) i l e =
      by (eqb (terminate w) 1) refl (λ f. chain_walked m (word_of_next p) ps i.1 (omega (arith, l)) f) e
    where
      by : (b : Bool) → eqb (terminate w) 1 ≡ b
          → (addresses m (word_of_next p) ≡ map (address_of s.pool) ps → walk_from (next_leads s) word_of_next m (word_of_next p) ≡ record { met = ps; end = Terminated })
          → Followed b m w (p ∷ ps) → walk_from (next_leads s) word_of_next (suc m) w ≡ record { met = p ∷ ps; end = Terminated }
      by true q more f = let none : ◌≡◌ {A = ℕ} 0 (suc _) = ap length f in absurd (omega (arith, none))
      by false q more f =
          let here : qtd_address w ≡ address_of s.pool p = ap (λ (x : List ℕ). get_or x 0 0) f in
          let there : place_of s.pool (address_of s.pool p) ≡ p = omega arith in
          let on : next_leads s w ≡ On p = rw (q, here) (own_place s.pool 64 (pool_length s) (address_of s.pool p) p there i.0 refl) in
          let rest : addresses m (word_of_next p) ≡ map (address_of s.pool) ps =
          ap (λ (x : ℕ). addresses m (word_of_next x)) (sym there) ∙ ap (λ (a : ℕ). addresses m (next_at s.pool pool a)) (sym here)
          ∙ ap (drop 1) f in
          goes_on (next_leads s) word_of_next m w p on ∙ ap (meets p) (more rest)
