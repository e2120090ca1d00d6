-- Where a word leads, exactly, for any settings and any word: to a head or a descriptor by its own address alone.
use Prim.Native.Nat.{ℕ, zero, suc, ◌+◌, ◌*◌, ◌-◌, ◌/◌, ◌≤◌, ◌<◌}
use mathlib.Core.Path.{◌≡◌, refl, sym, ap, subst, ◌∙◌}
use mathlib.Core.Bool.{Bool, true, false, cond, not, true≢false, ◌&&◌}
use mathlib.Core.Logic.{◌↔◌}
use native.Mathlib.Omega.{arith}
use borrow.Author.Tests.{eq-eqb, eqb-false, eqb-true, ltb-true, ne_eqb}
use lib.Dec.{eqb, ltb}
use Rattle.descriptor.specs.EhciQtd.{qtd_address, terminate}
use Rattle.descriptor.specs.EhciQueueHead.{link_address, link_terminate, link_type}
use Rattle.settings.specs.declared.settings.Settings.{Settings}
use Rattle.settings.specs.Settings.{pool_length}
use Rattle.promises.specs.Walks.{AtRingHead, End, Ends, Lead, Nowhere, On, Terminated, TooLong, link_leads, next_leads, place_at}
use Rattle.promises.proofs.any_machine.Walking.{own_place}

-- ---- leads by numbers

abbrev lead_number : Lead → ℕ
lead_number (On p) = p + 4
lead_number (Ends Terminated) = 0
lead_number (Ends AtRingHead) = 1
lead_number (Ends Nowhere) = 2
lead_number (Ends TooLong) = 3

abbrev is_on : Lead → Bool
is_on (On p) = true
is_on (Ends z) = false

-- ---- a place by its address

module _ (base size count address p : ℕ) where
  pub place_of : place_at base size count address ≡ On p → (address ≡ base + size * p) × (p < count)
  place_of e = by (ltb q count) refl (eqb address (base + size * q)) refl e
    where
      q : ℕ
      q = (address - base) / size

      by : (l : Bool) → ltb q count ≡ l → (b : Bool) → eqb address (base + size * q) ≡ b → cond (l && b) (On q) (Ends Nowhere) ≡ On p
          → (address ≡ base + size * p) × (p < count)
      by true x true y f =
          let same : q ≡ p = omega (arith, ap lead_number f) in
          subst (λ (r : ℕ). (address ≡ base + size * r) × (r < count)) same (eqb-true address (base + size * q) y, ltb-true q count x)
      by true x false y f = let z : ◌≡◌ {A = ℕ} 2 (p + 4) = ap lead_number f in absurd (omega (arith, z))
      by false x b y f = let z : ◌≡◌ {A = ℕ} 2 (p + 4) = ap lead_number f in absurd (omega (arith, z))

  -- else nowhere
  place_ends : (z : End) → place_at base size count address ≡ Ends z → Ends z ≡ Ends Nowhere
  place_ends z e = by (ltb q count && eqb address (base + size * q)) e
    where
      q : ℕ
      q = (address - base) / size

      by : (b : Bool) → cond b (On q) (Ends Nowhere) ≡ Ends z → Ends z ≡ Ends Nowhere
      by true f = absurd (true≢false (ap is_on f))
      by false f = sym f

-- a bit that is not 1
bit_off : (x : ℕ) → x < 2 → eqb x 1 ≡ false → x ≡ 0
bit_off zero h e = refl
bit_off (suc zero) h e = absurd (eqb-false 1 1 e refl)
bit_off (suc (suc n)) h e = absurd (omega (arith, h))

-- ---- links

module _ (s : Settings) (w : ℕ) where
  -- a link to the queue head at place p
  abbrev pub LinksTo : ℕ → Type 0
  LinksTo p = (link_terminate w ≡ 0) × (link_type w ≡ 1) × (link_address w ≡ s.heads + 128 * p)

  abbrev chosen : Bool → Bool → Bool → Lead
  chosen t y a =
      cond t (Ends Terminated)
      (cond (not y) (Ends Nowhere) (cond a (Ends AtRingHead) (place_at s.heads 128 (s.endpoints + 1) (link_address w))))

  goes : eqb (link_terminate w) 1 ≡ false → link_terminate w ≡ 0
  goes e = bit_off (link_terminate w) (omega arith) e

  -- on to place p exactly by a link to the queue head at place p, a slot's
  pub link_on : (p : ℕ) → (link_leads s w ≡ On p) ↔ (LinksTo p × (1 ≤ p) × (p ≤ s.endpoints))
  link_on p = (there, back)
    where
      by : (t y a : Bool) → eqb (link_terminate w) 1 ≡ t → eqb (link_type w) 1 ≡ y → eqb (link_address w) s.heads ≡ a → chosen t y a ≡ On p
          → LinksTo p × (1 ≤ p) × (p ≤ s.endpoints)
      by true y a e f g h = let z : ◌≡◌ {A = ℕ} 0 (p + 4) = ap lead_number h in absurd (omega (arith, z))
      by false false a e f g h = let z : ◌≡◌ {A = ℕ} 2 (p + 4) = ap lead_number h in absurd (omega (arith, z))
      by false true true e f g h = let z : ◌≡◌ {A = ℕ} 1 (p + 4) = ap lead_number h in absurd (omega (arith, z))
      by false true false e f g h =
          let at = place_of s.heads 128 (s.endpoints + 1) (link_address w) p h in
          let some : 1 ≤ p = least p at.0 (eqb-false (link_address w) s.heads g) in
          ((goes e, eqb-true (link_type w) 1 f, at.0), some, omega (arith, at.1))
        where
          least : (q : ℕ) → link_address w ≡ s.heads + 128 * q → (link_address w ≡ s.heads → ⊥) → 1 ≤ q
          least zero x n = absurd (n (x ∙ omega arith))
          least (suc q) x n = omega arith

      there : link_leads s w ≡ On p → LinksTo p × (1 ≤ p) × (p ≤ s.endpoints)
      there h =
          by (eqb (link_terminate w) 1) (eqb (link_type w) 1) (eqb (link_address w) s.heads) refl refl refl h

      back : LinksTo p × (1 ≤ p) × (p ≤ s.endpoints) → link_leads s w ≡ On p
      back h =
          let at : (s.heads + 128 * p - s.heads) / 128 ≡ p = omega arith in
          let apart : s.heads + 128 * p ≡ s.heads → ⊥ = λ e. omega (arith, e, h.1) in
          rw (h.0.0, h.0.1, h.0.2, ne_eqb (s.heads + 128 * p) s.heads apart)
          (own_place s.heads 128 (s.endpoints + 1) (s.heads + 128 * p) p at (omega (arith, h.2)) refl)

  -- to the ring head exactly by a link to place 0, to termination exactly by the bit
  pub link_home : (link_leads s w ≡ Ends AtRingHead) ↔ LinksTo 0
  link_home = (there, back)
    where
      home : s.heads ≡ s.heads + 128 * 0
      home = omega arith

      by : (t y a : Bool) → eqb (link_terminate w) 1 ≡ t → eqb (link_type w) 1 ≡ y → eqb (link_address w) s.heads ≡ a → chosen t y a ≡ Ends AtRingHead → LinksTo 0
      by true y a e f g h = let z : ◌≡◌ {A = ℕ} 0 1 = ap lead_number h in absurd (omega (arith, z))
      by false false a e f g h = let z : ◌≡◌ {A = ℕ} 2 1 = ap lead_number h in absurd (omega (arith, z))
      by false true true e f g h = (goes e, eqb-true (link_type w) 1 f, eqb-true (link_address w) s.heads g ∙ home)
      by false true false e f g h =
          let z : ◌≡◌ {A = ℕ} 1 2 = ap lead_number (place_ends s.heads 128 (s.endpoints + 1) (link_address w) 0 AtRingHead h) in
          absurd (omega (arith, z))

      there : link_leads s w ≡ Ends AtRingHead → LinksTo 0
      there h = by (eqb (link_terminate w) 1) (eqb (link_type w) 1) (eqb (link_address w) s.heads) refl refl refl h

      back : LinksTo 0 → link_leads s w ≡ Ends AtRingHead
      back h = rw (h.0, h.1, h.2, ← home, eq-eqb s.heads s.heads refl)

  pub link_stops : (link_leads s w ≡ Ends Terminated) ↔ (link_terminate w ≡ 1)
  link_stops = (there, λ h. rw h)
    where
      by : (t y a : Bool) → eqb (link_terminate w) 1 ≡ t → chosen t y a ≡ Ends Terminated → link_terminate w ≡ 1
      by true y a e h = eqb-true (link_terminate w) 1 e
      by false false a e h = let z : ◌≡◌ {A = ℕ} 2 0 = ap lead_number h in absurd (omega (arith, z))
      by false true true e h = let z : ◌≡◌ {A = ℕ} 1 0 = ap lead_number h in absurd (omega (arith, z))
      by false true false e h =
          let z : ◌≡◌ {A = ℕ} 0 2 = ap lead_number (place_ends s.heads 128 (s.endpoints + 1) (link_address w) 0 Terminated h) in
          absurd (omega (arith, z))

      there : link_leads s w ≡ Ends Terminated → link_terminate w ≡ 1
      there h = by (eqb (link_terminate w) 1) (eqb (link_type w) 1) (eqb (link_address w) s.heads) refl h

  -- ---- next pointers

  abbrev next_chosen : Bool → Lead
  next_chosen t = cond t (Ends Terminated) (place_at s.pool 64 (pool_length s) (qtd_address w))

  -- on to place p exactly by the address of a descriptor there
  pub next_on : (p : ℕ) → (next_leads s w ≡ On p) ↔ ((terminate w ≡ 0) × (qtd_address w ≡ s.pool + 64 * p) × (p < pool_length s))
  next_on p = (there, back)
    where
      by : (t : Bool) → eqb (terminate w) 1 ≡ t → next_chosen t ≡ On p → (terminate w ≡ 0) × (qtd_address w ≡ s.pool + 64 * p) × (p < pool_length s)
      by true e h = let z : ◌≡◌ {A = ℕ} 0 (p + 4) = ap lead_number h in absurd (omega (arith, z))
      by false e h =
          let at = place_of s.pool 64 (pool_length s) (qtd_address w) p h in
          (bit_off (terminate w) (omega arith) e, at.0, at.1)

      there : next_leads s w ≡ On p → (terminate w ≡ 0) × (qtd_address w ≡ s.pool + 64 * p) × (p < pool_length s)
      there h = by (eqb (terminate w) 1) refl h

      back : (terminate w ≡ 0) × (qtd_address w ≡ s.pool + 64 * p) × (p < pool_length s) → next_leads s w ≡ On p
      back h =
          let at : (s.pool + 64 * p - s.pool) / 64 ≡ p = omega arith in
          rw (h.0, h.1) (own_place s.pool 64 (pool_length s) (s.pool + 64 * p) p at h.2 refl)

  pub next_stops : (next_leads s w ≡ Ends Terminated) ↔ (terminate w ≡ 1)
  next_stops = (there, λ h. rw h)
    where
      by : (t : Bool) → eqb (terminate w) 1 ≡ t → next_chosen t ≡ Ends Terminated → terminate w ≡ 1
      by true e h = eqb-true (terminate w) 1 e
      by false e h =
          let z : ◌≡◌ {A = ℕ} 0 2 = ap lead_number (place_ends s.pool 64 (pool_length s) (qtd_address w) 0 Terminated h) in
          absurd (omega (arith, z))

      there : next_leads s w ≡ Ends Terminated → terminate w ≡ 1
      there h = by (eqb (terminate w) 1) refl h
