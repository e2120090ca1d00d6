-- Each byte of a buffer is where EHCI 3.5.4 looks for it, where the buffer touches no more than five pages; past that the
-- slots do not suffice. A buffer of at most 16384 bytes touches no more than five, wherever it starts.
use Prim.Native.Nat.{ℕ, zero, suc, ◌+◌, ◌-◌, ◌*◌, ◌/◌, ◌%◌, ◌^◌, ◌≤◌, ◌<◌}
use mathlib.Core.Path.{◌≡◌, refl, ◌∙◌}
use mathlib.Core.List.{List}
use native.Mathlib.Omega.{arith}
use borrow.Author.Tests.{ne_eqb, lt-ltb, le-ltb}
use lib.ListN.{get_or, get_or-eq_default}
use Rattle.descriptor.specs.EhciQtd.{page, offset, byte_address}
use Rattle.descriptor.specs.Slots.{filled_slots, later_slot, page_slots, zero_slots}

pub slots_are : (A L : ℕ) → 1 ≤ L → page_slots A L ≡ filled_slots A L
unfolding page_slots
slots_are A L h = rw (ne_eqb L 0 (λ e. omega arith))

-- byte j by the slot that it falls in
at_slot : (pages upper : List ℕ) (i p u j o : ℕ) → offset (get_or pages 0 0) + j ≡ o → o / 4096 ≡ i → get_or pages i 0 ≡ p
    → get_or upper i 0 ≡ u → byte_address pages upper j ≡ u * 2 ^ 32 + page p + o % 4096
at_slot pages upper i p u j o eo ei ep eu = rw (eo, ei, ep, eu)

later_in_lem : (A L i : ℕ) → A - A % 4096 + 4096 * i < A + L → later_slot A L i ≡ A - A % 4096 + 4096 * i
later_in_lem A L i h = rw (lt-ltb (A - A % 4096 + 4096 * i) (A + L) h)

pub later_out : (A L i : ℕ) → A + L ≤ A - A % 4096 + 4096 * i → later_slot A L i ≡ 0
later_out A L i h = rw (le-ltb (A - A % 4096 + 4096 * i) (A + L) h)

module _ (A L j : ℕ) (fits : A + L ≤ 2 ^ 32) (hj : j < L) where
  o : ℕ
  o = A % 4096 + j

  starts : offset A + j ≡ o
  unfolding o
  starts = omega arith

  -- a page that the buffer reaches, at its place
  address_is : (i p : ℕ) → o / 4096 ≡ i → p ≡ A - A % 4096 + 4096 * i → 0 * 2 ^ 32 + page p + o % 4096 ≡ A + j
  unfolding o
  address_is i p ei ep = omega arith

  first_is : o / 4096 ≡ 0 → 0 * 2 ^ 32 + page A + o % 4096 ≡ A + j
  unfolding o
  first_is ei = omega arith

  reached : (i : ℕ) → o / 4096 ≡ i → A - A % 4096 + 4096 * i < A + L
  unfolding o
  reached i ei = omega arith

  in_later : (i : ℕ) → get_or (filled_slots A L) i 0 ≡ later_slot A L i → get_or zero_slots i 0 ≡ 0 → o / 4096 ≡ i
      → byte_address (filled_slots A L) zero_slots j ≡ A + j
  in_later i ep eu e =
      at_slot (filled_slots A L) zero_slots i (later_slot A L i) 0 j o starts e ep eu
      ∙ address_is i (later_slot A L i) e (later_in_lem A L i (reached i e))

  in_slot : (i : ℕ) → o / 4096 ≡ i → i ≤ 4 → byte_address (filled_slots A L) zero_slots j ≡ A + j
  in_slot zero e h = at_slot (filled_slots A L) zero_slots 0 A 0 j o starts e refl refl ∙ first_is e
  in_slot (suc zero) e h = in_later 1 refl refl e
  in_slot (suc (suc zero)) e h = in_later 2 refl refl e
  in_slot (suc (suc (suc zero))) e h = in_later 3 refl refl e
  in_slot (suc (suc (suc (suc zero)))) e h = in_later 4 refl refl e
  in_slot (suc (suc (suc (suc (suc i))))) e h = absurd (omega arith)

  pub byte_at : A % 4096 + L ≤ 20480 → byte_address (page_slots A L) zero_slots j ≡ A + j
  unfolding o
  byte_at h = rw (slots_are A L (omega arith)) (in_slot ((A % 4096 + j) / 4096) refl (omega arith))

-- no slot beyond the last page is filled
pub beyond_last : (A L i : ℕ) → 1 ≤ L → 1 ≤ i → (A % 4096 + (L - 1)) / 4096 < i → get_or (page_slots A L) i 0 ≡ 0
beyond_last A L i h_l hi h = rw (slots_are A L h_l) (out i hi h)
  where
    past : (k : ℕ) → (A % 4096 + (L - 1)) / 4096 < k → A + L ≤ A - A % 4096 + 4096 * k
    past k hk = omega arith

    out : (k : ℕ) → 1 ≤ k → (A % 4096 + (L - 1)) / 4096 < k → get_or (filled_slots A L) k 0 ≡ 0
    out zero h₁ hk = absurd (omega arith)
    out (suc zero) h₁ hk = later_out A L 1 (past 1 hk)
    out (suc (suc zero)) h₁ hk = later_out A L 2 (past 2 hk)
    out (suc (suc (suc zero))) h₁ hk = later_out A L 3 (past 3 hk)
    out (suc (suc (suc (suc zero)))) h₁ hk = later_out A L 4 (past 4 hk)
    out (suc (suc (suc (suc (suc k))))) h₁ hk = refl

-- five slots suffice up to 16385 bytes wherever the buffer starts, so for every chunk
pub slots_suffice : (A L : ℕ) → L ≤ 16385 → A % 4096 + L ≤ 20480
slots_suffice A L h = omega arith

elsewhere : (A j o at : ℕ) → 4096 ≤ A → at ≡ 0 * 2 ^ 32 + page 0 + o % 4096 → at ≡ A + j → ⊥
elsewhere A j o at h e f = omega arith

-- where the buffer goes on to a sixth page they do not: its last byte is not where the controller looks
pub slots_lack : (A L : ℕ) → 4096 ≤ A → 20480 < A % 4096 + L
    → byte_address (page_slots A L) zero_slots (L - 1) ≡ A + (L - 1) → ⊥
slots_lack A L h_a h e =
    let o : ℕ = A % 4096 + (L - 1) in
    let k : ℕ = o / 4096 in
    let far : 5 ≤ k = omega arith in
    let begins : offset A + (L - 1) ≡ o = omega arith in
    let lost : byte_address (filled_slots A L) zero_slots (L - 1) ≡ 0 * 2 ^ 32 + page 0 + o % 4096 =
    at_slot (filled_slots A L) zero_slots k 0 0 (L - 1) o begins refl (get_or-eq_default (filled_slots A L) 0 far)
    (get_or-eq_default zero_slots 0 far) in
    elsewhere A (L - 1) o _ h_a lost (rw (slots_are A L (omega arith)) at e)
