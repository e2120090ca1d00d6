-- What a fall does to each word of the row, and to the fields of a word.
use Prim.Native.Nat.{ℕ, zero, suc, ◌+◌, ◌-◌, ◌*◌, ◌≤◌, ◌<◌}
use mathlib.Core.Path.{◌≡◌, refl, sym, ap, ◌∙◌}
use mathlib.Core.Bool.{Bool, true, false, not, ◌&&◌, cond}
use mathlib.Core.List.{List}
use native.Mathlib.Numerals.{add-one}
use native.Mathlib.Omega.{arith}
use borrow.Author.Tests.{eqb-true, eqb-false, eq-eqb, ne_eqb, leb-true, leb-false, le-leb, lt-leb}
use lib.Dec.{eqb, leb}
use lib.ListN.{get_or, length, length-set, set, get_or-eq_default}
use lib.Seq.{get_or-set_same, get_or-set_other}
use Rattle.words.specs.Record.{boundary_in, cancel_in, direction_in, fall_to, fallen_word, kind_in, last_at, length_in, part_at, phase_in, size_in, toggle_in, word_at}

-- ---- the fields of a fallen word

-- a field that does not reach the boundary stays
module _ (f : ℕ → ℕ) (w : ℕ) (stays : 0x4_0000_0000_0000 ≤ w → f (w - 0x4_0000_0000_0000) ≡ f w) where
  pub fallen_field : f (fallen_word w) ≡ f w
  unfolding fallen_word
  fallen_field = go (eqb (phase_in w) 3) (eqb (kind_in w) 3) (leb 0x4_0000_0000_0000 w) refl
    where
      go : (a b c : Bool) → leb 0x4_0000_0000_0000 w ≡ c → f (cond (a && (not b && c)) (w - 0x4_0000_0000_0000) w) ≡ f w
      go true false true e = stays (leb-true 0x4_0000_0000_0000 w e)
      go true false false e = refl
      go true true c e = refl
      go false b c e = refl

module _ (w : ℕ) where
  pub fallen_phase : phase_in (fallen_word w) ≡ phase_in w
  fallen_phase = fallen_field (λ v. phase_in v) w (λ h. omega (arith, h))

  pub fallen_kind : kind_in (fallen_word w) ≡ kind_in w
  fallen_kind = fallen_field (λ v. kind_in v) w (λ h. omega (arith, h))

  pub fallen_size : size_in (fallen_word w) ≡ size_in w
  fallen_size = fallen_field (λ v. size_in v) w (λ h. omega (arith, h))

  pub fallen_toggle : toggle_in (fallen_word w) ≡ toggle_in w
  fallen_toggle = fallen_field (λ v. toggle_in v) w (λ h. omega (arith, h))

  pub fallen_direction : direction_in (fallen_word w) ≡ direction_in w
  fallen_direction = fallen_field (λ v. direction_in v) w (λ h. omega (arith, h))

  pub fallen_length : length_in (fallen_word w) ≡ length_in w
  fallen_length = fallen_field (λ v. length_in v) w (λ h. omega (arith, h))

  pub fallen_cancel : cancel_in (fallen_word w) ≡ cancel_in w
  fallen_cancel = fallen_field (λ v. cancel_in v) w (λ h. omega (arith, h))

  -- the boundary of an unlinking control or bulk request is one less
  pub fallen_boundary_lem : boundary_in (fallen_word w)
      ≡ cond (eqb (phase_in w) 3 && not (eqb (kind_in w) 3)) (boundary_in w - 1) (boundary_in w)
  unfolding fallen_word
  fallen_boundary_lem = go (eqb (phase_in w) 3) (eqb (kind_in w) 3) (leb 0x4_0000_0000_0000 w) refl
    where
      go : (a b c : Bool) → leb 0x4_0000_0000_0000 w ≡ c
          → boundary_in (cond (a && (not b && c)) (w - 0x4_0000_0000_0000) w) ≡ cond (a && not b) (boundary_in w - 1) (boundary_in w)
      go true false true e = omega (arith, leb-true 0x4_0000_0000_0000 w e)
      go true false false e = omega (arith, leb-false 0x4_0000_0000_0000 w e)
      go true true c e = refl
      go false b c e = refl

fallen_zero : fallen_word 0 ≡ 0
unfolding fallen_word
fallen_zero = refl

-- ---- the row after a fall

pub fall_length : (ws : List ℕ) (n : ℕ) → length (fall_to ws n) ≡ length ws
unfolding fall_to
fall_length ws zero = refl
fall_length ws (suc n) = length-set (fall_to ws n) (6 * n) (fallen_word (word_at ws n)) ∙ fall_length ws n

-- a word that is no slot's first stays
pub fall_other : (ws : List ℕ) (n k j d : ℕ) → 1 ≤ j → j < 6 → get_or (fall_to ws n) (6 * k + j) d ≡ get_or ws (6 * k + j) d
unfolding fall_to
fall_other ws zero k j d l h = refl
fall_other ws (suc n) k j d l h =
    get_or-set_other (fall_to ws n) (6 * n) (6 * k + j) (fallen_word (word_at ws n)) d (λ e. omega (arith, e)) ∙ fall_other ws n k j d l h

pub fall_last : (ws : List ℕ) (n k : ℕ) → last_at (fall_to ws n) k ≡ last_at ws k
fall_last ws n k = fall_other ws n k 1 0 (omega arith) (omega arith)

pub fall_part : (ws : List ℕ) (n k j : ℕ) → j < 4 → part_at (fall_to ws n) k j ≡ part_at ws k j
fall_part ws n k j h = fall_other ws n k (2 + j) 0 (omega arith) (omega arith)

-- a first word that is not come to yet stays
pub fall_later : (ws : List ℕ) (n k : ℕ) → n ≤ k → word_at (fall_to ws n) k ≡ word_at ws k
unfolding fall_to
fall_later ws zero k h = refl
fall_later ws (suc n) k h =
    get_or-set_other (fall_to ws n) (6 * n) (6 * k) (fallen_word (word_at ws n)) 0 (λ e. omega (arith, e)) ∙ fall_later ws n k (omega arith)

-- every other falls
fall_sooner : (ws : List ℕ) (n k : ℕ) → k < n → 6 * n ≤ length ws → word_at (fall_to ws n) k ≡ fallen_word (word_at ws k)
unfolding fall_to
fall_sooner ws zero k h l = absurd (omega arith)
fall_sooner ws (suc n) k h l = go (eqb k n) refl (λ z. fall_sooner ws n k z (omega arith))
  where
    go : (b : Bool) → eqb k n ≡ b → (k < n → word_at (fall_to ws n) k ≡ fallen_word (word_at ws k))
        → word_at (set (fall_to ws n) (6 * n) (fallen_word (word_at ws n))) k ≡ fallen_word (word_at ws k)
    go true e rest =
        rw (eqb-true k n e) (get_or-set_same (fall_to ws n) (6 * n) (fallen_word (word_at ws n)) 0 (omega (arith, fall_length ws n)))
    go false e rest =
        get_or-set_other (fall_to ws n) (6 * n) (6 * k) (fallen_word (word_at ws n)) 0 (λ z. eqb-false k n e (omega (arith, z)))
        ∙ rest (omega (arith, eqb-false k n e))

-- in a row of n slots every slot's word falls; beyond it there are none
pub fall_word : (ws : List ℕ) (n k : ℕ) → length ws ≡ 6 * n → word_at (fall_to ws n) k ≡ fallen_word (word_at ws k)
fall_word ws n k e = go (leb n k) refl
  where
    go : (b : Bool) → leb n k ≡ b → word_at (fall_to ws n) k ≡ fallen_word (word_at ws k)
    go true t =
        let h : n ≤ k = leb-true n k t in
        let z : word_at ws k ≡ 0 = get_or-eq_default ws 0 (omega (arith, e)) in
        fall_later ws n k h ∙ z ∙ sym fallen_zero ∙ ap fallen_word (sym z)
    go false t = fall_sooner ws n k (leb-false n k t) (omega (arith, e))

-- ---- the returns of `fallen_word`

module _ (w : ℕ) where
  pub word_falls : phase_in w ≡ 3 → (kind_in w ≡ 3 → ⊥) → 0x4_0000_0000_0000 ≤ w → w - 0x4_0000_0000_0000 ≡ fallen_word w
  unfolding fallen_word
  word_falls p k h = rw (eq-eqb (phase_in w) 3 p, ne_eqb (kind_in w) 3 k, le-leb 0x4_0000_0000_0000 w h)

  pub word_waits : phase_in w ≡ 3 → (kind_in w ≡ 3 → ⊥) → w < 0x4_0000_0000_0000 → w ≡ fallen_word w
  unfolding fallen_word
  word_waits p k h = rw (eq-eqb (phase_in w) 3 p, ne_eqb (kind_in w) 3 k, lt-leb 0x4_0000_0000_0000 w h)

  pub word_periodic : phase_in w ≡ 3 → kind_in w ≡ 3 → w ≡ fallen_word w
  unfolding fallen_word
  word_periodic p k = rw (eq-eqb (phase_in w) 3 p, eq-eqb (kind_in w) 3 k)

  pub word_other : (phase_in w ≡ 3 → ⊥) → w ≡ fallen_word w
  unfolding fallen_word
  word_other p = rw (ne_eqb (phase_in w) 3 p)

-- ---- the turns of `fall`

module _ (ws slots : List ℕ) (k v : ℕ) (e : slots ≡ fall_to ws k) where
  pub fall_turn : v ≡ fallen_word (get_or slots (6 * k) 0) → set slots (6 * k) v ≡ fall_to ws (k + 1)
  unfolding fall_to
  fall_turn ev = rw (add-one k, ev, e, fall_later ws k k (omega arith))
