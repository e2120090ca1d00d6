-- A slot as two words and back: a slot that fits comes back from its words, and the words from their slot.
use Prim.Native.Nat.{ℕ, ◌+◌, ◌-◌, ◌*◌, ◌/◌, ◌%◌, ◌^◌, ◌≤◌, ◌<◌}
use mathlib.Core.Path.{◌≡◌, refl, sym, ap, ◌∙◌}
use mathlib.Core.Bool.{Bool, true, false}
use mathlib.Core.Logic.{◌≢◌}
use native.Mathlib.Omega.{arith}
use borrow.Author.Tests.{le-leb, leb-true, leb-false, lt-leb}
use lib.Dec.{leb}
use Rattle.slot.specs.declared.slot.Slot.{Slot}
use Rattle.words.specs.Record.{SlotFits, boundary_in, cancel_in, direction_in, id_in, kind_in, last_of, length_in, phase_in, request_in, size_in, slot_in, toggle_in, word_of}
use Rattle.words.proofs.RecordCases.{id_follows, last_before, last_own, request_none, request_own}

-- ---- a slot's fields in its words

module _ (e : Slot) (fits : SlotFits e) where
  pub phase_back : phase_in (word_of e) ≡ e.phase
  unfolding word_of
  phase_back = omega (arith, fits.phase_fits)

  pub kind_back : kind_in (word_of e) ≡ e.kind
  unfolding word_of
  kind_back = omega (arith, fits.phase_fits, fits.kind_fits)

  pub size_back : size_in (word_of e) ≡ e.size
  unfolding word_of
  size_back = omega (arith, fits.phase_fits, fits.kind_fits, fits.size_fits)

  pub toggle_back : toggle_in (word_of e) ≡ e.toggle
  unfolding word_of
  toggle_back = omega (arith, fits.phase_fits, fits.kind_fits, fits.size_fits, fits.toggle_fits)

  pub direction_back : direction_in (word_of e) ≡ e.direction
  unfolding word_of
  direction_back = omega (arith, fits.phase_fits, fits.kind_fits, fits.size_fits, fits.toggle_fits, fits.direction_fits)

  pub length_back : length_in (word_of e) ≡ e.length
  unfolding word_of
  length_back = omega (arith, fits.phase_fits, fits.kind_fits, fits.size_fits, fits.toggle_fits, fits.direction_fits, fits.length_fits)

  pub cancel_back : cancel_in (word_of e) ≡ e.cancel
  unfolding word_of
  cancel_back =
      omega (arith, fits.phase_fits, fits.kind_fits, fits.size_fits, fits.toggle_fits, fits.direction_fits, fits.length_fits, fits.cancel_fits)

  pub boundary_back : boundary_in (word_of e) ≡ e.boundary
  unfolding word_of
  boundary_back =
      omega (arith, fits.phase_fits, fits.kind_fits, fits.size_fits, fits.toggle_fits, fits.direction_fits, fits.length_fits, fits.cancel_fits)

  pub id_back : id_in (last_of e) ≡ e.id
  id_back = go (leb 2 e.phase) refl
    where
      go : (b : Bool) → leb 2 e.phase ≡ b → id_in (last_of e) ≡ e.id
      go true t =
          let h : 2 ≤ e.phase = leb-true 2 e.phase t in
          ap id_in (sym (last_own e h)) ∙ sym (fits.own_id h)
      go false t =
          ap id_in (sym (last_before e (leb-false 2 e.phase t)))
          ∙ sym (id_follows (e.id - 1) (λ z. omega (arith, z, fits.id_least, fits.id_fits)))
          ∙ before fits.id_least
        where
          before : 1 ≤ e.id → e.id - 1 + 1 ≡ e.id
          before h = omega arith

  pub request_back : request_in e.phase (last_of e) ≡ e.request
  request_back = go (leb 2 e.phase) refl
    where
      go : (b : Bool) → leb 2 e.phase ≡ b → request_in e.phase (last_of e) ≡ e.request
      go true t =
          let h : 2 ≤ e.phase = leb-true 2 e.phase t in
          sym (request_own e.phase (last_of e) h) ∙ sym (last_own e h)
      go false t =
          let h : e.phase < 2 = leb-false 2 e.phase t in
          sym (request_none e.phase (last_of e) h) ∙ sym (fits.has_no_request h)

  pub slot_back : slot_in (word_of e) (last_of e) ≡ e
  unfolding slot_in
  slot_back =
      rw (phase_back, kind_back, size_back, toggle_back, id_back, request_back, direction_back, length_back, cancel_back, boundary_back)

-- ---- and the words in their slot

pub word_back : (w last : ℕ) → word_of (slot_in w last) ≡ w
unfolding word_of slot_in
word_back w last =
    rw (above_49 w, above_50 w)
    (sum (phase_in w) (kind_in w) (size_in w) (toggle_in w) (direction_in w) (length_in w) (w / 0x2_0000 / 0x1_0000_0000 % 2) (w / 0x2_0000 / 0x2_0000_0000)
    (w / 0x2_0000) w (low w) (high (w / 0x2_0000)))
  where
    sum : (p k s g d l c b v x : ℕ) → p + 4 * k + 16 * s + 0x8000 * g + 0x1_0000 * d + 0x2_0000 * v ≡ x → l + 0x1_0000_0000 * c + 0x2_0000_0000 * b ≡ v
        → (p + 4 * k + 16 * s + 0x8000 * g + 0x1_0000 * d) + 0x2_0000 * l + (0x2_0000_0000_0000 * c + 0x4_0000_0000_0000 * b) ≡ x
    sum p k s g d l c b v x e f = omega arith

    low : (v : ℕ) → v % 4 + 4 * (v / 4 % 4) + 16 * (v / 16 % 2048) + 0x8000 * (v / 0x8000 % 2) + 0x1_0000 * (v / 0x1_0000 % 2) + 0x2_0000 * (v / 0x2_0000) ≡ v
    low v =
        rw (at_15 v, at_16 v, at_17 v)
        (join (v % 4) (v / 4 % 4) (v / 16 % 2048) (v / 16 / 2048 % 2) (v / 16 / 4096 % 2) (v / 16 / 8192) (v / 16) v (below v) (middle (v / 16)))
      where
        join : (p k s g d h x y : ℕ) → p + 4 * k + 16 * x ≡ y → s + 2048 * g + 4096 * d + 8192 * h ≡ x
            → p + 4 * k + 16 * s + 0x8000 * g + 0x1_0000 * d + 0x2_0000 * h ≡ y
        join p k s g d h x y e f = omega arith

        below : (x : ℕ) → x % 4 + 4 * (x / 4 % 4) + 16 * (x / 16) ≡ x
        below x = omega arith

        middle : (x : ℕ) → x % 2048 + 2048 * (x / 2048 % 2) + 4096 * (x / 4096 % 2) + 8192 * (x / 8192) ≡ x
        middle x = omega arith

        at_15 : (x : ℕ) → x / 0x8000 ≡ x / 16 / 2048
        at_15 x = omega arith

        at_16 : (x : ℕ) → x / 0x1_0000 ≡ x / 16 / 4096
        at_16 x = omega arith

        at_17 : (x : ℕ) → x / 0x2_0000 ≡ x / 16 / 8192
        at_17 x = omega arith

    high : (v : ℕ) → v % 0x1_0000_0000 + 0x1_0000_0000 * (v / 0x1_0000_0000 % 2) + 0x2_0000_0000 * (v / 0x2_0000_0000) ≡ v
    high v = omega arith

    above_49 : (v : ℕ) → v / 0x2_0000_0000_0000 ≡ v / 0x2_0000 / 0x1_0000_0000
    above_49 v = omega arith

    above_50 : (v : ℕ) → v / 0x4_0000_0000_0000 ≡ v / 0x2_0000 / 0x2_0000_0000
    above_50 v = omega arith

module _ (w last : ℕ) where
  pub last_back_own : 2 ≤ phase_in w → last_of (slot_in w last) ≡ last
  unfolding last_of slot_in
  last_back_own h = rw (le-leb 2 (phase_in w) h)

  last_back_before : phase_in w < 2 → last ≢ 2 ^ 64 - 1 → last_of (slot_in w last) ≡ last
  unfolding last_of slot_in
  last_back_before h ne = rw (lt-leb 2 (phase_in w) h) (omega (arith, id_follows last ne))

  pub last_back : last ≢ 2 ^ 64 - 1 → last_of (slot_in w last) ≡ last
  last_back ne = go (leb 2 (phase_in w)) refl
    where
      go : (b : Bool) → leb 2 (phase_in w) ≡ b → last_of (slot_in w last) ≡ last
      go true t = last_back_own (leb-true 2 (phase_in w) t)
      go false t = last_back_before (leb-false 2 (phase_in w) t) ne
