-- What is written to the row: the words that are written, and that all others stay.
use Prim.Native.Nat.{ℕ, zero, suc, ◌+◌, ◌*◌, ◌≤◌, ◌<◌}
use mathlib.Core.Path.{◌≡◌, ◌∙◌}
use mathlib.Core.Logic.{◌≢◌}
use mathlib.Core.List.{List, [], ◌∷◌}
use native.Mathlib.Omega.{arith}
use lib.ListN.{get_or, length, length-set, set, get_or-eq_default}
use lib.Seq.{get_or-set_same, get_or-set_other}
use Rattle.slot.specs.declared.slot.Slot.{Slot}
use Rattle.words.specs.Record.{last_at, last_of, part_at, places_at, put_places, put_slot, word_at, word_of}

-- ---- beyond the row every word is 0

pub word_beyond : (ws : List ℕ) (k : ℕ) → length ws ≤ 6 * k → word_at ws k ≡ 0
word_beyond ws k h = get_or-eq_default ws 0 h

pub last_beyond : (ws : List ℕ) (k : ℕ) → length ws ≤ 6 * k + 1 → last_at ws k ≡ 0
last_beyond ws k h = get_or-eq_default ws 0 h

pub part_beyond : (ws : List ℕ) (k j : ℕ) → length ws ≤ 6 * k → part_at ws k j ≡ 0
part_beyond ws k j h = get_or-eq_default ws 0 (omega arith)

-- ---- a slot

module _ (ws : List ℕ) (k : ℕ) (e : Slot) where
  pub put_length : length (put_slot ws k e) ≡ length ws
  unfolding put_slot
  put_length = length-set (set ws (6 * k) (word_of e)) (6 * k + 1) (last_of e) ∙ length-set ws (6 * k) (word_of e)

  pub put_word_else : (j : ℕ) → j ≢ k → word_at (put_slot ws k e) j ≡ word_at ws j
  unfolding put_slot
  put_word_else j ne =
      get_or-set_other (set ws (6 * k) (word_of e)) (6 * k + 1) (6 * j) (last_of e) 0 (λ z. omega (arith, z))
      ∙ get_or-set_other ws (6 * k) (6 * j) (word_of e) 0 (λ z. ne (omega (arith, z)))

  pub put_last_else : (j : ℕ) → j ≢ k → last_at (put_slot ws k e) j ≡ last_at ws j
  unfolding put_slot
  put_last_else j ne =
      get_or-set_other (set ws (6 * k) (word_of e)) (6 * k + 1) (6 * j + 1) (last_of e) 0 (λ z. ne (omega (arith, z)))
      ∙ get_or-set_other ws (6 * k) (6 * j + 1) (word_of e) 0 (λ z. omega (arith, z))

  -- the places of every slot stay
  pub put_part_lem : (j i : ℕ) → i < 4 → part_at (put_slot ws k e) j i ≡ part_at ws j i
  unfolding put_slot
  put_part_lem j i h =
      get_or-set_other (set ws (6 * k) (word_of e)) (6 * k + 1) (6 * j + (2 + i)) (last_of e) 0 (λ z. omega (arith, z))
      ∙ get_or-set_other ws (6 * k) (6 * j + (2 + i)) (word_of e) 0 (λ z. omega (arith, z))

  module _ (room : 6 * k + 6 ≤ length ws) where
    pub put_word : word_at (put_slot ws k e) k ≡ word_of e
    unfolding put_slot
    put_word =
        get_or-set_other (set ws (6 * k) (word_of e)) (6 * k + 1) (6 * k) (last_of e) 0 (λ z. omega (arith, z))
        ∙ get_or-set_same ws (6 * k) (word_of e) 0 (omega arith)

    pub put_last : last_at (put_slot ws k e) k ≡ last_of e
    unfolding put_slot
    put_last =
        get_or-set_same (set ws (6 * k) (word_of e)) (6 * k + 1) (last_of e) 0 (omega (arith, length-set ws (6 * k) (word_of e)))

-- ---- a slot's places

module _ (ws : List ℕ) (k : ℕ) (w : List ℕ) where
  -- the row after one, two and three of the four
  abbrev row_1 : List ℕ
  row_1 = set ws (6 * k + 2) (get_or w 0 0)

  abbrev row_2 : List ℕ
  row_2 = set row_1 (6 * k + 3) (get_or w 1 0)

  abbrev row_3 : List ℕ
  row_3 = set row_2 (6 * k + 4) (get_or w 2 0)

  length_1 : length row_1 ≡ length ws
  length_1 = length-set ws (6 * k + 2) (get_or w 0 0)

  length_2 : length row_2 ≡ length ws
  length_2 = length-set row_1 (6 * k + 3) (get_or w 1 0) ∙ length_1

  length_3 : length row_3 ≡ length ws
  length_3 = length-set row_2 (6 * k + 4) (get_or w 2 0) ∙ length_2

  pub places_length : length (put_places ws k w) ≡ length ws
  unfolding put_places
  places_length = length-set row_3 (6 * k + 5) (get_or w 3 0) ∙ length_3

  -- every word but the four stays
  pub places_else : (i : ℕ) → i ≢ 6 * k + 2 → i ≢ 6 * k + 3 → i ≢ 6 * k + 4 → i ≢ 6 * k + 5
      → get_or (put_places ws k w) i 0 ≡ get_or ws i 0
  unfolding put_places
  places_else i n₂ n₃ n₄ n₅ =
      get_or-set_other row_3 (6 * k + 5) i (get_or w 3 0) 0 n₅
      ∙ get_or-set_other row_2 (6 * k + 4) i (get_or w 2 0) 0 n₄
      ∙ get_or-set_other row_1 (6 * k + 3) i (get_or w 1 0) 0 n₃
      ∙ get_or-set_other ws (6 * k + 2) i (get_or w 0 0) 0 n₂

  pub places_word : (j : ℕ) → word_at (put_places ws k w) j ≡ word_at ws j
  places_word j =
      places_else (6 * j) (λ z. omega (arith, z)) (λ z. omega (arith, z)) (λ z. omega (arith, z)) (λ z. omega (arith, z))

  pub places_last : (j : ℕ) → last_at (put_places ws k w) j ≡ last_at ws j
  places_last j =
      places_else (6 * j + 1) (λ z. omega (arith, z)) (λ z. omega (arith, z)) (λ z. omega (arith, z)) (λ z. omega (arith, z))

  pub places_part_else : (j i : ℕ) → j ≢ k → i < 4 → part_at (put_places ws k w) j i ≡ part_at ws j i
  places_part_else j i ne h =
      places_else (6 * j + (2 + i)) (λ z. ne (omega (arith, z))) (λ z. ne (omega (arith, z))) (λ z. ne (omega (arith, z)))
      (λ z. ne (omega (arith, z)))

  module _ (room : 6 * k + 6 ≤ length ws) where
    part_0 : part_at (put_places ws k w) k 0 ≡ get_or w 0 0
    unfolding put_places
    part_0 =
        get_or-set_other row_3 (6 * k + 5) (6 * k + 2) (get_or w 3 0) 0 (λ z. omega (arith, z))
        ∙ get_or-set_other row_2 (6 * k + 4) (6 * k + 2) (get_or w 2 0) 0 (λ z. omega (arith, z))
        ∙ get_or-set_other row_1 (6 * k + 3) (6 * k + 2) (get_or w 1 0) 0 (λ z. omega (arith, z))
        ∙ get_or-set_same ws (6 * k + 2) (get_or w 0 0) 0 (omega arith)

    part_1 : part_at (put_places ws k w) k 1 ≡ get_or w 1 0
    unfolding put_places
    part_1 =
        get_or-set_other row_3 (6 * k + 5) (6 * k + 3) (get_or w 3 0) 0 (λ z. omega (arith, z))
        ∙ get_or-set_other row_2 (6 * k + 4) (6 * k + 3) (get_or w 2 0) 0 (λ z. omega (arith, z))
        ∙ get_or-set_same row_1 (6 * k + 3) (get_or w 1 0) 0 (omega (arith, length_1))

    part_2 : part_at (put_places ws k w) k 2 ≡ get_or w 2 0
    unfolding put_places
    part_2 =
        get_or-set_other row_3 (6 * k + 5) (6 * k + 4) (get_or w 3 0) 0 (λ z. omega (arith, z))
        ∙ get_or-set_same row_2 (6 * k + 4) (get_or w 2 0) 0 (omega (arith, length_2))

    part_3 : part_at (put_places ws k w) k 3 ≡ get_or w 3 0
    unfolding put_places
    part_3 = get_or-set_same row_3 (6 * k + 5) (get_or w 3 0) 0 (omega (arith, length_3))

    pub places_part : (j : ℕ) → j < 4 → part_at (put_places ws k w) k j ≡ get_or w j 0
    places_part zero h = part_0
    places_part (suc zero) h = part_1
    places_part (suc (suc zero)) h = part_2
    places_part (suc (suc (suc zero))) h = part_3
    places_part (suc (suc (suc (suc j)))) h = absurd (omega arith)

-- ---- the returns of `places_at` and `put_places`, which count from the first of the four

next : (n i j : ℕ) → n + i + j ≡ n + (i + j)
next n i j = omega arith

module _ (ws : List ℕ) (k : ℕ) where
  pub parts_read : ◌≡◌ {A = List ℕ}
      (get_or ws (6 * k + 2) 0 ∷ get_or ws (6 * k + 2 + 1) 0 ∷ get_or ws (6 * k + 2 + 2) 0 ∷ get_or ws (6 * k + 2 + 3) 0 ∷ [])
      (places_at ws k)
  parts_read = rw (next (6 * k) 2 1, next (6 * k) 2 2, next (6 * k) 2 3)

  pub parts_written : (w : List ℕ)
      → set
      (set (set (set ws (6 * k + 2) (get_or w 0 0)) (6 * k + 2 + 1) (get_or w 1 0)) (6 * k + 2 + 2) (get_or w 2 0))
      (6 * k + 2 + 3)
      (get_or w 3 0)
      ≡ put_places ws k w
  unfolding put_places
  parts_written w = rw (next (6 * k) 2 1, next (6 * k) 2 2, next (6 * k) 2 3)
