-- Words judged, worked out by hand from the table: phase + 4 kind + 16 size + 2^15 toggle + 2^16 direction + 2^17 length +
-- 2^49 cancelled + 2^50 boundary.
use Rattle.std.specs.Prelude.{◌≡◌, ℕ, ◌+◌, ◌-◌, ◌*◌, ◌^◌, true, false, List, [], ◌∷◌}
use mathlib.Core.Path.{refl}
use Rattle.bitset.specs.Places.{all_below, none_in}
use Rattle.bitset.specs.Words.{ones_below}
use Rattle.slot.specs.Ranges.{size_good}
use Rattle.words.specs.Good.{no_places}
use Rattle.word_ranges.specs.Bounds.{bounds_of, size_right, word_good}
use Rattle.word_ranges.specs.Judge.{slots_good}
use Rattle.word_ranges.specs.Seen.{all_met, held_good, see_of, seen_from}

-- ---- the first word, of a core whose limit is 1000

-- closed; closed with kind 2; closed with a packet size of 64; closed with a toggle
closed : (word_good 1000 1 0 ≡ true) × (word_good 1000 1 8 ≡ false) × (word_good 1000 1 1024 ≡ false) × (word_good 1000 1 (2 ^ 15) ≡ false)
unfolding word_good size_right size_good bounds_of
closed = (refl, refl, refl, refl)

-- idle bulk, packets of 64 bytes: 1 + 8 + 1024; idle of kind 1; idle bulk that keeps a direction; with a toggle
idle : (word_good 1000 1 1033 ≡ true) × (word_good 1000 1 1029 ≡ false) × (word_good 1000 1 (1033 + 2 ^ 16) ≡ false) × (word_good 1000 1 (1033 + 2 ^ 15) ≡ true)
unfolding word_good size_right size_good bounds_of
idle = (refl, refl, refl, refl)

-- linked bulk IN of 512 bytes, packets of 64: 2 + 8 + 1024 + 2^16 + 2^17 * 512; the same cancelled
linked : (word_good 1000 1 67175434 ≡ true) × (word_good 1000 1 (67175434 + 2 ^ 49) ≡ false)
unfolding word_good size_right size_good bounds_of
linked = (refl, refl)

-- unlinking control, packets of 64, with one advance to come, where one unlink is unanswered; with two; cancelled with one
advances : (word_good 1000 1 (1027 + 2 ^ 50) ≡ true) × (word_good 1000 1 (1027 + 2 ^ 51) ≡ false) × (word_good 1000 1 (1027 + 2 ^ 49 + 2 ^ 50) ≡ true)
unfolding word_good size_right size_good bounds_of
advances = (refl, refl, refl)

-- unlinking interrupt, packets of 8, from FRINDEX 0x3FFF; from 0x4000
frame : (word_good 1000 1 (143 + 2 ^ 50 * 0x3FFF) ≡ true) × (word_good 1000 1 (143 + 2 ^ 50 * 0x4000) ≡ false)
unfolding word_good size_right size_good bounds_of
frame = (refl, refl)

-- ---- the packet size

-- idle bulk, packets of 512: 1 + 8 + 8192, where the limit is 1000, 512 and 511
bulk_size : (word_good 1000 0 8201 ≡ true) × (word_good 512 0 8201 ≡ true) × (word_good 511 0 8201 ≡ false)
unfolding word_good size_right size_good bounds_of
bulk_size = (refl, refl, refl)

-- idle bulk and idle control with none
open_size : (word_good 1000 0 9 ≡ false) × (word_good 1000 0 1 ≡ false)
unfolding word_good size_right size_good bounds_of
open_size = (refl, refl)

-- idle control of 64, where the limit is 8; of 1024; of 1025
control_size : (word_good 8 0 1025 ≡ true) × (word_good 8 0 16385 ≡ true) × (word_good 8 0 16401 ≡ false)
unfolding word_good size_right size_good bounds_of
control_size = (refl, refl, refl)

-- linked interrupt of 1024: 2 + 12 + 16384, where the limit is 1024; of 1025, where it is 2000
interrupt_size : (word_good 1024 0 16398 ≡ true) × (word_good 2000 0 16414 ≡ false)
unfolding word_good size_right size_good bounds_of
interrupt_size = (refl, refl)

-- ---- what a slot keeps

-- closed with no id; with one
closed_held : (held_good 0 0 no_places ≡ true) × (held_good 0 1 no_places ≡ false)
unfolding held_good none_in
closed_held = (refl, refl)

-- idle after request 7; after the last id of all; with a place
idle_held : (held_good 1 7 no_places ≡ true) × (held_good 1 (2 ^ 64 - 1) no_places ≡ false) × (held_good 1 7 (1 ∷ 0 ∷ 0 ∷ 0 ∷ []) ≡ false)
unfolding held_good none_in
idle_held = (refl, refl, refl)

-- request 7 on three places; a request with no id
busy_held : (held_good 2 7 (7 ∷ 0 ∷ 0 ∷ 0 ∷ []) ≡ true) × (held_good 3 0 (7 ∷ 0 ∷ 0 ∷ 0 ∷ []) ≡ false)
unfolding held_good
busy_held = (refl, refl)

-- ---- two slots, five places, packets of 8: slot 0 has a linked control request, slot 1 is idle or has a linked bulk request

row : ℕ → ℕ → ℕ → List ℕ
row first second w = 130 ∷ 1 ∷ first ∷ 0 ∷ 0 ∷ 0 ∷ w ∷ 3 ∷ second ∷ 0 ∷ 0 ∷ 0 ∷ []

-- places 0 to 2 and the free 3 and 4; place 0 free too; place 4 nowhere
shared_out : (slots_good (row 7 0 137) 2 5 1000 0 (24 ∷ 0 ∷ 0 ∷ 0 ∷ []) ≡ true)
    × (slots_good (row 7 0 137) 2 5 1000 0 (25 ∷ 0 ∷ 0 ∷ 0 ∷ []) ≡ false)
    × (slots_good (row 7 0 137) 2 5 1000 0 (8 ∷ 0 ∷ 0 ∷ 0 ∷ []) ≡ false)
unfolding row slots_good all_met seen_from see_of held_good word_good size_right size_good bounds_of none_in all_below ones_below
shared_out = (refl, refl, refl)

-- places 0 and 1 in slot 0, 2 and 3 in slot 1; place 1 in both; a free place from D on
two_requests : (slots_good (row 3 12 138) 2 5 1000 0 (16 ∷ 0 ∷ 0 ∷ 0 ∷ []) ≡ true)
    × (slots_good (row 3 14 138) 2 5 1000 0 (16 ∷ 0 ∷ 0 ∷ 0 ∷ []) ≡ false)
    × (slots_good (row 3 12 138) 2 5 1000 0 (16 ∷ 1 ∷ 0 ∷ 0 ∷ []) ≡ false)
unfolding row slots_good all_met seen_from see_of held_good word_good size_right size_good bounds_of none_in all_below ones_below
two_requests = (refl, refl, refl)
