-- The definitions on a small set, worked by hand: places 0, 2, 65 and 192.
use Prim.Native.Nat.{ℕ}
use mathlib.Core.Path.{◌≡◌, refl}
use mathlib.Core.Bool.{true, false}
use mathlib.Core.List.{List, [], ◌∷◌}
use lib.Count.{count_trailing_zeros}
use Rattle.bitset.specs.declared.cursor.Cursor.{Cursor}
use Rattle.bitset.specs.Words.{bit, places_of, drop_bits, ones_below, cleared_of}
use Rattle.bitset.specs.Places.{set_places, all_below, without_of, with_of, has_place, count_before, lowest_of, up_from}
use Rattle.bitset.specs.Rest.{rest_of, later_of, place_at}
use Rattle.bitset.specs.Judge.{met_in, twice_in, owner_in}

abbrev some : List ℕ
some = 5 ∷ 2 ∷ 0 ∷ 1 ∷ []

its_places : set_places some ≡ 0 ∷ 2 ∷ 65 ∷ 192 ∷ []
unfolding set_places places_of
its_places = refl

-- ---- the lowest

lowest_three : lowest_of some 3 ≡ 5 ∷ 2 ∷ 0 ∷ 0 ∷ []
unfolding lowest_of count_before places_of drop_bits
lowest_three = refl

lowest_one : lowest_of some 1 ≡ 1 ∷ 0 ∷ 0 ∷ 0 ∷ []
unfolding lowest_of count_before places_of drop_bits
lowest_one = refl

lowest_nine : lowest_of some 9 ≡ some
unfolding lowest_of count_before places_of drop_bits
lowest_nine = refl

-- full words run too
lowest_of_all : lowest_of (all_below 256) 66 ≡ all_below 66
unfolding lowest_of count_before places_of drop_bits all_below ones_below
lowest_of_all = refl

-- ---- all below a place

below_none : all_below 0 ≡ 0 ∷ 0 ∷ 0 ∷ 0 ∷ []
unfolding all_below ones_below
below_none = refl

below_66 : all_below 66 ≡ 0xFFFFFFFFFFFFFFFF ∷ 3 ∷ 0 ∷ 0 ∷ []
unfolding all_below ones_below
below_66 = refl

below_more : all_below 300 ≡ 0xFFFFFFFFFFFFFFFF ∷ 0xFFFFFFFFFFFFFFFF ∷ 0xFFFFFFFFFFFFFFFF ∷ 0xFFFFFFFFFFFFFFFF ∷ []
unfolding all_below ones_below
below_more = refl

two_up : up_from 7 2 ≡ 7 ∷ 8 ∷ []
unfolding up_from
two_up = refl

-- ---- without, with, whether

without_some : without_of some (4 ∷ 1 ∷ 0 ∷ 1 ∷ []) ≡ 1 ∷ 2 ∷ 0 ∷ 0 ∷ []
unfolding without_of cleared_of
without_some = refl

with_some : with_of some (4 ∷ 1 ∷ 0 ∷ 2 ∷ []) ≡ 5 ∷ 3 ∷ 0 ∷ 3 ∷ []
unfolding with_of
with_some = refl

there : has_place some 65 ≡ true
unfolding has_place bit
there = refl

not_there : has_place some 64 ≡ false
unfolding has_place bit
not_there = refl

never_there : has_place (1 ∷ 0 ∷ 0 ∷ 0 ∷ 1 ∷ []) 256 ≡ false
unfolding has_place
never_there = refl

-- ---- a cursor

abbrev at_two : Cursor
at_two = record { base = 0; word = 4; second = 2; third = 0; fourth = 1 }

from_two : rest_of at_two ≡ 2 ∷ 65 ∷ 192 ∷ []
unfolding rest_of later_of places_of
from_two = refl

stands : place_at at_two ≡ 2
unfolding place_at count_trailing_zeros
stands = refl

-- a word that is not there is none to come
last_word : rest_of (record { base = 192; word = 1; second = 2; third = 0; fourth = 1 }) ≡ 192 ∷ []
unfolding rest_of later_of places_of
last_word = refl

-- ---- what the judge meets: free 1, the slots 2 and 4; and a place that two have

all_met_lem : met_in 1 (2 ∷ 4 ∷ []) ≡ 7
unfolding met_in
all_met_lem = refl

none_twice : twice_in 1 (2 ∷ 4 ∷ []) ≡ 0
unfolding twice_in
none_twice = refl

two_twice : twice_in 1 (2 ∷ 6 ∷ []) ≡ 2
unfolding twice_in
two_twice = refl

its_owner : owner_in 2 0 (2 ∷ 4 ∷ []) ≡ 2
unfolding owner_in bit
its_owner = refl
