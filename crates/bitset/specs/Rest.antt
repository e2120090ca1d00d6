-- The places that a cursor has still to come, its own first.
use Rattle.std.specs.Prelude.{ℕ, zero, suc, ◌+◌, ◌-◌, Bool, true, false, cond, ◌&&◌, List, [], ◌∷◌, ◌++◌, eqb, leb, get_or}
use Rattle.std.specs.Int.Bits.{bit_and}
use Rattle.std.specs.Int.Count.{count_trailing_zeros}
use Rattle.bitset.specs.declared.cursor.Cursor.{Cursor}
use Rattle.bitset.specs.Words.{places_of}

-- the places of the words after the one at a base; none from 256 on
unfoldable pub later_of : ℕ → List ℕ → List ℕ
later_of base [] = []
later_of base (x ∷ xs) = cond (leb base 128) (places_of (base + 64) 64 x ++ later_of (base + 64) xs) []

abbrev pub later_in : Cursor → List ℕ
later_in c = later_of c.base (c.second ∷ c.third ∷ c.fourth ∷ [])

-- a cursor whose word has no place is at its end
abbrev pub unless_none : List ℕ → List ℕ → List ℕ
unless_none [] l = []
unless_none (p ∷ ps) l = (p ∷ ps) ++ l

unfoldable pub rest_of : Cursor → List ℕ
rest_of c = unless_none (places_of c.base 64 c.word) (later_in c)

-- the places of a cursor whose word may be empty
unfoldable pub coming_of : Cursor → List ℕ
coming_of c = places_of c.base 64 c.word ++ later_in c

-- at the next word
unfoldable pub next_of : Cursor → Cursor
next_of c = record { base = c.base + 64; word = c.second; second = c.third; third = c.fourth; fourth = 0 }

-- at a word that is not 0, where one is left; from any base three words on there is none
unfoldable pub settled_from : ℕ → Cursor → Cursor
settled_from zero c = c
settled_from (suc k) c = cond (eqb c.word 0 && leb c.base 128) (settled_from k (next_of c)) c

abbrev pub settled_of : Cursor → Cursor
settled_of c = settled_from 3 c

-- with another word
abbrev pub with_word : Cursor → ℕ → Cursor
with_word c x = record { base = c.base; word = x; second = c.second; third = c.third; fourth = c.fourth }

-- at a set's lowest place; at the place after this one, or still at its end
unfoldable pub cursor_of : List ℕ → Cursor
cursor_of w = settled_of (record { base = 0; word = get_or w 0 0; second = get_or w 1 0; third = get_or w 2 0; fourth = get_or w 3 0 })

unfoldable pub advance_of : Cursor → Cursor
advance_of c = cond (eqb c.word 0) c (settled_of (with_word c (bit_and c.word (c.word - 1))))

-- where the cursor stands; one past its word at the end
unfoldable pub place_at : Cursor → ℕ
place_at c = c.base + count_trailing_zeros 64 c.word

abbrev pub is_none : List ℕ → Bool
is_none [] = true
is_none (p ∷ ps) = false

abbrev pub tail_of : List ℕ → List ℕ
tail_of [] = []
tail_of (p ∷ ps) = ps
