-- The range rule of a slot's first word: at most a bound, which its lowest four bits say (two of the phase, two of the kind), and with a packet
-- size in its range where it is open.
use Rattle.std.specs.Prelude.{ℕ, ◌+◌, ◌-◌, ◌*◌, ◌%◌, ◌^◌, min, Bool, ◌&&◌, ◌||◌, List, [], ◌∷◌, ◌==◌, nat_le, slice_index}
use Rattle.slot.specs.Ranges.{size_good}
use Rattle.words.specs.Record.{kind_in, phase_in, size_in}

-- closed: no bit at all; idle: packet size and toggle, and nothing above them; linked: direction and length besides
abbrev pub closed_bound : ℕ
closed_bound = 0

abbrev pub idle_bound : ℕ
idle_bound = 2 ^ 16 - 1

abbrev pub linked_bound : ℕ
linked_bound = 2 ^ 49 - 1

-- unlinking: whether it is cancelled, and the boundary: at most as many advances as are unanswered, or a FRINDEX of 14 bits
abbrev pub advances_bound : ℕ → ℕ
advances_bound unanswered = 2 ^ 50 * (unanswered + 1) - 1

abbrev pub frame_bound : ℕ
frame_bound = 2 ^ 64 - 1

-- by kind, 0 to 3: of each phase; 0, which the four bits alone exceed, where there is no such slot: a closed one with a kind or one of kind 1
unfoldable pub bounds_of : ℕ → List ℕ
bounds_of u =
    closed_bound ∷ idle_bound ∷ linked_bound ∷ advances_bound u
    ∷ 0 ∷ 0 ∷ 0 ∷ 0
    ∷ 0 ∷ idle_bound ∷ linked_bound ∷ advances_bound u
    ∷ 0 ∷ idle_bound ∷ linked_bound ∷ frame_bound ∷ []

abbrev pub bound_at : ℕ → ℕ → ℕ
bound_at unanswered nibble = slice_index (bounds_of unanswered) nibble

-- how many sizes, from 1 on, a slot of each phase and kind may have; where it is closed all of eleven bits
unfoldable pub sizes_of : ℕ → List ℕ
sizes_of limit =
    2048 ∷ 1024 ∷ 1024 ∷ 1024
    ∷ 2048 ∷ min limit 1024 ∷ min limit 1024 ∷ min limit 1024
    ∷ 2048 ∷ min limit 1024 ∷ min limit 1024 ∷ min limit 1024
    ∷ 2048 ∷ min limit 1024 ∷ min limit 1024 ∷ min limit 1024 ∷ []

unfoldable pub size_right : ℕ → ℕ → Bool
size_right limit w = phase_in w == 0 || size_good limit (kind_in w) (size_in w)

unfoldable pub word_good : ℕ → ℕ → ℕ → Bool
word_good limit unanswered w = nat_le w (bound_at unanswered (w % 16)) && size_right limit w
