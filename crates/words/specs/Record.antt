-- The lent row of slots: six words a slot.
-- Word 0, from its lowest bit on: phase (2 bits), kind (2), packet size (11), toggle (1), direction (1), length (32), cancelled (1), boundary (the rest).
-- Word 1: the id of the slot's last request, 0 where there was none; a request has its own. Words 2 to 5: the request's places, a bit each.
use Rattle.std.specs.Prelude.{ℕ, zero, suc, ◌+◌, ◌-◌, ◌*◌, ◌/◌, ◌%◌, ◌^◌, ◌≤◌, ◌<◌, ◌≡◌, not, ◌&&◌, cond, List, [], ◌∷◌, eqb, leb, get_or, set}
use Rattle.slot.specs.Ids.{after_id}
use Rattle.slot.specs.declared.slot.Slot.{Slot}

-- ---- the words of slot k; a slot beyond the row is closed

abbrev pub word_at : List ℕ → ℕ → ℕ
word_at ws k = get_or ws (6 * k) 0

abbrev pub last_at : List ℕ → ℕ → ℕ
last_at ws k = get_or ws (6 * k + 1) 0

-- word j of its places
abbrev pub part_at : List ℕ → ℕ → ℕ → ℕ
part_at ws k j = get_or ws (6 * k + (2 + j)) 0

abbrev pub places_at : List ℕ → ℕ → List ℕ
places_at ws k = part_at ws k 0 ∷ part_at ws k 1 ∷ part_at ws k 2 ∷ part_at ws k 3 ∷ []

-- ---- the fields

abbrev pub phase_in : ℕ → ℕ
phase_in w = w % 4

abbrev pub kind_in : ℕ → ℕ
kind_in w = w / 4 % 4

abbrev pub size_in : ℕ → ℕ
size_in w = w / 16 % 2048

abbrev pub toggle_in : ℕ → ℕ
toggle_in w = w / 0x8000 % 2

abbrev pub direction_in : ℕ → ℕ
direction_in w = w / 0x1_0000 % 2

abbrev pub length_in : ℕ → ℕ
length_in w = w / 0x2_0000 % 0x1_0000_0000

abbrev pub cancel_in : ℕ → ℕ
cancel_in w = w / 0x2_0000_0000_0000 % 2

abbrev pub boundary_in : ℕ → ℕ
boundary_in w = w / 0x4_0000_0000_0000

-- the id of the next request
abbrev pub id_in : ℕ → ℕ
id_in last = after_id last

-- the id of the slot's own request, 0 where it has none
abbrev pub request_in : ℕ → ℕ → ℕ
request_in phase last = cond (leb 2 phase) last 0

unfoldable pub slot_in : ℕ → ℕ → Slot
slot_in w last =
    record {
      phase = phase_in w;
      kind = kind_in w;
      size = size_in w;
      toggle = toggle_in w;
      id = id_in last;
      request = request_in (phase_in w) last;
      direction = direction_in w;
      length = length_in w;
      cancel = cancel_in w;
      boundary = boundary_in w;
    }

-- ---- and back

-- a slot's fields fit their bits; its request is the one before the next id
pub record SlotFits (e : Slot) : Type 0 where
  pub phase_fits : e.phase < 4
  pub kind_fits : e.kind < 4
  pub size_fits : e.size < 2048
  pub toggle_fits : e.toggle < 2
  pub direction_fits : e.direction < 2
  pub length_fits : e.length < 0x1_0000_0000
  pub cancel_fits : e.cancel < 2
  pub boundary_fits : e.boundary < 0x4000
  pub id_least : 1 ≤ e.id
  pub id_fits : e.id < 2 ^ 64
  pub own_id : 2 ≤ e.phase → e.id ≡ after_id e.request
  pub has_no_request : e.phase < 2 → e.request ≡ 0

unfoldable pub word_of : Slot → ℕ
word_of e =
    (e.phase + 4 * e.kind + 16 * e.size + 0x8000 * e.toggle + 0x1_0000 * e.direction) + 0x2_0000 * e.length
    + (0x2_0000_0000_0000 * e.cancel + 0x4_0000_0000_0000 * e.boundary)

unfoldable pub last_of : Slot → ℕ
last_of e = cond (leb 2 e.phase) e.request (e.id - 1)

unfoldable pub put_slot : List ℕ → ℕ → Slot → List ℕ
put_slot ws k e = set (set ws (6 * k) (word_of e)) (6 * k + 1) (last_of e)

unfoldable pub put_places : List ℕ → ℕ → List ℕ → List ℕ
put_places ws k w =
    set
    (set (set (set ws (6 * k + 2) (get_or w 0 0)) (6 * k + 3) (get_or w 1 0)) (6 * k + 4) (get_or w 2 0))
    (6 * k + 5)
    (get_or w 3 0)

-- ---- a counted advance

-- an unlinking control or bulk request has one advance less to wait for
unfoldable pub fallen_word : ℕ → ℕ
fallen_word w =
    cond (eqb (phase_in w) 3 && (not (eqb (kind_in w) 3) && leb 0x4_0000_0000_0000 w)) (w - 0x4_0000_0000_0000) w

-- in the first n slots
unfoldable pub fall_to : List ℕ → ℕ → List ℕ
fall_to ws zero = ws
fall_to ws (suc n) = set (fall_to ws n) (6 * n) (fallen_word (word_at ws n))
