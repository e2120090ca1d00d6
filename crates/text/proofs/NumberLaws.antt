-- Little-endian numbers: the bytes of a number and the number of bytes undo one another.
use mathlib.Core.Path.{◌≡◌, refl, sym, ap, ◌∙◌}
use mathlib.Core.List.{List, [], ◌∷◌}
use Prim.Native.Nat.{ℕ, zero, suc, ◌+◌, ◌*◌, ◌/◌, ◌%◌, ◌≤◌, ◌<◌, ◌^◌}
use native.Mathlib.Nat.{add-mul-div_left, add-mul-mod_self_left, div-eq_of_lt, div-lt_iff_lt-mul, mod-add-div, mod-eq_of_lt, pow-suc}
use native.Mathlib.Numerals.{add-one}
use native.Mathlib.Omega.{arith}
use lib.Dec.{lit<}
use lib.ListN.{drop, get_or, length, length-drop, take}
use lib.Seq.{drop-cons, get_or-drop, length-take-le}
use Rattle.text.specs.Numbers.{little_endian, number_at, number_of}

-- what is known of a slice of bytes
abbrev pub Bytes : List ℕ → Type 0
Bytes bytes = (i : ℕ) → get_or bytes i 0 < 256

pub bytes_length : (w x : ℕ) → length (little_endian w x) ≡ w
unfolding little_endian
bytes_length zero x = refl
bytes_length (suc w) x = ap suc (bytes_length w (x / 256))

pub number_of_bytes : (w x : ℕ) → x < 256 ^ w → number_of (little_endian w x) ≡ x
unfolding little_endian number_of
number_of_bytes zero x h = omega arith
number_of_bytes (suc w) x h =
    let below : x < 256 ^ w * 256 = rw pow-suc at h in
    let less : x / 256 < 256 ^ w = (div-lt_iff_lt-mul (lit< tt)).1 below in
    rw (number_of_bytes w (x / 256) less) (mod-add-div x 256)

pub bytes_of_number : (bs : List ℕ) → Bytes bs → little_endian (length bs) (number_of bs) ≡ bs
unfolding little_endian number_of
bytes_of_number [] h = refl
bytes_of_number (b ∷ bs) h = ap (λ (x : ℕ). x ∷ little_endian (length bs) ((b + 256 * number_of bs) / 256)) low
    ∙ ap (λ (l : List ℕ). b ∷ l) (rw rest (bytes_of_number bs (λ i. h (suc i))))
  where
    low : (b + 256 * number_of bs) % 256 ≡ b
    low = add-mul-mod_self_left b 256 (number_of bs) ∙ mod-eq_of_lt (h 0)

    rest : (b + 256 * number_of bs) / 256 ≡ number_of bs
    rest = add-mul-div_left b (number_of bs) (lit< tt) ∙ rw (div-eq_of_lt (h 0)) (omega arith)

pub number_below : (bs : List ℕ) → Bytes bs → number_of bs < 256 ^ length bs
unfolding number_of
number_below [] h = lit< tt
number_below (b ∷ bs) h = rw pow-suc (omega (arith, h 0, number_below bs (λ i. h (suc i))))

-- a part of some bytes
take_bytes : (w : ℕ) (bs : List ℕ) → Bytes bs → Bytes (take w bs)
take_bytes zero bs h i = lit< tt
take_bytes (suc w) [] h i = lit< tt
take_bytes (suc w) (b ∷ bs) h zero = h 0
take_bytes (suc w) (b ∷ bs) h (suc i) = take_bytes w bs (λ k. h (suc k)) i

pub part_bytes_lem : (bytes : List ℕ) (at w : ℕ) → Bytes bytes → Bytes (take w (drop at bytes))
part_bytes_lem bytes at w h = take_bytes w (drop at bytes) (λ i. rw get_or-drop (h (at + i)))

pub part_length : (bytes : List ℕ) (at w : ℕ) → at + w ≤ length bytes → length (take w (drop at bytes)) ≡ w
part_length bytes at w h = length-take-le w (drop at bytes) (rw length-drop (omega arith))

pub part_written : (bytes : List ℕ) (at w : ℕ) → Bytes bytes → at + w ≤ length bytes
    → little_endian w (number_at bytes at w) ≡ take w (drop at bytes)
part_written bytes at w b h =
    ap (λ (n : ℕ). little_endian n (number_at bytes at w)) (sym (part_length bytes at w h))
    ∙ bytes_of_number (take w (drop at bytes)) (part_bytes_lem bytes at w b)

pub part_below : (bytes : List ℕ) (at w : ℕ) → Bytes bytes → at + w ≤ length bytes → number_at bytes at w < 256 ^ w
part_below bytes at w b h = rw (part_length bytes at w h) at (number_below (take w (drop at bytes)) (part_bytes_lem bytes at w b))

-- a number's lowest byte and the number of the others, at a place some bytes on
pub number_first : (bytes : List ℕ) (at w : ℕ) → at < length bytes → number_at bytes at (suc w) ≡ get_or bytes at 0 + 256 * number_at bytes (at + 1) w
unfolding number_of
number_first bytes at w h = rw (drop-cons bytes at 0 h, add-one at)

pub number_next : (bytes : List ℕ) (at k w : ℕ) → at + k < length bytes
    → number_at bytes (at + k) (suc w) ≡ get_or bytes (at + k) 0 + 256 * number_at bytes (at + suc k) w
number_next bytes at k w h =
    let e : at + k + 1 ≡ at + suc k = omega arith in
    rw (number_first bytes (at + k) w h, e)

pub number_end : (bytes : List ℕ) (at : ℕ) → number_at bytes at 0 ≡ 0
unfolding number_of
number_end bytes at = refl
