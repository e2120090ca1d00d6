-- A record's numbers say its bytes, and its bytes the numbers.
use Rattle.std.specs.Prelude.{◌≡◌, ℕ, ◌+◌, ◌≤◌, List, [], ◌∷◌, ◌++◌, length, take, drop, slice_index}
use mathlib.Core.Path.{refl, ap, ◌∙◌}
use native.Mathlib.Omega.{arith}
use lib.ListN.{length-drop, take-append-drop}
use lib.Seq.{drop-drop, take_all}
use Rattle.call_log.specs.Fields.{bytes_of, fields_of, small_bytes}
use Rattle.call_log.specs.Records.{NumbersFit}
use Rattle.call_log.specs.declared.fields.Fields.{Fields}
use Rattle.text.specs.Numbers.{little_endian, number_at}
use Rattle.text.proofs.NumberLaws.{Bytes, number_of_bytes, part_written}

-- ---- a record has seven of each

pub record Whole (f : Fields) : Type 0 where
  pub seven_bytes : length f.bytes ≡ 7
  pub seven_numbers : length f.numbers ≡ 7

pub read_whole : (bs : List ℕ) → Whole (fields_of bs)
unfolding fields_of
read_whole bs = record { seven_bytes = refl; seven_numbers = refl }

seven_is : (l : List ℕ) → length l ≡ 7
    → slice_index l 0 ∷ slice_index l 1 ∷ slice_index l 2 ∷ slice_index l 3 ∷ slice_index l 4 ∷ slice_index l 5 ∷ slice_index l 6 ∷ [] ≡ l
seven_is [] h = absurd (omega (arith, h))
seven_is (a ∷ []) h = absurd (omega (arith, h))
seven_is (a ∷ b ∷ []) h = absurd (omega (arith, h))
seven_is (a ∷ b ∷ c ∷ []) h = absurd (omega (arith, h))
seven_is (a ∷ b ∷ c ∷ d ∷ []) h = absurd (omega (arith, h))
seven_is (a ∷ b ∷ c ∷ d ∷ e ∷ []) h = absurd (omega (arith, h))
seven_is (a ∷ b ∷ c ∷ d ∷ e ∷ f ∷ []) h = absurd (omega (arith, h))
seven_is (a ∷ b ∷ c ∷ d ∷ e ∷ f ∷ g ∷ []) h = refl
seven_is (a ∷ b ∷ c ∷ d ∷ e ∷ f ∷ g ∷ k ∷ l) h = absurd (omega (arith, h))

-- ---- two sets of fields are equal by their numbers
pub fields_ext : (f : Fields) → Whole f → (number b1 b2 b3 b4 b5 b6 b7 n1 n2 n3 n4 n5 n6 n7 : ℕ) → number ≡ f.number
    → b1 ≡ slice_index f.bytes 0 → b2 ≡ slice_index f.bytes 1 → b3 ≡ slice_index f.bytes 2 → b4 ≡ slice_index f.bytes 3 → b5 ≡ slice_index f.bytes 4 → b6 ≡ slice_index f.bytes 5 → b7 ≡ slice_index f.bytes 6
    → n1 ≡ slice_index f.numbers 0 → n2 ≡ slice_index f.numbers 1 → n3 ≡ slice_index f.numbers 2 → n4 ≡ slice_index f.numbers 3 → n5 ≡ slice_index f.numbers 4 → n6 ≡ slice_index f.numbers 5 → n7 ≡ slice_index f.numbers 6
    → record { number = number; bytes = b1 ∷ b2 ∷ b3 ∷ b4 ∷ b5 ∷ b6 ∷ b7 ∷ []; numbers = n1 ∷ n2 ∷ n3 ∷ n4 ∷ n5 ∷ n6 ∷ n7 ∷ [] } ≡ f
fields_ext f w number b1 b2 b3 b4 b5 b6 b7 n1 n2 n3 n4 n5 n6 n7 e0 e1 e2 e3 e4 e5 e6 e7 d1 d2 d3 d4 d5 d6 d7 =
    rw (e0, e1, e2, e3, e4, e5, e6, e7, d1, d2, d3, d4, d5, d6, d7)
    (ap (λ (l : List ℕ). with_numbers l) (seven_is f.numbers w.seven_numbers) ∙ ap (λ (l : List ℕ). with_bytes l) (seven_is f.bytes w.seven_bytes))
  where
    with_bytes : List ℕ → Fields
    with_bytes l = record { number = f.number; bytes = l; numbers = f.numbers }

    with_numbers : List ℕ → Fields
    with_numbers l =
        record {
          number = f.number;
          bytes = slice_index f.bytes 0 ∷ slice_index f.bytes 1 ∷ slice_index f.bytes 2 ∷ slice_index f.bytes 3 ∷ slice_index f.bytes 4 ∷ slice_index f.bytes 5 ∷ slice_index f.bytes 6 ∷ [];
          numbers = l;
        }

pub bytes_length : (f : Fields) → length (bytes_of f) ≡ 64
unfolding bytes_of little_endian
bytes_length f = refl

-- what is written is read
pub fields_read : (f : Fields) → Whole f → NumbersFit f → fields_of (bytes_of f) ≡ f
unfolding bytes_of fields_of little_endian
fields_read f w h =
    fields_ext f w _ _ _ _ _ _ _ _ _ _ _ _ _ _ _ refl refl refl refl refl refl refl refl (number_of_bytes 8 (slice_index f.numbers 0) h.fit1)
    (number_of_bytes 8 (slice_index f.numbers 1) h.fit2) (number_of_bytes 8 (slice_index f.numbers 2) h.fit3) (number_of_bytes 8 (slice_index f.numbers 3) h.fit4)
    (number_of_bytes 8 (slice_index f.numbers 4) h.fit5) (number_of_bytes 8 (slice_index f.numbers 5) h.fit6) (number_of_bytes 8 (slice_index f.numbers 6) h.fit7)

-- ---- and what is read was so written

joins : (bs : List ℕ) (at : ℕ) → take 8 (drop at bs) ++ drop (at + 8) bs ≡ drop at bs
joins bs at = rw (← drop-drop 8 at bs) (take-append-drop 8 (drop at bs))

small_is : (bs : List ℕ) → 8 ≤ length bs → small_bytes (fields_of bs) ≡ take 8 bs
unfolding fields_of
small_is [] h = absurd (omega (arith, h))
small_is (a ∷ []) h = absurd (omega (arith, h))
small_is (a ∷ b ∷ []) h = absurd (omega (arith, h))
small_is (a ∷ b ∷ c ∷ []) h = absurd (omega (arith, h))
small_is (a ∷ b ∷ c ∷ d ∷ []) h = absurd (omega (arith, h))
small_is (a ∷ b ∷ c ∷ d ∷ e ∷ []) h = absurd (omega (arith, h))
small_is (a ∷ b ∷ c ∷ d ∷ e ∷ f ∷ []) h = absurd (omega (arith, h))
small_is (a ∷ b ∷ c ∷ d ∷ e ∷ f ∷ g ∷ []) h = absurd (omega (arith, h))
small_is (a ∷ b ∷ c ∷ d ∷ e ∷ f ∷ g ∷ k ∷ bs) h = refl

whole : (bs : List ℕ) → small_bytes (fields_of bs) ≡ take 8 bs
    → little_endian 8 (number_at bs 8 8) ≡ take 8 (drop 8 bs)
    → little_endian 8 (number_at bs 16 8) ≡ take 8 (drop 16 bs)
    → little_endian 8 (number_at bs 24 8) ≡ take 8 (drop 24 bs)
    → little_endian 8 (number_at bs 32 8) ≡ take 8 (drop 32 bs)
    → little_endian 8 (number_at bs 40 8) ≡ take 8 (drop 40 bs)
    → little_endian 8 (number_at bs 48 8) ≡ take 8 (drop 48 bs)
    → little_endian 8 (number_at bs 56 8) ≡ drop 56 bs
    → bytes_of (fields_of bs) ≡ bs
unfolding bytes_of fields_of
whole bs a b c d e f g k =
    let rest : little_endian 8 (number_at bs 8 8) ++ (little_endian 8 (number_at bs 16 8) ++ (little_endian 8 (number_at bs 24 8) ++ (little_endian 8 (number_at bs 32 8)
    ++ (little_endian 8 (number_at bs 40 8) ++ (little_endian 8 (number_at bs 48 8) ++ little_endian 8 (number_at bs 56 8)))))) ≡ drop 8 bs
    = rw (b, c, d, e, f, g, k) (rw (joins bs 48, joins bs 40, joins bs 32, joins bs 24, joins bs 16) (joins bs 8)) in
    ap (λ (l : List ℕ). small_bytes (fields_of bs) ++ l) rest ∙ ap (λ (l : List ℕ). l ++ drop 8 bs) a ∙ take-append-drop 8 bs

pub fields_back : (bs : List ℕ) → length bs ≡ 64 → Bytes bs → bytes_of (fields_of bs) ≡ bs
fields_back bs l all =
    let h : 64 ≤ length bs = omega arith in
    let last : take 8 (drop 56 bs) ≡ drop 56 bs = take_all 8 (drop 56 bs) (simp length-drop (omega arith)) in
    whole bs (small_is bs (omega arith)) (part_written bs 8 8 all (omega arith)) (part_written bs 16 8 all (omega arith)) (part_written bs 24 8 all (omega arith))
    (part_written bs 32 8 all (omega arith)) (part_written bs 40 8 all (omega arith)) (part_written bs 48 8 all (omega arith)) (part_written bs 56 8 all (omega arith) ∙ last)
