-- A record: 64 bytes, byte 0 the call's number, bytes 1 to 7 small parameters, then seven 64-bit little-endian numbers.
use Rattle.std.specs.Prelude.{ℕ, Bool, List, [], ◌∷◌, ◌++◌, ◌==◌, drop, min, slice_index}
use Rattle.std.specs.List.{list_all}
use Rattle.text.specs.Numbers.{little_endian, number_at}
use Rattle.call_log.specs.declared.fields.Fields.{Fields}

abbrev pub small_bytes : Fields → List ℕ
small_bytes f = f.number ∷ slice_index f.bytes 0 ∷ slice_index f.bytes 1 ∷ slice_index f.bytes 2 ∷ slice_index f.bytes 3 ∷ slice_index f.bytes 4 ∷ slice_index f.bytes 5 ∷ slice_index f.bytes 6 ∷ []

-- the 64 bytes of a record
unfoldable pub bytes_of : Fields → List ℕ
bytes_of f =
    small_bytes f
    ++ (little_endian 8 (slice_index f.numbers 0)
    ++ (little_endian 8 (slice_index f.numbers 1) ++ (little_endian 8 (slice_index f.numbers 2) ++ (little_endian 8 (slice_index f.numbers 3) ++ (little_endian 8 (slice_index f.numbers 4) ++ (little_endian 8 (slice_index f.numbers 5) ++ little_endian 8 (slice_index f.numbers 6)))))))

unfoldable pub fields_of : List ℕ → Fields
fields_of bs =
    record {
      number = slice_index bs 0;
      bytes = slice_index bs 1 ∷ slice_index bs 2 ∷ slice_index bs 3 ∷ slice_index bs 4 ∷ slice_index bs 5 ∷ slice_index bs 6 ∷ slice_index bs 7 ∷ [];
      numbers = number_at bs 8 8 ∷ number_at bs 16 8 ∷ number_at bs 24 8 ∷ number_at bs 32 8 ∷ number_at bs 40 8 ∷ number_at bs 48 8 ∷ number_at bs 56 8 ∷ [];
    }

-- parameters after the first so many are 0: a call uses those
unfoldable pub zero_after : ℕ → List ℕ → Bool
zero_after used parameters = list_all (λ x. x == 0) (drop used parameters)

-- small parameters after the first so many are 0: no call uses more than three
abbrev pub bytes_spare : Fields → ℕ → Bool
bytes_spare f used = zero_after (min used 3) f.bytes
