-- Sheets by computation: the document's example, the empty sheet, and bad ones.
use mathlib.Core.Path.{◌≡◌, refl}
use Rattle.std.specs.Prelude.{Some, None}
use mathlib.Core.List.{List, [], ◌∷◌, ◌++◌}
use Prim.Native.Nat.{ℕ}
use Rattle.text.specs.Numbers.{little_endian, number_of}
use Rattle.job_sheet.specs.Few.{filled}
use Rattle.job_sheet.specs.Sheets.{SheetJob, bytes_of, endpoint_bytes, is_control, job_of, joined, request_bytes}
use Rattle.job_sheet.specs.Reading.{endpoint_at, endpoint_fits, every, job_in, packed, request_at, request_fits, sheet_fits, sheet_of, sizes_fit, up_to}

opened : List ℕ
opened = 0x01 ∷ 0x00 ∷ 0x00 ∷ 0x00 ∷ 0x00 ∷ 0x00 ∷ 0x40 ∷ 0x00 ∷ []

asked : List ℕ
asked =
    0x01 ∷ 0x00 ∷ 0x00 ∷ 0x01 ∷ 0x80 ∷ 0x06 ∷ 0x00 ∷ 0x01 ∷ 0x00 ∷ 0x00 ∷ 0xff ∷ 0x0f ∷ 0x00 ∷ 0x10 ∷ 0x00 ∷ 0x00 ∷ 0x00 ∷ 0x00
    ∷ 0x12 ∷ 0x00 ∷ 0x00 ∷ 0x00 ∷ []

unfoldable pub example : SheetJob
example =
    record {
      endpoints = record { kind = 0; address = 0; number = 0; packet = 64 } ∷ [];
      requests = record { endpoint = 0; direction = 1; setup = 0x01000680; buffer = 0x10000fff; length = 18 } ∷ [];
    }

written : bytes_of example ≡ opened ++ asked
unfolding opened asked example little_endian bytes_of endpoint_bytes joined request_bytes
written = refl

read : sheet_of (opened ++ asked) ≡ Some (packed example)
unfolding opened asked example number_of is_control endpoint_at endpoint_fits every filled job_in packed request_at request_fits sheet_fits sheet_of sizes_fit up_to
read = refl

held : job_of (packed example) ≡ example
unfolding example filled
held = refl

empty : sheet_of (0 ∷ 0 ∷ 0 ∷ 0 ∷ []) ≡ Some (packed (record { endpoints = []; requests = [] }))
unfolding number_of every filled job_in sheet_fits up_to sheet_of sizes_fit
empty = refl

-- nothing, a count alone, a byte too few, a byte too many, kind 4, count 9
nothing : sheet_of [] ≡ None
unfolding number_of sheet_fits sheet_of sizes_fit
nothing = refl

short : sheet_of (0 ∷ 0 ∷ []) ≡ None
unfolding number_of sheet_fits sheet_of sizes_fit
short = refl

cut : sheet_of (opened ++ (0 ∷ [])) ≡ None
unfolding opened number_of sheet_fits sheet_of sizes_fit
cut = refl

long : sheet_of (opened ++ (asked ++ (0 ∷ []))) ≡ None
unfolding opened asked number_of sheet_fits sheet_of sizes_fit
long = refl

kind_4 : sheet_of (1 ∷ 0 ∷ 4 ∷ 0 ∷ 0 ∷ 0 ∷ 64 ∷ 0 ∷ 0 ∷ 0 ∷ []) ≡ None
unfolding number_of endpoint_fits every sheet_fits sheet_of sizes_fit
kind_4 = refl

bulk_setup : sheet_of (1 ∷ 0 ∷ 2 ∷ 0 ∷ 0 ∷ 0 ∷ 64 ∷ 0 ∷ asked) ≡ None
unfolding asked number_of is_control endpoint_at endpoint_fits every request_at request_fits sheet_fits sheet_of sizes_fit up_to
bulk_setup = refl
