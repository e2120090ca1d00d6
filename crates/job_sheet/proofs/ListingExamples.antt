-- The document's example by computation: the whole listing of its sheet; and an empty job's.
use mathlib.Core.Path.{◌≡◌, refl}
use mathlib.Core.List.{List, [], ◌∷◌, ◌++◌, map}
use Prim.Native.Nat.{ℕ}
use Rattle.descriptor.specs.Slots.{zero_slots}
use Rattle.pool.specs.Chains.{blank}
use Rattle.text.specs.Text.{decimal, decimal_up_to, hex, lines_to}
use Rattle.job_sheet.specs.declared.outcome.Opened.{Opened}
use Rattle.job_sheet.specs.declared.outcome.Outcome.{Outcome}
use Rattle.job_sheet.specs.declared.outcome.Submitted.{Submitted}
use Rattle.job_sheet.specs.declared.record.EndpointRecord.{EndpointRecord}
use Rattle.job_sheet.specs.declared.record.RequestRecord.{RequestRecord}
use Rattle.job_sheet.specs.Few.{few_of, filled, items}
use Rattle.job_sheet.specs.Sheets.{joined}
use Rattle.std.specs.Prelude.{Some, replicate, unwrap_or}
use Rattle.job_sheet.specs.Listing.{descriptor_line, endpoint_line, number_field, request_line, word_field}
use Rattle.job_sheet.specs.Outcomes.{answered_lines, listing_of, not_opened, not_submitted, place_lines, slot_of}
use Rattle.job_sheet.proofs.Examples.{example}

-- a record of the job, opened on slot 0, which has the first three places
told : List Opened
told = map (λ (e : EndpointRecord). record { answer = 0; slot = Some 0 }) example.endpoints

-- a request of the job, accepted with id 1 on the slot that its record's opening gave
accepted : RequestRecord → Submitted
accepted r = record { slot = unwrap_or (slot_of told r.endpoint) 255; answer = 0; id = Some 1 }

ran : Outcome
ran =
    record {
      opened = few_of 8 not_opened told;
      submitted = few_of 64 not_submitted (map accepted example.requests);
      owner = 1 ∷ 1 ∷ 1 ∷ replicate 253 0;
      pool =
          record { next = 0x00100040; alternate = 0x00100040; token = 0x00080e80; pages = 0x00400000 ∷ 0 ∷ 0 ∷ 0 ∷ 0 ∷ []; upper = zero_slots }
          ∷ record { next = 0x00100080; alternate = 0x00100080; token = 0x80120d80; pages = 0x10000fff ∷ 0x10001000 ∷ 0 ∷ 0 ∷ 0 ∷ []; upper = zero_slots }
          ∷ record { next = 0x00000001; alternate = 0x00000001; token = 0x80008c80; pages = 0 ∷ 0 ∷ 0 ∷ 0 ∷ 0 ∷ []; upper = zero_slots }
          ∷ replicate 254 blank;
    }

-- "E 0 0"
opened : List ℕ
opened =
    69 ∷ 32 ∷ 48 ∷ 32 ∷ 48 ∷ 10 ∷ []

-- "R 0 0 1"
taken : List ℕ
taken =
    82 ∷ 32 ∷ 48 ∷ 32 ∷ 48 ∷ 32 ∷ 49 ∷ 10 ∷ []

-- "D 0 00080e80 00100040 00400000 00000000 00000000 00000000 00000000"
first : List ℕ
first =
    68 ∷ 32 ∷ 48 ∷ 32 ∷ 48 ∷ 48 ∷ 48 ∷ 56 ∷ 48 ∷ 101 ∷ 56 ∷ 48 ∷ 32 ∷ 48 ∷ 48 ∷ 49 ∷ 48 ∷ 48 ∷ 48 ∷ 52 ∷ 48 ∷ 32 ∷ 48 ∷ 48 ∷
    52 ∷ 48 ∷ 48 ∷ 48 ∷ 48 ∷ 48 ∷ 32 ∷ 48 ∷ 48 ∷ 48 ∷ 48 ∷ 48 ∷ 48 ∷ 48 ∷ 48 ∷ 32 ∷ 48 ∷ 48 ∷ 48 ∷ 48 ∷ 48 ∷ 48 ∷ 48 ∷ 48 ∷
    32 ∷ 48 ∷ 48 ∷ 48 ∷ 48 ∷ 48 ∷ 48 ∷ 48 ∷ 48 ∷ 32 ∷ 48 ∷ 48 ∷ 48 ∷ 48 ∷ 48 ∷ 48 ∷ 48 ∷ 48 ∷ 10 ∷ []

-- "D 1 80120d80 00100080 10000fff 10001000 00000000 00000000 00000000"
second : List ℕ
second =
    68 ∷ 32 ∷ 49 ∷ 32 ∷ 56 ∷ 48 ∷ 49 ∷ 50 ∷ 48 ∷ 100 ∷ 56 ∷ 48 ∷ 32 ∷ 48 ∷ 48 ∷ 49 ∷ 48 ∷ 48 ∷ 48 ∷ 56 ∷ 48 ∷ 32 ∷ 49 ∷ 48 ∷
    48 ∷ 48 ∷ 48 ∷ 102 ∷ 102 ∷ 102 ∷ 32 ∷ 49 ∷ 48 ∷ 48 ∷ 48 ∷ 49 ∷ 48 ∷ 48 ∷ 48 ∷ 32 ∷ 48 ∷ 48 ∷ 48 ∷ 48 ∷ 48 ∷ 48 ∷ 48 ∷ 48 ∷
    32 ∷ 48 ∷ 48 ∷ 48 ∷ 48 ∷ 48 ∷ 48 ∷ 48 ∷ 48 ∷ 32 ∷ 48 ∷ 48 ∷ 48 ∷ 48 ∷ 48 ∷ 48 ∷ 48 ∷ 48 ∷ 10 ∷ []

-- "D 2 80008c80 00000001 00000000 00000000 00000000 00000000 00000000"
third : List ℕ
third =
    68 ∷ 32 ∷ 50 ∷ 32 ∷ 56 ∷ 48 ∷ 48 ∷ 48 ∷ 56 ∷ 99 ∷ 56 ∷ 48 ∷ 32 ∷ 48 ∷ 48 ∷ 48 ∷ 48 ∷ 48 ∷ 48 ∷ 48 ∷ 49 ∷ 32 ∷ 48 ∷ 48 ∷
    48 ∷ 48 ∷ 48 ∷ 48 ∷ 48 ∷ 48 ∷ 32 ∷ 48 ∷ 48 ∷ 48 ∷ 48 ∷ 48 ∷ 48 ∷ 48 ∷ 48 ∷ 32 ∷ 48 ∷ 48 ∷ 48 ∷ 48 ∷ 48 ∷ 48 ∷ 48 ∷ 48 ∷
    32 ∷ 48 ∷ 48 ∷ 48 ∷ 48 ∷ 48 ∷ 48 ∷ 48 ∷ 48 ∷ 32 ∷ 48 ∷ 48 ∷ 48 ∷ 48 ∷ 48 ∷ 48 ∷ 48 ∷ 48 ∷ 10 ∷ []

listed : listing_of ran ≡ opened ++ (taken ++ (first ++ (second ++ third)))
unfolding accepted answered_lines decimal decimal_up_to descriptor_line endpoint_line example filled first hex joined lines_to listing_of number_field opened place_lines ran request_line second slot_of taken third told word_field
listed = refl

-- an empty job prints nothing
pub none : (o : Outcome) → items o.opened ≡ [] → items o.submitted ≡ [] → listing_of o ≡ []
unfolding lines_to listing_of
none o e f = rw (e, f)
