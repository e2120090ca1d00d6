-- Document 01, the job sheet: the job of a sheet's bytes, each field by its place, and whether the sheet is good.
use Rattle.std.specs.Prelude.{ℕ, zero, suc, ◌+◌, ◌*◌, Bool, true, ◌&&◌, ◌||◌, cond, Option, Some, None, List, [], ◌∷◌, ◌++◌, eqb, leb, get_or, length}
use Rattle.job_sheet.specs.declared.record.EndpointRecord.{EndpointRecord}
use Rattle.job_sheet.specs.declared.record.RequestRecord.{RequestRecord}
use Rattle.job_sheet.specs.declared.sheet.Counts.{Counts}
use Rattle.job_sheet.specs.declared.sheet.Job.{Job}
use Rattle.text.specs.Numbers.{number_at}
use Rattle.job_sheet.specs.Few.{few_of}
pub use Rattle.job_sheet.specs.Sheets.{SheetJob, is_control, no_endpoint, no_request}

-- what is read, where it is good
abbrev pub if_good : {A : Type 0} → Bool → A → Option A
if_good good x = cond good (Some x) None

unfoldable pub endpoint_at : List ℕ → ℕ → EndpointRecord
endpoint_at bytes at =
    record {
      kind = get_or bytes at 0;
      address = get_or bytes (at + 1) 0;
      number = get_or bytes (at + 2) 0;
      packet = number_at bytes (at + 4) 2;
    }

-- a kind that there is, and the byte that must be 0
unfoldable pub endpoint_fits : List ℕ → ℕ → Bool
endpoint_fits bytes at = leb (get_or bytes at 0) 3 && eqb (get_or bytes (at + 3) 0) 0

abbrev pub endpoint_record : List ℕ → ℕ → Option EndpointRecord
endpoint_record bytes at = if_good (endpoint_fits bytes at) (endpoint_at bytes at)

unfoldable pub request_at : List ℕ → ℕ → RequestRecord
request_at bytes at =
    record {
      endpoint = get_or bytes at 0;
      direction = get_or bytes (at + 1) 0;
      setup = number_at bytes (at + 2) 6;
      buffer = number_at bytes (at + 8) 8;
      length = number_at bytes (at + 16) 4;
    }

-- a direction that there is; "setup bytes 0 to 5 (0 unless its record is control)"
unfoldable pub request_fits : List ℕ → List EndpointRecord → ℕ → Bool
request_fits bytes es at =
    leb (get_or bytes (at + 1) 0) 1 && (is_control es (get_or bytes at 0) || eqb (number_at bytes (at + 2) 6) 0)

abbrev pub request_record : List ℕ → List EndpointRecord → ℕ → Option RequestRecord
request_record bytes es at = if_good (request_fits bytes es at) (request_at bytes at)

-- the first n of a row of things, and whether each of the first n tests says true
unfoldable pub up_to : {A : Type 0} → (ℕ → A) → ℕ → List A
up_to f zero = []
up_to f (suc n) = up_to f n ++ (f n ∷ [])

unfoldable pub every : (ℕ → Bool) → ℕ → Bool
every f zero = true
every f (suc n) = every f n && f n

-- an endpoint has 6 bytes and a request 20
abbrev pub endpoint_place : ℕ → ℕ
endpoint_place i = 2 + 6 * i

abbrev pub request_place : ℕ → ℕ → ℕ
request_place n i = 4 + 6 * n + 20 * i

abbrev pub endpoints_in : List ℕ → ℕ → List EndpointRecord
endpoints_in bytes n = up_to (λ i. endpoint_at bytes (endpoint_place i)) n

abbrev pub requests_in : List ℕ → ℕ → ℕ → List RequestRecord
requests_in bytes n m = up_to (λ i. request_at bytes (request_place n i)) m

abbrev pub endpoints_fit : List ℕ → ℕ → Bool
endpoints_fit bytes n = every (λ i. endpoint_fits bytes (endpoint_place i)) n

abbrev pub requests_fit : List ℕ → List EndpointRecord → ℕ → ℕ → Bool
requests_fit bytes es n m = every (λ i. request_fits bytes es (request_place n i)) m

-- the two sections, each where all its records are good
abbrev pub endpoints_of : List ℕ → ℕ → Option (List EndpointRecord)
endpoints_of bytes n = if_good (endpoints_fit bytes n) (endpoints_in bytes n)

abbrev pub requests_of : List ℕ → List EndpointRecord → ℕ → Option (List RequestRecord)
requests_of bytes es m = if_good (requests_fit bytes es (length es) m) (requests_in bytes (length es) m)

-- the counts
abbrev pub opens_of : List ℕ → ℕ
opens_of bytes = number_at bytes 0 2

abbrev pub submits_of : List ℕ → ℕ
submits_of bytes = number_at bytes (endpoint_place (opens_of bytes)) 2

-- "(≤ 8)", "(≤ 64)", neither a short nor a long sheet
unfoldable pub sizes_fit : List ℕ → Bool
sizes_fit bytes =
    leb (opens_of bytes) 8 && leb (submits_of bytes) 64
    && eqb (length bytes) (request_place (opens_of bytes) (submits_of bytes))

abbrev pub counts_of : List ℕ → Option Counts
counts_of bytes = if_good (sizes_fit bytes) (record { endpoints = opens_of bytes; requests = submits_of bytes })

unfoldable pub job_in : List ℕ → SheetJob
job_in bytes =
    record { endpoints = endpoints_in bytes (opens_of bytes); requests = requests_in bytes (opens_of bytes) (submits_of bytes) }

-- a job as the code's struct holds it
abbrev pub packed : SheetJob → Job
packed j = record { endpoints = few_of 8 no_endpoint j.endpoints; requests = few_of 64 no_request j.requests }

unfoldable pub sheet_fits : List ℕ → Bool
sheet_fits bytes =
    sizes_fit bytes
    && (endpoints_fit bytes (opens_of bytes)
    && requests_fit bytes (endpoints_in bytes (opens_of bytes)) (opens_of bytes) (submits_of bytes))

-- no job is a bad sheet's
unfoldable pub sheet_of : List ℕ → Option Job
sheet_of bytes = if_good (sheet_fits bytes) (packed (job_in bytes))
