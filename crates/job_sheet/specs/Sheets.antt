-- Document 01, the job sheet: the format, as its writer; a good job is one that has a sheet.
use Rattle.std.specs.Prelude.{ℕ, ◌≤◌, ◌<◌, ◌^◌, ◌≡◌, Bool, false, ◌&&◌, List, [], ◌∷◌, ◌++◌, eqb, ltb, get_or, length}
use Rattle.job_sheet.specs.declared.record.EndpointRecord.{EndpointRecord}
use Rattle.job_sheet.specs.declared.record.RequestRecord.{RequestRecord}
use Rattle.job_sheet.specs.declared.sheet.Job.{Job}
use Rattle.job_sheet.specs.Few.{items}
use Rattle.text.specs.Numbers.{little_endian}

pub record SheetJob : Type 0 where
  pub endpoints : List EndpointRecord
  pub requests : List RequestRecord

-- kind, address, number, 0, 16-bit packet size
unfoldable pub endpoint_bytes : EndpointRecord → List ℕ
endpoint_bytes e = e.kind ∷ e.address ∷ e.number ∷ 0 ∷ little_endian 2 e.packet

-- endpoint record, direction, setup bytes 0 to 5, 64-bit address, 32-bit length
unfoldable pub request_bytes : RequestRecord → List ℕ
request_bytes r =
    r.endpoint ∷ r.direction ∷ (little_endian 6 r.setup ++ (little_endian 8 r.buffer ++ little_endian 4 r.length))

unfoldable pub joined : {A : Type 0} → (A → List ℕ) → List A → List ℕ
joined bytes [] = []
joined bytes (x ∷ xs) = bytes x ++ joined bytes xs

-- "two sections, each after a little-endian 16-bit count"
unfoldable pub bytes_of : SheetJob → List ℕ
bytes_of j =
    little_endian 2 (length j.endpoints)
    ++ (joined endpoint_bytes j.endpoints ++ (little_endian 2 (length j.requests) ++ joined request_bytes j.requests))

abbrev pub no_endpoint : EndpointRecord
no_endpoint = record { kind = 0; address = 0; number = 0; packet = 0 }

abbrev pub no_request : RequestRecord
no_request = record { endpoint = 0; direction = 0; setup = 0; buffer = 0; length = 0 }

-- record k is there, and is control
unfoldable pub is_control : List EndpointRecord → ℕ → Bool
is_control es k = ltb k (length es) && eqb (get_or es k no_endpoint).kind 0

pub record GoodEndpoint (e : EndpointRecord) : Type 0 where
  pub kind : e.kind ≤ 3
  pub address : e.address < 256
  pub number : e.number < 256
  pub packet : e.packet < 2 ^ 16

pub record GoodRequest (es : List EndpointRecord) (r : RequestRecord) : Type 0 where
  pub endpoint : r.endpoint < 256
  pub direction : r.direction ≤ 1
  pub setup : r.setup < 2 ^ 48
  pub buffer : r.buffer < 2 ^ 64
  pub length : r.length < 2 ^ 32
  pub no_setup : is_control es r.endpoint ≡ false → r.setup ≡ 0

unfoldable pub All : {A : Type 0} → (A → Type 0) → List A → Type 0
All P [] = Unit
All P (x ∷ xs) = P x × All P xs

pub record GoodJob (j : SheetJob) : Type 0 where
  pub opens : length j.endpoints ≤ 8
  pub submits : length j.requests ≤ 64
  pub endpoints : All GoodEndpoint j.endpoints
  pub requests : All (GoodRequest j.endpoints) j.requests

-- the job that the code's struct holds
abbrev pub job_of : Job → SheetJob
job_of job = record { endpoints = items job.endpoints; requests = items job.requests }
