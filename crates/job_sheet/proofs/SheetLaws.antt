-- The reader answers a job exactly where the bytes are that job's.
use mathlib.Core.Path.{◌≡◌, refl, sym, ap, ◌∙◌}
use mathlib.Core.Bool.{true}
use mathlib.Core.List.{List, [], ◌++◌, append-nil}
use Prim.Native.Nat.{ℕ, suc, ◌+◌, ◌*◌, ◌≤◌, ◌<◌}
use native.Mathlib.Omega.{arith}
use borrow.Author.Tests.{eq-eqb, le-leb}
use lib.ListN.{drop, get_or, length, length-append, length-drop, take, take-append-drop}
use lib.Seq.{drop_at, drop-drop, take_all, take_at}
use Rattle.std.specs.Prelude.{Some, None}
use Rattle.job_sheet.specs.declared.sheet.Job.{Job}
use Rattle.text.specs.Numbers.{little_endian, number_of}
use Rattle.job_sheet.specs.Sheets.{GoodEndpoint, GoodJob, GoodRequest, SheetJob, bytes_of, endpoint_bytes, job_of, joined, no_endpoint, no_request, request_bytes}
use Rattle.job_sheet.specs.Reading.{endpoint_at, endpoint_fits, endpoint_place, endpoints_fit, endpoints_in, job_in, opens_of, packed, request_at, request_fits, request_place, requests_fit, requests_in, sheet_fits, sheet_of, sizes_fit, submits_of}
use Rattle.text.proofs.NumberLaws.{Bytes, bytes_length, number_of_bytes, part_written}
use Rattle.job_sheet.proofs.FewLaws.{filled_taken}
use Rattle.job_sheet.proofs.Rows.{every_all, every_each, up_is, up_length}
use Rattle.common.proofs.TestLaws.{both_tells, both_makes}
use Rattle.job_sheet.proofs.ReadCases.{Sized, sizes_fit_lem, told}
use Rattle.job_sheet.proofs.Tables.{all_at, joined_length, table_at, table_written, up_all}
use Rattle.job_sheet.proofs.RecordLaws.{endpoint_good, endpoint_length, endpoint_passes, endpoint_read, endpoint_written, request_good, request_length, request_passes, request_read, request_written}

-- the code's struct holds the job
pub packed_holds : (j : SheetJob) → job_of (packed j) ≡ j
packed_holds j = λ i. record { endpoints = filled_taken 8 no_endpoint j.endpoints i; requests = filled_taken 64 no_request j.requests i }

pub good_fits : (bytes : List ℕ) (job : Job) → Some job ≡ sheet_of bytes → (sheet_fits bytes ≡ true) × (job ≡ packed (job_in bytes))
unfolding sheet_of
good_fits bytes job e = told (sheet_fits bytes) job (packed (job_in bytes)) e

pub fits_good : (bytes : List ℕ) → sheet_fits bytes ≡ true → sheet_of bytes ≡ Some (packed (job_in bytes))
unfolding sheet_of
fits_good bytes f = rw f

-- read, then written
module _ (bytes : List ℕ) (b : Bytes bytes) (f : sheet_fits bytes ≡ true) where
  sized : Sized bytes (opens_of bytes) (submits_of bytes)
  unfolding sheet_fits
  sized = sizes_fit_lem bytes (both_tells (sizes_fit bytes) _ f).0

  tables : (endpoints_fit bytes (opens_of bytes) ≡ true) × (requests_fit bytes (endpoints_in bytes (opens_of bytes)) (opens_of bytes) (submits_of bytes) ≡ true)
  unfolding sheet_fits
  tables = both_tells (endpoints_fit bytes (opens_of bytes)) _ (both_tells (sizes_fit bytes) _ f).1

  endpoint_fits_at : (i : ℕ) → i < opens_of bytes → endpoint_fits bytes (2 + 6 * i) ≡ true
  endpoint_fits_at i h = every_each (λ k. endpoint_fits bytes (endpoint_place k)) (opens_of bytes) i tables.0 h

  request_fits_at : (i : ℕ) → i < submits_of bytes → request_fits bytes (endpoints_in bytes (opens_of bytes)) (4 + 6 * opens_of bytes + 20 * i) ≡ true
  request_fits_at i h =
      every_each (λ k. request_fits bytes (endpoints_in bytes (opens_of bytes)) (request_place (opens_of bytes) k)) (submits_of bytes) i tables.1 h

  read_good : GoodJob (job_in bytes)
  unfolding job_in
  read_good =
      record {
        opens = rw up_length sized.few;
        submits = rw up_length sized.some;
        endpoints = up_all GoodEndpoint _ (opens_of bytes) (λ i h. endpoint_good bytes (2 + 6 * i) b (omega (arith, sized.whole, h)) (endpoint_fits_at i h));
        requests =
            up_all (GoodRequest (endpoints_in bytes (opens_of bytes))) _ (submits_of bytes)
            (λ i h. request_good bytes (endpoints_in bytes (opens_of bytes)) (4 + 6 * opens_of bytes + 20 * i) b (omega (arith, sized.whole, h)) (request_fits_at i h));
      }

  -- some bytes from a place on, and the rest
  glue : (at k : ℕ) → take k (drop at bytes) ++ drop (at + k) bytes ≡ drop at bytes
  glue at k = rw (← (drop-drop k at bytes)) (take-append-drop k (drop at bytes))

  read_written : bytes_of (job_in bytes) ≡ bytes
  unfolding bytes_of job_in
  read_written =
      let n : ℕ = opens_of bytes in
      let m : ℕ = submits_of bytes in
      let w = sized.whole in
      let rest : length (drop (4 + 6 * n) bytes) ≤ 20 * m = rw length-drop (omega (arith, w)) in
      let es : joined endpoint_bytes (endpoints_in bytes n) ≡ take (6 * n) (drop 2 bytes) =
      table_written endpoint_bytes 6 2 bytes _ n (λ i h. endpoint_written bytes (2 + 6 * i) b (omega (arith, w, h)) (endpoint_fits_at i h)) in
      let rs : joined request_bytes (requests_in bytes n m) ≡ drop (4 + 6 * n) bytes =
      table_written request_bytes 20 (4 + 6 * n) bytes _ m (λ i h. request_written bytes (4 + 6 * n + 20 * i) b (omega (arith, w, h)))
      ∙ take_all (20 * m) (drop (4 + 6 * n) bytes) rest in
      let four : 4 + 6 * n ≡ 2 + 6 * n + 2 = omega arith in
      rw (up_length, up_length, es, rs, part_written bytes 0 2 b (omega (arith, w)), part_written bytes (2 + 6 * n) 2 b (omega (arith, w)), four, glue (2 + 6 * n) 2, glue 2 (6 * n))
      (glue 0 2)

pub sound : (bytes : List ℕ) → Bytes bytes → (job : Job) → Some job ≡ sheet_of bytes → GoodJob (job_of job) × (bytes_of (job_of job) ≡ bytes)
sound bytes b job e =
    let f = good_fits bytes job e in
    let same : job_of job ≡ job_in bytes = ap job_of f.1 ∙ packed_holds (job_in bytes) in
    rw same (read_good bytes b f.0, read_written bytes b f.0)

-- written, then read
module _ (j : SheetJob) (g : GoodJob j) (bytes : List ℕ) (e : bytes_of j ≡ bytes) where
  n : ℕ
  n = length j.endpoints

  m : ℕ
  m = length j.requests

  after_count : drop 2 bytes ≡ joined endpoint_bytes j.endpoints ++ (little_endian 2 m ++ joined request_bytes j.requests)
  unfolding bytes_of n m
  after_count = ap (λ (l : List ℕ). drop 2 l) (sym e) ∙ drop_at (little_endian 2 n) _ 2 (bytes_length 2 n)

  after_endpoints : drop (2 + 6 * n) bytes ≡ little_endian 2 m ++ joined request_bytes j.requests
  unfolding n
  after_endpoints =
      sym (drop-drop (6 * n) 2 bytes) ∙ ap (λ (l : List ℕ). drop (6 * n) l) after_count
      ∙ drop_at (joined endpoint_bytes j.endpoints) _ (6 * n) (joined_length endpoint_bytes 6 endpoint_length j.endpoints)

  after_counts : drop (4 + 6 * n) bytes ≡ joined request_bytes j.requests
  after_counts =
      let four : 4 + 6 * n ≡ 2 + 6 * n + 2 = omega arith in
      rw (four, ← (drop-drop 2 (2 + 6 * n) bytes), after_endpoints) (drop_at (little_endian 2 m) _ 2 (bytes_length 2 m))

  opens_is : opens_of bytes ≡ n
  unfolding bytes_of n
  opens_is =
      ap (λ (l : List ℕ). number_of (take 2 l)) (sym e) ∙ ap number_of (take_at (little_endian 2 n) _ 2 (bytes_length 2 n))
      ∙ number_of_bytes 2 n (omega (arith, g.opens))

  submits_is : submits_of bytes ≡ m
  unfolding m
  submits_is =
      rw (opens_is, after_endpoints) (ap number_of (take_at (little_endian 2 m) _ 2 (bytes_length 2 m)) ∙ number_of_bytes 2 m (omega (arith, g.submits)))

  whole : length bytes ≡ 4 + 6 * n + 20 * m
  unfolding bytes_of n m
  whole =
      ap length (sym e)
      ∙ rw (length-append, length-append, length-append, bytes_length, bytes_length, joined_length endpoint_bytes 6 endpoint_length, joined_length request_bytes 20 request_length) (omega arith)

  endpoint_place_lem : (i : ℕ) → i < n → drop (2 + 6 * i) bytes ≡ endpoint_bytes (get_or j.endpoints i no_endpoint) ++ (joined endpoint_bytes (drop (suc i) j.endpoints) ++ (little_endian 2 m ++ joined request_bytes j.requests))
  unfolding n
  endpoint_place_lem i h =
      sym (drop-drop (6 * i) 2 bytes) ∙ ap (λ (l : List ℕ). drop (6 * i) l) after_count
      ∙ table_at endpoint_bytes 6 endpoint_length no_endpoint j.endpoints i _ h

  request_place_lem : (i : ℕ) → i < m → drop (4 + 6 * n + 20 * i) bytes ≡ request_bytes (get_or j.requests i no_request) ++ (joined request_bytes (drop (suc i) j.requests) ++ [])
  unfolding m
  request_place_lem i h =
      sym (drop-drop (20 * i) (4 + 6 * n) bytes) ∙ ap (λ (l : List ℕ). drop (20 * i) l) (after_counts ∙ sym (append-nil (joined request_bytes j.requests)))
      ∙ table_at request_bytes 20 request_length no_request j.requests i [] h

  endpoints_are : endpoints_in bytes n ≡ j.endpoints
  unfolding n
  endpoints_are =
      up_is (λ i. endpoint_at bytes (endpoint_place i)) no_endpoint j.endpoints
      (λ i h. endpoint_read bytes (2 + 6 * i) _ _ (all_at GoodEndpoint no_endpoint j.endpoints i g.endpoints h) (endpoint_place_lem i h))

  good_request : (i : ℕ) → i < m → GoodRequest j.endpoints (get_or j.requests i no_request)
  unfolding m
  good_request i h = all_at (GoodRequest j.endpoints) no_request j.requests i g.requests h

  request_is : (i : ℕ) → i < m → request_at bytes (4 + 6 * n + 20 * i) ≡ get_or j.requests i no_request
  request_is i h = request_read j.endpoints bytes (4 + 6 * n + 20 * i) _ _ (good_request i h) (request_place_lem i h)

  requests_are : requests_in bytes n m ≡ j.requests
  unfolding m
  requests_are = up_is (λ i. request_at bytes (request_place n i)) no_request j.requests request_is

  sizes_pass : sizes_fit bytes ≡ true
  unfolding sizes_fit n m
  sizes_pass =
      let few : opens_of bytes ≤ 8 = omega (arith, opens_is, g.opens) in
      let some : submits_of bytes ≤ 64 = omega (arith, submits_is, g.submits) in
      let fits : length bytes ≡ 4 + 6 * opens_of bytes + 20 * submits_of bytes = omega (arith, opens_is, submits_is, whole) in
      rw (le-leb (opens_of bytes) 8 few, le-leb (submits_of bytes) 64 some) (eq-eqb (length bytes) _ fits)

  endpoints_pass : endpoints_fit bytes (opens_of bytes) ≡ true
  unfolding n
  endpoints_pass =
      rw opens_is (every_all (λ i. endpoint_fits bytes (endpoint_place i)) n
      (λ i h. endpoint_passes bytes (2 + 6 * i) _ _ (all_at GoodEndpoint no_endpoint j.endpoints i g.endpoints h) (endpoint_place_lem i h)))

  requests_pass : requests_fit bytes (endpoints_in bytes (opens_of bytes)) (opens_of bytes) (submits_of bytes) ≡ true
  requests_pass =
      rw (submits_is, opens_is, endpoints_are) (every_all (λ i. request_fits bytes j.endpoints (request_place n i)) m
      (λ i h. request_passes j.endpoints bytes (4 + 6 * n + 20 * i) _ _ (good_request i h) (request_place_lem i h)))

  written_fits : sheet_fits bytes ≡ true
  unfolding sheet_fits
  written_fits =
      both_makes (sizes_fit bytes) _ sizes_pass (both_makes (endpoints_fit bytes (opens_of bytes)) _ endpoints_pass requests_pass)

  written_job : job_in bytes ≡ j
  unfolding job_in
  written_job =
      rw (submits_is, opens_is) (λ i. record { endpoints = endpoints_are i; requests = requests_are i })

pub complete : (j : SheetJob) → GoodJob j → (bytes : List ℕ) → bytes_of j ≡ bytes → sheet_of bytes ≡ Some (packed j)
complete j g bytes e =
    fits_good bytes (written_fits j g bytes e) ∙ ap (λ (x : SheetJob). Some (packed x)) (written_job j g bytes e)

-- a bad sheet is no job's
pub bad_sheet_lem : (bytes : List ℕ) → None ≡ sheet_of bytes → (j : SheetJob) → GoodJob j → bytes_of j ≡ bytes → ⊥
bad_sheet_lem bytes b j g e =
    let some = complete j g bytes e in
    cc

-- no sheet is longer than the longest
pub longest : (j : SheetJob) → GoodJob j → length (bytes_of j) ≤ 1332
unfolding n m
longest j g = omega (arith, whole j g (bytes_of j) refl, g.opens, g.submits)
