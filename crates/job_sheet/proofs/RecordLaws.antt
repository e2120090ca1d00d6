-- One record of a sheet: what is read is what was written, and the other way round.
use mathlib.Core.Path.{◌≡◌, refl, sym, ap, ◌∙◌}
use mathlib.Core.Bool.{Bool, true, false, ◌||◌, false≢true}
use mathlib.Core.List.{List, ◌∷◌, ◌++◌}
use Prim.Native.Nat.{ℕ, suc, ◌+◌, ◌≤◌, ◌<◌}
use native.Mathlib.Numerals.{add-one}
use native.Mathlib.Omega.{arith}
use borrow.Author.Tests.{eq-eqb, eqb-true, le-leb, leb-true}
use lib.Dec.{eqb, leb}
use lib.ListN.{drop, get_or, length, take}
use lib.Seq.{drop-cons, drop-drop, get_or-drop, take-add}
use Rattle.job_sheet.specs.declared.record.EndpointRecord.{EndpointRecord}
use Rattle.job_sheet.specs.declared.record.RequestRecord.{RequestRecord}
use Rattle.text.specs.Numbers.{little_endian, number_at}
use Rattle.job_sheet.specs.Sheets.{GoodEndpoint, GoodRequest, endpoint_bytes, is_control, request_bytes}
use Rattle.job_sheet.specs.Reading.{endpoint_at, endpoint_fits, request_at, request_fits}
use Rattle.text.proofs.NumberLaws.{Bytes, number_of_bytes, part_below, part_written}
use Rattle.common.proofs.TestLaws.{both_tells, both_makes}

pub endpoint_length : (e : EndpointRecord) → length (endpoint_bytes e) ≡ 6
unfolding endpoint_bytes little_endian
endpoint_length e = refl

pub request_length : (r : RequestRecord) → length (request_bytes r) ≡ 20
unfolding request_bytes little_endian
request_length r = refl

-- a record at a place is the record at the front of what begins there
zero_end : (n : ℕ) → n + 0 ≡ n
zero_end n = omega arith

endpoint_there : (bytes : List ℕ) (at : ℕ) → endpoint_at bytes at ≡ endpoint_at (drop at bytes) 0
unfolding endpoint_at
endpoint_there bytes at = simp (get_or-drop, drop-drop) (rw (zero_end at))

endpoint_fits_there : (bytes : List ℕ) (at : ℕ) → endpoint_fits bytes at ≡ endpoint_fits (drop at bytes) 0
unfolding endpoint_fits
endpoint_fits_there bytes at = simp get_or-drop (rw (zero_end at))

request_there : (bytes : List ℕ) (at : ℕ) → request_at bytes at ≡ request_at (drop at bytes) 0
unfolding request_at
request_there bytes at = simp (get_or-drop, drop-drop) (rw (zero_end at))

-- written and read
endpoint_front : (e : EndpointRecord) (post : List ℕ) → GoodEndpoint e → endpoint_at (endpoint_bytes e ++ post) 0 ≡ e
unfolding endpoint_at endpoint_bytes little_endian
endpoint_front e post g =
    λ i. record { kind = e.kind; address = e.address; number = e.number; packet = number_of_bytes 2 e.packet g.packet i }

endpoint_fits_front : (e : EndpointRecord) (post : List ℕ) → GoodEndpoint e → endpoint_fits (endpoint_bytes e ++ post) 0 ≡ true
unfolding endpoint_fits endpoint_bytes
endpoint_fits_front e post g = both_makes (leb e.kind 3) (eqb 0 0) (le-leb e.kind 3 g.kind) refl

request_front : (es : List EndpointRecord) (r : RequestRecord) (post : List ℕ) → GoodRequest es r → request_at (request_bytes r ++ post) 0 ≡ r
unfolding request_at request_bytes little_endian
request_front es r post g =
    λ i. record {
      endpoint = r.endpoint;
      direction = r.direction;
      setup = number_of_bytes 6 r.setup g.setup i;
      buffer = number_of_bytes 8 r.buffer g.buffer i;
      length = number_of_bytes 4 r.length g.length i;
    }

pub endpoint_read : (bytes : List ℕ) (at : ℕ) (e : EndpointRecord) (post : List ℕ) → GoodEndpoint e → drop at bytes ≡ endpoint_bytes e ++ post
    → endpoint_at bytes at ≡ e
endpoint_read bytes at e post g d =
    endpoint_there bytes at ∙ ap (λ (l : List ℕ). endpoint_at l 0) d ∙ endpoint_front e post g

pub endpoint_passes : (bytes : List ℕ) (at : ℕ) (e : EndpointRecord) (post : List ℕ) → GoodEndpoint e → drop at bytes ≡ endpoint_bytes e ++ post
    → endpoint_fits bytes at ≡ true
endpoint_passes bytes at e post g d =
    endpoint_fits_there bytes at ∙ ap (λ (l : List ℕ). endpoint_fits l 0) d ∙ endpoint_fits_front e post g

pub request_read : (es : List EndpointRecord) (bytes : List ℕ) (at : ℕ) (r : RequestRecord) (post : List ℕ) → GoodRequest es r
    → drop at bytes ≡ request_bytes r ++ post → request_at bytes at ≡ r
request_read es bytes at r post g d =
    request_there bytes at ∙ ap (λ (l : List ℕ). request_at l 0) d ∙ request_front es r post g

either_true : (control : Bool) (setup : ℕ) → (control ≡ false → setup ≡ 0) → (control || eqb setup 0) ≡ true
either_true true setup h = refl
either_true false setup h = eq-eqb setup 0 (h refl)

request_fits_there : (bytes : List ℕ) (es : List EndpointRecord) (at : ℕ) → request_fits bytes es at ≡ request_fits (drop at bytes) es 0
unfolding request_fits
request_fits_there bytes es at = simp (get_or-drop, drop-drop) (rw (zero_end at))

request_fits_front : (es : List EndpointRecord) (r : RequestRecord) (post : List ℕ) → GoodRequest es r → request_fits (request_bytes r ++ post) es 0 ≡ true
unfolding request_fits request_bytes little_endian
request_fits_front es r post g =
    rw (number_of_bytes 6 r.setup g.setup)
    (both_makes (leb r.direction 1) (is_control es r.endpoint || eqb r.setup 0)
    (le-leb r.direction 1 g.direction) (either_true (is_control es r.endpoint) r.setup g.no_setup))

pub request_passes : (es : List EndpointRecord) (bytes : List ℕ) (at : ℕ) (r : RequestRecord) (post : List ℕ) → GoodRequest es r
    → drop at bytes ≡ request_bytes r ++ post → request_fits bytes es at ≡ true
request_passes es bytes at r post g d =
    request_fits_there bytes es at ∙ ap (λ (l : List ℕ). request_fits l es 0) d ∙ request_fits_front es r post g

-- read and written: the bytes from a place on, one by one and in parts
next : (bytes : List ℕ) (at k n : ℕ) → at + k < length bytes
    → take (suc n) (drop (at + k) bytes) ≡ get_or bytes (at + k) 0 ∷ take n (drop (at + suc k) bytes)
next bytes at k n h =
    let e : suc (at + k) ≡ at + suc k = omega arith in
    rw (drop-cons bytes (at + k) 0 h, e)

first : (bytes : List ℕ) (at n : ℕ) → at < length bytes → take (suc n) (drop at bytes) ≡ get_or bytes at 0 ∷ take n (drop (at + 1) bytes)
first bytes at n h = rw (drop-cons bytes at 0 h, add-one at)

cut : (bytes : List ℕ) (at k a b : ℕ)
    → take (a + b) (drop (at + k) bytes) ≡ take a (drop (at + k) bytes) ++ take b (drop (at + (k + a)) bytes)
cut bytes at k a b =
    let e : at + k + a ≡ at + (k + a) = omega arith in
    take-add a b (drop (at + k) bytes) ∙ rw (drop-drop, e)

pub endpoint_written : (bytes : List ℕ) (at : ℕ) → Bytes bytes → at + 6 ≤ length bytes → endpoint_fits bytes at ≡ true
    → endpoint_bytes (endpoint_at bytes at) ≡ take 6 (drop at bytes)
unfolding endpoint_fits endpoint_bytes endpoint_at
endpoint_written bytes at b h f =
    let z : get_or bytes (at + 3) 0 ≡ 0 = eqb-true (get_or bytes (at + 3) 0) 0 (both_tells (leb (get_or bytes at 0) 3) _ f).1 in
    rw (first bytes at 5 (omega arith), next bytes at 1 4 (omega arith), next bytes at 2 3 (omega arith), next bytes at 3 2 (omega arith), z)
    (ap (λ (l : List ℕ). get_or bytes at 0 ∷ get_or bytes (at + 1) 0 ∷ get_or bytes (at + 2) 0 ∷ 0 ∷ l) (part_written bytes (at + 4) 2 b (omega arith)))

pub endpoint_good : (bytes : List ℕ) (at : ℕ) → Bytes bytes → at + 6 ≤ length bytes → endpoint_fits bytes at ≡ true → GoodEndpoint (endpoint_at bytes at)
unfolding endpoint_fits endpoint_at
endpoint_good bytes at b h f =
    record {
      kind = leb-true (get_or bytes at 0) 3 (both_tells (leb (get_or bytes at 0) 3) _ f).0;
      address = b (at + 1);
      number = b (at + 2);
      packet = part_below bytes (at + 4) 2 b (omega arith);
    }

pub request_written : (bytes : List ℕ) (at : ℕ) → Bytes bytes → at + 20 ≤ length bytes → request_bytes (request_at bytes at) ≡ take 20 (drop at bytes)
unfolding request_bytes request_at
request_written bytes at b h =
    rw (first bytes at 19 (omega arith), next bytes at 1 18 (omega arith), cut bytes at 2 6 12, cut bytes at 8 8 4)
    (λ i. get_or bytes at 0 ∷ get_or bytes (at + 1) 0 ∷ (part_written bytes (at + 2) 6 b (omega arith) i
    ++ (part_written bytes (at + 8) 8 b (omega arith) i ++ part_written bytes (at + 16) 4 b (omega arith) i)))

none_else : (control : Bool) (setup : ℕ) → (control || eqb setup 0) ≡ true → control ≡ false → setup ≡ 0
none_else true setup t e = absurd (false≢true (sym e))
none_else false setup t e = eqb-true setup 0 t

pub request_good : (bytes : List ℕ) (es : List EndpointRecord) (at : ℕ) → Bytes bytes → at + 20 ≤ length bytes → request_fits bytes es at ≡ true
    → GoodRequest es (request_at bytes at)
unfolding request_fits request_at
request_good bytes es at b h f =
    let two = both_tells (leb (get_or bytes (at + 1) 0) 1) _ f in
    record {
      endpoint = b at;
      direction = leb-true (get_or bytes (at + 1) 0) 1 two.0;
      setup = part_below bytes (at + 2) 6 b (omega arith);
      buffer = part_below bytes (at + 8) 8 b (omega arith);
      length = part_below bytes (at + 16) 4 b (omega arith);
      no_setup = none_else (is_control es (get_or bytes at 0)) (number_at bytes (at + 2) 6) two.1;
    }
