-- The cases of the functions that read a sheet.
use mathlib.Core.Path.{◌≡◌, refl, ap, ◌∙◌}
use mathlib.Core.Bool.{Bool, true, false, ◌&&◌, ◌||◌, and-false}
use mathlib.Core.List.{List}
use Prim.Native.Nat.{ℕ, ◌+◌, ◌*◌, ◌≤◌, ◌<◌}
use native.Mathlib.Omega.{arith}
use borrow.Author.Tests.{eq-eqb, eqb-true, le-leb, le-ltb, leb-true, lt-leb, lt-ltb, ne_eqb}
use lib.Dec.{eqb, leb}
use lib.ListN.{get_or, length}
use Rattle.std.specs.Prelude.{Some, None, option_map}
use Rattle.job_sheet.specs.declared.few.Few.{Few}
use Rattle.job_sheet.specs.declared.record.EndpointRecord.{EndpointRecord}
use Rattle.job_sheet.specs.declared.record.RequestRecord.{RequestRecord}
use Rattle.job_sheet.specs.declared.sheet.Counts.{Counts}
use Rattle.text.specs.Numbers.{number_at}
use Rattle.job_sheet.specs.Few.{few_of, items, pushed}
use Rattle.job_sheet.specs.Sheets.{is_control, no_endpoint, no_request}
use Rattle.job_sheet.specs.Reading.{counts_of, endpoint_at, endpoint_fits, endpoint_record, endpoints_fit, endpoints_in, endpoints_of, every, if_good, job_in, opens_of, request_at, request_fits, request_record, requests_fit, requests_of, sheet_fits, sheet_of, sizes_fit, submits_of, up_to}
use Rattle.job_sheet.proofs.FewLaws.{few_more, filled_taken}
use Rattle.job_sheet.proofs.Rows.{every_more, every_not, up_length, up_more}
use Rattle.common.proofs.TestLaws.{both_tells}

-- ---- a record

module _ (bytes : List ℕ) (at : ℕ) where
  pub endpoint_is : (k packet : ℕ) → get_or bytes at 0 ≤ 3 → get_or bytes (at + 3) 0 ≡ 0 → k ≡ get_or bytes at 0
      → packet ≡ number_at bytes (at + 4) 2
      → Some (record { kind = k; address = get_or bytes (at + 1) 0; number = get_or bytes (at + 2) 0; packet = packet }) ≡ endpoint_record bytes at
  unfolding endpoint_at endpoint_fits
  endpoint_is k packet h z ek ep = rw (le-leb (get_or bytes at 0) 3 h, z, ek, ep)

  pub kind_bad : 3 < get_or bytes at 0 → None ≡ endpoint_record bytes at
  unfolding endpoint_fits
  kind_bad h = rw (lt-leb (get_or bytes at 0) 3 h)

  pub zero_bad : (get_or bytes (at + 3) 0 ≡ 0 → ⊥) → None ≡ endpoint_record bytes at
  unfolding endpoint_fits
  zero_bad z = rw (ne_eqb (get_or bytes (at + 3) 0) 0 z, and-false)

  module _ (es : List EndpointRecord) (setup : ℕ) (s : setup ≡ number_at bytes (at + 2) 6) where
    pub direction_bad : 1 < get_or bytes (at + 1) 0 → None ≡ request_record bytes es at
    unfolding request_fits
    direction_bad h = rw (lt-leb (get_or bytes (at + 1) 0) 1 h)

    pub setup_bad : (setup ≡ 0 → ⊥) → false ≡ is_control es (get_or bytes at 0) → None ≡ request_record bytes es at
    unfolding request_fits
    setup_bad z c = rw (← c, ne_eqb (number_at bytes (at + 2) 6) 0 (λ e. z (s ∙ e)), and-false)

    pub request_is : (d buffer size : ℕ) → get_or bytes (at + 1) 0 ≤ 1 → (is_control es (get_or bytes at 0) || eqb setup 0) ≡ true
        → d ≡ get_or bytes (at + 1) 0 → buffer ≡ number_at bytes (at + 8) 8 → size ≡ number_at bytes (at + 16) 4
        → Some (record { endpoint = get_or bytes at 0; direction = d; setup = setup; buffer = buffer; length = size }) ≡ request_record bytes es at
    unfolding request_at request_fits
    request_is d buffer size h c ed eb el =
        let t = rw s at c in
        rw (le-leb (get_or bytes (at + 1) 0) 1 h, ed, eb, el, s, t)

-- what may set up
pub no_setup : (control : Bool) (setup : ℕ) → setup ≡ 0 → (control || eqb setup 0) ≡ true
no_setup true setup e = refl
no_setup false setup e = eq-eqb setup 0 e

pub may_set_up : (control : Bool) (setup : ℕ) → true ≡ control → (control || eqb setup 0) ≡ true
may_set_up control setup e = rw (← e)

-- ---- a control record

module _ (es : List EndpointRecord) (k : ℕ) where
  pub control_there : k < length es → (e : EndpointRecord) → e ≡ get_or es k no_endpoint → eqb e.kind 0 ≡ is_control es k
  unfolding is_control
  control_there h e q = rw (lt-ltb k (length es) h, q)

  pub control_none : length es ≤ k → false ≡ is_control es k
  unfolding is_control
  control_none h = rw (le-ltb k (length es) h)

-- ---- the counts

pub record Sized (bytes : List ℕ) (n m : ℕ) : Type 0 where
  pub opens : n ≡ opens_of bytes
  pub submits : m ≡ submits_of bytes
  pub few : n ≤ 8
  pub some : m ≤ 64
  pub whole : length bytes ≡ 4 + 6 * n + 20 * m

pub sizes_fit_lem : (bytes : List ℕ) → sizes_fit bytes ≡ true → Sized bytes (opens_of bytes) (submits_of bytes)
unfolding sizes_fit
sizes_fit_lem bytes t =
    let two = both_tells (leb (opens_of bytes) 8 && leb (submits_of bytes) 64) _ t in
    let one = both_tells (leb (opens_of bytes) 8) (leb (submits_of bytes) 64) two.0 in
    record {
      opens = refl;
      submits = refl;
      few = leb-true _ _ one.0;
      some = leb-true _ _ one.1;
      whole = eqb-true _ _ two.1;
    }

-- what does not hold of the counts
pub sizes_unfit : (bytes : List ℕ) → (Sized bytes (opens_of bytes) (submits_of bytes) → ⊥) → sizes_fit bytes ≡ false
sizes_unfit bytes n = by (sizes_fit bytes) refl
  where
    by : (b : Bool) → sizes_fit bytes ≡ b → sizes_fit bytes ≡ false
    by true e = absurd (n (sizes_fit_lem bytes e))
    by false e = e

pub counts_none : (bytes : List ℕ) → (Sized bytes (opens_of bytes) (submits_of bytes) → ⊥) → None ≡ counts_of bytes
counts_none bytes n = rw (sizes_unfit bytes n)

pub counts_not : (bytes : List ℕ) (n m : ℕ) → n ≡ opens_of bytes → m ≡ number_at bytes (2 + 6 * n) 2
    → (n ≤ 8 → m ≤ 64 → length bytes ≡ 2 + 6 * n + 2 + 20 * m → ⊥) → None ≡ counts_of bytes
counts_not bytes n m e q f =
    let same : m ≡ submits_of bytes = q ∙ ap (λ (k : ℕ). number_at bytes (2 + 6 * k) 2) e in
    counts_none bytes
    (λ z. f (omega (arith, e, z.few)) (omega (arith, same, z.some)) (omega (arith, e, same, z.whole)))

pub counts_are : (bytes : List ℕ) (n m : ℕ) → n ≡ opens_of bytes → m ≡ number_at bytes (2 + 6 * n) 2 → n ≤ 8 → m ≤ 64
    → length bytes ≡ 2 + 6 * n + 2 + 20 * m → Some (record { endpoints = n; requests = m }) ≡ counts_of bytes
unfolding sizes_fit
counts_are bytes n m e q few some whole =
    let same : m ≡ submits_of bytes = q ∙ ap (λ (k : ℕ). number_at bytes (2 + 6 * k) 2) e in
    let a : opens_of bytes ≤ 8 = omega (arith, e) in
    let b : submits_of bytes ≤ 64 = omega (arith, same) in
    let w : length bytes ≡ 4 + 6 * opens_of bytes + 20 * submits_of bytes = omega (arith, e, same) in
    rw (le-leb (opens_of bytes) 8 a, le-leb (submits_of bytes) 64 b, eq-eqb (length bytes) _ w, e, same)

-- of the counts that are told
pub counts_told : (bytes : List ℕ) (c : Counts) → Some c ≡ counts_of bytes → (sizes_fit bytes ≡ true) × Sized bytes c.endpoints c.requests
counts_told bytes c e = by (sizes_fit bytes) refl e
  where
    by : (b : Bool) → sizes_fit bytes ≡ b → Some c ≡ if_good b (record { endpoints = opens_of bytes; requests = submits_of bytes })
        → (sizes_fit bytes ≡ true) × Sized bytes c.endpoints c.requests
    by true q t =
        let same : c ≡ record { endpoints = opens_of bytes; requests = submits_of bytes } = cc in
        rw same (q, sizes_fit_lem bytes q)
    by false q t = cc

-- what is read is good, and is what there is
pub told : {A : Type 0} (good : Bool) (x y : A) → Some x ≡ if_good good y → (good ≡ true) × (x ≡ y)
told true x y e = let same : x ≡ y = cc in (refl, same)
told false x y e = cc

pub untold : {A : Type 0} (good : Bool) (y : A) → None ≡ if_good good y → good ≡ false
untold true y e = cc
untold false y e = refl

pub told_as : {A B : Type 0} (f : A → B) (good : Bool) (x : B) (y : A) → Some x ≡ option_map f (if_good good y) → (good ≡ true) × (x ≡ f y)
told_as f true x y e = let same : x ≡ f y = cc in (refl, same)
told_as f false x y e = cc

pub untold_as : {A B : Type 0} (f : A → B) (good : Bool) (y : A) → None ≡ option_map f (if_good good y) → good ≡ false
untold_as f true y e = cc
untold_as f false y e = refl

-- ---- the records, one after the other

module _ {A : Type 0} (size : ℕ) (none : A) (fits : ℕ → Bool) (at : ℕ → A) where
  -- one more that is good
  pub good_more : (xs ys : Few A size) (i : ℕ) (x : A) → i < size → (xs ≡ few_of size none (up_to at i)) × (every fits i ≡ true)
      → Some x ≡ if_good (fits i) (at i) → ys ≡ pushed xs x → (ys ≡ few_of size none (up_to at (i + 1))) × (every fits (i + 1) ≡ true)
  good_more xs ys i x l h e q =
      let t = told (fits i) x (at i) e in
      (q ∙ rw (h.0, t.1, up_more at i) (few_more size none (up_to at i) (at i) (omega (arith, l, up_length at i))), every_more fits i h.1 t.0)

  pub good_few : (xs : Few A size) (i : ℕ) → (xs ≡ few_of size none (up_to at i)) × (every fits i ≡ true) → length (items xs) ≡ i
  good_few xs i h = rw h.0 (ap length (filled_taken size none (up_to at i)) ∙ up_length at i)

  -- one that is bad
  pub good_not : (n i : ℕ) → i < n → None ≡ if_good (fits i) (at i) → None ≡ option_map (few_of size none) (if_good (every fits n) (up_to at n))
  good_not n i h e = rw (every_not fits n i h (untold (fits i) (at i) e))

  pub good_all : (xs : Few A size) (n i : ℕ) → i ≡ n → (xs ≡ few_of size none (up_to at i)) × (every fits i ≡ true)
      → Some xs ≡ option_map (few_of size none) (if_good (every fits n) (up_to at n))
  good_all xs n i e h =
      let t = rw e at h.1 in
      rw (t, h.0, e)

-- ---- the sheet

module _ (bytes : List ℕ) where
  pub no_counts : None ≡ counts_of bytes → None ≡ sheet_of bytes
  unfolding sheet_of sheet_fits
  no_counts e = rw (untold (sizes_fit bytes) (record { endpoints = opens_of bytes; requests = submits_of bytes }) e)

  module _ (c : Counts) (ec : Some c ≡ counts_of bytes) where
    known : (sizes_fit bytes ≡ true) × (c ≡ record { endpoints = opens_of bytes; requests = submits_of bytes })
    known = told (sizes_fit bytes) c (record { endpoints = opens_of bytes; requests = submits_of bytes }) ec

    pub no_endpoints : None ≡ option_map (few_of 8 no_endpoint) (endpoints_of bytes c.endpoints) → None ≡ sheet_of bytes
    unfolding sheet_of sheet_fits
    no_endpoints e =
        let h = rw known.1 at e in
        rw (known.0, untold_as (few_of 8 no_endpoint) (endpoints_fit bytes (opens_of bytes)) _ h)

    module _ (es : Few EndpointRecord 8) (ee : Some es ≡ option_map (few_of 8 no_endpoint) (endpoints_of bytes c.endpoints)) where
      known_endpoints : (endpoints_fit bytes (opens_of bytes) ≡ true) × (es ≡ few_of 8 no_endpoint (endpoints_in bytes (opens_of bytes)))
      known_endpoints =
          let h = rw known.1 at ee in
          told_as (few_of 8 no_endpoint) (endpoints_fit bytes (opens_of bytes)) es _ h

      these : items es ≡ endpoints_in bytes (opens_of bytes)
      these = rw known_endpoints.1 (filled_taken 8 no_endpoint (endpoints_in bytes (opens_of bytes)))

      pub many : length (items es) ≡ opens_of bytes
      many = ap length these ∙ up_length _ (opens_of bytes)

      pub no_requests : None ≡ option_map (few_of 64 no_request) (requests_of bytes (items es) c.requests) → None ≡ sheet_of bytes
      unfolding sheet_of sheet_fits
      no_requests e =
          let h = rw (known.1, many, these) at e in
          rw (known.0, known_endpoints.0, untold_as (few_of 64 no_request) (requests_fit bytes (endpoints_in bytes (opens_of bytes)) (opens_of bytes) (submits_of bytes)) _ h)

      pub all_read : (rs : Few RequestRecord 64) → Some rs ≡ option_map (few_of 64 no_request) (requests_of bytes (items es) c.requests)
          → Some (record { endpoints = es; requests = rs }) ≡ sheet_of bytes
      unfolding sheet_of sheet_fits job_in
      all_read rs er =
          let h = rw (known.1, many, these) at er in
          let t = told_as (few_of 64 no_request) (requests_fit bytes (endpoints_in bytes (opens_of bytes)) (opens_of bytes) (submits_of bytes)) rs _ h in
          rw (known.0, known_endpoints.0, t.0, t.1, known_endpoints.1)
