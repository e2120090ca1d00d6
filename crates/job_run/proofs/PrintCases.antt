-- Cases of what is printed, and that room for more than the longest sheet is enough.
use Prim.Native.Nat.{ℕ, ◌+◌, ◌≤◌, ◌<◌}
use mathlib.Core.Path.{◌≡◌, refl, sym, ap, ◌∙◌}
use mathlib.Core.Bool.{Bool, true, false}
use mathlib.Core.List.{List, ◌++◌}
use borrow.Author.Tests.{ltb-false, ltb-true}
use native.Mathlib.Omega.{arith}
use lib.Dec.{ltb}
use lib.ListN.{get_or, length, take}
use lib.Seq.{length-take-le, take_all}
use Rattle.std.specs.Prelude.{Some, None}
use Rattle.common.specs.Rows.{put_at}
use Rattle.job_sheet.specs.declared.outcome.Outcome.{Outcome}
use Rattle.job_sheet.specs.declared.sheet.Job.{Job}
use Rattle.job_sheet.specs.Listing.{bad_line}
use Rattle.job_sheet.specs.Few.{items}
use Rattle.job_sheet.specs.Outcomes.{answered_lines, endpoint_lines, listing_of, not_opened, not_submitted}
use Rattle.job_sheet.specs.Reading.{if_good, job_in, packed, sheet_fits, sheet_of, sizes_fit}
use Rattle.job_sheet.proofs.FewLaws.{filled_taken}
use Rattle.job_sheet.proofs.ReadCases.{sizes_fit_lem}
use Rattle.common.proofs.TestLaws.{both_tells}
use Rattle.store.specs.Words.{store_view}
use Rattle.text.specs.Text.{lines_to}
use Rattle.job_run.specs.declared.run.Ran as code
use Rattle.job_run.specs.Plain.{Ran}
use Rattle.job_run.specs.Words.{outcome_view, ran_view}
use Rattle.job_run.specs.Prints.{RoomEnough, longest_sheet, outcome_of, print_sheet, printed_of}
use Rattle.job_run.specs.Runs.{run_of}

pub outcome_is : (ran : code.Ran) (owner : List ℕ) → owner ≡ (store_view ran.store).state.owner
    → outcome_view (record { opened = ran.opened; submitted = ran.submitted; owner = owner; pool = ran.store.rows.pool }) ≡ outcome_of (ran_view ran)
outcome_is ran owner e = rw e

-- the listing shows the things of an outcome's lists alone
pub view_listed : (o : Outcome) → listing_of o ≡ listing_of (outcome_view o)
unfolding answered_lines listing_of
view_listed o =
    let opened = sym (filled_taken 8 not_opened (items o.opened)) in
    let submitted = sym (filled_taken 64 not_submitted (items o.submitted)) in
    λ i. endpoint_lines (opened i) ++ lines_to (λ k. answered_lines o k (get_or (submitted i) k not_submitted)) (length (submitted i))

module _ (bytes out after : List ℕ) (r : ℕ) where
  printed : (line : List ℕ) → line ≡ printed_of bytes → after ≡ put_at out 0 line → r ≡ 0 + length line
      → (after ≡ put_at out 0 (printed_of bytes)) × (r ≡ length (printed_of bytes))
  printed line el ea er = (ea ∙ ap (put_at out 0) el, omega (arith, er, ap length el))

  pub bad_printed : None ≡ sheet_of bytes → after ≡ put_at out 0 bad_line → r ≡ 0 + 10
      → (after ≡ put_at out 0 (printed_of bytes)) × (r ≡ length (printed_of bytes))
  unfolding bad_line printed_of
  bad_printed e ea er = printed bad_line (ap print_sheet e) ea er

  pub good_printed : (job : Job) (ran : Ran) (o : Outcome) → Some job ≡ sheet_of bytes → ran ≡ run_of job → outcome_view o ≡ outcome_of ran
      → after ≡ put_at out 0 (listing_of o) → r ≡ 0 + length (listing_of o) → (after ≡ put_at out 0 (printed_of bytes)) × (r ≡ length (printed_of bytes))
  unfolding printed_of
  good_printed job ran o e er eo ea el =
      printed (listing_of o) (view_listed o ∙ ap listing_of (eo ∙ ap outcome_of er) ∙ ap print_sheet e) ea el

pub front_taken : (n : ℕ) (l : List ℕ) → n ≤ length l → n ≡ length (take n l)
front_taken n l h = sym (length-take-le n l h)

-- ---- room for more than the longest sheet

fits_short : (bytes : List ℕ) → sheet_fits bytes ≡ true → length bytes ≤ longest_sheet
unfolding sheet_fits
fits_short bytes f =
    let s = sizes_fit_lem bytes (both_tells (sizes_fit bytes) _ f).0 in
    omega (arith, s.whole, s.few, s.some)

-- what is longer is no sheet
long_bad : (bytes : List ℕ) → longest_sheet < length bytes → sheet_of bytes ≡ None
unfolding sheet_of
long_bad bytes l = by (sheet_fits bytes) refl
  where
    by : (b : Bool) → sheet_fits bytes ≡ b → if_good b (packed (job_in bytes)) ≡ None
    by true e = absurd (omega (arith, l, fits_short bytes e))
    by false e = refl

pub room_enough : RoomEnough
unfolding printed_of
room_enough bytes room l = by (ltb room (length bytes)) refl
  where
    by : (b : Bool) → ltb room (length bytes) ≡ b → print_sheet (sheet_of (take room bytes)) ≡ print_sheet (sheet_of bytes)
    by true e =
        let h : room < length bytes = ltb-true room (length bytes) e in
        let cut = front_taken room bytes (omega arith) in
        ap print_sheet (long_bad (take room bytes) (omega (arith, cut)) ∙ sym (long_bad bytes (omega arith)))
    by false e = ap (λ (x : List ℕ). print_sheet (sheet_of x)) (take_all room bytes (ltb-false room (length bytes) e))
