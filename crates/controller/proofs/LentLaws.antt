-- What a call that is accepted may count on.
use Rattle.std.specs.Prelude.{◌≡◌, Bool, true, ◌&&◌}
use Rattle.common.proofs.TestLaws.{both_tells}
use Rattle.state.specs.Plain.{Ehci}
use Rattle.state.specs.Ranges.{in_ranges}
use Rattle.state.proofs.RangesLaws.{Ranges, ranges_tell}
use Rattle.controller.specs.Plain.{Lengths}
use Rattle.controller.specs.Lent.{accepts_of}
use Rattle.opening.specs.Opening.{rows_are_fit}
use Rattle.opening.proofs.OpenLaws.{Fitting, rows_tell}

pub accepts_is : (s : Ehci) (lent : Lengths) (f g : Bool)
    → f ≡ rows_are_fit s.settings lent.pool lent.heads lent.frames lent.setups → g ≡ in_ranges s
    → (f && g) ≡ accepts_of s lent
unfolding accepts_of
accepts_is s lent f g ef eg = rw (ef, eg)

pub record Accepted (s : Ehci) (lent : Lengths) : Type 0 where
  pub ranges : Ranges s
  pub fitting : Fitting s.settings lent.pool lent.heads lent.frames lent.setups

pub accepts_tells : (s : Ehci) (lent : Lengths) → accepts_of s lent ≡ true → Accepted s lent
unfolding accepts_of
accepts_tells s lent e =
    let p = both_tells (rows_are_fit s.settings lent.pool lent.heads lent.frames lent.setups) (in_ranges s) e in
    record {
      ranges = ranges_tell s p.1;
      fitting = rows_tell s.settings lent.pool lent.heads lent.frames lent.setups p.0;
    }
