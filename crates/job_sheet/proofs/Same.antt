-- "any two results allowed are proved the same", of the sheet's reader: its contract is an equation.
use Prim.Native.Nat.{ℕ}
use mathlib.Core.List.{List}
use mathlib.Core.Path.{◌≡◌, sym, ◌∙◌}
use Rattle.std.specs.Prelude.{Option}
use Rattle.job_sheet.specs.declared.sheet.Job.{Job}
use Rattle.job_sheet.specs.Reading.{sheet_of}

pub same_sheet : (bytes : List ℕ) (a b : Option Job) → a ≡ sheet_of bytes → b ≡ sheet_of bytes → a ≡ b
same_sheet bytes a b e f = e ∙ sym f
