-- The line of a step: its register as a part.
use Rattle.std.specs.Prelude.{◌≡◌, ℕ, [], ◌∷◌, None, Option, Some}
use mathlib.Core.Path.{refl}
use Rattle.call_log.specs.CallLine.{call_line, register_part, step_line}
use Rattle.call_log.specs.Lines.{line_of, said, said_line}
use Rattle.call_log.specs.declared.line.Part.{Part}
use Rattle.call_log.specs.declared.line.Part.TheVariants.{Decimal}

step_of : (n call wait event port : ℕ) (read : (Option ℕ))
    → said_line 67 (Decimal n ∷ Decimal call ∷ Decimal 0 ∷ register_part read ∷ Decimal wait ∷ Decimal event ∷ Decimal port ∷ [])
    ≡ step_line n call read wait event port
unfolding said_line said line_of call_line step_line
step_of n call wait event port None = refl
step_of n call wait event port (Some offset) = refl

pub step_said : (n call wait event port : ℕ) (read : (Option ℕ)) (part : Part) → part ≡ register_part read
    → said_line 67 (Decimal n ∷ Decimal call ∷ Decimal 0 ∷ part ∷ Decimal wait ∷ Decimal event ∷ Decimal port ∷ [])
    ≡ step_line n call read wait event port
step_said n call wait event port read part e = rw e (step_of n call wait event port read)
