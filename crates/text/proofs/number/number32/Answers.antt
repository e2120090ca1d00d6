use Prim.Native.Nat.{◌+◌}
use native.Mathlib.Omega.{arith}
use Rattle.text.proofs.NumberLaws.{number_end, number_first, number_next}
use Rattle.text.proofs.number.number32.Goals as goal

pub returns : goal.returns
returns c =
    let b = c.args.bytes.now in
    let at = c.args.at in
    omega (
      arith,
      c.from_le_bytes.ensures,
      number_first b at 3 (omega arith),
      number_next b at 1 2 (omega arith),
      number_next b at 2 1 (omega arith),
      number_next b at 3 0 (omega arith),
      number_end b (at + 4),
    )
