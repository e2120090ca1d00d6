use mathlib.Core.Path.{◌≡◌}
use Rattle.bitset.specs.Words.{drop_bits}
use Rattle.bitset.proofs.word.drop_low.Given as goal

abbrev pub invariant-loop : goal.invariant-loop
invariant-loop l = l.rest ≡ drop_bits 64 l.x l.counter
