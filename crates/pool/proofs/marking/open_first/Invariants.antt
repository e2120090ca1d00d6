use Rattle.std.proofs.Common.{◌≡◌, ◌-◌, length}
use Rattle.pool.specs.Plain as Deeds
use Rattle.pool.specs.Chains.{filled_from}
use Rattle.pool.specs.Places.{up_from}
use Rattle.pool.specs.Words.{opened_to}
use Rattle.pool.proofs.marking.open_first.Given as goal

abbrev pub invariant-loop-k : goal.invariant-loop-k
invariant-loop-k l = (length l.rows ≡ length l.initial.rows) × (filled_from Deeds.Open 0 l.k (up_from l.k (l.count - l.k)) l.rows ≡ opened_to l.count l.initial.rows)
