use Rattle.std.specs.Prelude.{◌≡◌, ◌-◌}
use Rattle.word_ranges.specs.Seen.{seen_from}
use Rattle.word_ranges.proofs.judge.slots_good.Given as goal

abbrev pub invariant-loop-k : goal.invariant-loop-k
invariant-loop-k l =
    seen_from l.slots l.limit l.unanswered l.k (l.endpoints - l.k) l.s ≡ seen_from l.slots l.limit l.unanswered 0 l.endpoints l.initial.s
