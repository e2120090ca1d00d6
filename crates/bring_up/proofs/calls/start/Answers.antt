use Rattle.bring_up.proofs.WordsCases.{refused_free, starts_busy, starts_done}
use Rattle.bring_up.proofs.calls.start.Goals as goal

pub returns-then-any_uncollected : goal.returns-then-any_uncollected
returns-then-any_uncollected c = search (starts_busy, refused_free)

pub returns-clause-slots_value : goal.returns-clause-slots_value
returns-clause-slots_value c = search starts_done

pub returns-clause-free_value : goal.returns-clause-free_value
returns-clause-free_value c = search starts_done
