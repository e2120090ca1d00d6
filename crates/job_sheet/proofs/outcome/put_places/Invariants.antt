use Rattle.job_sheet.specs.Outcomes.{place_line}
use Rattle.job_sheet.proofs.OutcomeCases.{Lined}
use Rattle.job_sheet.proofs.outcome.put_places.Given as goal

abbrev pub invariant-loop-p : goal.invariant-loop-p
invariant-loop-p l = Lined (place_line l.outcome.owner l.outcome.pool l.slot) 86 l.initial.out l.at l.out l.next l.p
