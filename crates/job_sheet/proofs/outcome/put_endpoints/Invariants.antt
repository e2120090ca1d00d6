use Rattle.job_sheet.specs.Outcomes.{opened_line}
use Rattle.job_sheet.proofs.OutcomeCases.{Lined}
use Rattle.job_sheet.proofs.outcome.put_endpoints.Given as goal

abbrev pub invariant-loop-k : goal.invariant-loop-k
invariant-loop-k l = Lined (opened_line l.opened) 44 l.initial.out l.at l.out l.next l.k
