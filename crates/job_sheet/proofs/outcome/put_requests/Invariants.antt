use Rattle.job_sheet.specs.Outcomes.{lines_of}
use Rattle.job_sheet.proofs.OutcomeCases.{Lined}
use Rattle.job_sheet.proofs.outcome.put_requests.Given as goal

abbrev pub invariant-loop-k : goal.invariant-loop-k
invariant-loop-k l = Lined (lines_of l.outcome) 1441 l.initial.out l.at l.out l.next l.k
