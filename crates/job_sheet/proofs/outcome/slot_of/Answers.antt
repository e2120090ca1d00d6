use Rattle.std.proofs.Common.{ap, arith}
use Rattle.job_sheet.specs.declared.outcome.Opened.{Opened}
use Rattle.job_sheet.specs.Outcomes.{not_opened, slot_of}
use Rattle.job_sheet.proofs.outcome.slot_of.Goals as goal

pub returns-in_err-get : goal.returns-in_err-get
unfolding slot_of
returns-in_err-get c =
    rw c.from_residual.ensures (ap (λ (o : Opened). o.slot) (c.in_err-get.ensures.lookup.4 (omega arith) not_opened))

pub returns : goal.returns
unfolding slot_of
returns c = ap (λ (o : Opened). o.slot) (c.in_ok-get.ensures.lookup.3.1 not_opened)
