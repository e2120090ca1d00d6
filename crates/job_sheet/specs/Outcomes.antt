-- Document 01, the job sheet: the listing of a job that was run. All E lines, then for each request its R line followed at
-- once by its D lines in chain order if accepted.
use Rattle.std.specs.Prelude.{cond, ℕ, ◌+◌, Option, None, List, ◌++◌, eqb, get_or, length, unwrap_or}
use Rattle.descriptor.specs.declared.qtd.QueueTransferDescriptor.{QueueTransferDescriptor}
use Rattle.pool.specs.Chains.{blank}
use Rattle.text.specs.Text.{lines_to, only_if}
use Rattle.job_sheet.specs.declared.outcome.Opened.{Opened}
use Rattle.job_sheet.specs.declared.outcome.Outcome.{Outcome}
use Rattle.job_sheet.specs.declared.outcome.Submitted.{Submitted}
use Rattle.job_sheet.specs.Few.{items}
use Rattle.job_sheet.specs.Listing.{descriptor_line, endpoint_line, request_line}

-- what a record or a request that is not there came to
abbrev pub not_opened : Opened
not_opened = record { answer = 0; slot = None }

abbrev pub not_submitted : Submitted
not_submitted = record { slot = 0; answer = 0; id = None }

-- a slot's descriptor: slot k has owner k + 1
abbrev pub place_line : List ℕ → List QueueTransferDescriptor → ℕ → ℕ → List ℕ
place_line owner pool slot p = only_if (eqb (get_or owner p 0) (slot + 1)) (descriptor_line p (get_or pool p blank))

-- a slot's places, of the controller's 16 descriptors
unfoldable pub place_lines : List ℕ → List QueueTransferDescriptor → ℕ → List ℕ
place_lines owner pool slot = lines_to (place_line owner pool slot) 16

-- the slot of an endpoint record
unfoldable pub slot_of : List Opened → ℕ → Option ℕ
slot_of opened k = (get_or opened k not_opened).slot

-- a request's R line, "id (0 if refused)", and its D lines if accepted
unfoldable pub answered_lines : Outcome → ℕ → Submitted → List ℕ
answered_lines o k s =
    request_line k s.answer (cond (eqb s.answer 0) (unwrap_or s.id 0) 0) ++ only_if (eqb s.answer 0) (place_lines o.owner o.pool s.slot)

abbrev pub lines_of : Outcome → ℕ → List ℕ
lines_of o k = answered_lines o k (get_or (items o.submitted) k not_submitted)

abbrev pub request_lines : Outcome → List ℕ
request_lines o = lines_to (lines_of o) (length (items o.submitted))

abbrev pub opened_line : List Opened → ℕ → List ℕ
opened_line opened k = endpoint_line k (get_or opened k not_opened).answer

abbrev pub endpoint_lines : List Opened → List ℕ
endpoint_lines opened = lines_to (opened_line opened) (length opened)

unfoldable pub listing_of : Outcome → List ℕ
listing_of o = endpoint_lines (items o.opened) ++ request_lines o
