use Rattle.opening.proofs.OpenCases.{count_done, count_refused}
use Rattle.opening.proofs.open.open_count.Goals as goal

pub returns-in-Ok : goal.returns-in-Ok
returns-in-Ok c = search count_done

pub returns-in-Err : goal.returns-in-Err
returns-in-Err c = search count_refused
