use Rattle.job_run.proofs.PrintCases.{front_taken}
use Rattle.job_run.proofs.print.print_read.Goals as goal

pub slice_bounds-print_sheet-end : goal.slice_bounds-print_sheet-end
slice_bounds-print_sheet-end c = search front_taken
