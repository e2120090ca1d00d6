use lib.Seq.{take-append_seam}
use Rattle.call_log.specs.Lines.{line_bytes}
use Rattle.call_log.proofs.line.Line.of.Goals as goal

pub returns : goal.returns
unfolding line_bytes
returns c =
    rw (c.copy_from_slice.ensures.after, take-append_seam)
