use Rattle.request.proofs.SettleCases.{rows_frames, rows_ring}
use Rattle.request.proofs.settle.link_head.Goals as goal

pub returns-then-is_interrupt : goal.returns-then-is_interrupt
returns-then-is_interrupt c = search rows_frames

pub returns-else-is_interrupt : goal.returns-else-is_interrupt
returns-else-is_interrupt c = search rows_ring
