use Rattle.direct_calls.proofs.TakesCases.{frames_asked, frames_else}
use Rattle.direct_calls.proofs.takes.takes_frames.Goals as goal

pub returns-then-frames-eq-FRAMES : goal.returns-then-frames-eq-FRAMES
returns-then-frames-eq-FRAMES c = search frames_asked

pub returns-else-frames-eq-FRAMES : goal.returns-else-frames-eq-FRAMES
returns-else-frames-eq-FRAMES c = search frames_else
