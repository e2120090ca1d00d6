use Rattle.std.specs.Prelude.{length}
use Rattle.direct_calls.proofs.FramesCases.{frames_decides, frames_refuses}
use Rattle.direct_calls.proofs.TakesCases.{frames_taken}
use mathlib.Core.Path.{ap}
use mathlib.Core.Bool.{not}
use Rattle.direct_calls.proofs.requests.cancel.Goals as goal

clauses : {A B : Type 0} → A × B → record { good : A; heads_len : B }
clauses p = record { good = p.0; heads_len = p.1 }

pub returns-then-not-takes_frames : goal.returns-then-not-takes_frames
returns-then-not-takes_frames c = search frames_refuses

pub cancel-requires : goal.cancel-requires
cancel-requires c = clauses (
    let s = c.args in
    frames_taken s.core s.slots.now (length s.heads.now) (length s.frames.now) _ c.takes_frames.ensures (ap not c.if-not-takes_frames.false))

pub returns : goal.returns
returns c = search frames_decides
