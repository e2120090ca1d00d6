use mathlib.Core.Path.{refl}
use Rattle.replayer.specs.Replays.{rows_of}
use Rattle.replayer.proofs.turn.rows_of.Goals as goal

pub returns : goal.returns
unfolding rows_of
returns c = refl
