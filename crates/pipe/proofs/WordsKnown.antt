-- What the types of a pipe and of a request say of their numbers.
use Rattle.std.specs.Prelude.{◌^◌, ◌<◌, List}
use mir.Val.{Val}
use denote.Laws.{Is}
use denote.Struct.Laws as LL
use Rattle.pipe.specs.declared.endpoints.Pipe.{Pipe}
use Rattle.pipe.specs.contracts.endpoints.Pipe as P
use Rattle.pipe.proofs.endpoints.Pipe.TheLaws as P'

pub pipe_next_below : (p : Pipe) (vs : List Val) → Is P.the_row p vs → p.next < 2 ^ 64
pipe_next_below p vs g = (LL.owed P.the_type P'.the_laws p _ g).1.1.1.0.1
