use mathlib.Core.Path.{◌∙◌}
use Rattle.bitset.specs.Rest.{cursor_of}
use Rattle.bitset.proofs.CursorLaws.{coming_all}
use Rattle.bitset.proofs.cursor.cursor_of.Goals as goal

pub returns : goal.returns
unfolding cursor_of
returns c = (c.settled.ensures.0, c.settled.ensures.1 ∙ coming_all c.args.w)
