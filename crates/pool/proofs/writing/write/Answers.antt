use Rattle.std.proofs.Common.{◌∙◌, ap, sym, subst}
use Rattle.pool.specs.Words.{MarkingGood, marked_of, written_with}
use Rattle.pool.proofs.writing.write.Goals as goal

pub returns : goal.returns
unfolding written_with
returns c = c.mark_token.ensures ∙ ap (marked_of c.args.w.marking) c.lay.ensures
