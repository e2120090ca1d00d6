use Rattle.word_ranges.proofs.SeenCases.{met_all}
use Rattle.word_ranges.proofs.seen.all_met.Goals as goal

pub returns : goal.returns
returns c = search met_all
