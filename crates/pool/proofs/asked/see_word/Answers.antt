use Rattle.pool.proofs.WordCases.{word_count_fits, word_sum_fits, word_seen}
use Rattle.pool.proofs.asked.see_word.Goals as goal

pub overflow_add-view-2 : goal.overflow_add-view-2
overflow_add-view-2 c = search word_sum_fits

pub returns : goal.returns
returns c = search word_seen
