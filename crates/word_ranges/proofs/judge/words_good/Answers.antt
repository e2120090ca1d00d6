use Rattle.word_ranges.proofs.JudgeCases.{words_core, words_length, words_slots}
use Rattle.word_ranges.proofs.judge.words_good.Goals as goal

pub returns-then-not-core_good : goal.returns-then-not-core_good
returns-then-not-core_good c = search words_core

pub returns-then-slots-endpoints : goal.returns-then-slots-endpoints
returns-then-slots-endpoints c = search words_length

pub returns : goal.returns
returns c = search words_slots
