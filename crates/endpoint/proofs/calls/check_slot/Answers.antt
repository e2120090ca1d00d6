use Rattle.endpoint.proofs.WordsCases.{words_busy, words_passed, words_shut, words_value}
use Rattle.endpoint.proofs.calls.check_slot.Goals as goal

pub returns-then-not-is_open : goal.returns-then-not-is_open
returns-then-not-is_open c = search words_shut

pub returns-then-uncollected : goal.returns-then-uncollected
returns-then-uncollected c = search words_busy

pub returns-then-not-good : goal.returns-then-not-good
returns-then-not-good c = search words_value

pub returns : goal.returns
returns c = search words_passed
