use mathlib.Core.Bool.{not}
use mathlib.Core.Path.{ap}
use Rattle.ehci.proofs.LookLaws.{asks_none, asks_refused, asks_slot}
use Rattle.ehci.proofs.WordsCalls.{good_on}
use Rattle.ehci.proofs.look.asks.Goals as goal

pub returns-then-not-good : goal.returns-then-not-good
returns-then-not-good c = asks_refused _ _ _ _ _ (ap not c.if-not-good.true) c.no_ask_words.ensures

pub ask-requires : goal.ask-requires
ask-requires c = search good_on

pub returns-in-Collect : goal.returns-in-Collect
returns-in-Collect c = asks_slot _ _ _ _ _ _ _ _ c.in-Collect.is (ap not c.if-not-good.false) c.ask.ensures.result_value c.ask.ensures.ask_words_good

pub returns-in_default : goal.returns-in_default
returns-in_default c = asks_none _ _ _ _ _ c.in_default.not-Collect c.no_ask_words-in_default.ensures
