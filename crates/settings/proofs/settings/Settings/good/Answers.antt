use mathlib.Core.Path.{◌∙◌}
use Rattle.settings.proofs.SettingsCases.{numbers_tell, good_numbers, good_not}
use Rattle.settings.proofs.settings.Settings.good.Goals as goal

pub each_good-requires : goal.each_good-requires
each_good-requires c = numbers_tell _ _ c.numbers_good.ensures c.if-numbers_good.true

pub no_overlap-requires : goal.no_overlap-requires
no_overlap-requires c = numbers_tell _ _ c.numbers_good.ensures c.if-numbers_good.true

pub returns-then-numbers_good : goal.returns-then-numbers_good
returns-then-numbers_good c = good_numbers _ _ _ _ c.numbers_good.ensures c.if-numbers_good.true c.each_good.ensures c.no_overlap.ensures

pub returns-else-numbers_good : goal.returns-else-numbers_good
returns-else-numbers_good c = c.if-numbers_good.false ∙ good_not _ _ c.numbers_good.ensures c.if-numbers_good.false
