use Rattle.settings.proofs.SettingsCases.{area_is}
use borrow.Author.Rules.{rules}
use Rattle.settings.proofs.settings.area_good.Goals as goal

pub returns : goal.returns
returns c = area_is _ _ _ (search rules)
