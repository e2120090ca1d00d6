use Rattle.settings.proofs.SettingsCases.{numbers_is}
use Rattle.settings.proofs.settings.numbers_good.Goals as goal

pub returns : goal.returns
returns c = numbers_is _
