use Rattle.settings.proofs.SettingsCases.{apart_first_lem, apart_second}
use Rattle.settings.proofs.settings.apart.Goals as goal

pub returns-then-a-b : goal.returns-then-a-b
returns-then-a-b c = search apart_first_lem

pub returns-else-a-b : goal.returns-else-a-b
returns-else-a-b c = search apart_second
