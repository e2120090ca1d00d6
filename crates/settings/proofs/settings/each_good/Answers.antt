use Rattle.settings.proofs.SettingsCases.{each_is}
use Rattle.settings.proofs.settings.each_good.Goals as goal

pub returns : goal.returns
returns c = each_is _ _ _ _ _ c.area_good-pool.ensures c.area_good-heads.ensures c.area_good-frames.ensures c.area_good-setups.ensures
