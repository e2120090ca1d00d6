use Rattle.settings.proofs.SettingsCases.{overlap_is}
use Rattle.settings.proofs.settings.no_overlap.Goals as goal

pub returns : goal.returns
returns c = overlap_is _ _ _ _ _ _ _ c.apart-pool_heads.ensures c.apart-pool_frames.ensures c.apart-pool_setups.ensures c.apart-heads_frames.ensures c.apart-heads_setups.ensures c.apart-frames_setups.ensures
