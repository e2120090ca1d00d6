use Rattle.replayer.proofs.ActCases.{fresh_kept}
use Rattle.replayer.proofs.keeper.fresh_keeper.Goals as goal

pub returns : goal.returns
returns c = fresh_kept _ _ c.blank_store.ensures c.new.ensures
