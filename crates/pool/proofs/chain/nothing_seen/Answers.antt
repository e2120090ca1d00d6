use Rattle.pool.proofs.ChainCases.{seen_none}
use Rattle.pool.proofs.chain.nothing_seen.Goals as goal

pub returns : goal.returns
returns c = seen_none
