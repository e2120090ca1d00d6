use Rattle.std.proofs.Common.{arith}
use Rattle.store.proofs.OwnersLaws.{owner_further, owner_here, owner_none}
use Rattle.store.proofs.owners.owner_of.Goals as goal

pub returns-then-holds : goal.returns-then-holds
returns-then-holds c = owner_here _ _ c.loop-k.k _ c.loop-k-test.true c.loop-k.invariant c.holds.ensures c.if-holds.true

pub loop-k-preserved : goal.loop-k-preserved
loop-k-preserved c = owner_further _ _ c.loop-k.k _ c.loop-k-test.true c.loop-k.invariant c.holds.ensures c.if-holds.false

pub returns : goal.returns
returns c = owner_none _ _ c.loop-k.k (omega arith) c.loop-k.invariant
