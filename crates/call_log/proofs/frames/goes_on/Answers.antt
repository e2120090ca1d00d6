use borrow.Author.Tests.{le-ltb, lt-ltb}
use Rattle.call_log.specs.Changes.{goes_further}
use Rattle.call_log.proofs.frames.goes_on.Goals as goal

pub returns-then-i-after : goal.returns-then-i-after
unfolding goes_further
returns-then-i-after c = rw (lt-ltb _ _ c.if-i-after.true)

pub returns : goal.returns
unfolding goes_further
returns c = rw (le-ltb _ _ c.if-i-after.false)
