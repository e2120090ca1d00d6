use Rattle.bitset.proofs.CursorLaws.{stays, step_here, step_on}
use Rattle.bitset.proofs.cursor.advance.Goals as goal

pub returns-then-c-eq0 : goal.returns-then-c-eq0
returns-then-c-eq0 c = stays _ c.if-c-eq0.true

pub returns-then-rest-ne0 : goal.returns-then-rest-ne0
returns-then-rest-ne0 c = step_here _ _ c.struct_known-1.given.1.0.fits c.if-c-eq0.false c.drop_lowest-rest.ensures c.if-rest-ne0.true

pub returns : goal.returns
returns c = step_on _ _ c.struct_known-1.given.1.0.fits c.if-c-eq0.false c.drop_lowest-rest.ensures
    c.settled.result c.settled.ensures.0 c.settled.ensures.1
