use mathlib.Core.Path.{refl, sym, ap, ◌∙◌}
use native.Mathlib.Omega.{arith}
use Rattle.bitset.specs.declared.cursor.Cursor.{Cursor}
use Rattle.bitset.specs.Rest.{coming_of, next_of, settled_of}
use Rattle.bitset.proofs.CursorLaws.{coming_none, coming_next, coming_here, settled_none, settled_next, settled_here}
use Rattle.bitset.proofs.cursor.settled.Goals as goal

pub returns-then-at-gt128 : goal.returns-then-at-gt128
returns-then-at-gt128 c = (
  sym (settled_none c.loop-at.at c.if-at-gt128.true) ∙ c.loop-at.invariant.0,
  coming_none _ c.if-at-gt128.true c.loop-at-test.true ∙ c.loop-at.invariant.1,
)

pub loop-at-smaller : goal.loop-at-smaller
unfolding next_of
loop-at-smaller c = omega (arith, ap (λ (x : Cursor). x.base) c.next_word-at.ensures)

pub loop-at-preserved : goal.loop-at-preserved
loop-at-preserved c = (
  ap settled_of c.next_word-at.ensures ∙ settled_next _ c.if-at-gt128.false c.loop-at-test.true ∙ c.loop-at.invariant.0,
  ap coming_of c.next_word-at.ensures ∙ coming_next _ c.if-at-gt128.false c.loop-at-test.true ∙ c.loop-at.invariant.1,
)

pub returns : goal.returns
returns c = (
  sym (settled_here c.loop-at.at c.loop-at-test.false) ∙ c.loop-at.invariant.0,
  coming_here _ c.struct_known-1.given.1.0.fits c.loop-at-test.false ∙ c.loop-at.invariant.1,
)
