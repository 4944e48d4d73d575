-- `index::finding::seek` meets its contract: the half that is kept comes to the place that all come to. The measure is the places that are left.
-- Assumes nothing.
use mathlib.Core.Path.{sym, ◌∙◌}
use native.Mathlib.Omega.{arith}
use Rattle.index.proofs.KeptHalf.{halving_begins, middle_named, keeps_before, keeps_after, stops, halving_ends}
use Rattle.index.proofs.finding.seek.Goals as goal

pub loop-low-init : goal.loop-low-init
loop-low-init c = halving_begins c.args.codes.now c.args.named c.args.code.now c.requires.0

-- numbers are small
pub overflow_add-middle : goal.overflow_add-middle
overflow_add-middle c = omega (arith, c.requires.0, c.loop-low.invariant.within)

pub overflow_mul-middle : goal.overflow_mul-middle
overflow_mul-middle c = omega (arith, c.requires.0, c.loop-low.invariant.within)

pub compare-requires : goal.compare-requires
compare-requires c = omega (arith, c.requires.0, c.requires.1, c.requires.2, middle_named c.loop-low.invariant c.loop-low-test.true)

pub loop-low-smaller-in-Before : goal.loop-low-smaller-in-Before
loop-low-smaller-in-Before c = omega arith

pub loop-low-preserved-in-Before : goal.loop-low-preserved-in-Before
loop-low-preserved-in-Before c = keeps_before c.loop-low.invariant c.loop-low-test.true (sym c.compare.ensures ∙ c.in-Before.is)

pub returns-in-Same : goal.returns-in-Same
returns-in-Same c = stops c.loop-low.invariant c.loop-low-test.true (sym c.compare.ensures ∙ c.in-Same.is)

pub overflow_add-low : goal.overflow_add-low
overflow_add-low c = omega (arith, c.requires.0, c.loop-low.invariant.within)

pub loop-low-smaller : goal.loop-low-smaller
loop-low-smaller c = omega arith

pub loop-low-preserved : goal.loop-low-preserved
loop-low-preserved c = keeps_after c.loop-low.invariant c.loop-low-test.true (sym c.compare.ensures ∙ c.in-After.is)

pub returns : goal.returns
returns c = halving_ends c.loop-low.invariant c.loop-low-test.false
