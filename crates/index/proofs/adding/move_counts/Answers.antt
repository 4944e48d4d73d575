-- `index::adding::move_counts` meets its contract: what stood from i up to the end stands one further. Assumes nothing.
use native.Mathlib.Omega.{arith}
use Rattle.index.proofs.Moving.{moving_begins, moving_within, moving_next, moving_done}
use Rattle.index.proofs.adding.move_counts.Goals as goal

pub loop-i-init : goal.loop-i-init
loop-i-init c = let a = c.args in moving_begins a.counts.now 1 a.from a.end c.requires.0 (omega (arith, c.requires.1))

pub overflow_sub-i : goal.overflow_sub-i
overflow_sub-i c = omega arith

pub offset_bounds-counts-i : goal.offset_bounds-counts-i
offset_bounds-counts-i c = omega arith

pub bounds-counts-i : goal.bounds-counts-i
bounds-counts-i c = omega (arith, moving_within c.loop-i.invariant)

pub overflow_add-counts : goal.overflow_add-counts
overflow_add-counts c = omega (arith, moving_within c.loop-i.invariant)

pub offset_bounds-counts-i-in-loop-i : goal.offset_bounds-counts-i-in-loop-i
offset_bounds-counts-i-in-loop-i c = omega arith

pub bounds-counts-i-in-loop-i : goal.bounds-counts-i-in-loop-i
bounds-counts-i-in-loop-i c = omega (arith, moving_within c.loop-i.invariant)

pub loop-i-smaller : goal.loop-i-smaller
loop-i-smaller c = omega arith

pub loop-i-preserved : goal.loop-i-preserved
loop-i-preserved c = moving_next c.loop-i.invariant c.loop-i-test.true

pub shape_of-counts : goal.shape_of-counts
shape_of-counts c = c.loop-i.invariant.long

pub returns : goal.returns
returns c = moving_done c.loop-i.invariant c.loop-i-test.false
