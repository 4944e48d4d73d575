-- `index::adding::move_codes` meets its contract: what stood from i up to the end stands a place further. Assumes nothing.
use native.Mathlib.Omega.{arith}
use Rattle.index.specs.Index.{place_size}
use Rattle.index.proofs.Moving.{moving_begins, moving_within, moving_next, moving_done}
use Rattle.index.proofs.adding.move_codes.Goals as goal

pub loop-i-init : goal.loop-i-init
loop-i-init c = let a = c.args in moving_begins a.codes.now place_size a.from a.end c.requires.0 c.requires.1

pub overflow_sub-i : goal.overflow_sub-i
overflow_sub-i c = omega arith

pub bounds-codes-i : goal.bounds-codes-i
bounds-codes-i c = omega (arith, moving_within c.loop-i.invariant)

pub overflow_add-codes : goal.overflow_add-codes
overflow_add-codes c = omega (arith, moving_within c.loop-i.invariant)

pub bounds-codes-i-in-loop-i : goal.bounds-codes-i-in-loop-i
bounds-codes-i-in-loop-i c = omega (arith, moving_within c.loop-i.invariant)

pub loop-i-smaller : goal.loop-i-smaller
loop-i-smaller c = omega arith

pub loop-i-preserved : goal.loop-i-preserved
loop-i-preserved c = moving_next c.loop-i.invariant c.loop-i-test.true

pub shape_of-codes : goal.shape_of-codes
shape_of-codes c = c.loop-i.invariant.long

pub returns : goal.returns
returns c = moving_done c.loop-i.invariant c.loop-i-test.false
