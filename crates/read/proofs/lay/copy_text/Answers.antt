-- `read::lay::copy_text` meets its contract: what is left to copy gives the whole.
-- Assumes nothing.
use mathlib.Core.Path.{refl}
use native.Mathlib.Omega.{arith}
use Rattle.read.proofs.Copying.{copying_begins, copying_left, copying_more, copying_done}
use Rattle.read.proofs.lay.copy_text.Goals as goal

pub bounds-message-from : goal.bounds-message-from
bounds-message-from c = omega arith

pub loop-text-init : goal.loop-text-init
loop-text-init c =
    let at_pre = c.requires in
    copying_begins at_pre.0 at_pre.1 refl

pub bounds-class-index : goal.bounds-class-index
bounds-class-index c = omega arith

pub overflow_add-text : goal.overflow_add-text
overflow_add-text c = omega (arith, c.loop-text.invariant, copying_left c.loop-text.invariant c.index.result c.index.ensures.0 c.loop-text-test.true)

pub bounds-text-out : goal.bounds-text-out
bounds-text-out c = let one = copying_left c.loop-text.invariant c.index.result c.index.ensures.0 c.loop-text-test.true in omega arith

pub overflow_add-n : goal.overflow_add-n
overflow_add-n c = omega arith

pub overflow_add-b : goal.overflow_add-b
overflow_add-b c = omega arith

pub bounds-message-from-in-loop-text : goal.bounds-message-from-in-loop-text
bounds-message-from-in-loop-text c = let one = copying_left c.loop-text.invariant c.index.result c.index.ensures.0 c.loop-text-test.true in omega arith

pub loop-text-smaller : goal.loop-text-smaller
loop-text-smaller c = omega arith

pub loop-text-preserved : goal.loop-text-preserved
loop-text-preserved c = copying_more c.loop-text.invariant c.index.result c.index.ensures.0 c.loop-text-test.true

pub shape_of-text : goal.shape_of-text
shape_of-text c = c.loop-text.invariant.same

pub returns : goal.returns
returns c = copying_done c.loop-text.invariant c.index.result c.index.ensures.0 c.loop-text-test.false
