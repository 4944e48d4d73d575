-- `index::soundness::rises` meets its contract: what is left rises exactly where all do. The measure is how far the last place is.
-- Assumes nothing.
use mathlib.Core.Path.{sym, ◌∙◌}
use Prim.Native.Nat.{◌-◌}
use native.Mathlib.Omega.{arith}
use Rattle.index.proofs.Followed.{rising-begins, rising-room, rising-next, rising-fails, rising-done}
use Rattle.index.proofs.soundness.rises.Goals as goal

pub overflow_sub-last : goal.overflow_sub-last
overflow_sub-last c = omega (arith, c.requires.0)

pub overflow_mul-last : goal.overflow_mul-last
overflow_mul-last c = omega (arith, c.requires.0, c.requires.1)

pub loop-at-init : goal.loop-at-init
loop-at-init c = let a = c.args in rising-begins a.codes.now (a.named - 1)

pub follows-requires : goal.follows-requires
follows-requires c = (omega (arith, c.requires.0, c.requires.1, rising-room c.loop-at.invariant c.loop-at-test.true), c.requires.2)

pub returns-then-not-follows : goal.returns-then-not-follows
returns-then-not-follows c =
    rising-fails c.loop-at.invariant c.loop-at-test.true
    (sym (c.if-not-follows.true) ∙ c.follows.ensures)

pub overflow_add-at : goal.overflow_add-at
overflow_add-at c = omega (arith, c.requires.0, c.requires.1, rising-room c.loop-at.invariant c.loop-at-test.true)

pub loop-at-smaller : goal.loop-at-smaller
loop-at-smaller c = omega (arith, c.loop-at-test.true)

pub loop-at-preserved : goal.loop-at-preserved
loop-at-preserved c =
    rising-next c.loop-at.invariant c.loop-at-test.true
    (sym (c.if-not-follows.false) ∙ c.follows.ensures)

pub returns : goal.returns
returns c = rising-done c.loop-at.invariant c.loop-at-test.false
