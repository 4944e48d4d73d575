-- `line::finder::low_end` meets its contract. The loop's invariant: the run from here ends where the whole one does.
-- Assumes nothing.
use native.Mathlib.Omega.{arith}
use Rattle.line.proofs.Runs.{low_run_turn_more, low_run_turn_stop, low_run_turn_end}
use Rattle.line.proofs.finder.low_end.Goals as goal

pub loop-i-init : goal.loop-i-init
loop-i-init c = omega arith

pub bounds-message-i : goal.bounds-message-i
bounds-message-i c = omega arith

pub returns-then-message-i-ge-SPACE : goal.returns-then-message-i-ge-SPACE
returns-then-message-i-ge-SPACE c =
    let at-args = c.args in
    omega (arith, low_run_turn_stop at-args.message.now c.loop-i.i (omega arith) c.if-message-i-ge-SPACE.true)

pub overflow_add-i : goal.overflow_add-i
overflow_add-i c = omega arith

pub loop-i-smaller : goal.loop-i-smaller
loop-i-smaller c = omega arith

pub loop-i-preserved : goal.loop-i-preserved
loop-i-preserved c =
    let at-args = c.args in
    omega (arith, low_run_turn_more at-args.message.now c.loop-i.i (omega arith) c.if-message-i-ge-SPACE.false)

pub returns : goal.returns
returns c =
    let at-args = c.args in
    omega (arith, low_run_turn_end at-args.message.now c.loop-i.i (omega arith))
