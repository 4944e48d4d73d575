-- `line::finder::text_end` meets its contract. The loop's invariant: the run from here, cut at `stop`, ends where the whole one does.
-- Assumes nothing.
use native.Mathlib.Omega.{arith}
use Rattle.line.proofs.Runs.{text_run_turn_more, text_run_turn_stop}
use Rattle.line.proofs.finder.text_end.Goals as goal

pub loop-i-init : goal.loop-i-init
loop-i-init c = omega arith

pub bounds-message-i : goal.bounds-message-i
bounds-message-i c = omega arith

pub returns-then-message-i-lt-SPACE : goal.returns-then-message-i-lt-SPACE
returns-then-message-i-lt-SPACE c =
    let at-args = c.args in
    omega (arith, text_run_turn_stop at-args.message.now c.loop-i.i (omega arith) c.if-message-i-lt-SPACE.true)

pub overflow_add-i : goal.overflow_add-i
overflow_add-i c = omega arith

pub loop-i-smaller : goal.loop-i-smaller
loop-i-smaller c = omega arith

pub loop-i-preserved : goal.loop-i-preserved
loop-i-preserved c =
    let at-args = c.args in
    omega (arith, text_run_turn_more at-args.message.now c.loop-i.i (omega arith) c.if-message-i-lt-SPACE.false)

pub returns : goal.returns
returns c = omega arith
