-- `abi::answer::put_numbers` meets its contract. The loop's invariant: what is left of the numbers gives what all of them give.
-- The measure is the numbers that are left. Assumes nothing.
use mathlib.Core.Path.{sym}
use native.Mathlib.Omega.{arith}
use Rattle.abi.proofs.Puts.{put-short, put-begins, put_next, put-done}
use Rattle.abi.proofs.answer.put_numbers.Goals as goal

pub returns-then-answer-numbers : goal.returns-then-answer-numbers
returns-then-answer-numbers c = sym (put-short c.args.answer.now c.args.numbers.now c.if-answer-numbers.true)

pub loop-at-init : goal.loop-at-init
loop-at-init c = put-begins c.args.answer.now c.args.numbers.now

pub offset_bounds-numbers-at : goal.offset_bounds-numbers-at
offset_bounds-numbers-at c = omega arith

pub bounds-numbers-at : goal.bounds-numbers-at
bounds-numbers-at c = omega arith

pub offset_bounds-answer-at : goal.offset_bounds-answer-at
offset_bounds-answer-at c = omega arith

pub bounds-answer-at : goal.bounds-answer-at
bounds-answer-at c = omega arith

pub overflow_add-at : goal.overflow_add-at
overflow_add-at c = omega arith

pub loop-at-smaller : goal.loop-at-smaller
loop-at-smaller c = omega arith

pub loop-at-preserved : goal.loop-at-preserved
loop-at-preserved c = put_next c.loop-at.invariant c.loop-at-test.true

pub shape_of-answer : goal.shape_of-answer
shape_of-answer c = c.loop-at.invariant.long

pub returns : goal.returns
returns c = put-done c.loop-at.invariant c.loop-at-test.false c.if-answer-numbers.false
