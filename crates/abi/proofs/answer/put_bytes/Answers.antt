-- `abi::answer::put_bytes` meets its contract. The loop's invariant: what is left of the bytes gives what all of them give.
-- The measure is the bytes that are left. Assumes nothing.
use mathlib.Core.Path.{sym}
use native.Mathlib.Omega.{arith}
use Rattle.abi.proofs.Puts.{put-short, put-begins, put_next, put-done}
use Rattle.abi.proofs.answer.put_bytes.Goals as goal

pub returns-then-buffer-bytes : goal.returns-then-buffer-bytes
returns-then-buffer-bytes c = sym (put-short c.args.buffer.now c.args.bytes.now c.if-buffer-bytes.true)

pub loop-at-init : goal.loop-at-init
loop-at-init c = put-begins c.args.buffer.now c.args.bytes.now

pub bounds-bytes-at : goal.bounds-bytes-at
bounds-bytes-at c = omega arith

pub bounds-buffer-at : goal.bounds-buffer-at
bounds-buffer-at c = omega arith

pub overflow_add-at : goal.overflow_add-at
overflow_add-at c = omega arith

pub loop-at-smaller : goal.loop-at-smaller
loop-at-smaller c = omega arith

pub loop-at-preserved : goal.loop-at-preserved
loop-at-preserved c = put_next c.loop-at.invariant c.loop-at-test.true

pub shape_of-buffer : goal.shape_of-buffer
shape_of-buffer c = c.loop-at.invariant.long

pub returns : goal.returns
returns c = put-done c.loop-at.invariant c.loop-at-test.false c.if-buffer-bytes.false
