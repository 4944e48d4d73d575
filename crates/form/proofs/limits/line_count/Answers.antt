-- `form::limits::line_count` meets its contract: the sum is below the number of bytes, since `more` is less than `line`.
-- Assumes nothing.
use mathlib.Core.Path.{sym}
use Prim.Native.Nat.{◌+◌, ◌-◌}
use native.Mathlib.Nat.{div-le_self}
use native.Mathlib.Omega.{arith}
use Rattle.form.specs.Limits.{rounded_up}
use Rattle.form.proofs.LineCount.{one_line, more-lines}
use Rattle.form.proofs.limits.line_count.Goals as goal

pub overflow_sub-result : goal.overflow_sub-result
overflow_sub-result c = omega arith

pub overflow_sub-result-else-bytes-limits : goal.overflow_sub-result-else-bytes-limits
overflow_sub-result-else-bytes-limits c = omega arith

pub overflow_add-result : goal.overflow_add-result
overflow_add-result c = omega arith

pub nonzero_div-result : goal.nonzero_div-result
nonzero_div-result c = omega arith

pub overflow_add-result-else-bytes-limits : goal.overflow_add-result-else-bytes-limits
overflow_add-result-else-bytes-limits c =
    let at-args = c.args in
    omega (arith, div-le_self (at-args.bytes - at-args.limits.line + (at-args.limits.more - 1)) at-args.limits.more)

pub returns-then-bytes-limits : goal.returns-then-bytes-limits
returns-then-bytes-limits c =
    let at-args = c.args in
    let at-if1 = c.if-bytes-limits in
    sym (one_line at-args.limits at-args.bytes at-if1.true)

pub returns-else-bytes-limits : goal.returns-else-bytes-limits
unfolding rounded_up
returns-else-bytes-limits c =
    let at-args = c.args in
    let at-if1 = c.if-bytes-limits in
    sym (more-lines at-args.limits at-args.bytes at-if1.false)
