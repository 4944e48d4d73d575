-- `order::owners::owner_of` meets its contract. The loop's invariant: what is still to be written gives what is to be known.
-- The measure is the places that are left. Assumes nothing.
use mathlib.Core.Path.{ap, ◌∙◌}
use Prim.Native.Nat.{ℕ}
use native.Mathlib.Omega.{arith}
use lib.ListN.{get_or}
use Rattle.order.specs.inner.Owning.{added}
use Rattle.order.proofs.Nearest.{writing_begins, writing_on, writing_waits, writing-done}
use Rattle.order.proofs.owners.owner_of.Goals as goal

pub offset_bounds-nearest-place : goal.offset_bounds-nearest-place
offset_bounds-nearest-place c = omega arith

pub bounds-nearest-place : goal.bounds-nearest-place
bounds-nearest-place c = omega arith

pub loop-next-init : goal.loop-next-init
loop-next-init c =
    let at-args = c.args in
    let at-place-of = c.place_of-place in
    writing_begins at-args.nearest.now at-place-of.result at-args.row

pub overflow_add-next : goal.overflow_add-next
overflow_add-next c = omega arith

pub offset_bounds-nearest-above : goal.offset_bounds-nearest-above
offset_bounds-nearest-above c = omega arith

pub bounds-nearest-above : goal.bounds-nearest-above
bounds-nearest-above c = omega arith

pub loop-next-smaller-then-place-above : goal.loop-next-smaller-then-place-above
loop-next-smaller-then-place-above c = omega arith

pub loop-next-preserved-then-place-above : goal.loop-next-preserved-then-place-above
loop-next-preserved-then-place-above c =
    let at-loop = c.loop-next in
    let at-loop-test = c.loop-next-test in
    let at-if1 = c.if-place-above in
    writing_on at-loop.invariant at-loop-test.true at-if1.true

pub loop-next-smaller : goal.loop-next-smaller
loop-next-smaller c = omega arith

pub loop-next-preserved : goal.loop-next-preserved
loop-next-preserved c =
    let at-loop = c.loop-next in
    let at-loop-test = c.loop-next-test in
    let at-if1 = c.if-place-above in
    writing_waits at-loop.invariant at-loop-test.true at-if1.false

pub returns : goal.returns
returns c =
    let at-args = c.args in
    let at-place-of = c.place_of-place in
    let at-loop = c.loop-next in
    let at-loop-test = c.loop-next-test in
    record {
      owner = ap (λ (p : ℕ). get_or at-args.nearest.now p 0) at-place-of.ensures.0;
      known =
          writing-done at-loop.invariant at-place-of.ensures.1 at-loop-test.false
          ∙ ap (λ (p : ℕ). added at-args.nearest.now p at-args.row) at-place-of.ensures.0;
    }
