-- `write::leaf_rows::Leaves::has_leaves` meets its contract. One law a return.
-- Assumes nothing.
use native.Mathlib.Omega.{arith}
use mathlib.Core.Bool.{false≢true, true≢false}
use Prim.Native.Nat.{◌+◌, ◌-◌}
use Rattle.write.proofs.Rising.{segment-whole, segment_decides}
use Rattle.write.proofs.leaf_rows.Leaves.has_leaves.Goals as goal

pub returns-then-self-end : goal.returns-then-self-end
returns-then-self-end c = (λ e. absurd (false≢true e), λ e w. c.if-self-end.true (w.within (c.args.first + c.args.leaves - 1) (omega (arith, c.if-leaves-eq0.false)) (omega (arith, c.if-leaves-eq0.false))))

pub returns-then-end-self : goal.returns-then-end-self
returns-then-end-self c =
    let pre = c.requires in (
      λ e.
          segment-whole c.args.self.rows.now c.args.self.count pre.sized pre.next c.args.first (c.args.first + c.args.leaves) (omega (arith, c.if-leaves-eq0.false))
          (omega (arith, c.if-self-first.false, pre.to)) c.if-self-end.false (λ l q. omega (arith, c.if-end-self.true)),
      λ e. absurd (true≢false e),
    )

pub returns : goal.returns
returns c =
    let pre = c.requires in
    segment_decides c.args.self.rows.now c.args.self.count pre.sized pre.next c.args.first (c.args.first + c.args.leaves) (omega (arith, c.if-leaves-eq0.false))
    (omega (arith, c.if-self-first.false, pre.to, c.if-end-self.false)) c.if-self-end.false
