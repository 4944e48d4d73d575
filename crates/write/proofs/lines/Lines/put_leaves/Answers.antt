-- `write::lines::Lines::put_leaves` meets its contract: each turn puts a leaf and the separator after it, and what is left of the rows gives the
-- whole.
-- Assumes nothing.
use native.Mathlib.Omega.{arith}
use mathlib.Core.Path.{◌≡◌, ap, ◌∙◌}
use Prim.Native.Nat.{◌+◌, ◌-◌}
use Rattle.table.specs.Rows.{length_in}
use Rattle.write.proofs.LeavesLeft.{leaves_begin, leaf-fits, last_fits, last_turn, leading-fits, leading_turn, leaves-written}
use Rattle.write.proofs.lines.Lines.put_leaves.Goals as goal
use Rattle.write.proofs.lines.Lines.put_leaves.Goals.{After-wide-2}

pub loop-row-init : goal.loop-row-init
loop-row-init c = leaves_begin c.requires

pub put_text-put-requires : goal.put_text-put-requires
put_text-put-requires c = leaf-fits c.requires c.loop-row.invariant (omega arith) c.wide.ensures.0

pub put_separator-going-requires : goal.put_separator-going-requires
put_separator-going-requires c =
    leading-fits c.requires c.loop-row.invariant (omega arith) c.wide.ensures.0 c.put_text-put.ensures (λ e. let z : ⊥ = omega arith in z)

pub loop-row-preserved : goal.loop-row-preserved
loop-row-preserved c =
    leading_turn c.requires c.loop-row.invariant (omega arith) c.wide.ensures.0 c.put_text-put.ensures (λ e. let z : ⊥ = omega arith in z)
    c.put_separator-going.ensures

-- the last leaf, and its CR
last_row : (c : After-wide-2) → c.loop-row.row + 1 ≡ c.args.leaves.count
last_row c = omega (arith, c.requires.some, c.loop-row-test.false, c.loop-row.auto.row-end)

last_length : (c : After-wide-2) → c.wide-2.result ≡ length_in c.args.leaves.rows.now c.loop-row.row
last_length c = c.wide-2.ensures.0 ∙ ap (length_in c.args.leaves.rows.now) (let e : c.args.leaves.count - 1 ≡ c.loop-row.row = omega (arith, last_row c) in e)

pub put_text-put-requires-2 : goal.put_text-put-requires-2
put_text-put-requires-2 c =
    let s = (goal.at.put_text-put-requires-2 c).After-wide-2 in
    leaf-fits c.requires c.loop-row.invariant (omega (arith, last_row s)) (last_length s)

pub close-requires : goal.close-requires
close-requires c =
    let s = (goal.at.close-requires c).After-wide-2 in
    last_fits c.requires c.loop-row.invariant (omega (arith, last_row s)) (last_length s) c.put_text-put-2.ensures (last_row s)

pub returns : goal.returns
returns c =
    let s = (goal.at.returns c).After-wide-2 in
    leaves-written c.requires
    (last_turn c.requires c.loop-row.invariant (omega (arith, last_row s)) (last_length s) c.put_text-put-2.ensures (last_row s) c.close.ensures)
    (omega (arith, last_row s))
