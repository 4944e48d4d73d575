-- `read::lay::lay_line` meets its contract: each turn copies text and closes a leaf, and what is left gives the whole.
-- Assumes nothing.
use mathlib.Core.Path.{◌≡◌, sym, ap, ◌∙◌}
use native.Mathlib.Omega.{arith}
use lib.ListN.{get_or}
use Rattle.laws.proofs.Bytes.{bytes-known}
use Rattle.read.specs.inner.Laying.{next_leaf}
use Rattle.read.proofs.LineLaying.{text-fits, row_fits, going-begins, going-text, going_stops, going_done, going-leaf}
use Rattle.read.proofs.lay.lay_line.Goals as goal
use Rattle.read.proofs.lay.lay_line.Goals.{After-copy_text-n}

-- the field separator ends a leaf and no line
field_sort : (c : After-copy_text-n) → get_or c.args.class.now c.args.field 0 ≡ 1
field_sort c = c.requires.sorted

pub loop-leaves-init : goal.loop-leaves-init
loop-leaves-init c = going-begins (bytes-known c.args.message.now c.shared_slice_known-1.given) c.requires.lays

pub copy_text-n-requires : goal.copy_text-n-requires
copy_text-n-requires c = text-fits c.loop-leaves.invariant.asked

pub overflow_add-stop : goal.overflow_add-stop
overflow_add-stop c =
    let stopped = going-text c.loop-leaves.invariant c.copy_text-n.ensures in
    omega (arith, stopped.asked.ahead, c.well_formed)

pub overflow_add-now : goal.overflow_add-now
overflow_add-now c =
    let stopped = going-text c.loop-leaves.invariant c.copy_text-n.ensures in
    omega arith

pub overflow_add-i : goal.overflow_add-i
overflow_add-i c =
    let stopped = going-text c.loop-leaves.invariant c.copy_text-n.ensures in
    omega (arith, stopped.asked.ahead, c.well_formed)

pub bounds-message-stop : goal.bounds-message-stop
bounds-message-stop c =
    let stopped = going-text c.loop-leaves.invariant c.copy_text-n.ensures in
    omega (arith, stopped.asked.ahead)

pub put_leaf-requires : goal.put_leaf-requires
put_leaf-requires c =
    let stopped = going-text c.loop-leaves.invariant c.copy_text-n.ensures in
    row_fits stopped.asked c.args.field (sym c.if-b-field.true) (λ z. omega (arith, z, field_sort (goal.at.put_leaf-requires c).After-copy_text-n))
    (going_stops c.loop-leaves.invariant c.copy_text-n.ensures)

pub next_leaf-now-requires : goal.next_leaf-now-requires
next_leaf-now-requires c =
    let stopped = going-text c.loop-leaves.invariant c.copy_text-n.ensures in
    record { few = omega (arith, stopped.asked.few); counted = stopped.asked.counted }

pub loop-leaves-smaller-then-b-field : goal.loop-leaves-smaller-then-b-field
loop-leaves-smaller-then-b-field c =
    let stopped = going-text c.loop-leaves.invariant c.copy_text-n.ensures in
    omega (arith, stopped.asked.ahead)

pub loop-leaves-preserved-then-b-field : goal.loop-leaves-preserved-then-b-field
loop-leaves-preserved-then-b-field c =
    let sort = field_sort (goal.at.loop-leaves-preserved-then-b-field c).After-copy_text-n in
    going-leaf (going-text c.loop-leaves.invariant c.copy_text-n.ensures) c.args.field (sym c.if-b-field.true)
    (λ z. omega (arith, z, sort)) (going_stops c.loop-leaves.invariant c.copy_text-n.ensures) c.put_leaf.ensures
    (c.next_leaf-now.ensures ∙ ap (next_leaf _) (sym sort))

pub bounds-class-index : goal.bounds-class-index
bounds-class-index c = omega arith

pub shape_of-text-then-sort-eq5 : goal.shape_of-text-then-sort-eq5
shape_of-text-then-sort-eq5 c = (going-text c.loop-leaves.invariant c.copy_text-n.ensures).text-length

pub shape_of-leaves-then-sort-eq5 : goal.shape_of-leaves-then-sort-eq5
shape_of-leaves-then-sort-eq5 c = (going-text c.loop-leaves.invariant c.copy_text-n.ensures).leaves-length

pub returns-then-sort-eq5 : goal.returns-then-sort-eq5
returns-then-sort-eq5 c = going_done (going-text c.loop-leaves.invariant c.copy_text-n.ensures) c.index.result c.index.ensures.0 c.if-sort-eq5.true

pub put_leaf-requires-else-b-field : goal.put_leaf-requires-else-b-field
put_leaf-requires-else-b-field c =
    let stopped = going-text c.loop-leaves.invariant c.copy_text-n.ensures in
    row_fits stopped.asked c.index.result c.index.ensures.0 c.if-sort-eq5.false
    (going_stops c.loop-leaves.invariant c.copy_text-n.ensures)

pub next_leaf-now-requires-else-b-field : goal.next_leaf-now-requires-else-b-field
next_leaf-now-requires-else-b-field c =
    let stopped = going-text c.loop-leaves.invariant c.copy_text-n.ensures in
    record { few = omega (arith, stopped.asked.few); counted = stopped.asked.counted }

pub loop-leaves-smaller : goal.loop-leaves-smaller
loop-leaves-smaller c =
    let stopped = going-text c.loop-leaves.invariant c.copy_text-n.ensures in
    omega (arith, stopped.asked.ahead)

pub loop-leaves-preserved : goal.loop-leaves-preserved
loop-leaves-preserved c =
    going-leaf (going-text c.loop-leaves.invariant c.copy_text-n.ensures) c.index.result c.index.ensures.0
    c.if-sort-eq5.false (going_stops c.loop-leaves.invariant c.copy_text-n.ensures) c.put_leaf-else-b-field.ensures c.next_leaf-now-else-b-field.ensures
