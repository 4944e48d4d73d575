-- `index::code::compare` meets its contract: what is left of both stands to each other as they do. The measure is the bytes that are left.
-- Assumes nothing.
use native.Mathlib.Omega.{arith}
use Rattle.index.proofs.Beside.{beside_begins, beside_shorter, beside_same, beside_longer, beside_less, beside_greater, beside_alike}
use Rattle.index.proofs.code.compare.Goals as goal

pub length_at-n-requires : goal.length_at-n-requires
length_at-n-requires c = omega (arith, c.requires)

pub loop-k-init : goal.loop-k-init
loop-k-init c =
    let a = c.args in
    beside_begins a.codes.now a.at a.code.now c.length_at-n.result c.length_at-n.ensures.0

pub returns-then-k-n : goal.returns-then-k-n
returns-then-k-n c = beside_shorter c.loop-k.invariant c.loop-k-test.true c.if-k-n.true

pub bounds-code-k : goal.bounds-code-k
bounds-code-k c = omega arith

pub overflow_add-k : goal.overflow_add-k
overflow_add-k c = omega arith

pub overflow_add-b : goal.overflow_add-b
overflow_add-b c = omega (arith, c.requires)

pub bounds-codes-at : goal.bounds-codes-at
bounds-codes-at c = omega (arith, c.requires)

pub returns-then-a-b-2 : goal.returns-then-a-b-2
returns-then-a-b-2 c = beside_less c.loop-k.invariant c.requires c.loop-k-test.true c.if-k-n.false c.if-a-b-2.true

pub returns-else-a-b-2 : goal.returns-else-a-b-2
returns-else-a-b-2 c =
    beside_greater c.loop-k.invariant c.requires c.loop-k-test.true c.if-k-n.false
    c.if-a-b.true c.if-a-b-2.false

pub loop-k-smaller : goal.loop-k-smaller
loop-k-smaller c = omega arith

pub loop-k-preserved : goal.loop-k-preserved
loop-k-preserved c = beside_alike c.loop-k.invariant c.requires c.loop-k-test.true c.if-k-n.false c.if-a-b.false

pub returns-then-k-n-2 : goal.returns-then-k-n-2
returns-then-k-n-2 c = beside_same c.loop-k.invariant c.loop-k-test.false c.if-k-n-2.true

pub returns-else-k-n-2 : goal.returns-else-k-n-2
returns-else-k-n-2 c = beside_longer c.loop-k.invariant c.loop-k-test.false c.if-k-n-2.false
