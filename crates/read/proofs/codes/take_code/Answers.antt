-- `read::codes::take_code` meets its contract: each turn looks at one line of the segment, up to the code's end or the segment's.
-- Assumes nothing.
use native.Mathlib.Omega.{arith}
use lib.ListN.{length}
use Rattle.laws.proofs.Bytes.{bytes-known}
use Rattle.read.proofs.CodeLines.{AtCode, code-begins, line-takes, code-whole, code-open, code-ends, code_on, further}
use Rattle.read.proofs.codes.take_code.Goals as goal
use Rattle.read.proofs.codes.take_code.Goals.{At-loop-length}

-- where a turn begins a line is about to be looked at
abbrev CodeHere : At-loop-length → Type 0
CodeHere c =
    AtCode c.args.accepted.now.limits c.args.accepted.now.class.now c.args.accepted.now.kinds.now c.args.accepted.now.decision.separators c.args.accepted.now.decision.context c.args.accepted.now.message.now c.args.row (length c.args.code.now) c.loop-length.taken.at c.loop-length.taken.left
    c.loop-length.taken.length c.loop-length.code

code_here : (c : At-loop-length) → CodeHere c
code_here c =
    c.loop-length.invariant _ (code-begins c.requires.0 (bytes-known c.args.accepted.now.message.now (λ i. omega (arith, c.requires.0.bytes i))))

pub loop-length-init : goal.loop-length-init
loop-length-init c = λ L w. w

pub take_from_line-requires : goal.take_from_line-requires
take_from_line-requires c = line-takes (code_here (goal.at.take_from_line-requires c).At-loop-length)

pub returns-in-Whole : goal.returns-in-Whole
returns-in-Whole c = code-whole (code_here (goal.at.returns-in-Whole c).At-loop-length) c.in-Whole.ensures

pub overflow_add-taken : goal.overflow_add-taken
overflow_add-taken c =
    let here = code_here (goal.at.overflow_add-taken c).At-loop-length in
    omega (arith, (code-open here c.in-Open.ensures).ends, here.inside, c.well_formed)

pub returns-then-from-at : goal.returns-then-from-at
returns-then-from-at c = code-ends (code_here (goal.at.returns-then-from-at c).At-loop-length) (code-open (code_here (goal.at.returns-then-from-at c).At-loop-length) c.in-Open.ensures) c.low_end-at.ensures c.text_from-from.ensures c.if-from-at.true

pub loop-length-smaller : goal.loop-length-smaller
loop-length-smaller c =
    let here = code_here (goal.at.loop-length-smaller c).At-loop-length in
    omega (
      arith,
      here.inside,
      further here (code-open here c.in-Open.ensures) c.low_end-at.ensures c.text_from-from.ensures c.if-from-at.false,
    )

pub loop-length-preserved : goal.loop-length-preserved
loop-length-preserved c =
    λ L w.
    let here = c.loop-length.invariant L w in
    code_on here (code-open here c.in-Open.ensures) c.low_end-at.ensures c.text_from-from.ensures c.if-from-at.false c.take_from_line.auto.code
