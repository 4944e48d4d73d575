-- `read::fill::fill` meets its contract: the header's rest is the first line, each turn fills one, and at the message's end the buffers hold the table.
-- Assumes nothing.
use mathlib.Core.Path.{◌∙◌}
use native.Mathlib.Omega.{arith}
use Rattle.laws.proofs.Bytes.{bytes-known}
use Rattle.laws.proofs.Bytes.{Bytes}
use Rattle.read.specs.inner.Segments.{AtLine}
use Rattle.read.proofs.HeaderLaws.{header-fits, header-line, field_sorted}
use Rattle.read.proofs.StandLaws.{text-kept, segments-kept, leaves_kept, line-lays, line_on, line-ahead, stands_closable, stands-next, stands-addendum, stands-segment, stands-filled}
use Rattle.read.proofs.fill.fill.Goals as goal
use Rattle.read.proofs.fill.fill.Goals.{After-no_rows-nearest, At-loop-from}

bytes_here : (c : After-no_rows-nearest) → Bytes c.args.accepted.now.message.now
bytes_here c = bytes-known c.args.accepted.now.message.now (λ i. omega (arith, c.requires.1 i))

-- where a turn begins a line is about to be filled
abbrev LineHere : At-loop-from → Type 0
LineHere c =
    AtLine (record { limits = c.args.accepted.now.limits; text = c.args.text.now; segments = c.args.segments.now; leaves = c.args.leaves.now }) c.args.accepted.now.class.now c.args.accepted.now.kinds.now c.args.levels.now
    c.args.accepted.now.decision.context c.args.accepted.now.decision.separators c.args.accepted.now.message.now c.loop-from.from c.loop-from.filling c.loop-from.nearest c.loop-from.text c.loop-from.segments c.loop-from.leaves

line_here : (c : At-loop-from) → LineHere c
line_here c =
    c.loop-from.invariant _ (header-line c.requires.0 (bytes_here (goal.at.At-loop-from c).After-no_rows-nearest) c.put_header-filling.ensures c.no_rows-nearest.ensures)

pub put_header-filling-requires : goal.put_header-filling-requires
put_header-filling-requires c = header-fits c.requires.0 (bytes_here (goal.at.put_header-filling-requires c).After-no_rows-nearest)

pub loop-from-init : goal.loop-from-init
loop-from-init c = λ came line. line

pub fill_line-line-requires : goal.fill_line-line-requires
fill_line-line-requires c = record { lays = line-lays (line_here (goal.at.fill_line-line-requires c).At-loop-from); sorted = field_sorted c.requires.0 (bytes_here (goal.at.fill_line-line-requires c).After-no_rows-nearest) }

pub close_segment-requires : goal.close_segment-requires
close_segment-requires c = stands_closable (line_on (line_here (goal.at.close_segment-requires c).At-loop-from) c.fill_line-line.ensures)

pub shape_of-text-then-message-at : goal.shape_of-text-then-message-at
shape_of-text-then-message-at c = text-kept (line_on (line_here (goal.at.shape_of-text-then-message-at c).At-loop-from) c.fill_line-line.ensures).begins

pub shape_of-segments-then-message-at : goal.shape_of-segments-then-message-at
shape_of-segments-then-message-at c = c.close_segment.auto.segments ∙ segments-kept (line_on (line_here (goal.at.shape_of-segments-then-message-at c).At-loop-from) c.fill_line-line.ensures).begins

pub shape_of-leaves-then-message-at : goal.shape_of-leaves-then-message-at
shape_of-leaves-then-message-at c = c.close_segment.auto.leaves ∙ leaves_kept (line_on (line_here (goal.at.shape_of-leaves-then-message-at c).At-loop-from) c.fill_line-line.ensures).begins

pub returns-then-message-at : goal.returns-then-message-at
returns-then-message-at c = stands-filled (line_on (line_here (goal.at.returns-then-message-at c).At-loop-from) c.fill_line-line.ensures) c.if-message-at.true c.close_segment.ensures

pub next_segment-filling-requires : goal.next_segment-filling-requires
next_segment-filling-requires c = stands-next (line_on (line_here (goal.at.next_segment-filling-requires c).At-loop-from) c.fill_line-line.ensures)

pub loop-from-smaller-then-from-at : goal.loop-from-smaller-then-from-at
loop-from-smaller-then-from-at c =
    let line = line_here (goal.at.loop-from-smaller-then-from-at c).At-loop-from in
    omega (arith, line.inside, line-ahead c.args.accepted.now.decision.separators.field c.fill_line-line.ensures c.text_from-from.ensures)

pub loop-from-preserved-then-from-at : goal.loop-from-preserved-then-from-at
loop-from-preserved-then-from-at c =
    λ came line. stands-segment (line_on (c.loop-from.invariant came line) c.fill_line-line.ensures) c.if-message-at.false
    c.text_from-from.ensures c.if-from-at.true c.close_segment.ensures c.next_segment-filling.ensures

pub loop-from-smaller : goal.loop-from-smaller
loop-from-smaller c =
    let line = line_here (goal.at.loop-from-smaller c).At-loop-from in
    omega (arith, line.inside, line-ahead c.args.accepted.now.decision.separators.field c.fill_line-line.ensures c.text_from-from.ensures)

pub loop-from-preserved : goal.loop-from-preserved
loop-from-preserved c = λ came line. stands-addendum (line_on (c.loop-from.invariant came line) c.fill_line-line.ensures) c.text_from-from.ensures c.if-from-at.false
