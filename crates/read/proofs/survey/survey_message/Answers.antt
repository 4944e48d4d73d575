-- `survey_message` meets its contract. The loop's invariant: at `at` stands a line whose text is joined from `from` on, the first behind its
-- header bytes, and the kinds of the closed segments and the starts of those begun are noted; each line leads to a later place, and at the
-- message's end all is known.
-- Assumes nothing.
use mathlib.Core.Path.{ap, ◌∙◌}
use Prim.Native.Nat.{◌+◌}
use native.Mathlib.Omega.{arith}
use Rattle.laws.proofs.Bytes.{bytes-known}
use Rattle.form.proofs.HeaderRule.{sound-header}
use Rattle.read.specs.declared.survey.Survey.{Survey}
use Rattle.read.proofs.Refusing.{passed_on}
use Rattle.read.proofs.Underway.{message-begins, goes_on_from, begins-next, survey_ends}
use Rattle.read.proofs.Noting.{noting_begins, noting_goes_on, noting_next, closed-noted, closed-kept, still_started}
use Rattle.read.proofs.survey.survey_message.Goals as goal

pub loop-step-init : goal.loop-step-init
loop-step-init c =
    let pre = c.requires in
    let m = c.args.message.now in
    noting_begins c.args.kinds.now c.args.starts.now c.begin-seen.ensures
    (message-begins c.args.limits c.args.separators m (bytes-known m c.shared_slice_known-1.given) pre.lawful.header
    (sound-header m c.args.separators pre.header))

pub see_line-requires : goal.see_line-requires
see_line-requires c = let pre = c.requires in record { one = omega (arith, pre.lawful.header); classes = pre.classes; begun = c.loop-step.invariant.begun }

pub returns-in_err-step : goal.returns-in_err-step
returns-in_err-step c = rw (passed_on c.from_residual.ensures.1) c.in_err-step.ensures

pub closed-seen-requires : goal.closed-seen-requires
closed-seen-requires c = omega (arith, (c.in_ok-step.ensures).1.seen.count)

pub shape_of-kinds-then-message-at : goal.shape_of-kinds-then-message-at
shape_of-kinds-then-message-at c =
    let led = c.in_ok-step.ensures in
    closed-kept c.loop-step.invariant led.1 led.2 c.text_from-from.ensures c.if-from-at.true c.requires.lawful.header
    c.closed-seen.ensures.1

pub shape_of-starts-then-message-at : goal.shape_of-starts-then-message-at
shape_of-starts-then-message-at c = c.loop-step.invariant.starts_kept

pub returns-then-message-at : goal.returns-then-message-at
returns-then-message-at c =
    let pre = c.requires in
    let led = c.in_ok-step.ensures in
    let count = ap (λ (s : Survey). s.segments) c.closed-seen.ensures.0 in
    let ends = survey_ends led.1 pre.table c.if-message-at.true c.closed-seen.ensures.0 in (
      ends.0,
      ends.1,
      closed-noted c.loop-step.invariant led.1 led.2 c.text_from-from.ensures c.if-from-at.true pre.lawful.header
          c.closed-seen.ensures.1 count,
      still_started c.loop-step.invariant led.1 led.2 count,
    )

pub next_segment-seen-requires : goal.next_segment-seen-requires
next_segment-seen-requires c =
    let count = ap (λ (s : Survey). s.segments) c.closed-seen.ensures.0 in
    omega (arith, (c.in_ok-step.ensures).1.few-segments, count, c.if-message-at.false, c.well_formed)

pub note-requires : goal.note-requires
note-requires c = omega (arith, ap (λ (s : Survey). s.segments) c.next_segment-seen.ensures)

pub loop-step-smaller-then-from-at : goal.loop-step-smaller-then-from-at
loop-step-smaller-then-from-at c = omega (arith, (c.in_ok-step.ensures).0, c.loop-step.invariant.begun.some)

pub loop-step-preserved-then-from-at : goal.loop-step-preserved-then-from-at
loop-step-preserved-then-from-at c =
    let pre = c.requires in
    let led = c.in_ok-step.ensures in
    noting_next c.loop-step.invariant led.1 led.2 c.text_from-from.ensures c.if-from-at.true pre.lawful.header c.closed-seen.ensures.1
    (ap (λ (s : Survey). s.segments) c.next_segment-seen.ensures ∙ ap (λ (s : Survey). s.segments + 1) c.closed-seen.ensures.0)
    c.note.ensures
    (begins-next led.1 c.text_from-from.ensures pre.table c.if-from-at.true c.if-message-at.false c.closed-seen.ensures.0 c.next_segment-seen.ensures)

pub loop-step-smaller : goal.loop-step-smaller
loop-step-smaller c = omega (arith, (c.in_ok-step.ensures).0, c.loop-step.invariant.begun.some)

pub loop-step-preserved : goal.loop-step-preserved
loop-step-preserved c =
    let led = c.in_ok-step.ensures in
    let sound = sound-header c.args.message.now c.args.separators c.requires.header in
    noting_goes_on c.loop-step.invariant led.1 led.2
    (goes_on_from led.1 c.text_from-from.ensures sound.allowed.field.low c.requires.lawful.header c.if-from-at.false)
