-- `read::decide::decide` meets its contract: tests 1, 2 and 3 in turn, and then the message behind its header.
-- Assumes nothing.
use mathlib.Core.Path.{◌≡◌, sym, ◌∙◌}
use Rattle.form.specs.Numbers.{short_buffer}
use Rattle.table.specs.Reading.{Room, reading, refused}
use Rattle.read.proofs.Deciding.{refusal_decides, header_decides, short-text, short-segments, short-leaves, long-refused, header_refused}
use Rattle.read.proofs.decide.decide.Goals as goal
use Rattle.read.proofs.decide.decide.Goals.{Start, then-text-limits-via-then-text-limits, then-text-limits-via-else-text-limits+then-segments-limits, then-text-limits-via-else-text-limits+else-segments-limits+then-leaves-limits}

abbrev room : Start → Room
room c = record { text = c.args.text; segment_rows = c.args.segments; leaf_rows = c.args.leaves }

pub returns-then-text-limits : goal.returns-then-text-limits
returns-then-text-limits c =
    let L = c.args.limits in
    let m = c.args.message.now in
    let here = room (goal.at.returns-then-text-limits c).Start in
    refusal_decides L m _ _ _
    (λ levels.
    elim c.then-text-limits.branch as (λ b. reading L levels here m ≡ refused short_buffer 0) [
      | then-text-limits-via-then-text-limits w ↦ short-text L levels here m w.if-text-limits.true
      | then-text-limits-via-else-text-limits+then-segments-limits w ↦ short-segments L levels here m w.if-text-limits.false w.if-segments-limits.true
      | then-text-limits-via-else-text-limits+else-segments-limits+then-leaves-limits w ↦
          short-leaves L levels here m w.if-text-limits.false w.if-segments-limits.false w.if-leaves-limits.true
    ])
    c.at.ensures

pub returns-then-limits-message : goal.returns-then-limits-message
returns-then-limits-message c =
    refusal_decides c.args.limits c.args.message.now _ _ _
    (λ levels. long-refused c.args.limits levels (room (goal.at.returns-then-limits-message c).Start) c.args.message.now c.if-text-limits.false
    c.if-segments-limits.false c.if-leaves-limits.false c.if-limits-message.true)
    c.at-then-limits-message.ensures

pub returns-in_default : goal.returns-in_default
returns-in_default c =
    refusal_decides c.args.limits c.args.message.now _ _ _
    (λ levels. header_refused c.args.limits levels (room (goal.at.returns-in_default c).Start) c.args.message.now c.if-text-limits.false
    c.if-segments-limits.false c.if-leaves-limits.false c.if-limits-message.false (sym c.of.ensures ∙ c.in_default.is))
    c.at-in_default.ensures

pub returns : goal.returns
returns c =
    header_decides c.args.limits (room (goal.at.returns c).Start) c.args.message.now c.if-text-limits.false c.if-segments-limits.false
    c.if-leaves-limits.false c.if-limits-message.false (sym c.of.ensures ∙ c.in-Sound.is) c.decide_sound.ensures
