-- `write::test::sound_leaves` meets its contract. One law a return.
-- Assumes nothing.
use mathlib.Core.Bool.{true}
use mathlib.Core.Path.{◌≡◌, ◌∙◌}
use Rattle.write.specs.inner.Tests.{header_leaves_at}
use Rattle.write.proofs.HeaderTest.{header-four}
use Rattle.write.proofs.Said.{answered_no, answered_yes}
use Rattle.write.proofs.Parts.{no_header, no_rule, others_decide}
use Rattle.write.proofs.test.sound_leaves.Goals as goal
use Rattle.write.proofs.test.sound_leaves.Goals.{Else-not-header_leaves}

-- the first two rows are a header's
header_here : (c : Else-not-header_leaves) → header_leaves_at c.args.leaves.rows.now c.args.leaves.text.now ≡ true
header_here c = answered_yes c.header_leaves.ensures c.if-not-header_leaves.false

pub returns-then-not-header_leaves : goal.returns-then-not-header_leaves
returns-then-not-header_leaves c = no_header c.args.field c.args.leaves.rows.now c.args.leaves.text.now c.args.leaves.count (answered_no c.header_leaves.ensures c.if-not-header_leaves.true)

pub separators_at-separators-requires : goal.separators_at-separators-requires
separators_at-separators-requires c = header-four c.args.leaves.rows.now c.args.leaves.text.now c.requires (header_here c)

pub returns-then-sound : goal.returns-then-sound
returns-then-sound c =
    c.go_on_from.ensures
    ∙ others_decide c.args.field c.args.leaves.rows.now c.args.leaves.text.now c.args.leaves.count c.separators_at-separators.ensures (header_here (goal.at.returns-then-sound c).Else-not-header_leaves)
    (answered_yes c.sound.ensures c.if-sound.true)

pub returns-else-sound : goal.returns-else-sound
returns-else-sound c =
    c.if-sound.false
    ∙ no_rule c.args.field c.args.leaves.rows.now c.args.leaves.text.now c.args.leaves.count c.separators_at-separators.ensures (answered_no c.sound.ensures c.if-sound.false)
