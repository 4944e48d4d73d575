-- `write::segment_rows::Segments::row_states` meets its contract: the kind and the first leaf, and then the count.
-- Assumes nothing.
use mathlib.Core.Bool.{◌&&◌}
use mathlib.Core.Path.{◌≡◌, sym, ap, ◌∙◌}
use Prim.Native.Nat.{ℕ}
use lib.Dec.{eqb}
use borrow.Author.Tests.{eq-eqb, ne_eqb}
use Rattle.laws.proofs.Tests.{and_passed, and_fails_first}
use Rattle.table.specs.Rows.{kind_in, first_in}
use Rattle.write.proofs.SegmentTests.{states_count, states_no}
use Rattle.write.proofs.segment_rows.Segments.row_states.Goals as goal
use Rattle.write.proofs.segment_rows.Segments.row_states.Goals.{Joined-self-at, then-self-at, else-self-at}

-- the first two tests
two : (c : Joined-self-at)
    → c.if-self-at.value ≡ (eqb (kind_in c.args.self.rows.now c.args.i) c.args.kind && eqb (first_in c.args.self.rows.now c.args.i) c.args.first)
two c =
    let first_is = eqb (first_in c.args.self.rows.now c.args.i) c.args.first in
    elim c.if-self-at.branch [
      | then-self-at w ↦
          w.value-is
          ∙ ap (λ (n : ℕ). eqb n c.args.first) w.wide.ensures.0
          ∙ sym (and_passed first_is (eq-eqb _ _ (w.if-self-at.true ∙ c.from.ensures)))
      | else-self-at w ↦
          w.value-is
          ∙ ne_eqb _ _ w.if-self-at.false
          ∙ sym (and_fails_first first_is (ne_eqb _ _ (λ e. w.if-self-at.false (e ∙ sym c.from.ensures))))
    ]

pub returns-then-wide-first : goal.returns-then-wide-first
returns-then-wide-first c =
    ap (λ (n : ℕ). eqb n c.args.count) c.wide-then-wide-first.ensures.0
    ∙ states_count c.args.self.rows.now c.args.i c.args.kind c.args.first c.args.count c.requires.some
    (sym (two (goal.at.returns-then-wide-first c).Joined-self-at) ∙ c.if-wide-first.true)

pub returns-else-wide-first : goal.returns-else-wide-first
returns-else-wide-first c =
    c.if-wide-first.false
    ∙ states_no c.args.self.rows.now c.args.i c.args.kind c.args.first c.args.count
    (sym (two (goal.at.returns-else-wide-first c).Joined-self-at) ∙ c.if-wide-first.false)
