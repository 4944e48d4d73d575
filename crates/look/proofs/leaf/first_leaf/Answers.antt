-- `look::leaf::first_leaf` meets its contract. The loop's invariant: what is left of the rows gives what all of them give.
-- Assumes nothing.
use mathlib.Core.Path.{◌∙◌}
use Rattle.look.proofs.Seeking.{seek_nowhere, seek_elsewhere, seek_past, seek_found}
use Rattle.look.proofs.leaf.first_leaf.Goals as goal
use Rattle.look.proofs.leaf.first_leaf.Goals.{then-has_place+else-start-length, else-has_place}

pub returns-then-start-length : goal.returns-then-start-length
returns-then-start-length g c = λ p t.
    c.found.ensures
    ∙ seek_found (c.loop-row.invariant p t) c.loop-row-test.true (t.tells _ _ c.has_place.ensures) c.wide-start.ensures.0
    c.wide-length.ensures.0 c.if-has_place.true c.if-start-length.true

pub loop-row-preserved : goal.loop-row-preserved
loop-row-preserved g c = λ p t.
    elim c.if-has_place.branch [
      | then-has_place+else-start-length w ↦
          seek_past (c.loop-row.invariant p t) c.loop-row-test.true (t.tells _ _ c.has_place.ensures) w.wide-start.ensures.0
          w.wide-length.ensures.0 w.if-start-length.false
      | else-has_place w ↦
          seek_elsewhere (c.loop-row.invariant p t) c.loop-row-test.true (t.tells _ _ c.has_place.ensures) w.if-has_place.false
    ]

pub returns : goal.returns
returns g c = λ p t. seek_nowhere (c.loop-row.invariant p t) c.loop-row-test.false
