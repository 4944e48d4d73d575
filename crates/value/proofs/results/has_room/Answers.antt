-- `value::results::has_room` meets its contract: by the rows behind the order where these do, and else by the count.
-- Assumes nothing.
use mathlib.Core.Path.{sym, ◌∙◌}
use native.Mathlib.Omega.{arith}
use borrow.Author.Tests.{le-leb}
use Rattle.table.specs.Lent.{lent}
use Rattle.value.proofs.ResultsPut.{results-few}
use Rattle.value.proofs.results.has_room.Goals as goal

pub returns-then-card-wide : goal.returns-then-card-wide
returns-then-card-wide c =
    let few = results-few (lent c.args.card c.args.segments.now c.args.leaves.now c.args.text.now) c.args.order c.requires in
    le-leb _ _ c.if-card-wide.true ∙ sym (le-leb _ _ (omega (arith, few, c.wide.ensures.0, c.if-card-wide.true)))
