-- `source::row::addenda_at` meets its contract. The loop's invariant: with those from here on, the addenda that have passed are all of them, and the
-- place behind them is the same. The measure is what is left of the message.
-- Assumes nothing.
use mathlib.Core.Path.{sym, ◌∙◌}
use native.Mathlib.Omega.{arith}
use Rattle.form.specs.Forms.{small_form}
use Rattle.source.proofs.Going.{one, AddendumHere, ahead_goes, ahead_stops, step_none, step_some}
use Rattle.source.proofs.row.addenda_at.Goals as goal
use Rattle.source.proofs.row.addenda_at.Goals.{In-Some}

-- an addendum stands here
carried_on : (c : In-Some) → AddendumHere small_form one c.args.message.now c.args.field c.loop-behind.next c.in-Some.behind
carried_on c =
    step_some small_form one c.args.message.now c.args.field c.loop-behind.next c.in-Some.behind (sym c.behind_addendum.ensures ∙ c.in-Some.is)

pub loop-behind-smaller : goal.loop-behind-smaller
loop-behind-smaller c =
    let here = carried_on (goal.at.loop-behind-smaller c).In-Some in omega (arith, here.later, here.within)

pub loop-behind-preserved : goal.loop-behind-preserved
loop-behind-preserved c =
    ahead_goes small_form one c.args.message.now c.args.field c.args.at c.loop-behind.lines c.loop-behind.next c.in-Some.behind
    c.loop-behind.invariant (carried_on (goal.at.loop-behind-preserved c).In-Some)

pub returns : goal.returns
returns c =
    ahead_stops small_form one c.args.message.now c.args.field c.args.at c.loop-behind.lines c.loop-behind.next c.loop-behind.invariant
    (step_none small_form one c.args.message.now c.args.field c.loop-behind.next (sym c.behind_addendum.ensures ∙ c.in_default.is))
