-- `screen::codes::first_miscounted` meets its contract: the first count that is not one tells the rule.
-- Assumes nothing.
use mathlib.Core.Path.{sym, ◌∙◌}
use Rattle.table.specs.Lent.{Lent, lent}
use Rattle.screen.proofs.CodeRules.{some_count, no_count}
use Rattle.screen.proofs.codes.first_miscounted.Goals as goal
use Rattle.screen.proofs.codes.first_miscounted.Goals.{Start}

abbrev lent_here : Start → Lent
lent_here c = lent c.args.card c.args.segments.now c.args.leaves.now c.args.text.now

pub returns-in_err-code : goal.returns-in_err-code
returns-in_err-code c =
    c.from_residual.ensures
    ∙ no_count (lent_here (goal.at.returns-in_err-code c).Start) c.args.row c.requires c.count_codes-counts.ensures (sym c.first_not_one.ensures ∙ c.in_err-code.was)

pub returns : goal.returns
returns c =
    some_count (lent_here (goal.at.returns c).Start) c.args.row c.requires c.count_codes-counts.ensures (sym c.first_not_one.ensures ∙ c.in_ok-code.was)
