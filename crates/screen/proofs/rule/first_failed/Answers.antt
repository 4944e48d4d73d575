-- `screen::rule::first_failed` meets its contract: a result keeps the rules of fields; any other row is judged by these first, and behind them by those
-- that are about its kind.
-- Assumes nothing.
use mathlib.Core.Path.{◌∙◌}
use native.Mathlib.Omega.{arith}
use Rattle.table.specs.Lent.{Lent, lent}
use Rattle.tested.proofs.NamedLeaves.{row_inside}
use Rattle.std.proofs.Common.{rules}
use Prim.Native.Nat.{ℕ}
use Rattle.std.specs.Prelude.{◌≡◌, Some, MatchOption}
use Rattle.screen.specs.inner.Rows.{first_code_rule, past_rules, first_failed, fails_at}
use Rattle.screen.proofs.FirstFound.{left_found, either_part}
use Rattle.screen.proofs.RuleNumbers.{past_fields, fields_only}
use Rattle.screen.proofs.rule.first_failed.Goals as goal
use Rattle.screen.proofs.rule.first_failed.Goals.{Start}

abbrev lent_here : Start → Lent
lent_here c = lent c.args.card c.args.segments.now c.args.leaves.now c.args.text.now

pub bounds-segments-row : goal.bounds-segments-row
bounds-segments-row c = omega (arith, row_inside (lent_here (goal.at.bounds-segments-row c).Start) c.requires.report.table c.args.row c.requires.counts)

pub returns-then-kind : goal.returns-then-kind
returns-then-kind c =
    let here = lent_here (goal.at.returns-then-kind c).Start in
    c.first_misvalued.ensures ∙ left_found (fails_at here c.args.row) (past_fields here c.args.row c.if-kind.true)

pub returns-then-kind-2 : goal.returns-then-kind-2
returns-then-kind-2 c =
    let here = lent_here (goal.at.returns-then-kind-2 c).Start in
    let m : MatchOption c.first_unfilled.result (c.or_else.result ≡ first_failed here c.args.row first_code_rule past_rules) (λ (n : ℕ). c.or_else.result ≡ Some n) = search rules in
    either_part (fails_at here c.args.row) {mid = first_code_rule} {end = past_rules} (omega arith) (omega arith) _ _ c.first_unfilled.ensures m

pub returns-else-kind-2 : goal.returns-else-kind-2
returns-else-kind-2 c =
    fields_only (lent_here (goal.at.returns-else-kind-2 c).Start) c.args.row _ c.first_unfilled-else-kind-2.ensures c.if-kind-2.false c.if-kind.false
