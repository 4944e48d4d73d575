-- `screen::fields::first_unfilled` meets its contract. The loop's invariant: the rules of the fields so far are kept.
-- Assumes nothing.
use Prim.Native.Nat.{◌+◌}
use Rattle.table.specs.Lent.{lent}
use Rattle.screen.specs.Refusals.{first_rule}
use Rattle.screen.specs.inner.Rows.{first_code_rule}
use Rattle.screen.proofs.RuleNumbers.{RulesTried}
use Rattle.screen.proofs.fields.first_unfilled.Given as goal

abbrev pub invariant-loop-rule : goal.invariant-loop-rule
invariant-loop-rule l = RulesTried (lent l.card l.segments l.leaves l.text) l.row first_rule first_code_rule (first_rule + l.rule)
