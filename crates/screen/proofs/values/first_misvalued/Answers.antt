-- `screen::values::first_misvalued` meets its contract: the rules of codes are not about a result, and those of values are tried in turn.
-- Assumes nothing.
use mathlib.Core.Bool.{Bool, false}
use mathlib.Core.Path.{◌≡◌, ◌∙◌}
use Prim.Native.Nat.{ℕ, ◌+◌}
use Rattle.std.proofs.Common.{rules}
use Rattle.laws.specs.Texts.{bytes}
use Rattle.table.specs.Lent.{Lent, lent}
use Rattle.screen.specs.inner.Rows.{first_value_rule, fails_at}
use Rattle.screen.proofs.ValueRules.{typor_fails, typor_kept, pross_fails, pross_kept, coded_fails, coded_kept, first_value, second_value, third_value, no_value}
use Rattle.screen.proofs.values.first_misvalued.Goals as goal
use Rattle.screen.proofs.values.first_misvalued.Goals.{
  After-code_in-code,
  Joined-else-eq,
  else-eq-via-then-eq+else-misses,
  else-eq-via-else-eq,
  Joined-else-eq-2,
  else-eq-2-via-then-eq-2+else-misses-2,
  else-eq-2-via-else-eq-2,
  Joined-else-is_coded,
  else-is_coded-via-then-is_coded+else-misses-3,
  else-is_coded-via-else-is_coded,
}

abbrev lent_here : After-code_in-code → Lent
lent_here c = lent c.args.card c.args.segments.now c.args.leaves.now c.args.text.now

abbrev fails_here : After-code_in-code → (k : ℕ) → Bool
fails_here c k = fails_at (lent_here c) c.args.row (first_value_rule + k)

-- where the next rule is tried, the one before is kept
first_kept : (c : Joined-else-eq) → fails_here (goal.at.Joined-else-eq c).After-code_in-code 0 ≡ false
unfolding bytes
first_kept c =
    let here = lent_here (goal.at.Joined-else-eq c).After-code_in-code in
    elim c.else-eq.branch [
      | else-eq-via-then-eq+else-misses w ↦
          typor_fails here c.args.row c.requires c.code_in-code.result c.code_in-code.ensures (search rules) w.misses.ensures ∙ w.if-misses.false
      | else-eq-via-else-eq w ↦ typor_kept here c.args.row c.requires c.code_in-code.result c.code_in-code.ensures (search rules)
    ]

second_kept : (c : Joined-else-eq-2) → fails_here (goal.at.Joined-else-eq-2 c).After-code_in-code 1 ≡ false
unfolding bytes
second_kept c =
    let here = lent_here (goal.at.Joined-else-eq-2 c).After-code_in-code in
    elim c.else-eq-2.branch [
      | else-eq-2-via-then-eq-2+else-misses-2 w ↦
          pross_fails here c.args.row c.requires c.code_in-code.result c.code_in-code.ensures (search rules) w.misses-then-eq-2.ensures ∙ w.if-misses-2.false
      | else-eq-2-via-else-eq-2 w ↦ pross_kept here c.args.row c.requires c.code_in-code.result c.code_in-code.ensures (search rules)
    ]

third_kept : (c : Joined-else-is_coded) → fails_here (goal.at.Joined-else-is_coded c).After-code_in-code 2 ≡ false
unfolding bytes
third_kept c =
    let here = lent_here (goal.at.Joined-else-is_coded c).After-code_in-code in
    elim c.else-is_coded.branch [
      | else-is_coded-via-then-is_coded+else-misses-3 w ↦
          coded_fails here c.args.row c.requires c.is_coded.ensures w.if-is_coded.true w.misses-then-is_coded.ensures ∙ w.if-misses-3.false
      | else-is_coded-via-else-is_coded w ↦ coded_kept here c.args.row c.requires c.is_coded.ensures w.if-is_coded.false
    ]

pub returns-then-misses : goal.returns-then-misses
unfolding bytes
returns-then-misses c =
    let here = lent_here (goal.at.returns-then-misses c).After-code_in-code in
    first_value here c.args.row c.requires
    (typor_fails here c.args.row c.requires c.code_in-code.result c.code_in-code.ensures (search rules) c.misses.ensures ∙ c.if-misses.true)

pub returns-then-misses-2 : goal.returns-then-misses-2
unfolding bytes
returns-then-misses-2 c =
    let here = lent_here (goal.at.returns-then-misses-2 c).After-code_in-code in
    second_value here c.args.row c.requires (first_kept (goal.at.returns-then-misses-2 c).Joined-else-eq)
    (pross_fails here c.args.row c.requires c.code_in-code.result c.code_in-code.ensures (search rules) c.misses-then-eq-2.ensures ∙ c.if-misses-2.true)

pub returns-then-misses-3 : goal.returns-then-misses-3
unfolding bytes
returns-then-misses-3 c =
    let here = lent_here (goal.at.returns-then-misses-3 c).After-code_in-code in
    third_value here c.args.row c.requires (first_kept (goal.at.returns-then-misses-3 c).Joined-else-eq) (second_kept (goal.at.returns-then-misses-3 c).Joined-else-eq-2)
    (coded_fails here c.args.row c.requires c.is_coded.ensures c.if-is_coded.true c.misses-then-is_coded.ensures ∙ c.if-misses-3.true)

pub returns-else-is_coded : goal.returns-else-is_coded
returns-else-is_coded c =
    no_value (lent_here (goal.at.returns-else-is_coded c).After-code_in-code) c.args.row c.requires (first_kept (goal.at.returns-else-is_coded c).Joined-else-eq)
    (second_kept (goal.at.returns-else-is_coded c).Joined-else-eq-2) (third_kept (goal.at.returns-else-is_coded c).Joined-else-is_coded)
