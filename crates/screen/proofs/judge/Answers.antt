-- `screen::judge` meets its contract. The loop's invariant: the rows so far fail no rule below the lowest, and its row is the first that fails it.
-- Assumes nothing.
use mathlib.Core.Path.{◌≡◌, sym, ◌∙◌}
use Prim.Native.Nat.{ℕ}
use Rattle.std.proofs.Common.{rules}
use Rattle.std.specs.Prelude.{Bool, Option, MatchOption, IsTrue, nat_lt}
use Rattle.table.specs.Lent.{Lent, lent}
use Rattle.screen.specs.declared.Verdict.{Verdict}
use Rattle.screen.proofs.LowestRule.{kept_over, kept_new, kept_old, kept_or, all-judged}
use Rattle.screen.proofs.judge.Goals as goal
use Rattle.screen.proofs.judge.Goals.{Start, in-Some+then-is_none_or, in-Some+else-is_none_or, in_default}

abbrev lent_here : Start → Lent
lent_here c = lent c.args.card c.args.segments.now c.args.leaves.now c.args.text.now

-- what the test for a lower rule says
abbrev TellsLower : (lowest : Option Verdict) (failed : ℕ) (lower : Bool) → Type 0
TellsLower lowest failed lower = MatchOption lowest (IsTrue lower) (λ (v : Verdict). lower ≡ nat_lt failed v.number)

pub loop-row-preserved : goal.loop-row-preserved
loop-row-preserved c =
    let here = lent_here (goal.at.loop-row-preserved c).Start in
    elim c.match-first_failed.branch [
      | in-Some+then-is_none_or w ↦
          let told : TellsLower c.loop-row.lowest w.in-Some.failed w.is_none_or.result = search rules in
          rw w.lowest-is (kept_new here c.loop-row.invariant c.loop-row-test.true (sym w.in-Some.is ∙ c.first_failed.ensures) told w.if-is_none_or.true)
      | in-Some+else-is_none_or w ↦
          let told : TellsLower c.loop-row.lowest w.in-Some.failed w.is_none_or.result = search rules in
          rw w.lowest-is (kept_old here c.loop-row.invariant c.loop-row-test.true (sym w.in-Some.is ∙ c.first_failed.ensures) told w.if-is_none_or.false)
      | in_default w ↦ rw w.lowest-is (kept_over here c.loop-row.invariant c.loop-row-test.true (sym w.in_default.is ∙ c.first_failed.ensures))
    ]

pub returns : goal.returns
returns c =
    c.unwrap_or.ensures ∙ rw c.refused.ensures (kept_or c.loop-row.lowest)
    ∙ all-judged (lent_here (goal.at.returns c).Start) c.loop-row.invariant c.loop-row-test.false
