-- The four cases of a verdict (R4, R5): no table, no report, all rules kept, and a lowest rule that is not kept with the first row that fails it.
-- Assumes nothing.
use mathlib.Core.Bool.{Bool, true, false}
use mathlib.Core.List.{List, [], ◌∷◌}
use mathlib.Core.Path.{◌≡◌, ap, ◌∙◌}
use Prim.Native.Nat.{ℕ, zero, suc, ◌+◌, ◌-◌, ◌<◌}
use native.Mathlib.Omega.{arith}
use borrow.Author.Tests.{eqb-true, eqb-false}
use lib.Dec.{eqb}
use lib.ListN.{length, get_or}
use Rattle.laws.specs.Tables.{passing}
use Rattle.laws.proofs.Passing.{Passed, none, first, first-passed, none_before, passing_lists}
use Rattle.laws.proofs.Tests.{Tested, passed, failed, tested}
use Rattle.form.specs.declared.limits.Limits.{Limits}
use Rattle.form.specs.Numbers.{no_table_number}
use Rattle.table.specs.Lent.{Lent}
use Rattle.write.specs.inner.ReadsBack.{is_table}
use Rattle.look.specs.Matches.{FirstFit}
use Rattle.screen.specs.Refusals.{not_a_report, first_rule}
use Rattle.screen.specs.Rules.{Rule, once, rules}
use Rattle.screen.specs.Meeting.{fails}
use Rattle.screen.specs.Verdicts.{report_context, yes, refused_with, screened}
use Rattle.screen.specs.Promises.{kth_rule, Keeps, KeepsFirst, IsReport}
use Rattle.screen.proofs.LowestRule.{judged_no, judged-yes}
use Rattle.screen.proofs.Screened.{no_table, no_report, by_rules}

-- a test that no number passes, or the first that does
module _ (test : ℕ → Bool) (n : ℕ) where
  none_pass : passing test 0 n ≡ [] → (k : ℕ) → k < n → test k ≡ false
  none_pass e k h = by (tested (test k))
    where
      by : Tested (test k) → test k ≡ false
      by (failed q) = q
      by (passed q) =
          absurd (let l = passing_lists test 0 n k (record { from = omega arith; to = omega (arith, h); passes = q }) in omega (arith, l.within, ap length e))

  first_fit : (i : ℕ) → i < n → test i ≡ true → (rest : List ℕ) → passing test 0 n ≡ i ∷ rest → FirstFit test 0 n i
  first_fit i h q rest e =
      record {
        later = omega arith;
        within = h;
        fits = q;
        first = λ j g l. none_before test 0 n j (omega arith) g (omega (arith, l, at_first));
      }
    where
      at_first : get_or (passing test 0 (n - 0)) 0 n ≡ i
      at_first = ap (λ (m : ℕ). get_or (passing test 0 m) 0 n) (let z : n - 0 ≡ n = omega arith in z) ∙ ap (λ (s : List ℕ). get_or s 0 n) e

-- the rules of a list are all kept, or one is the first that is not
module _ (t : Lent) where
  pub data Kept (rs : List Rule) : Type 0 where
    all : ((j : ℕ) → j < length rs → Keeps t (get_or rs j (once []))) → Kept rs
    but : (k i : ℕ) → k < length rs → ((j : ℕ) → j < k → Keeps t (get_or rs j (once []))) → FirstFit (fails t (get_or rs k (once []))) 0 t.card.segments i → Kept rs

  all_or_but : (rs : List Rule) → Kept rs
  all_or_but [] = all (λ j h. absurd (omega (arith, h)))
  all_or_but (r ∷ rs) = by (first-passed (fails t r) 0 t.card.segments) (all_or_but rs)
    where
      below : {k : ℕ} → Keeps t r → ((j : ℕ) → j < k → Keeps t (get_or rs j (once []))) → (j : ℕ) → j < suc k → Keeps t (get_or (r ∷ rs) j (once []))
      below keeps later zero h = keeps
      below keeps later (suc j) h = later j (omega (arith, h))

      by : Passed (fails t r) 0 t.card.segments → Kept rs → Kept (r ∷ rs)
      by (first i g h q e) later =
          but 0 i (omega arith) (λ j l. absurd (omega (arith, l))) (first_fit (fails t r) t.card.segments i (omega (arith, h)) q _ e)
      by (none e) (all keeps) = all (below (none_pass (fails t r) t.card.segments e) keeps)
      by (none e) (but k i h keeps fit) = but (suc k) i (omega (arith, h)) (below (none_pass (fails t r) t.card.segments e) keeps) fit

-- the cases of the verdict
module _ (L : Limits) (levels : ℕ → ℕ → ℕ) (t : Lent) where
  pub data Cases : Type 0 where
    untabled : is_table L levels t ≡ false → screened L levels t ≡ refused_with no_table_number → Cases
    unreported : is_table L levels t ≡ true → (t.card.context ≡ report_context → ⊥) → screened L levels t ≡ refused_with not_a_report → Cases
    kept : IsReport L levels t → KeepsFirst t (length rules) → screened L levels t ≡ yes → Cases
    broken : IsReport L levels t → (k i : ℕ) → k < length rules → KeepsFirst t k → FirstFit (fails t (kth_rule k)) 0 t.card.segments i
        → screened L levels t ≡ record { number = first_rule + k; place = suc i } → Cases

  pub cases : Cases
  cases = by (tested (is_table L levels t)) (tested (eqb t.card.context report_context)) (all_or_but t rules)
    where
      by : Tested (is_table L levels t) → Tested (eqb t.card.context report_context) → Kept t rules → Cases
      by (failed e) c k = untabled e (no_table L levels t e)
      by (passed e) (failed c) k = let other = eqb-false t.card.context report_context c in unreported e other (no_report L levels t e other)
      by (passed e) (passed c) (all keeps) =
          let context = eqb-true t.card.context report_context c in
          kept (record { table = e; context = context }) keeps (by_rules L levels t e context ∙ judged-yes t rules first_rule keeps)
      by (passed e) (passed c) (but k i h keeps fit) =
          let context = eqb-true t.card.context report_context c in
          broken (record { table = e; context = context }) k i h keeps fit
          (by_rules L levels t e context ∙ judged_no t i fit.within rules first_rule k h keeps fit.fits (λ m l. fit.first m (omega arith) l))
