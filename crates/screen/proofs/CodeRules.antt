-- The rules of codes for a patient's row (R2): the counts of its results' codes decide, in their order.
-- Assumes nothing.
use mathlib.Core.Bool.{Bool, true, false, not}
use mathlib.Core.List.{List}
use mathlib.Core.Path.{◌≡◌, sym, ap, ◌∙◌, subst}
use Prim.Native.Nat.{ℕ, suc, ◌+◌, ◌-◌, ◌≤◌, ◌<◌}
use native.Mathlib.Numerals.{add-one}
use native.Mathlib.Omega.{arith}
use Rattle.std.specs.Prelude.{Some, None, ◌==◌, nat_lt, position}
use Rattle.std.specs.List.{position_or_len}
use Rattle.std.proofs.lemmas.List.Sums.{prefix_len-le-length, fails_before_first, passes_at_first}
use borrow.Author.Tests.{eq-eqb, ne_eqb, ltb-true, ltb-false}
use lib.ListN.{length, get_or}
use Rattle.laws.proofs.Tests.{Tested, passed, failed, tested}
use Rattle.laws.proofs.Passing.{passing_begins, passing-found}
use Rattle.table.specs.Lent.{Lent}
use Rattle.look.specs.Looking.{patient_kind}
use Rattle.screen.specs.Meeting.{count_under}
use Rattle.screen.specs.inner.Rows.{first_code_rule, first_value_rule, past_rules, fails_at, first_failed, RowOfKind}
use Rattle.screen.specs.inner.Counting.{code_count, code_named, next_patient, count_between, CodesCounted}
use Rattle.laws.proofs.Passing.{passing_over}
use Rattle.screen.proofs.FirstFound.{some_found}
use Rattle.screen.proofs.Patients.{counted-between}
use Rattle.screen.proofs.RuleNumbers.{RulesTried, code-counted, past_values}

-- of the first so many codes there is one each
pub record OneEach (counts : List ℕ) (code : ℕ) : Type 0 where
  pub within : code ≤ code_count
  pub one : (k : ℕ) → k < code → get_or counts k 0 ≡ 1

-- whether a count is not one, and where the first such count is
abbrev not_once : ℕ → Bool
not_once n = not (n == 1)

once : (n : ℕ) → not_once n ≡ false → n ≡ 1
once n e = grind (arith, e)

not-once : (n : ℕ) → not_once n ≡ true → n ≡ 1 → ⊥
not-once n e q = grind (arith, e, q)

at_first : (counts : List ℕ) → length counts ≡ code_count → (code : ℕ) → code ≤ position_or_len not_once counts → OneEach counts code
at_first counts size code l =
    record {
      within = omega (arith, l, size, prefix_len-le-length (λ (n : ℕ). not (not_once n)) counts);
      one = λ k h. once (get_or counts k 0) (fails_before_first not_once counts k 0 (omega (arith, h, l)));
    }

module _ (t : Lent) (i : ℕ) (row : RowOfKind t i patient_kind) {counts : List ℕ} (counted : CodesCounted t (i + 1) counts) where
  count_here : (k : ℕ) → k < code_count → get_or counts k 0 ≡ count_under t (suc i) (code_named k)
  count_here k h =
      counted.each k h ∙ ap (λ (n : ℕ). count_between t k n (next_patient t n)) (add-one i)
      ∙ sym (counted-between t row.row.report i k row.row.counts row.of_kind h)

  module _ {code : ℕ} (w : OneEach counts code) where
    tried : RulesTried t i first_code_rule past_rules (first_code_rule + code)
    tried =
        passing_over (fails_at t i) (first_code_rule + code) (passing_begins (fails_at t i) first_code_rule past_rules (omega arith)) (omega arith)
        (omega (arith, w.within)) (λ n g h. kept n g h)
      where
        kept : (n : ℕ) → first_code_rule ≤ n → n < first_code_rule + code → fails_at t i n ≡ false
        kept n g h =
            ap (fails_at t i) (let e : n ≡ first_code_rule + (n - first_code_rule) = omega (arith, g) in e)
            ∙ code-counted t i row.of_kind (n - first_code_rule) (omega (arith, g, h, w.within)) (count_here (n - first_code_rule) (omega (arith, g, h, w.within)))
            ∙ ap not (eq-eqb (get_or counts (n - first_code_rule) 0) 1 (w.one (n - first_code_rule) (omega (arith, g, h))))

    -- a code that is not had once is the first; where all are, none of the rules behind them is about a patient
    not_one : code < code_count → (get_or counts code 0 ≡ 1 → ⊥) → Some (first_code_rule + code) ≡ first_failed t i first_code_rule past_rules
    not_one h n =
        some_found (fails_at t i) first_code_rule past_rules (omega (arith, h))
        (passing-found (fails_at t i) tried (omega (arith, h))
        (code-counted t i row.of_kind code h (count_here code h) ∙ ap not (ne_eqb (get_or counts code 0) 1 n)))

    all_one : code_count ≤ code → None ≡ first_failed t i first_code_rule past_rules
    all_one h =
        past_values t i (subst (RulesTried t i first_code_rule past_rules) (let e : first_code_rule + code ≡ first_value_rule = omega (arith, h, w.within) in e) tried)
        (λ e. omega (arith, e, row.of_kind))

  -- the first count that is not one tells the rule
  pub some_count : {code : ℕ} → position not_once counts ≡ Some code → Some (first_code_rule + code) ≡ first_failed t i first_code_rule past_rules
  some_count {code} e = by (tested (nat_lt (position_or_len not_once counts) (length counts)))
    where
      by : Tested (nat_lt (position_or_len not_once counts) (length counts)) → Some (first_code_rule + code) ≡ first_failed t i first_code_rule past_rules
      by (failed q) = let none : None ≡ Some code = rw q at e in cc
      by (passed q) =
          let here : Some (position_or_len not_once counts) ≡ Some code = rw q at e in
          let same : position_or_len not_once counts ≡ code = cc in
          let below : position_or_len not_once counts < length counts = ltb-true _ _ q in
          not_one (at_first counts counted.size code (omega (arith, same))) (omega (arith, below, same, counted.size))
          (not-once (get_or counts code 0) (ap (λ (k : ℕ). not_once (get_or counts k 0)) (sym same) ∙ passes_at_first not_once counts 0 below))

  pub no_count : position not_once counts ≡ None → None ≡ first_failed t i first_code_rule past_rules
  no_count e = by (tested (nat_lt (position_or_len not_once counts) (length counts)))
    where
      by : Tested (nat_lt (position_or_len not_once counts) (length counts)) → None ≡ first_failed t i first_code_rule past_rules
      by (passed q) = let some : Some (position_or_len not_once counts) ≡ None = rw q at e in cc
      by (failed q) =
          let all : length counts ≤ position_or_len not_once counts = ltb-false _ _ q in
          all_one (at_first counts counted.size code_count (omega (arith, all, counted.size))) (omega arith)
