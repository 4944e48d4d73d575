-- Which rule has which number (R1 to R3), when a row fails it, and how the rules are tried in turn.
-- Assumes nothing.
use mathlib.Core.Bool.{Bool, true, false, not, ◌&&◌}
use mathlib.Core.List.{List}
use mathlib.Core.Path.{◌≡◌, refl, sym, ap, ◌∙◌, subst}
use Prim.Native.Nat.{ℕ, zero, suc, ◌+◌, ◌-◌, ◌≤◌, ◌<◌}
use native.Mathlib.Omega.{arith}
use borrow.Author.Tests.{eq-eqb, ne_eqb}
use Rattle.std.specs.Prelude.{Option, Some, None}
use lib.Dec.{eqb}
use lib.ListN.{get_or}
use Rattle.laws.specs.Texts.{bytes}
use Rattle.laws.proofs.Passing.{Passing, passing_begins, passing_on, passing-found, passing-done, passing-ends}
use Rattle.laws.proofs.Tests.{and_passed, and_both, and_fails_first, and_fails_second}
use Rattle.table.specs.Lent.{Lent}
use Rattle.table.specs.Rows.{kind_in}
use Rattle.look.specs.Looking.{patient_kind, result_kind}
use Rattle.screen.specs.declared.wanted.Field.{Field}
use Rattle.screen.specs.Refusals.{first_rule}
use Rattle.screen.specs.Rules.{About, with_code, in_system, Rule, wants, once, takes, wanted_in, wanted_fields, codes, value_rules, rules}
use Rattle.screen.specs.Meeting.{has_kind, sought_of, has_text, says_letter, count_under, is_about, fails}
use Rattle.screen.specs.inner.Rows.{first_code_rule, first_value_rule, past_rules, rule_numbered, fails_at, first_failed}
use Rattle.laws.proofs.Passing.{passing_over}
use Rattle.screen.specs.inner.Counting.{code_count, code_named}
use Rattle.screen.proofs.FirstFound.{some_found, none_found, front_part, back_part}

-- the k-th field, counted from 0, and the rules by their numbers
abbrev pub field_named : ℕ → Field
field_named k = get_or wanted_fields k (wanted_in 0 0 0)

abbrev pub field_count : ℕ
field_count = 8

field_rule : (k : ℕ) → k < field_count → rule_numbered (first_rule + k) ≡ wants (field_named k)
unfolding rules wanted_fields
field_rule zero h = refl
field_rule (suc zero) h = refl
field_rule (suc (suc zero)) h = refl
field_rule (suc (suc (suc zero))) h = refl
field_rule (suc (suc (suc (suc zero)))) h = refl
field_rule (suc (suc (suc (suc (suc zero))))) h = refl
field_rule (suc (suc (suc (suc (suc (suc zero)))))) h = refl
field_rule (suc (suc (suc (suc (suc (suc (suc zero))))))) h = refl
field_rule (suc (suc (suc (suc (suc (suc (suc (suc k)))))))) h = absurd (omega (arith, h))

-- none of them is a field of results
not_of_results : (k : ℕ) → k < field_count → (field_named k).kind ≡ result_kind → ⊥
unfolding wanted_fields
not_of_results zero h e = omega (arith, e)
not_of_results (suc zero) h e = omega (arith, e)
not_of_results (suc (suc zero)) h e = omega (arith, e)
not_of_results (suc (suc (suc zero))) h e = omega (arith, e)
not_of_results (suc (suc (suc (suc zero)))) h e = omega (arith, e)
not_of_results (suc (suc (suc (suc (suc zero))))) h e = omega (arith, e)
not_of_results (suc (suc (suc (suc (suc (suc zero)))))) h e = omega (arith, e)
not_of_results (suc (suc (suc (suc (suc (suc (suc zero))))))) h e = omega (arith, e)
not_of_results (suc (suc (suc (suc (suc (suc (suc (suc k)))))))) h e = omega (arith, h)

code_rule : (k : ℕ) → k < code_count → rule_numbered (first_code_rule + k) ≡ once (code_named k)
unfolding rules wanted_fields codes
code_rule zero h = refl
code_rule (suc zero) h = refl
code_rule (suc (suc zero)) h = refl
code_rule (suc (suc (suc zero))) h = refl
code_rule (suc (suc (suc (suc k)))) h = absurd (omega (arith, h))

pub typor_rule : rule_numbered first_value_rule ≡ takes (with_code (bytes "TYPOR")) (bytes "IHECAU")
unfolding rules wanted_fields codes value_rules
typor_rule = refl

pub pross_rule : rule_numbered (first_value_rule + 1) ≡ takes (with_code (bytes "PROSS")) (bytes "ONU")
unfolding rules wanted_fields codes value_rules
pross_rule = refl

pub coded_rule : rule_numbered (first_value_rule + 2) ≡ takes (in_system (bytes "CE") (bytes "LN")) (bytes "PNIX")
unfolding rules wanted_fields codes value_rules
coded_rule = refl

module _ (t : Lent) (i : ℕ) where
  -- the rules of fields: what a row of the field's kind has there decides
  module _ (k : ℕ) (h : k < field_count) where
    by_field : fails_at t i (first_rule + k) ≡ (has_kind t (field_named k).kind i && not (has_text (sought_of t i (field_named k).field (field_named k).subfield)))
    unfolding fails
    by_field = ap (λ (r : Rule). fails t r i) (field_rule k h)

    pub other-kind : ((field_named k).kind ≡ kind_in t.segment_rows i → ⊥) → fails_at t i (first_rule + k) ≡ false
    other-kind n =
        by_field
        ∙ and_fails_first (not (has_text (sought_of t i (field_named k).field (field_named k).subfield)))
        (ne_eqb (kind_in t.segment_rows i) (field_named k).kind (λ e. n (sym e)))

    pub field_filled : has_text (sought_of t i (field_named k).field (field_named k).subfield) ≡ true → fails_at t i (first_rule + k) ≡ false
    field_filled e = by_field ∙ and_fails_second (has_kind t (field_named k).kind i) (ap not e)

    pub field_unfilled : (field_named k).kind ≡ kind_in t.segment_rows i → has_text (sought_of t i (field_named k).field (field_named k).subfield) ≡ false
        → fails_at t i (first_rule + k) ≡ true
    field_unfilled e q = by_field ∙ and_both (eq-eqb (kind_in t.segment_rows i) (field_named k).kind (sym e)) (ap not q)

  -- no field is one of results, so a result keeps all of them
  pub fields-kept : kind_in t.segment_rows i ≡ result_kind → (n : ℕ) → first_rule ≤ n → n < first_code_rule → fails_at t i n ≡ false
  fields-kept kind n g h =
      ap (fails_at t i) (let e : n ≡ first_rule + (n - first_rule) = omega (arith, g) in e)
      ∙ other-kind (n - first_rule) (omega (arith, g, h)) (λ e. not_of_results (n - first_rule) (omega (arith, g, h)) (e ∙ kind))

  -- the rules of codes: a row that is no patient's keeps them, and of a patient the count decides
  by_code : (k : ℕ) → k < code_count → fails_at t i (first_code_rule + k) ≡ (has_kind t patient_kind i && not (eqb (count_under t (suc i) (code_named k)) 1))
  unfolding fails
  by_code k h = ap (λ (r : Rule). fails t r i) (code_rule k h)

  pub codes-kept : (kind_in t.segment_rows i ≡ patient_kind → ⊥) → (n : ℕ) → first_code_rule ≤ n → n < first_value_rule → fails_at t i n ≡ false
  codes-kept other n g h =
      ap (fails_at t i) (let e : n ≡ first_code_rule + (n - first_code_rule) = omega (arith, g) in e) ∙ by_code (n - first_code_rule) (omega (arith, g, h))
      ∙ and_fails_first (not (eqb (count_under t (suc i) (code_named (n - first_code_rule))) 1)) (ne_eqb (kind_in t.segment_rows i) patient_kind other)

  pub code-counted : kind_in t.segment_rows i ≡ patient_kind → (k : ℕ) → k < code_count → {n : ℕ} → n ≡ count_under t (suc i) (code_named k)
      → fails_at t i (first_code_rule + k) ≡ not (eqb n 1)
  code-counted kind k h {n} e =
      by_code k h
      ∙ and_passed (not (eqb (count_under t (suc i) (code_named k)) 1)) (eq-eqb (kind_in t.segment_rows i) patient_kind kind)
      ∙ ap (λ (m : ℕ). not (eqb m 1)) (sym e)

  -- a rule of values: a row that is no result's keeps it, and of a result that the rule is about the value decides
  module _ (n : ℕ) (about : About) (letters : List ℕ) (rule : rule_numbered n ≡ takes about letters) where
    abbrev wrong_value : Bool
    wrong_value = not (says_letter t.text letters (sought_of t i 6 1))

    by_value : fails_at t i n ≡ (has_kind t result_kind i && is_about t about i && wrong_value)
    unfolding fails
    by_value = ap (λ (r : Rule). fails t r i) rule

    value-kept : (kind_in t.segment_rows i ≡ result_kind → ⊥) → fails_at t i n ≡ false
    value-kept other =
        by_value ∙ and_fails_first wrong_value (and_fails_first (is_about t about i) (ne_eqb (kind_in t.segment_rows i) result_kind other))

    pub value_decides : kind_in t.segment_rows i ≡ result_kind → {must r : Bool} → must ≡ is_about t about i → r ≡ (must && wrong_value) → fails_at t i n ≡ r
    value_decides kind e q =
        by_value
        ∙ ap (λ (b : Bool). b && wrong_value) (and_passed (is_about t about i) (eq-eqb (kind_in t.segment_rows i) result_kind kind) ∙ sym e)
        ∙ sym q

  pub values-kept : (kind_in t.segment_rows i ≡ result_kind → ⊥) → (n : ℕ) → first_value_rule ≤ n → n < past_rules → fails_at t i n ≡ false
  values-kept other n g h =
      ap (fails_at t i) (let e : n ≡ first_value_rule + (n - first_value_rule) = omega (arith, g) in e) ∙ by (n - first_value_rule) (omega (arith, g, h))
    where
      by : (k : ℕ) → k < 3 → fails_at t i (first_value_rule + k) ≡ false
      by zero l = value-kept first_value_rule (with_code (bytes "TYPOR")) (bytes "IHECAU") typor_rule other
      by (suc zero) l = value-kept (first_value_rule + 1) (with_code (bytes "PROSS")) (bytes "ONU") pross_rule other
      by (suc (suc zero)) l = value-kept (first_value_rule + 2) (in_system (bytes "CE") (bytes "LN")) (bytes "PNIX") coded_rule other
      by (suc (suc (suc k))) l = absurd (omega (arith, l))

  -- the rules from one on are tried in turn: before that with number n
  abbrev pub RulesTried : (from end n : ℕ) → Type 0
  RulesTried from end n = Passing (fails_at t i) from end n

  -- of a result those of fields are passed over
  pub past_fields : kind_in t.segment_rows i ≡ result_kind → RulesTried first_rule past_rules first_code_rule
  past_fields kind =
      passing_over (fails_at t i) first_code_rule (passing_begins (fails_at t i) first_rule past_rules (omega arith)) (omega arith) (omega arith)
      (λ k g h. fields-kept kind k g h)

  -- of a row that is no patient's those of codes are passed over, and of one that is no result's those of values
  pub past_codes : {from : ℕ} → RulesTried from past_rules first_code_rule → (kind_in t.segment_rows i ≡ patient_kind → ⊥)
      → RulesTried from past_rules first_value_rule
  past_codes w other = passing_over (fails_at t i) first_value_rule w (omega arith) (omega arith) (λ k g h. codes-kept other k g h)

  pub past_values : {from : ℕ} → RulesTried from past_rules first_value_rule → (kind_in t.segment_rows i ≡ result_kind → ⊥)
      → None ≡ first_failed t i from past_rules
  past_values {from} w other =
      none_found (fails_at t i) from past_rules (omega (arith, w.later)) (passing-ends (fails_at t i) w (λ k g h. values-kept other k g h))

  -- a row that is neither a patient's nor a result's is judged by its fields alone
  pub fields_only : (o : Option ℕ) → o ≡ first_failed t i first_rule first_code_rule → (kind_in t.segment_rows i ≡ patient_kind → ⊥)
      → (kind_in t.segment_rows i ≡ result_kind → ⊥) → o ≡ first_failed t i first_rule past_rules
  fields_only (Some n) e patient result = front_part (fails_at t i) {mid = first_code_rule} {end = past_rules} (omega arith) (omega arith) e
  fields_only None e patient result =
      past_values (past_codes (back_part (fails_at t i) {mid = first_code_rule} {end = past_rules} (omega arith) (omega arith) e) patient) result

  -- the rules of fields in turn
  module _ {k : ℕ} (w : RulesTried first_rule first_code_rule (first_rule + k)) where
    pub field_on : k < field_count → fails_at t i (first_rule + k) ≡ false → RulesTried first_rule first_code_rule (first_rule + (k + 1))
    field_on h e =
        subst (RulesTried first_rule first_code_rule) (let q : first_rule + k + 1 ≡ first_rule + (k + 1) = omega arith in q)
        (passing_on (fails_at t i) w (omega (arith, h)) e)

    pub field_found : k < field_count → fails_at t i (first_rule + k) ≡ true → Some (first_rule + k) ≡ first_failed t i first_rule first_code_rule
    field_found h e = some_found (fails_at t i) first_rule first_code_rule (omega (arith, h)) (passing-found (fails_at t i) w (omega (arith, h)) e)

    pub fields-done : field_count ≤ k → None ≡ first_failed t i first_rule first_code_rule
    fields-done h = none_found (fails_at t i) first_rule first_code_rule (omega arith) (passing-done (fails_at t i) w (omega (arith, h)))
