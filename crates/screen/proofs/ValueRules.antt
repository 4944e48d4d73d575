-- The rules of values for a result's row (R3): the code that it is found to have, or its type and the system of its code, and then its value.
-- Assumes nothing.
use mathlib.Core.Bool.{Bool, true, false, ◌&&◌, ◌||◌}
use mathlib.Core.Path.{◌≡◌, refl, sym, ap, ◌∙◌}
use Prim.Native.Nat.{ℕ, ◌+◌, ◌<◌}
use native.Mathlib.Omega.{arith}
use borrow.Author.Tests.{ne_eqb}
use Rattle.std.specs.Prelude.{Option, Some, None}
use lib.Dec.{eqb}
use Rattle.laws.specs.Texts.{bytes}
use Rattle.laws.proofs.Passing.{passing_begins, passing_on, passing-found, passing-done}
use Rattle.laws.proofs.Tests.{and_fails_first, and_passed, or_first}
use Rattle.table.specs.Lent.{Lent}
use Rattle.look.specs.Looking.{result_kind}
use Rattle.screen.specs.Rules.{with_code, in_system, codes}
use Rattle.screen.specs.Meeting.{has_code, is_about}
use Rattle.screen.specs.inner.Rows.{first_code_rule, first_value_rule, past_rules, fails_at, first_failed, misses_letter, RowOfKind}
use Rattle.screen.specs.declared.codes.Code.{Code}
use Rattle.screen.specs.declared.codes.Code.TheVariants.{Pays, Typor, Pross, Finge}
use Rattle.screen.specs.inner.Codes.{code_number}
use Rattle.screen.specs.inner.Counting.{code_count, code_named, code_in}
use Rattle.screen.proofs.FirstFound.{some_found, none_found}
use Rattle.screen.proofs.RowCodes.{row-code}
use Rattle.screen.proofs.RuleNumbers.{RulesTried, typor_rule, pross_rule, coded_rule, value_decides, past_codes}

-- a type and, in either of two places, a system, tried in turn
pub other_type : (type systems : Bool) {r : Bool} → r ≡ type → r ≡ false → r ≡ (type && systems)
other_type type systems e q = q ∙ sym (and_fails_first systems (sym e ∙ q))

module _ (type first second : Bool) {r s : Bool} (e : r ≡ type) (q : r ≡ true) (g : s ≡ first) where
  pub first_system : s ≡ true → s ≡ (type && (first || second))
  first_system h = h ∙ sym (and_passed (first || second) (sym e ∙ q) ∙ or_first second (sym g ∙ h))

  pub second_system : s ≡ false → {u : Bool} → u ≡ second → u ≡ (type && (first || second))
  second_system h f = f ∙ sym (and_passed (first || second) (sym e ∙ q) ∙ ap (λ (b : Bool). b || second) (sym g ∙ h))

-- another code has another number
not_typor : (code : Option Code) → (code ≡ Some Typor → ⊥) → code_number code ≡ 1 → ⊥
not_typor (Some Typor) n e = n refl
not_typor (Some Pays) n e = omega (arith, e)
not_typor (Some Pross) n e = omega (arith, e)
not_typor (Some Finge) n e = omega (arith, e)
not_typor None n e = omega (arith, e)

not_pross : (code : Option Code) → (code ≡ Some Pross → ⊥) → code_number code ≡ 2 → ⊥
not_pross (Some Pross) n e = n refl
not_pross (Some Pays) n e = omega (arith, e)
not_pross (Some Typor) n e = omega (arith, e)
not_pross (Some Finge) n e = omega (arith, e)
not_pross None n e = omega (arith, e)

module _ (t : Lent) (i : ℕ) (row : RowOfKind t i result_kind) where
  -- the rules of codes are not about a result
  pub values_begin : RulesTried t i first_code_rule past_rules first_value_rule
  values_begin = past_codes t i (passing_begins (fails_at t i) first_code_rule past_rules (omega arith)) (λ e. omega (arith, e, row.of_kind))

  -- the first two rules, about a code, by the code that was found
  module _ (code : Option Code) (found : code_number code ≡ code_in t i) where
    abouts : (k : ℕ) → k < code_count → {b : Bool} → eqb (code_number code) k ≡ b → b ≡ has_code t (code_named k) i
    abouts k h e = sym e ∙ ap (λ (n : ℕ). eqb n k) found ∙ sym (row-code t i row.of_kind k h)

    typor_about : {b r : Bool} → eqb (code_number code) 1 ≡ b → r ≡ (b && misses_letter t i (bytes "IHECAU")) → fails_at t i first_value_rule ≡ r
    unfolding is_about codes
    typor_about e q = value_decides t i first_value_rule (with_code (bytes "TYPOR")) (bytes "IHECAU") typor_rule row.of_kind (abouts 1 (omega arith) e) q

    pross_about : {b r : Bool} → eqb (code_number code) 2 ≡ b → r ≡ (b && misses_letter t i (bytes "ONU")) → fails_at t i (first_value_rule + 1) ≡ r
    unfolding is_about codes
    pross_about e q = value_decides t i (first_value_rule + 1) (with_code (bytes "PROSS")) (bytes "ONU") pross_rule row.of_kind (abouts 2 (omega arith) e) q

    pub typor_fails : code ≡ Some Typor → {r : Bool} → r ≡ misses_letter t i (bytes "IHECAU") → fails_at t i first_value_rule ≡ r
    typor_fails e q = typor_about {b = true} (ap (λ (o : Option Code). eqb (code_number o) 1) e) q

    pub typor_kept : (code ≡ Some Typor → ⊥) → fails_at t i first_value_rule ≡ false
    typor_kept n = typor_about {b = false} (ne_eqb (code_number code) 1 (not_typor code n)) refl

    pub pross_fails : code ≡ Some Pross → {r : Bool} → r ≡ misses_letter t i (bytes "ONU") → fails_at t i (first_value_rule + 1) ≡ r
    pross_fails e q = pross_about {b = true} (ap (λ (o : Option Code). eqb (code_number o) 2) e) q

    pub pross_kept : (code ≡ Some Pross → ⊥) → fails_at t i (first_value_rule + 1) ≡ false
    pross_kept n = pross_about {b = false} (ne_eqb (code_number code) 2 (not_pross code n)) refl

  -- the third, about a type and a system
  module _ {coded : Bool} (is : coded ≡ is_about t (in_system (bytes "CE") (bytes "LN")) i) where
    coded_about : {b r : Bool} → coded ≡ b → r ≡ (b && misses_letter t i (bytes "PNIX")) → fails_at t i (first_value_rule + 2) ≡ r
    coded_about e q = value_decides t i (first_value_rule + 2) (in_system (bytes "CE") (bytes "LN")) (bytes "PNIX") coded_rule row.of_kind (sym e ∙ is) q

    pub coded_fails : coded ≡ true → {r : Bool} → r ≡ misses_letter t i (bytes "PNIX") → fails_at t i (first_value_rule + 2) ≡ r
    coded_fails e q = coded_about {b = true} e q

    pub coded_kept : coded ≡ false → fails_at t i (first_value_rule + 2) ≡ false
    coded_kept e = coded_about {b = false} e refl

  -- the rules are tried in turn
  tried-one : fails_at t i first_value_rule ≡ false → RulesTried t i first_code_rule past_rules (first_value_rule + 1)
  tried-one e = passing_on (fails_at t i) values_begin (omega arith) e

  tried_two : fails_at t i first_value_rule ≡ false → fails_at t i (first_value_rule + 1) ≡ false → RulesTried t i first_code_rule past_rules (first_value_rule + 2)
  tried_two e q = passing_on (fails_at t i) (tried-one e) (omega arith) q

  pub first_value : fails_at t i first_value_rule ≡ true → Some first_value_rule ≡ first_failed t i first_code_rule past_rules
  first_value e = some_found (fails_at t i) first_code_rule past_rules (omega arith) (passing-found (fails_at t i) values_begin (omega arith) e)

  module _ (e : fails_at t i first_value_rule ≡ false) where
    pub second_value : fails_at t i (first_value_rule + 1) ≡ true → Some (first_value_rule + 1) ≡ first_failed t i first_code_rule past_rules
    second_value q = some_found (fails_at t i) first_code_rule past_rules (omega arith) (passing-found (fails_at t i) (tried-one e) (omega arith) q)

    module _ (q : fails_at t i (first_value_rule + 1) ≡ false) where
      pub third_value : fails_at t i (first_value_rule + 2) ≡ true → Some (first_value_rule + 2) ≡ first_failed t i first_code_rule past_rules
      third_value h = some_found (fails_at t i) first_code_rule past_rules (omega arith) (passing-found (fails_at t i) (tried_two e q) (omega arith) h)

      pub no_value : fails_at t i (first_value_rule + 2) ≡ false → None ≡ first_failed t i first_code_rule past_rules
      no_value h =
          none_found (fails_at t i) first_code_rule past_rules (omega arith)
          (passing-done (fails_at t i) (passing_on (fails_at t i) (tried_two e q) (omega arith) h) (omega arith))
