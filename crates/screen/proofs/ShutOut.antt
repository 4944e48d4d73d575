-- What the contract of `screen` rules out: a check that stops at the first failing row whatever its rule; one that counts the pseudo-analyses over the
-- whole message, or takes two for one, or asks for all four under one order; one that passes an empty field or an empty value; one that looks for the
-- system of a code in one place only; one that takes any message, or any buffers.
-- Assumes nothing.
use mathlib.Core.Path.{◌≡◌, ap, ◌∙◌}
use native.Mathlib.Omega.{arith}
use Rattle.form.specs.Forms.{small_form}
use Rattle.order.specs.Owners.{level}
use Rattle.table.specs.Lent.{Lent}
use Rattle.tested.specs.inner.Lending.{cut_short}
use Rattle.screen.specs.declared.Verdict.{Verdict}
use Rattle.screen.specs.Verdicts.{screened}
use Rattle.screen.specs.Examples.{
  filed_lines,
  as_report,
  as_orders,
  sound_lines,
  with_residence,
  with_result,
  pays_each,
  under_second_order,
  two_pays,
  two_and_none,
  empty_name,
  lower_later,
  verdict_examples,
}
use Rattle.screen.proofs.Examples.{examples_hold, orders-refused, cut-short-refused}

-- what meets the contract of `screen`
module _ (f : Lent → Verdict) (meets : (t : Lent) → f t ≡ screened small_form level t) where
  -- its number on a table
  said : (t : Lent) {v : Verdict} → screened small_form level t ≡ v → (f t).number ≡ v.number
  said t e = ap (λ (v : Verdict). v.number) (meets t ∙ e)

  pub stops_at_the_first_row : (f (filed_lines (as_report lower_later))).number ≡ 35 → ⊥
  unfolding verdict_examples
  stops_at_the_first_row h = omega (arith, h, said (filed_lines (as_report lower_later)) (examples_hold 6 (omega arith)))

  pub counts_over_the_message : (f (filed_lines (as_report pays_each))).number ≡ 39 → ⊥
  unfolding verdict_examples
  counts_over_the_message h = omega (arith, h, said (filed_lines (as_report pays_each)) (examples_hold 1 (omega arith)))

  pub counts-one_for_another : (f (filed_lines (as_report two_and_none))).number ≡ 0 → ⊥
  unfolding verdict_examples
  counts-one_for_another h = omega (arith, h, said (filed_lines (as_report two_and_none)) (examples_hold 3 (omega arith)))

  pub takes_two_for_one : (f (filed_lines (as_report two_pays))).number ≡ 0 → ⊥
  unfolding verdict_examples
  takes_two_for_one h = omega (arith, h, said (filed_lines (as_report two_pays)) (examples_hold 2 (omega arith)))

  pub asks_under_one_order : (f (filed_lines (as_report under_second_order))).number ≡ 39 → ⊥
  unfolding verdict_examples
  asks_under_one_order h = omega (arith, h, said (filed_lines (as_report under_second_order)) (examples_hold 4 (omega arith)))

  pub passes_an_empty_name : (f (filed_lines (as_report empty_name))).number ≡ 0 → ⊥
  unfolding verdict_examples
  passes_an_empty_name h = omega (arith, h, said (filed_lines (as_report empty_name)) (examples_hold 5 (omega arith)))

  pub passes_an_empty_value : (f (filed_lines (as_report (with_residence "OBX|2|CE|TYPOR||")))).number ≡ 0 → ⊥
  unfolding verdict_examples
  passes_an_empty_value h = omega (arith, h, said (filed_lines (as_report (with_residence "OBX|2|CE|TYPOR||"))) (examples_hold 8 (omega arith)))

  pub looks_at_one_system : (f (filed_lines (as_report (with_result "OBX|5|CE|G~x~L~1~y~LN||Q")))).number ≡ 0 → ⊥
  unfolding verdict_examples
  looks_at_one_system h = omega (arith, h, said (filed_lines (as_report (with_result "OBX|5|CE|G~x~L~1~y~LN||Q"))) (examples_hold 9 (omega arith)))

  pub refuses_always : ((f (filed_lines (as_report sound_lines))).number ≡ 0 → ⊥) → ⊥
  unfolding verdict_examples
  refuses_always h = h (said (filed_lines (as_report sound_lines)) (examples_hold 0 (omega arith)))

  pub takes-any-message : (f (filed_lines (as_orders sound_lines))).number ≡ 0 → ⊥
  takes-any-message h = omega (arith, h, said (filed_lines (as_orders sound_lines)) orders-refused)

  pub takes-any_buffers : (f (cut_short (filed_lines (as_report sound_lines)))).number ≡ 0 → ⊥
  takes-any_buffers h = omega (arith, h, said (cut_short (filed_lines (as_report sound_lines))) cut-short-refused)
