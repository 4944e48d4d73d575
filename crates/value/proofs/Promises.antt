-- The promises of numeric results hold: of one value for any count of digits from 1 on, of an order's values for any limits and levels.
-- Assumes nothing.
use Prim.Native.Nat.{ℕ, ◌≤◌}
use native.Mathlib.Omega.{arith}
use Rattle.laws.proofs.Passing.{passing_passes, passing-rises, passing_lists}
use Rattle.form.specs.declared.limits.Limits.{Limits}
use Rattle.form.specs.declared.forms.Form.{Form}
use Rattle.form.specs.Forms.{limits_of}
use Rattle.order.specs.Owners.{level}
use Rattle.value.specs.Numerals.{most_digits}
use Rattle.value.specs.Results.{is_numeric}
use Rattle.value.specs.Promises.{OneValue, OrderValues}
use Rattle.value.proofs.OnlyOne as only
use Rattle.value.proofs.SpeltTexts.{reads_spelt, spelt_reads}
use Rattle.value.proofs.MinusZero.{minus_zero}
use Rattle.value.proofs.ReadingPromises.{no_number, many_digits_lem, none_beside}
use Rattle.value.proofs.WritingPromises.{too_large, written-value}
use Rattle.value.proofs.OrderPromises.{answered_order}

pub one_value : (most : ℕ) → 1 ≤ most → OneValue most
one_value most one =
    record {
      one-reading = λ text r s. only.read-value most text r s;
      one-writing = λ whole decimals output. only.write_value most whole decimals output;
      reads_exactly = λ whole decimals text. (reads_spelt most text whole decimals, spelt_reads most text whole decimals);
      no_number = no_number most;
      many_digits_lem = many_digits_lem most;
      none_beside = none_beside most;
      minus-before_zeros = λ decimals text. minus_zero most decimals text;
      too_large = too_large most one;
      written-value = λ whole decimals. written-value most one whole decimals;
    }

pub order-values : (L : Limits) (levels : ℕ → ℕ → ℕ) (most : ℕ) → OrderValues L levels most
order-values L levels most =
    record {
      one_outcome = only.order-values L levels most;
      answered_order = answered_order L levels most;
      only-results =
          λ t order k h.
          let p = passing_passes (is_numeric t order) 0 t.card.segments k h in
          (omega (arith, p.to), p.passes);
      rows_rise = λ t order k h. passing-rises (is_numeric t order) 0 t.card.segments k h;
      all_results =
          λ t order i h e.
          let l = passing_lists (is_numeric t order) 0 t.card.segments i (record { from = omega arith; to = omega (arith, h); passes = e }) in
          (l.which, l.within, l.there);
    }

-- for the digits, the limits and the levels in force
pub form_one_value : OneValue most_digits
form_one_value = one_value most_digits (omega arith)

pub form_order_values : (f : Form) → OrderValues (limits_of f) level most_digits
form_order_values f = order-values (limits_of f) level most_digits
