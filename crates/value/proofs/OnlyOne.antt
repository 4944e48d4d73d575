-- Each public function's contract has one outcome on all inputs: two that satisfy it are equal, the answer and each lent buffer.
-- Assumes nothing.
use mathlib.Core.List.{List}
use mathlib.Core.Path.{◌≡◌}
use Prim.Native.Nat.{ℕ}
use lib.IntN.{ℤ}
use Rattle.laws.proofs.Equality.{only_one}
use Rattle.form.specs.declared.limits.Limits.{Limits}
use Rattle.table.specs.Lent.{Lent}
use Rattle.value.specs.declared.reading.Value.{Value}
use Rattle.value.specs.declared.results.ValuesRead.{ValuesRead}
use Rattle.value.specs.declared.writing.ValueWritten.{ValueWritten}
use Rattle.value.specs.Values.{value_of}
use Rattle.value.specs.Writing.{WroteValue}
use Rattle.value.specs.Results.{ReadValues}

pub read-value : (most : ℕ) (text : List ℕ) (r s : Value) → r ≡ value_of most text → s ≡ value_of most text → r ≡ s
read-value most text r s h k = only_one h k

pub write_value : (most : ℕ) (whole : ℤ) (decimals : ℕ) (output : List ℕ) {r s : ValueWritten} {output₁ output₂ : List ℕ}
    → WroteValue most whole decimals output r output₁ → WroteValue most whole decimals output s output₂ → (r ≡ s) × (output₁ ≡ output₂)
write_value most whole decimals output g h = (only_one g.answers h.answers, only_one g.text h.text)

pub order-values : (L : Limits) (levels : ℕ → ℕ → ℕ) (most : ℕ) (t : Lent) (order : ℕ) (numbers : List ℕ) (wholes : List ℤ) (decimals : List ℕ)
    {r s : ValuesRead} {numbers₁ numbers₂ : List ℕ} {wholes₁ wholes₂ : List ℤ} {decimals₁ decimals₂ : List ℕ}
    → ReadValues L levels most t order numbers wholes decimals r numbers₁ wholes₁ decimals₁
    → ReadValues L levels most t order numbers wholes decimals s numbers₂ wholes₂ decimals₂
    → (r ≡ s) × (numbers₁ ≡ numbers₂) × (wholes₁ ≡ wholes₂) × (decimals₁ ≡ decimals₂)
order-values L levels most t order numbers wholes decimals g h = (
  only_one g.answers h.answers,
  only_one g.numbers-put h.numbers-put,
  only_one g.wholes_put h.wholes_put,
  only_one g.decimals-put h.decimals-put,
)
