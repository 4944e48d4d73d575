-- What the contracts of the counts' test and of the class table rule out: a test whose product wraps, or that refuses counts that fit; a
-- class table that lets the finer of two equal separators count, or that clears the entries of other bytes.
-- Assumes nothing.
use mathlib.Core.Bool.{Bool, true, false, true≢false}
use mathlib.Core.List.{List}
use mathlib.Core.Path.{◌≡◌, sym, ap, ◌∙◌}
use Prim.Native.Nat.{ℕ}
use native.Mathlib.Omega.{arith}
use lib.ListN.{get_or, replicate}
use Rattle.form.specs.declared.separators.Separators.{Separators}
use Rattle.table.specs.declared.Card.{Card}
use Rattle.table.specs.Lent.{counts_fit}
use Rattle.table.specs.inner.Classes.{classes_over}

-- a card that counts so many segments, and nothing else
abbrev pub counting : ℕ → Card
counting n = record { separator = 0; context = 0; segments = n; leaves = 0; text = 0 }

-- what meets the contract of `counts_fit`
module _ (f : Card → ℕ → ℕ → ℕ → Bool) (meets : (c : Card) (s l t : ℕ) → f c s l t ≡ counts_fit c s l t) where
  -- four times 2^62 is 0 in a number of 64 bits
  pub product_wraps : f (counting 4611686018427387904) 0 0 0 ≡ true → ⊥
  unfolding counts_fit
  product_wraps e = true≢false (sym e ∙ meets (counting 4611686018427387904) 0 0 0)

  pub refuses_what_fits : f (counting 0) 0 0 0 ≡ false → ⊥
  unfolding counts_fit
  refuses_what_fits e = true≢false (sym (meets (counting 0) 0 0 0) ∙ e)

-- separators of which the field's and the sub-subfield's are the same byte
abbrev pub twice : Separators
twice = record { field = 33; subfield = 34; repeater = 35; escape = 36; subsubfield = 33 }

-- what meets the contract of `set_classes`
module _ (g : List ℕ → Separators → List ℕ) (meets : (t : List ℕ) (ps : Separators) → g t ps ≡ classes_over ps t) where
  pub finer-counts : get_or (g (replicate 256 0) twice) 33 0 ≡ 4 → ⊥
  unfolding classes_over
  finer-counts e =
      let z : ◌≡◌ {A = ℕ} 1 4 = sym (ap (λ (t : List ℕ). get_or t 33 0) (meets (replicate 256 0) twice)) ∙ e in
      omega arith

  pub clears_the_rest : get_or (g (replicate 256 7) twice) 65 0 ≡ 0 → ⊥
  unfolding classes_over
  clears_the_rest e =
      let z : ◌≡◌ {A = ℕ} 7 0 = sym (ap (λ (t : List ℕ). get_or t 65 0) (meets (replicate 256 7) twice)) ∙ e in
      omega arith
