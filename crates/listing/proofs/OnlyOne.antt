-- The contract of listing has one outcome: two that satisfy it, at the same arguments, are equal.
-- Assumes nothing.
use mathlib.Core.List.{List}
use mathlib.Core.Path.{◌≡◌}
use Prim.Native.Nat.{ℕ}
use Rattle.laws.proofs.Equality.{only_one}
use Rattle.form.specs.declared.limits.Limits.{Limits}
use Rattle.listing.specs.Listing.{ListedAs}

module _ (L : Limits) (levels : ℕ → ℕ → ℕ) (message text segments leaves list : List ℕ) {r s : ℕ}
    {text₁ segments₁ leaves₁ list₁ text₂ segments₂ leaves₂ list₂ : List ℕ} where
  pub one-listing : ListedAs L levels message text segments leaves list r text₁ segments₁ leaves₁ list₁
      → ListedAs L levels message text segments leaves list s text₂ segments₂ leaves₂ list₂
      → (r ≡ s) × (text₁ ≡ text₂) × (segments₁ ≡ segments₂) × (leaves₁ ≡ leaves₂) × (list₁ ≡ list₂)
  one-listing g h = (
    only_one g.bytes h.bytes,
    only_one g.text_area h.text_area,
    only_one g.segment_rows h.segment_rows,
    only_one g.leaf_rows h.leaf_rows,
    only_one g.listing h.listing,
  )
