-- Writing a value, by the tests in their order: what is out of range, an output that is narrow, and the text.
-- Assumes nothing.
use mathlib.Core.Bool.{Bool, true, false}
use mathlib.Core.List.{List}
use mathlib.Core.Logic.{◌⊎◌, inl, inr}
use mathlib.Core.Path.{◌≡◌, refl, sym, ap, subst⁻¹}
use Prim.Native.Nat.{ℕ, ◌≤◌, ◌<◌, ◌^◌}
use borrow.Author.Tests.{lt-ltb, le-ltb, le-leb, lt-leb}
use lib.Dec.{leb, ltb}
use lib.IntN.{ℤ, nat_abs}
use lib.ListN.{length}
use Rattle.laws.proofs.Tests.{and_both, and_fails_first, and_fails_second}
use Rattle.value.specs.declared.writing.ValueWritten.{ValueWritten}
use Rattle.value.specs.Refusals.{out_of_range, narrow_output}
use Rattle.value.specs.Writing.{
  in_range,
  longest_text,
  Spelling,
  refuses_value,
  spells,
  spelling,
  spelling_told,
  output_with,
  GivesText,
  WroteValue,
}
use Rattle.value.specs.inner.Shortening.{text_for, shortest_text, PutText}
use Rattle.value.specs.inner.Signs.{apart}

module _ (most : ℕ) (whole : ℤ) (decimals : ℕ) where
  -- a value that is not in range, and one that is
  range_large : 10 ^ most ≤ nat_abs whole → in_range most whole decimals ≡ false
  unfolding in_range
  range_large h = and_fails_first (leb decimals most) (le-ltb (nat_abs whole) (10 ^ most) h)

  range_decimals : most < decimals → in_range most whole decimals ≡ false
  unfolding in_range
  range_decimals h = and_fails_second (ltb (nat_abs whole) (10 ^ most)) (lt-leb decimals most h)

  range_within : nat_abs whole < 10 ^ most → decimals ≤ most → in_range most whole decimals ≡ true
  unfolding in_range
  range_within h k = and_both (lt-ltb (nat_abs whole) (10 ^ most) h) (le-leb decimals most k)

  module _ (output : ℕ) where
    pub spelling-out : in_range most whole decimals ≡ false → spelling most whole decimals output ≡ refuses_value out_of_range
    unfolding spelling
    spelling-out e = rw (e, spelling)

    pub spelling-narrow : in_range most whole decimals ≡ true → output < longest_text most → spelling most whole decimals output ≡ refuses_value narrow_output
    unfolding spelling
    spelling-narrow e h = rw (e, lt-ltb output (longest_text most) h, spelling)

    pub spelling-text : in_range most whole decimals ≡ true → longest_text most ≤ output → spelling most whole decimals output ≡ spells (shortest_text most whole decimals)
    unfolding spelling
    spelling-text e h = rw (e, le-ltb output (longest_text most) h, spelling)

  -- a refusal, and a text that was put
  module _ (output : List ℕ) where
    refused : (number : ℕ) → spelling most whole decimals (length output) ≡ refuses_value number → {r : ValueWritten} → r ≡ spelling_told (refuses_value number)
        → WroteValue most whole decimals output r output
    unfolding output_with
    refused number e {r} told =
        subst⁻¹ (λ (s : Spelling). GivesText s output r output) e (record { answers = told; text = refl })

    -- by the sign and the magnitude that the code has in hand
    module _ {negative : Bool} {magnitude : ℕ} (parts : (negative, magnitude) ≡ apart whole) where
      magnitude_is : magnitude ≡ nat_abs whole
      unfolding apart
      magnitude_is = ap (λ (p : Bool × ℕ). p.1) parts

      pub wrote_large : (10 ^ most ≤ magnitude) ⊎ ((magnitude < 10 ^ most) × (most < decimals)) → {r : ValueWritten}
          → r ≡ spelling_told (refuses_value out_of_range) → WroteValue most whole decimals output r output
      wrote_large (inl h) told = refused out_of_range (spelling-out (length output) (range_large (rw magnitude_is at h))) told
      wrote_large (inr h) told = refused out_of_range (spelling-out (length output) (range_decimals h.1)) told

      module _ (few : (magnitude < 10 ^ most) × (decimals ≤ most)) where
        within : in_range most whole decimals ≡ true
        within = let h = few.0 in range_within (rw magnitude_is at h) few.1

        pub wrote_narrow : length output < longest_text most → {r : ValueWritten} → r ≡ spelling_told (refuses_value narrow_output)
            → WroteValue most whole decimals output r output
        wrote_narrow h told = refused narrow_output (spelling-narrow (length output) within h) told

        pub wrote_text : longest_text most ≤ length output → {n : ℕ} {output' : List ℕ}
            → PutText (text_for most negative magnitude decimals) output n output'
            → WroteValue most whole decimals output (record { number = 0; bytes = n }) output'
        unfolding shortest_text spelling_told output_with
        wrote_text h {n} {output'} put =
            let e : text_for most negative magnitude decimals ≡ shortest_text most whole decimals =
            ap (λ (p : Bool × ℕ). text_for most p.0 p.1 decimals) parts in
            subst⁻¹ (λ (s : Spelling). GivesText s output (record { number = 0; bytes = n }) output') (spelling-text (length output) within h)
            (subst⁻¹ (λ (t : List ℕ). GivesText (spells t) output (record { number = 0; bytes = n }) output') (sym e)
            (record { answers = ap {B = ValueWritten} (λ (m : ℕ). record { number = 0; bytes = m }) put.bytes; text = put.stored }))
