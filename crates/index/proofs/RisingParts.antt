-- A part of a table of entries rises exactly where each length is right and each code comes before the next.
-- Assumes nothing.
use mathlib.Core.Bool.{true}
use mathlib.Core.List.{List}
use mathlib.Core.Logic.{◌⊎◌, inl, inr}
use mathlib.Core.Path.{◌≡◌, refl, subst}
use Prim.Native.Nat.{ℕ, zero, suc, ◌+◌, ◌<◌, ◌≤◌}
use native.Mathlib.Omega.{arith}
use Rattle.laws.specs.Tables.{values}
use Rattle.laws.proofs.Cases.{equal_or_not}
use Rattle.index.specs.Order.{comes_before}
use Rattle.index.specs.Index.{Entry, code_most, length_of, entry_code, rises_after}
use Rattle.index.proofs.Orders.{before_is, is_before_lem}
use Rattle.index.proofs.Steps.{rises-rising, rising-rises}

module _ (f : ℕ → Entry) where
  -- n entries of it, from the k-th on, rise after a code
  pub record PartRises (last : List ℕ) (k n : ℕ) : Type 0 where
    pub lengths : (i : ℕ) → k ≤ i → i < k + n → (1 ≤ length_of (f i)) × (length_of (f i) ≤ code_most)
    pub first : 1 ≤ n → comes_before last (entry_code (f k)) ≡ true
    pub rising : (i : ℕ) → k ≤ i → suc i < k + n → comes_before (entry_code (f i)) (entry_code (f (suc i))) ≡ true

  pub rises_part : (last : List ℕ) (k n : ℕ) → rises_after last (values f k n) ≡ true → PartRises last k n
  unfolding values
  rises_part last k zero w =
      record {
        lengths = λ i low high. absurd (omega (arith, low, high));
        first = λ h. absurd (omega (arith, h));
        rising = λ i low high. absurd (omega (arith, low, high));
      }
  rises_part last k (suc n) w =
      let r = rises-rising last (f k) (values f (suc k) n) w in
      let ih = rises_part (entry_code (f k)) (suc k) n r.rest in
      record {
        lengths = λ i low high. lengths i low high (r.some, r.short) ih (equal_or_not k i);
        first = λ h. is_before_lem last (entry_code (f k)) r.behind;
        rising = λ i low high. rising i low high ih (equal_or_not k i);
      }
    where
      lengths : (i : ℕ) → k ≤ i → i < k + suc n → (1 ≤ length_of (f k)) × (length_of (f k) ≤ code_most)
          → PartRises (entry_code (f k)) (suc k) n → (k ≡ i) ⊎ (k ≡ i → ⊥) → (1 ≤ length_of (f i)) × (length_of (f i) ≤ code_most)
      lengths i low high here ih (inl e) = subst (λ (j : ℕ). (1 ≤ length_of (f j)) × (length_of (f j) ≤ code_most)) e here
      lengths i low high here ih (inr e) = ih.lengths i (omega (arith, low, e)) (omega (arith, high))

      rising : (i : ℕ) → k ≤ i → suc i < k + suc n → PartRises (entry_code (f k)) (suc k) n → (k ≡ i) ⊎ (k ≡ i → ⊥)
          → comes_before (entry_code (f i)) (entry_code (f (suc i))) ≡ true
      rising i low high ih (inl e) =
          subst (λ (j : ℕ). comes_before (entry_code (f j)) (entry_code (f (suc j))) ≡ true) e (ih.first (omega (arith, high, e)))
      rising i low high ih (inr e) = ih.rising i (omega (arith, low, e)) (omega (arith, high))

  pub part_rises : (last : List ℕ) (k n : ℕ) → PartRises last k n → rises_after last (values f k n) ≡ true
  unfolding values rises_after
  part_rises last k zero p = refl
  part_rises last k (suc n) p =
      rising-rises last (f k) (values f (suc k) n)
      (record {
        some = (p.lengths k (omega arith) (omega arith)).0;
        short = (p.lengths k (omega arith) (omega arith)).1;
        behind = before_is last (entry_code (f k)) (p.first (omega arith));
        rest =
            part_rises (entry_code (f k)) (suc k) n
            (record {
              lengths = λ i low high. p.lengths i (omega (arith, low)) (omega (arith, high));
              first = λ h. p.rising k (omega arith) (omega (arith, h));
              rising = λ i low high. p.rising i (omega (arith, low)) (omega (arith, high));
            });
      })
