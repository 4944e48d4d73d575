-- The tests of a leaf row's place, number by number: what is left of it gives the whole.
-- Assumes nothing.
use mathlib.Core.Bool.{Bool, true, false, ◌&&◌, and-true}
use mathlib.Core.List.{List, [], ◌∷◌}
use mathlib.Core.Logic.{◌⊎◌, inl, inr}
use mathlib.Core.Path.{◌≡◌, refl, sym, ap, ap₂, ◌∙◌}
use Prim.Native.Nat.{ℕ, suc, ◌+◌, ◌≤◌, ◌<◌}
use native.Mathlib.Omega.{arith}
use lib.Dec.{eqb}
use lib.ListN.{length, take, drop, get_or}
use borrow.Author.Tests.{eq-eqb, ne_eqb}
use Rattle.laws.specs.Lists.{same}
use Rattle.laws.proofs.Parts.{left_cons}
use Rattle.laws.proofs.Tests.{and_passed, and_fails_first}
use Rattle.laws.specs.Tables.{values}
use Rattle.laws.proofs.Cases.{equal_or_not}
use Rattle.table.specs.inner.Flat.{ones}
use Rattle.table.specs.inner.RowTests.{next_place}
use Rattle.table.proofs.RowTests.{next-same, next-raised}
use Rattle.write.specs.inner.Tests.{finer}
use Rattle.write.specs.inner.Asked.{TwoPlaces}

-- two lists that begin alike, or differently
same_on : {a b : ℕ} (s t : List ℕ) → a ≡ b → same (a ∷ s) (b ∷ t) ≡ same s t
unfolding same
same_on {a} {b} s t e = and_passed (same s t) (eq-eqb a b e)

same-other : {a b : ℕ} (s t : List ℕ) → (a ≡ b → ⊥) → same (a ∷ s) (b ∷ t) ≡ false
unfolding same
same-other {a} {b} s t n = and_fails_first (same s t) (ne_eqb a b n)

-- a place is five numbers
module _ (rows : List ℕ) (at : ℕ) (long : at + 5 ≤ length rows) where
  abbrev pub five : List ℕ
  five = get_or rows at 0 ∷ get_or rows (at + 1) 0 ∷ get_or rows (at + 2) 0 ∷ get_or rows (at + 3) 0 ∷ get_or rows (at + 4) 0 ∷ []

  next : (a b : ℕ) → b ≡ a + 1 → b < length rows → drop (a + 1) rows ≡ get_or rows b 0 ∷ drop (b + 1) rows
  next a b e h = ap (λ (n : ℕ). drop n rows) (sym e) ∙ left_cons rows b 0 h

  pub five_at : take 5 (drop at rows) ≡ five
  five_at =
      ap (take 5)
      (left_cons rows at 0 (omega arith)
      ∙ ap (λ (r : List ℕ). get_or rows at 0 ∷ r)
      (next at (at + 1) (omega arith) (omega arith)
      ∙ ap (λ (r : List ℕ). get_or rows (at + 1) 0 ∷ r)
      (next (at + 1) (at + 2) (omega arith) (omega arith)
      ∙ ap (λ (r : List ℕ). get_or rows (at + 2) 0 ∷ r)
      (next (at + 2) (at + 3) (omega arith) (omega arith)
      ∙ ap (λ (r : List ℕ). get_or rows (at + 3) 0 ∷ r) (next (at + 3) (at + 4) (omega arith) (omega arith))))))

-- numbers that are to be 1: one that is not, and one that is
pub ones_fail : {b : ℕ} (s t : List ℕ) → (b ≡ 1 → ⊥) → false ≡ same (1 ∷ s) (b ∷ t)
ones_fail s t n = sym (same-other s t (λ e. n (sym e)))

pub ones_on : {b : ℕ} (s t : List ℕ) {r : Bool} → b ≡ 1 → r ≡ same s t → r ≡ same (1 ∷ s) (b ∷ t)
ones_on s t e h = h ∙ sym (same_on s t (sym e))

pub one_left : (b : ℕ) → eqb b 1 ≡ same (1 ∷ []) (b ∷ [])
unfolding same
one_left b = go (equal_or_not b 1)
  where
    go : (b ≡ 1) ⊎ (b ≡ 1 → ⊥) → eqb b 1 ≡ (eqb 1 b && true)
    go (inl e) = eq-eqb b 1 e ∙ sym (and_passed true (eq-eqb 1 b (sym e)))
    go (inr n) = ne_eqb b 1 n ∙ sym (and_fails_first true (ne_eqb 1 b (λ e. n (sym e))))

-- the next place, number by number: what is left of two places that are the same up to here decides
pub record Next (from to : List ℕ) (whole : Bool) : Type 0 where
  pub so : next_place from to ≡ whole

module _ {m n : ℕ} {s t : List ℕ} {whole : Bool} (w : Next (m ∷ s) (n ∷ t) whole) where
  pub next_goes_on : m ≡ n → Next s t whole
  next_goes_on e = record { so = sym (next-same m s n t e) ∙ w.so }

  module _ (d : m ≡ n → ⊥) where
    pub next-fails : eqb (suc m) n ≡ false → false ≡ whole
    next-fails e = sym (and_fails_first (same (ones s) t) e) ∙ sym (next-raised m s n t d) ∙ w.so

    pub next-rises : eqb (suc m) n ≡ true → {r : Bool} → r ≡ same (ones s) t → r ≡ whole
    next-rises e h = h ∙ sym (and_passed (same (ones s) t) e) ∙ sym (next-raised m s n t d) ∙ w.so

pub next_last : {m n : ℕ} {whole : Bool} → Next (m ∷ []) (n ∷ []) whole → eqb (suc m) n ≡ whole
unfolding next_place ones same
next_last {m} {n} {whole} w = go (equal_or_not m n)
  where
    go : (m ≡ n) ⊎ (m ≡ n → ⊥) → eqb (suc m) n ≡ whole
    go (inl e) = ne_eqb (suc m) n (λ z. omega arith) ∙ (next_goes_on w e).so
    go (inr d) = sym (and-true (eqb (suc m) n)) ∙ sym (next-raised m [] n [] d) ∙ w.so

-- two places as numbers, and what is left of them after some
module _ {rows : List ℕ} {from to : ℕ} (w : TwoPlaces rows from to) where
  pub next-numbers : Next (get_or rows from 0 ∷ finer rows from 1) (get_or rows to 0 ∷ finer rows to 1) (next_place (take 5 (drop from rows)) (take 5 (drop to rows)))
  unfolding values
  next-numbers = record { so = ap₂ next_place (sym (five_at rows from w.former)) (sym (five_at rows to w.latter)) }

  pub next-left : (k : ℕ) → Next (finer rows from k) (finer rows to k) (next_place (finer rows from k) (finer rows to k))
  next-left k = record { so = refl }
