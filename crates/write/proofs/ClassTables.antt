-- What a class says of a byte of a leaf's text: one of class 0 may stand there, one of another class may not.
-- Assumes nothing.
use mathlib.Core.Bool.{Bool, true, false, not, ◌&&◌}
use mathlib.Core.List.{List, [], ◌∷◌}
use mathlib.Core.Logic.{◌⊎◌, inl, inr}
use mathlib.Core.Path.{◌≡◌, refl, ap, ap₂, sym, ◌∙◌}
use Prim.Native.Nat.{ℕ, suc, ◌≤◌, ◌<◌}
use native.Mathlib.Omega.{arith}
use lib.Dec.{leb, eqb}
use lib.ListN.{get_or}
use borrow.Author.Tests.{eqb-true, eqb-false, le-leb, lt-leb}
use Rattle.laws.specs.Lists.{among}
use Rattle.laws.proofs.Cases.{less_or_not}
use Rattle.laws.proofs.Tests.{Tested, passed, failed, tested, and_both, and_fails_first, and_fails_second}
use Rattle.form.specs.declared.separators.Separators.{Separators}
use Rattle.form.specs.Header.{splitting}
use Rattle.table.specs.inner.Classes.{class_of, class_table}
use Rattle.table.proofs.Classes.{class_at, class_low, class_high, sort_none, sort_some}
use Rattle.std.specs.List.{list_all}
use Rattle.table.specs.inner.RowTests.{leaf_text}
use Rattle.write.specs.inner.Tests.{leaf_byte}

-- as the table has it at a byte's index
module _ (ps : Separators) {table : List ℕ} (e : table ≡ class_table ps) {b i : ℕ} (at : i ≡ b) (few : i < 256) where
  class_there : get_or table i 0 ≡ class_of ps b
  class_there = ap (λ (t : List ℕ). get_or t i 0) e ∙ class_at ps i few ∙ ap (class_of ps) at

  pub text-ends : (get_or table i 0 ≡ 0 → ⊥) → leaf_byte (splitting ps) b ≡ false
  unfolding leaf_byte
  text-ends n = go (less_or_not b 32) (tested (among (splitting ps) b))
    where
      go : (b < 32) ⊎ (32 ≤ b) → Tested (among (splitting ps) b) → leaf_byte (splitting ps) b ≡ false
      go (inl h) t = and_fails_first (not (among (splitting ps) b)) (lt-leb 32 b h)
      go (inr h) (passed m) = and_fails_second (leb 32 b) (ap not m)
      go (inr h) (failed m) = absurd (n (class_there ∙ class_high ps b h ∙ sort_none ps b m))

  pub text_goes_on : get_or table i 0 ≡ 0 → leaf_byte (splitting ps) b ≡ true
  unfolding leaf_byte
  text_goes_on q = go (less_or_not b 32) (tested (among (splitting ps) b))
    where
      none : class_of ps b ≡ 0
      none = sym class_there ∙ q

      go : (b < 32) ⊎ (32 ≤ b) → Tested (among (splitting ps) b) → leaf_byte (splitting ps) b ≡ true
      go (inl h) t = let z : ⊥ = omega (arith, none, class_low ps b h) in absurd z
      go (inr h) (passed m) = let z : ⊥ = omega (arith, none, class_high ps b h, sort_some ps b m) in absurd z
      go (inr h) (failed m) = and_both (le-leb 32 b h) (ap not m)

  -- so the class decides
  class_decides : eqb (get_or table i 0) 0 ≡ leaf_byte (splitting ps) b
  class_decides = go (tested (eqb (get_or table i 0) 0))
    where
      go : Tested (eqb (get_or table i 0) 0) → eqb (get_or table i 0) 0 ≡ leaf_byte (splitting ps) b
      go (passed q) = q ∙ sym (text_goes_on (eqb-true (get_or table i 0) 0 q))
      go (failed q) = q ∙ sym (text-ends (eqb-false (get_or table i 0) 0 q))

-- a text of which each byte is of class 0
pub text_by_classes : (ps : Separators) {table : List ℕ} → table ≡ class_table ps → (s : List ℕ) → ((i : ℕ) → get_or s i 0 < 256)
    → list_all (λ (b : ℕ). eqb (get_or table b 0) 0) s ≡ leaf_text (splitting ps) s
unfolding leaf_text leaf_byte
text_by_classes ps e [] bytes = refl
text_by_classes ps {table} e (b ∷ s) bytes =
    ap₂ (λ (x y : Bool). x && y) (class_decides ps e refl (bytes 0)) (text_by_classes ps e s (λ i. bytes (suc i)))
