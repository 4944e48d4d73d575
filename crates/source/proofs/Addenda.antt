-- Whether a line is an addendum (rule A1): it begins with the letter and the field separator.
-- Assumes nothing.
use mathlib.Core.Bool.{Bool, false, ◌&&◌, and-true}
use mathlib.Core.List.{List, [], ◌∷◌}
use mathlib.Core.Path.{◌≡◌, refl, ap, ap₂, ◌∙◌}
use Prim.Native.Nat.{ℕ}
use native.Mathlib.Omega.{arith}
use lib.Dec.{eqb}
use lib.ListN.{take, get_or}
use borrow.Author.Tests.{ne_eqb}
use lib.Pointwise.{pointwise}
use Rattle.line.specs.Joining.{addendum, letter_a}

turned : (a b : ℕ) → eqb a b ≡ eqb b a
turned a b = grind arith

pub told_by_front : (f : ℕ) (l : List ℕ) → pointwise eqb (letter_a ∷ f ∷ []) (take 2 l) ≡ addendum f l
unfolding addendum
told_by_front f [] = refl
told_by_front f (a ∷ []) = grind arith
told_by_front f (a ∷ b ∷ l) = ap₂ ◌&&◌ (turned letter_a a) (and-true (eqb f b) ∙ turned f b)

-- a line that begins with another letter is none
pub other_letter : (f : ℕ) (l : List ℕ) → (get_or l 0 0 ≡ letter_a → ⊥) → addendum f l ≡ false
unfolding addendum
other_letter f [] h = refl
other_letter f (a ∷ []) h = refl
other_letter f (a ∷ b ∷ l) h = ap (λ (t : Bool). t && eqb b f) (ne_eqb a letter_a h)
