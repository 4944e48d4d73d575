-- Letters (R3): whether a text is one of some letters.
-- Assumes nothing.
use mathlib.Core.Bool.{false}
use mathlib.Core.List.{List, [], ◌∷◌}
use mathlib.Core.Path.{◌≡◌, refl}
use Prim.Native.Nat.{ℕ}
use native.Mathlib.Omega.{arith}
use lib.ListN.{length, get_or}
use Rattle.laws.specs.Lists.{among}
use Rattle.screen.specs.Meeting.{is_letter}

-- only a text of one byte is a letter, and then that byte decides
module _ (letters text : List ℕ) where
  pub no_letter : (length text ≡ 1 → ⊥) → false ≡ is_letter letters text
  unfolding is_letter
  no_letter = by text
    where
      by : (s : List ℕ) → (length s ≡ 1 → ⊥) → false ≡ is_letter letters s
      by [] n = refl
      by (b ∷ []) n = absurd (n refl)
      by (b ∷ c ∷ s) n = refl

  pub one_letter : length text ≡ 1 → among letters (get_or text 0 0) ≡ is_letter letters text
  unfolding is_letter
  one_letter = by text
    where
      by : (s : List ℕ) → length s ≡ 1 → among letters (get_or s 0 0) ≡ is_letter letters s
      by [] e = absurd (omega (arith, e))
      by (b ∷ []) e = refl
      by (b ∷ c ∷ s) e = absurd (omega (arith, e))
