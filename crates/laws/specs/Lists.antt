-- Small functions on lists that the definitions of every floor use.
-- Assumes nothing.
use Rattle.std.specs.Prelude.{Bool, true, false, ◌&&◌, List, [], ◌∷◌, ◌++◌, ℕ, suc, ◌+◌, eqb}

-- whether two lists of numbers are the same
unfoldable pub same : List ℕ → List ℕ → Bool
same [] [] = true
same [] (b ∷ t) = false
same (a ∷ s) [] = false
same (a ∷ s) (b ∷ t) = eqb a b && same s t

-- whether a number stands in a list
unfoldable pub among : List ℕ → ℕ → Bool
among [] b = false
among (a ∷ s) b = elim (eqb b a) [ true ↦ true | false ↦ among s b ]

-- how many elements pass a test
unfoldable pub count {ℓ} : {A : Type ℓ} → (A → Bool) → List A → ℕ
count p [] = 0
count p (a ∷ s) = elim (p a) [ true ↦ suc (count p s) | false ↦ count p s ]

-- the sum of what f makes of each element
unfoldable pub sum_of {ℓ} : {A : Type ℓ} → (A → ℕ) → List A → ℕ
sum_of f [] = 0
sum_of f (a ∷ s) = f a + sum_of f s

-- the lists of a list, one after the other
unfoldable pub concat {ℓ} : {A : Type ℓ} → List (List A) → List A
concat [] = []
concat (s ∷ ss) = s ++ concat ss

-- what f makes of each element and its number, the first element having the number n, one after the other
unfoldable pub numbered {ℓ ℓ'} : {A : Type ℓ} {B : Type ℓ'} → (ℕ → A → List B) → ℕ → List A → List B
numbered f n [] = []
numbered f n (a ∷ s) = f n a ++ numbered f (suc n) s

-- the number, counted from n, of the first element that passes a test, or 0 where none does
unfoldable pub first_from {ℓ} : {A : Type ℓ} → (A → Bool) → ℕ → List A → ℕ
first_from p n [] = 0
first_from p n (a ∷ s) = elim (p a) [ true ↦ n | false ↦ first_from p (suc n) s ]
