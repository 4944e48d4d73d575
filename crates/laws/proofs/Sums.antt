-- Lists one after the other: their length, and sums over lists.
-- Assumes nothing.
use mathlib.Core.Path.{◌≡◌, refl, ap, ◌∙◌}
use mathlib.Core.List.{List, [], ◌∷◌, ◌++◌, append_assoc}
use Prim.Native.Nat.{ℕ, zero, suc, ◌+◌, ◌≤◌}
use native.Mathlib.Omega.{arith}
use lib.ListN.{length, take, get_or, length-append}
use Rattle.laws.specs.Lists.{concat, sum_of}

module _ {ℓ} {A : Type ℓ} where
  pub sum_of_nil : (f : A → ℕ) → sum_of f [] ≡ 0
  unfolding sum_of
  sum_of_nil f = refl

  pub sum_of_cons : (f : A → ℕ) (a : A) (s : List A) → sum_of f (a ∷ s) ≡ f a + sum_of f s
  unfolding sum_of
  sum_of_cons f a s = refl

  pub sum_of_append : (f : A → ℕ) (s t : List A) → sum_of f (s ++ t) ≡ sum_of f s + sum_of f t
  unfolding sum_of
  sum_of_append f [] t = omega arith
  sum_of_append f (a ∷ s) t = omega (arith, sum_of_append f s t)

  pub concat-append : (ss tt : List (List A)) → concat (ss ++ tt) ≡ concat ss ++ concat tt
  unfolding concat
  concat-append [] tt = refl
  concat-append (s ∷ ss) tt = ap (λ (r : List A). s ++ r) (concat-append ss tt) ∙ rw (append_assoc s (concat ss) (concat tt))

  pub length-concat : (ss : List (List A)) → length (concat ss) ≡ sum_of length ss
  unfolding concat sum_of
  length-concat [] = refl
  length-concat (s ∷ ss) = omega (arith, length-append s (concat ss), length-concat ss)

  -- what stands before one of some lists, and the list itself, is no more than all of them
  pub part_within : (ss : List (List A)) (i : ℕ) → length (concat (take i ss)) + length (get_or ss i []) ≤ length (concat ss)
  unfolding concat
  part_within [] zero = omega arith
  part_within [] (suc i) = omega arith
  part_within (s ∷ ss) zero = omega (arith, length-append s (concat ss))
  part_within (s ∷ ss) (suc i) = omega (arith, length-append s (concat ss), length-append s (concat (take i ss)), part_within ss i)
