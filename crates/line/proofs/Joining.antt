-- Joining: the step equations of `carried` and `joined`, and what joining does to lines of addenda.
-- Assumes nothing.
use mathlib.Core.Bool.{true, false}
use mathlib.Core.Path.{◌≡◌, refl, ap, ◌∙◌}
use mathlib.Core.List.{List, [], ◌∷◌, ◌++◌, append_assoc}
use Prim.Native.Nat.{ℕ, zero, suc, ◌≤◌}
use native.Mathlib.Omega.{arith}
use lib.ListN.{length, take, drop}
use borrow.Author.Tests.{eq-eqb}
use Rattle.laws.specs.Lists.{concat}
use Rattle.line.specs.Joining.{letter_a, addendum, carried, joined}
use Rattle.line.specs.Cutting.{addenda}

module _ (f : ℕ) where
  pub addendum-line : (t : List ℕ) → addendum f (letter_a ∷ f ∷ t) ≡ true
  unfolding addendum
  addendum-line t = rw (eq-eqb f f refl)

  -- an addendum has its `A` and its separator
  pub addendum-long : (l : List ℕ) → addendum f l ≡ true → 2 ≤ length l
  unfolding addendum
  addendum-long [] h = let z : ◌≡◌ {A = ℕ} 0 1 = cc in absurd (omega arith)
  addendum-long (a ∷ []) h = let z : ◌≡◌ {A = ℕ} 0 1 = cc in absurd (omega arith)
  addendum-long (a ∷ b ∷ l) h = omega arith

  -- the first two bytes decide it
  pub addendum-take : (k : ℕ) (l : List ℕ) → addendum f (take (suc (suc k)) l) ≡ addendum f l
  unfolding addendum
  addendum-take k [] = refl
  addendum-take k (a ∷ []) = refl
  addendum-take k (a ∷ b ∷ l) = refl

  -- no front of a list that does not begin as one is an addendum
  pub addendum_front : (k : ℕ) (l : List ℕ) → addendum f l ≡ false → addendum f (take k l) ≡ false
  unfolding addendum
  addendum_front zero l h = refl
  addendum_front (suc k) [] h = refl
  addendum_front (suc zero) (a ∷ l) h = refl
  addendum_front (suc (suc k)) (a ∷ l) h = addendum-take k (a ∷ l) ∙ h

  pub carried-addendum : (l : List ℕ) (ls : List (List ℕ)) → addendum f l ≡ true → carried f (l ∷ ls) ≡ drop 2 l ++ carried f ls
  unfolding carried
  carried-addendum l ls h = rw (h, carried)

  pub carried-segment : (l : List ℕ) (ls : List (List ℕ)) → addendum f l ≡ false → carried f (l ∷ ls) ≡ []
  unfolding carried
  carried-segment l ls h = rw (h, carried)

  pub joined-addendum : (l : List ℕ) (ls : List (List ℕ)) → addendum f l ≡ true → joined f (l ∷ ls) ≡ joined f ls
  unfolding joined
  joined-addendum l ls h = rw (h, joined)

  pub joined-segment : (l : List ℕ) (ls : List (List ℕ)) → addendum f l ≡ false → joined f (l ∷ ls) ≡ (l ++ carried f ls) ∷ joined f ls
  unfolding joined
  joined-segment l ls h = rw (h, joined)

  pub carried-addenda : (ts rest : List (List ℕ)) → carried f (addenda f ts ++ rest) ≡ concat ts ++ carried f rest
  unfolding addenda concat
  carried-addenda [] rest = refl
  carried-addenda (t ∷ ts) rest =
      carried-addendum (letter_a ∷ f ∷ t) (addenda f ts ++ rest) (addendum-line t)
      ∙ ap (λ (r : List ℕ). t ++ r) (carried-addenda ts rest)
      ∙ rw (append_assoc t (concat ts) (carried f rest))

  pub joined-addenda : (ts rest : List (List ℕ)) → joined f (addenda f ts ++ rest) ≡ joined f rest
  unfolding addenda
  joined-addenda [] rest = refl
  joined-addenda (t ∷ ts) rest = joined-addendum (letter_a ∷ f ∷ t) (addenda f ts ++ rest) (addendum-line t) ∙ joined-addenda ts rest
