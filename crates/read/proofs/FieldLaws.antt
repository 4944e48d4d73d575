-- The fields of a segment, byte by byte: what one more byte in front does to the first field and to later ones.
-- Assumes nothing.
use mathlib.Core.List.{List, [], ◌∷◌}
use mathlib.Core.Path.{◌≡◌, refl, ap, ◌∙◌}
use Prim.Native.Nat.{ℕ, zero, suc}
use lib.ListN.{get_or}
use borrow.Author.Tests.{eq-eqb, ne_eqb}
use Rattle.table.specs.Leaves.{split, onto}

-- the field of a number among those of a segment that begins with the byte b
module _ (field b : ℕ) (s : List ℕ) where
  split_separator : b ≡ field → split field (b ∷ s) ≡ [] ∷ split field s
  unfolding split
  split_separator h = rw (eq-eqb b field h, split)

  split_letter : (b ≡ field → ⊥) → split field (b ∷ s) ≡ onto b (split field s)
  unfolding split
  split_letter h = rw (ne_eqb b field h, split)

onto-first : (b : ℕ) (ts : List (List ℕ)) → get_or (onto b ts) 0 [] ≡ b ∷ get_or ts 0 []
unfolding onto
onto-first b [] = refl
onto-first b (t ∷ ts) = refl

onto-later : (b : ℕ) (ts : List (List ℕ)) (n : ℕ) → get_or (onto b ts) (suc n) [] ≡ get_or ts (suc n) []
unfolding onto
onto-later b [] n = refl
onto-later b (t ∷ ts) n = refl

pub no_fields : (field n : ℕ) → get_or (split field []) n [] ≡ []
unfolding split
no_fields field zero = refl
no_fields field (suc n) = refl

module _ (field b : ℕ) (s : List ℕ) where
  pub first-cut : b ≡ field → get_or (split field (b ∷ s)) 0 [] ≡ []
  first-cut h = ap (λ (ts : List (List ℕ)). get_or ts 0 []) (split_separator field b s h)

  pub later-cut : (n : ℕ) → b ≡ field → get_or (split field (b ∷ s)) (suc n) [] ≡ get_or (split field s) n []
  later-cut n h = ap (λ (ts : List (List ℕ)). get_or ts (suc n) []) (split_separator field b s h)

  pub first_more : (b ≡ field → ⊥) → get_or (split field (b ∷ s)) 0 [] ≡ b ∷ get_or (split field s) 0 []
  first_more h = ap (λ (ts : List (List ℕ)). get_or ts 0 []) (split_letter field b s h) ∙ onto-first b (split field s)

  pub later_same : (n : ℕ) → (b ≡ field → ⊥) → get_or (split field (b ∷ s)) (suc n) [] ≡ get_or (split field s) (suc n) []
  later_same n h = ap (λ (ts : List (List ℕ)). get_or ts (suc n) []) (split_letter field b s h) ∙ onto-later b (split field s) n
