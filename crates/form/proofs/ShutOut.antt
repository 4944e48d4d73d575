-- Wrong recognisers and wrong names: what no function with the contract of those that kinds, contexts and letters have answers.
-- Assumes nothing.
use mathlib.Core.Bool.{true}
use mathlib.Core.List.{List, [], ◌∷◌}
use mathlib.Core.Path.{◌≡◌, refl, sym, ap, ◌∙◌}
use Prim.Native.Nat.{ℕ, zero, suc, ◌≤◌}
use native.Mathlib.Omega.{arith}
use lib.ListN.{get_or, take}
use Rattle.laws.specs.Lists.{same, first_from}
use Rattle.laws.specs.Texts.{bytes}
use Rattle.form.specs.declared.letters.Letters.{Letters}
use Rattle.form.specs.declared.letters.Spelled.{Spelled}
use Rattle.form.specs.Names.{kind_names, context_names, number_among, kind_of, context_of, name_of}
use Rattle.form.specs.inner.Lettering.{name_by, letters_of, spelled, with_letter}
use Rattle.form.proofs.Names.{capitals, known_passes, spelled-whole, name-short, kinds-short, kinds_capitals, kind-name, name-kind}

-- by a length and three letters
module _ (f : ℕ → ℕ → ℕ → ℕ → ℕ) (meets : (n a b c : ℕ) → f n a b c ≡ kind_of (name_by n a b c)) where
  -- A, AP, AC and ACT are four things, whatever stands past their length
  pub told-apart : (b c : ℕ) → (f 1 65 b c ≡ 0) × (f 2 65 80 c ≡ 3) × (f 2 65 67 c ≡ 4) × (f 3 65 67 84 ≡ 9)
  unfolding kind_of kind_names bytes number_among first_from same
  told-apart b c = (meets 1 65 b c, meets 2 65 80 c, meets 2 65 67 c, meets 3 65 67 84)

  -- ACTX taken for an ACT
  pub letter_behind : f 4 65 67 84 ≡ 9 → ⊥
  unfolding kind_of kind_names bytes number_among first_from same
  letter_behind h = let z : ⊥ = omega (arith, sym h ∙ meets 4 65 67 84) in z

  -- `AC ` taken for an AC
  pub space-behind : f 3 65 67 32 ≡ 4 → ⊥
  unfolding kind_of kind_names bytes number_among first_from same
  space-behind h = let z : ⊥ = omega (arith, sym h ∙ meets 3 65 67 32) in z

  -- two letters compared where there are three: AC and any other letter taken for an ACT
  pub two_of_three : (c : ℕ) → (c ≡ 84 → ⊥) → f 3 65 67 c ≡ 9 → ⊥
  unfolding kind_names bytes
  two_of_three c other h =
      let text : List ℕ = 65 ∷ 67 ∷ c ∷ [] in
      let nine : kind_of text ≡ 9 = sym (meets 3 65 67 c) ∙ h in
      let same_text : bytes "ACT" ≡ text
      = sym (ap (λ (k : ℕ). get_or ([] ∷ kind_names) k []) nine) ∙ kind-name text (λ e. let z : ⊥ = omega (arith, sym e ∙ nine) in z) in
      other (sym (ap (λ (t : List ℕ). get_or t 2 0) same_text))

  -- small letters taken for capitals
  pub small_letters : f 2 97 112 0 ≡ 3 → ⊥
  unfolding kind_of kind_names bytes number_among first_from same
  small_letters h = let z : ⊥ = omega (arith, sym h ∙ meets 2 97 112 0) in z

-- of a text
module _ (f : List ℕ → ℕ) (meets : (t : List ℕ) → f t ≡ kind_of t) where
  -- whatever has a kind is of capital letters alone
  pub capitals_alone : (t : List ℕ) → (f t ≡ 0 → ⊥) → capitals t ≡ true
  unfolding kind_of
  capitals_alone t h = known_passes kind_names capitals kinds_capitals t (λ e. h (meets t ∙ e))

  pub text-behind : (f (bytes "ACTX") ≡ 9 → ⊥) × (f (bytes "AC ") ≡ 4 → ⊥) × (f (bytes "obx") ≡ 6 → ⊥)
  unfolding kind_of kind_names bytes number_among first_from same
  text-behind = (
    λ h. let z : ⊥ = omega (arith, sym h ∙ meets (bytes "ACTX")) in z,
    λ h. let z : ⊥ = omega (arith, sym h ∙ meets (bytes "AC ")) in z,
    λ h. let z : ⊥ = omega (arith, sym h ∙ meets (bytes "obx")) in z,
  )

-- a context likewise: ORUX, or ORV by its first two letters, taken for an ORU
module _ (f : ℕ → ℕ → ℕ → ℕ → ℕ) (meets : (n a b c : ℕ) → f n a b c ≡ context_of (name_by n a b c)) where
  pub context-behind : (f 4 79 82 85 ≡ 6 → ⊥) × (f 3 79 82 86 ≡ 6 → ⊥)
  unfolding context_of context_names bytes number_among first_from same
  context-behind =
      (λ h. let z : ⊥ = omega (arith, sym h ∙ meets 4 79 82 85) in z, λ h. let z : ⊥ = omega (arith, sym h ∙ meets 3 79 82 86) in z)

module _ (f : List ℕ → ℕ) (meets : (t : List ℕ) → f t ≡ context_of t) where
  pub context-text-behind : (f (bytes "ORUX") ≡ 6 → ⊥) × (f (bytes "oru") ≡ 6 → ⊥)
  unfolding context_of context_names bytes number_among first_from same
  context-text-behind =
      (λ h. let z : ⊥ = omega (arith, sym h ∙ meets (bytes "ORUX")) in z, λ h. let z : ⊥ = omega (arith, sym h ∙ meets (bytes "oru")) in z)

-- the name of a number
module _ (f : ℕ → Spelled) (meets : (n : ℕ) → f n ≡ spelled (name_of kind_names n)) where
  -- recognised again, it gives that number
  pub name_back : (n : ℕ) → 1 ≤ n → n ≤ 12 → kind_of (take (f n).0 (f n).1) ≡ n
  unfolding name_of
  name_back n l u =
      ap (λ (s : Spelled). kind_of (take s.0 s.1)) (meets n)
      ∙ ap kind_of (spelled-whole (name_of kind_names n) (name-short kind_names kinds-short n) ∙ name_at n)
      ∙ name-kind n l u
    where
      name_at : (n : ℕ) → name_of kind_names n ≡ get_or ([] ∷ kind_names) n []
      name_at zero = refl
      name_at (suc n) = refl

  -- AC put out for an ACT, and a name past the last number
  pub other_name : (f 9 ≡ spelled (bytes "AC") → ⊥) × (f 13 ≡ spelled (bytes "C") → ⊥)
  unfolding name_of kind_names bytes
  other_name = (
    λ h. let z : ⊥ = omega (arith, ap (λ (s : Spelled). s.0) (sym h ∙ meets 9)) in z,
    λ h. let z : ⊥ = omega (arith, ap (λ (s : Spelled). s.0) (sym h ∙ meets 13)) in z,
  )

-- of a context: ORA put out for an ORU, and a name for 0
module _ (f : ℕ → Spelled) (meets : (n : ℕ) → f n ≡ spelled (name_of context_names n)) where
  pub other-context : (f 6 ≡ spelled (bytes "ORA") → ⊥) × (f 0 ≡ spelled (bytes "ADM") → ⊥)
  unfolding name_of context_names bytes
  other-context = (
    λ h. let z : ⊥ = omega (arith, ap (λ (s : Spelled). get_or s.1 2 0) (sym h ∙ meets 6)) in z,
    λ h. let z : ⊥ = omega (arith, ap (λ (s : Spelled). s.0) (sym h ∙ meets 0)) in z,
  )

-- the letters of a text: a fourth not counted, and a letter where there is none
module _ (f : List ℕ → Letters) (meets : (t : List ℕ) → f t ≡ letters_of t) where
  pub fourth_uncounted : (f (bytes "ACTX")).length ≡ 3 → ⊥
  unfolding bytes
  fourth_uncounted h = let z : ⊥ = omega (arith, sym h ∙ ap (λ (l : Letters). l.length) (meets (bytes "ACTX"))) in z

  pub letter_too_many : (f (bytes "A")).second ≡ 65 → ⊥
  unfolding bytes
  letter_too_many h = let z : ⊥ = omega (arith, sym h ∙ ap (λ (l : Letters). l.second) (meets (bytes "A"))) in z

-- one letter more: put in the place of the one before it, and a fifth counted
module _ (f : Letters → ℕ → Letters) (meets : (l : Letters) (b : ℕ) → f l b ≡ with_letter l b) where
  pub letter_replaced : (f (record { length = 1; first = 65; second = 0; third = 0 }) 67).first ≡ 67 → ⊥
  unfolding with_letter
  letter_replaced h =
      let z : ⊥ = omega (arith, sym h ∙ ap (λ (l : Letters). l.first) (meets (record { length = 1; first = 65; second = 0; third = 0 }) 67)) in z

  pub fifth_counted : (f (record { length = 4; first = 65; second = 67; third = 84 }) 88).length ≡ 5 → ⊥
  unfolding with_letter
  fifth_counted h =
      let z : ⊥ = omega (arith, sym h ∙ ap (λ (l : Letters). l.length) (meets (record { length = 4; first = 65; second = 67; third = 84 }) 88)) in z
