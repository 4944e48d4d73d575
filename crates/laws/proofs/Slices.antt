-- What std's methods of slices come to in the words of this repository: comparing, looking for an element, and copying.
-- Assumes nothing.
use Rattle.std.specs.Prelude.{Bool, true, false, ◌&&◌, List, [], ◌∷◌, ◌++◌, ℕ, ◌+◌, ◌≤◌, eqb, ◌≡◌, length, take, drop}
use Rattle.std.specs.List.{list_any}
use mathlib.Core.Bool.{◌||◌}
use mathlib.Core.Path.{refl, ap, sym, ◌∙◌}
use native.Mathlib.Omega.{arith}
use Rattle.std.proofs.lemmas.List.{append_assoc, drop-drop}
use lib.Pointwise.{pointwise}
use lib.Seq.{sets, sets-eq}
use borrow.Rule.Slice.PartMut.{put_mid}
use Rattle.laws.specs.Lists.{same, among}

-- `==` of two slices of numbers
pub same_by_eq : (s t : List ℕ) → pointwise eqb s t ≡ same s t
unfolding same
same_by_eq [] [] = refl
same_by_eq [] (b ∷ t) = refl
same_by_eq (a ∷ s) [] = refl
same_by_eq (a ∷ s) (b ∷ t) = ap (λ (r : Bool). eqb a b && r) (same_by_eq s t)

eqb_turned : (a b : ℕ) → eqb a b ≡ eqb b a
eqb_turned a b = grind arith

-- `contains`
pub among_by_any : (s : List ℕ) (b : ℕ) → list_any (λ (a : ℕ). eqb a b) s ≡ among s b
unfolding among
among_by_any [] b = refl
among_by_any (a ∷ s) b = ap (λ (r : Bool). r || list_any (λ (x : ℕ). eqb x b) s) (eqb_turned a b) ∙ found_or (eqb b a) (among_by_any s b)
  where
    found_or : (r : Bool) → list_any (λ (x : ℕ). eqb x b) s ≡ among s b → (r || list_any (λ (x : ℕ). eqb x b) s) ≡ elim r [ true ↦ true | false ↦ among s b ]
    found_or true e = refl
    found_or false e = e

-- `to[..n].copy_from_slice(..)` of a slice of n
pub front_copied : {A : Type 0} (l s : List A) → length s ≤ length l → s ++ drop (length s) l ≡ sets l 0 s
front_copied {A = A} l s h = ap (λ (k : ℕ). s ++ drop k l) (let e : length s ≡ 0 + length s = omega arith in e) ∙ sym (sets-eq s l 0 (omega (arith, h)))

-- `to[at..at + n].copy_from_slice(..)` likewise
pub middle_copied : {A : Type 0} (l s : List A) (at n : ℕ) → n ≡ length s → at + n ≤ length l → put_mid at n l s ≡ sets l at s
middle_copied {A = A} l s at n e h =
    ap (λ (r : List A). take at l ++ (s ++ r)) (drop-drop n at l ∙ ap (λ (k : ℕ). drop (at + k) l) e) ∙ sym (append_assoc (take at l) s (drop (at + length s) l)) ∙ sym (sets-eq s l at (omega (arith, e, h)))
