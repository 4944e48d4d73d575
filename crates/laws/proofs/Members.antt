-- Whether a number stands in a list: at its head, further on, in one of two lists. Whether two lists are the same.
-- Lists backwards.
-- Assumes nothing.
use mathlib.Core.Bool.{Bool, true, false, ◌&&◌, false≢true}
use mathlib.Core.List.{List, [], ◌∷◌, ◌++◌, reverse_aux}
use mathlib.Core.Logic.{◌⊎◌, inl, inr, ⊎_elim}
use mathlib.Core.Path.{◌≡◌, refl, sym, ap, ap₂, ◌∙◌}
use Prim.Native.Nat.{ℕ, zero, suc, ◌+◌, ◌-◌, ◌<◌}
use native.Mathlib.Nat.{zero-add, suc-add, add-suc, le_of_suc-le-suc, not-suc-le-zero}
use native.Mathlib.Omega.{arith}
use borrow.Author.Tests.{eqb-true, eq-eqb}
use lib.Dec.{eqb}
use lib.ListN.{length, get_or}
use Rattle.laws.specs.Lists.{among}
use Rattle.laws.proofs.Lists.{among_hit, among_miss, among_later}
use Rattle.laws.proofs.Tests.{either, and_first, and_second}

pub among_cases : (k x : ℕ) (xs : List ℕ) → among (x ∷ xs) k ≡ true → (k ≡ x) ⊎ (among xs k ≡ true)
among_cases k x xs h =
    ⊎_elim (λ e. inl (eqb-true k x e)) (λ e. inr (sym (among_miss x xs k e) ∙ h)) (either (eqb k x))

pub among-left : (k : ℕ) (xs ys : List ℕ) → among xs k ≡ true → among (xs ++ ys) k ≡ true
unfolding among
among-left k [] ys h = absurd (false≢true h)
among-left k (x ∷ xs) ys h =
    ⊎_elim (λ e. among_hit x (xs ++ ys) k (eq-eqb k x e)) (λ t. among_later x k (xs ++ ys) (among-left k xs ys t)) (among_cases k x xs h)

pub among_right : (k : ℕ) (xs ys : List ℕ) → among ys k ≡ true → among (xs ++ ys) k ≡ true
among_right k [] ys h = h
among_right k (x ∷ xs) ys h = among_later x k (xs ++ ys) (among_right k xs ys h)

pub among_where : (k : ℕ) (b : Bool) (ys : List ℕ) → b ≡ true → among ys k ≡ true → among (elim b [ true ↦ ys | false ↦ [] ]) k ≡ true
among_where k true ys t h = h
among_where k false ys t h = absurd (false≢true t)

-- whether two lists are the same by a test of their elements, and that it is right where the test of elements is
unfoldable pub same_by : {A : Type 0} → (A → A → Bool) → List A → List A → Bool
same_by f [] [] = true
same_by f [] (y ∷ ys) = false
same_by f (x ∷ xs) [] = false
same_by f (x ∷ xs) (y ∷ ys) = f x y && same_by f xs ys

pub same_by_equal : {A : Type 0} (f : A → A → Bool) → ((x y : A) → f x y ≡ true → x ≡ y) → (xs ys : List A) → same_by f xs ys ≡ true → xs ≡ ys
unfolding same_by
same_by_equal f h [] [] t = refl
same_by_equal f h [] (y ∷ ys) t = absurd (false≢true t)
same_by_equal f h (x ∷ xs) [] t = absurd (false≢true t)
same_by_equal {A} f h (x ∷ xs) (y ∷ ys) t =
    ap₂ {C = List A} (λ a zs. a ∷ zs) (h x y (and_first (f x y) (same_by f xs ys) t)) (same_by_equal f h xs ys (and_second (f x y) (same_by f xs ys) t))

-- a list backwards: past the reversed part, and at the place that an element comes to
pub get_or_past_reversed {ℓ} : {A : Type ℓ} (l r : List A) (m : ℕ) (d : A) → get_or (reverse_aux l r) (length l + m) d ≡ get_or r m d
get_or_past_reversed [] r m d = ap (λ (i : ℕ). get_or r i d) (zero-add m)
get_or_past_reversed (x ∷ l) r m d =
    ap (λ (i : ℕ). get_or (reverse_aux l (x ∷ r)) i d) (suc-add (length l) m ∙ sym (add-suc (length l) m)) ∙ get_or_past_reversed l (x ∷ r) (suc m) d

pub get_or_reversed {ℓ} : {A : Type ℓ} (l r : List A) (n : ℕ) (d : A) → n < length l → get_or (reverse_aux l r) (length l - suc n) d ≡ get_or l n d
get_or_reversed [] r n d h = absurd (not-suc-le-zero h)
get_or_reversed (x ∷ l) r zero d h =
    let i : suc (length l) - 1 ≡ length l + 0 = omega arith in
    ap (λ (j : ℕ). get_or (reverse_aux l (x ∷ r)) j d) i ∙ get_or_past_reversed l (x ∷ r) 0 d
get_or_reversed (x ∷ l) r (suc n) d h =
    let i : suc (length l) - suc (suc n) ≡ length l - suc n = omega arith in
    ap (λ (j : ℕ). get_or (reverse_aux l (x ∷ r)) j d) i ∙ get_or_reversed l (x ∷ r) n d (le_of_suc-le-suc h)
