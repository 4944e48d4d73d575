-- What holds of every element: of the first and of the rest, of two lists in a row, of what is left of a list, of what is made of one.
-- Assumes nothing.
use mathlib.Core.List.{List, [], ◌∷◌, ◌++◌, map, reverse_aux}
use Prim.Native.Nat.{ℕ, zero, suc, ◌<◌}
use native.Mathlib.Omega.{arith}
use lib.ListN.{length, take, drop, get_or}
use Rattle.laws.specs.Every.{All, none, also}

module _ {ℓ ℓ'} {A : Type ℓ} {P : A → Type ℓ'} where
  pub all_first : {a : A} {s : List A} → All P (a ∷ s) → P a
  all_first (also h w) = h

  pub all_rest : {a : A} {s : List A} → All P (a ∷ s) → All P s
  all_rest (also h w) = w

  pub all_append : {s t : List A} → All P s → All P t → All P (s ++ t)
  all_append none v = v
  all_append (also h w) v = also h (all_append w v)

  pub all_left : (s t : List A) → All P (s ++ t) → All P s
  all_left [] t w = none
  all_left (a ∷ s) t (also h w) = also h (all_left s t w)

  pub all_right : (s t : List A) → All P (s ++ t) → All P t
  all_right [] t w = w
  all_right (a ∷ s) t (also h w) = all_right s t w

  pub all_drop : (n : ℕ) {s : List A} → All P s → All P (drop n s)
  all_drop zero w = w
  all_drop (suc n) none = none
  all_drop (suc n) (also h w) = all_drop n w

  pub all_take : (n : ℕ) {s : List A} → All P s → All P (take n s)
  all_take zero w = none
  all_take (suc n) none = none
  all_take (suc n) (also h w) = also h (all_take n w)

  pub all-reverse : {s t : List A} → All P s → All P t → All P (reverse_aux s t)
  all-reverse none v = v
  all-reverse (also h w) v = all-reverse w (also h v)

  -- at each place, and from each place
  pub all_at : {s : List A} (i : ℕ) (d : A) → All P s → i < length s → P (get_or s i d)
  all_at i d none h = absurd (omega arith)
  all_at zero d (also w ws) h = w
  all_at (suc i) d (also w ws) h = all_at i d ws (omega arith)

  pub all_of : (s : List A) (d : A) → ((i : ℕ) → i < length s → P (get_or s i d)) → All P s
  all_of [] d h = none
  all_of (a ∷ s) d h = also (h 0 (omega arith)) (all_of s d (λ i less. h (suc i) (omega arith)))

  pub all_both {κ} : {Q : A → Type κ} {s : List A} → All P s → All Q s → All (λ a. P a × Q a) s
  all_both none none = none
  all_both (also h w) (also k v) = also (h, k) (all_both w v)

  -- what each element's own property gives, of the element and of what is made of it
  pub all_from {κ} : {Q : A → Type κ} → ((a : A) → P a → Q a) → {s : List A} → All P s → All Q s
  all_from h none = none
  all_from h (also {a} w ws) = also (h a w) (all_from h ws)

  pub all_map {κ κ'} : {B : Type κ} {Q : B → Type κ'} (f : A → B) → ((a : A) → P a → Q (f a)) → {s : List A} → All P s → All Q (map f s)
  all_map f h none = none
  all_map f h (also {a} w ws) = also (h a w) (all_map f h ws)
