-- Stores in a row, `sets`: one more in front, storing after what is stored and in front of it, and what stands at a place then.
-- Assumes nothing.
use mathlib.Core.List.{List, [], ◌∷◌, ◌++◌}
use mathlib.Core.Path.{◌≡◌, refl, ap, ◌∙◌}
use Prim.Native.Nat.{ℕ, zero, suc, ◌+◌, ◌≤◌, ◌<◌}
use native.Mathlib.Nat.{add-zero}
use native.Mathlib.Numerals.{add-one}
use native.Mathlib.Omega.{arith}
use lib.ListN.{length, get_or, set, take, drop, length-set}
use lib.Seq.{sets, sets-eq, get_or-set_same, get_or-set_other, take_at, drop_at}

module _ {ℓ} {A : Type ℓ} where
  -- a loop's store is the first of what is left to store
  pub sets_first : (l : List A) (i : ℕ) (a : A) (s : List A) → sets l i (a ∷ s) ≡ sets (set l i a) (i + 1) s
  sets_first l i a s = rw add-one

  -- what is stored right behind is stored with it
  pub sets-append : (l : List A) (i : ℕ) (s t : List A) → sets (sets l i s) (i + length s) t ≡ sets l i (s ++ t)
  sets-append l i [] t = ap (λ (n : ℕ). sets l n t) (add-zero i)
  sets-append l i (a ∷ s) t =
      ap (λ (n : ℕ). sets (sets (set l i a) (suc i) s) n t) (omega arith) ∙ sets-append (set l i a) (suc i) s t

  -- the same from the start, where the place is known by a number
  pub sets_behind : (l : List A) (s t : List A) (n : ℕ) → n ≡ length s → sets (sets l 0 s) n t ≡ sets l 0 (s ++ t)
  sets_behind l s t n e = ap (λ (m : ℕ). sets (sets l 0 s) m t) (omega arith) ∙ sets-append l 0 s t

  -- stores at two places come in either order
  set_apart : (l : List A) (i j : ℕ) (a b : A) → i < j → set (set l j b) i a ≡ set (set l i a) j b
  set_apart [] i j a b h = refl
  set_apart (x ∷ l) zero zero a b h = absurd (omega arith)
  set_apart (x ∷ l) zero (suc j) a b h = refl
  set_apart (x ∷ l) (suc i) zero a b h = absurd (omega arith)
  set_apart (x ∷ l) (suc i) (suc j) a b h = ap (λ (r : List A). x ∷ r) (set_apart l i j a b (omega arith))

  set_in_front : (l : List A) (i j : ℕ) (a : A) (t : List A) → i < j → set (sets l j t) i a ≡ sets (set l i a) j t
  set_in_front l i j a [] h = refl
  set_in_front l i j a (b ∷ t) h =
      set_in_front (set l j b) i (suc j) a t (omega arith) ∙ ap (λ (r : List A). sets r (suc j) t) (set_apart l i j a b h)

  -- what is stored right in front is stored with it
  pub sets_in_front : (l : List A) (i : ℕ) (s t : List A) → sets (sets l (i + length s) t) i s ≡ sets l i (s ++ t)
  sets_in_front l i [] t = ap (λ (n : ℕ). sets l n t) (add-zero i)
  sets_in_front l i (a ∷ s) t =
      ap (λ (r : List A). sets r (suc i) s) (set_in_front l i (i + suc (length s)) a t (omega arith))
      ∙ ap (λ (n : ℕ). sets (sets (set l i a) n t) (suc i) s) (omega arith)
      ∙ sets_in_front (set l i a) (suc i) s t

  -- what stands at a place after the stores: the element that was stored there, or the one that stood there
  pub get_d_sets_before : (l : List A) (i k : ℕ) (s : List A) (d : A) → k < i → get_or (sets l i s) k d ≡ get_or l k d
  get_d_sets_before l i k [] d h = refl
  get_d_sets_before l i k (a ∷ s) d h = get_d_sets_before (set l i a) (suc i) k s d (omega arith) ∙ get_or-set_other l i k a d (λ e. omega (arith, e, h))

  pub get_or_sets_within : (l : List A) (i k : ℕ) (s : List A) (d : A) → k < length s → i + length s ≤ length l → get_or (sets l i s) (i + k) d ≡ get_or s k d
  get_or_sets_within l i k [] d h fits = absurd (omega (arith, h))
  get_or_sets_within l i zero (a ∷ s) d h fits =
      ap (λ (n : ℕ). get_or (sets (set l i a) (suc i) s) n d) (add-zero i)
      ∙ get_d_sets_before (set l i a) (suc i) i s d (omega arith)
      ∙ get_or-set_same l i a d (omega (arith, fits))
  get_or_sets_within l i (suc k) (a ∷ s) d h fits =
      ap (λ (n : ℕ). get_or (sets (set l i a) (suc i) s) n d) (let e : i + suc k ≡ suc i + k = omega arith in e)
      ∙ get_or_sets_within (set l i a) (suc i) k s d (omega (arith, h)) (omega (arith, fits, length-set l i a))

  pub get_or_sets_behind : (l : List A) (i k : ℕ) (s : List A) (d : A) → i + length s ≤ k → get_or (sets l i s) k d ≡ get_or l k d
  get_or_sets_behind l i k [] d h = refl
  get_or_sets_behind l i k (a ∷ s) d h = get_or_sets_behind (set l i a) (suc i) k s d (omega (arith, h)) ∙ get_or-set_other l i k a d (λ e. omega (arith, e, h))

  -- what is stored at the front is taken from there, and what stands behind it stays
  pub front_taken : (l s : List A) (n : ℕ) → length s ≡ n → length s ≤ length l → take n (sets l 0 s) ≡ s
  front_taken l s n e fits = ap (take n) (sets-eq s l 0 (omega (arith, fits))) ∙ take_at s (drop (0 + length s) l) n e

  pub front_dropped : (l s : List A) (n : ℕ) → length s ≡ n → length s ≤ length l → drop n (sets l 0 s) ≡ drop n l
  front_dropped l s n e fits =
      ap (drop n) (sets-eq s l 0 (omega (arith, fits)))
      ∙ drop_at s (drop (0 + length s) l) n e
      ∙ ap (λ (k : ℕ). drop k l) (let q : 0 + length s ≡ n = omega (arith, e) in q)
