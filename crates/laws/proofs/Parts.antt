-- Parts of a list, one element at a time: what a loop's turn leaves of them.
-- Assumes nothing.
use mathlib.Core.List.{List, [], ◌∷◌}
use mathlib.Core.Path.{◌≡◌, refl, ap, ◌∙◌}
use Prim.Native.Nat.{ℕ, zero, suc, ◌+◌, ◌-◌, ◌<◌, ◌≤◌}
use native.Mathlib.Numerals.{add-one}
use native.Mathlib.Omega.{arith}
use lib.ListN.{length, get_or, take, drop}
use lib.Seq.{drop-cons, take-take}

-- what is left from i on begins with the element at i: the step that starts every turn of a loop over a list
pub left_cons {ℓ} : {A : Type ℓ} (s : List A) (i : ℕ) (d : A) → i < length s → drop i s ≡ get_or s i d ∷ drop (i + 1) s
left_cons s i d h = rw (add-one, drop-cons s i d)

-- the part from i up to n begins with the element at i
pub part_cons {ℓ} : {A : Type ℓ} (s : List A) (i n : ℕ) (d : A) → i < n → n ≤ length s
    → take (n - i) (drop i s) ≡ get_or s i d ∷ take (n - (i + 1)) (drop (i + 1) s)
part_cons {A = A} s i n d h within =
    ap {B = List A} (λ (t : List A). take (n - i) t) (left_cons s i d (omega arith))
    ∙ ap {B = List A} (λ (k : ℕ). take k (get_or s i d ∷ drop (i + 1) s)) (let e : n - i ≡ suc (n - (i + 1)) = omega arith in e)

-- no part is left from its end on
pub part_none {ℓ} : {A : Type ℓ} (s : List A) (i n : ℕ) → n ≤ i → take (n - i) (drop i s) ≡ []
part_none {A = A} s i n h = ap {B = List A} (λ (k : ℕ). take k (drop i s)) (let e : n - i ≡ 0 = omega arith in e)

-- a part of what a list begins with is a part of the list
pub part_taken {ℓ} : {A : Type ℓ} (s : List A) (i n m : ℕ) → i + n ≤ m → take n (drop i (take m s)) ≡ take n (drop i s)
part_taken s zero n m h = take-take n m s (omega arith)
part_taken s (suc i) n zero h = absurd (omega arith)
part_taken [] (suc i) n (suc m) h = refl
part_taken (a ∷ s) (suc i) n (suc m) h = part_taken s i n m (omega arith)
