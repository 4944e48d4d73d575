-- The digits of a number and the number of digits: the one is turned back by the other, and a number has as many digits as it takes to bring
-- it to 0.
-- Assumes nothing.
use mathlib.Core.Bool.{true, false}
use mathlib.Core.List.{List, [], ◌∷◌, ◌++◌, append-nil, append_assoc}
use mathlib.Core.Logic.{◌↔◌}
use mathlib.Core.Path.{◌≡◌, refl, sym, ap, ap₂, ◌∙◌}
use Prim.Native.Nat.{ℕ, zero, suc, ◌+◌, ◌*◌, ◌-◌, ◌/◌, ◌%◌, ◌^◌, ◌≤◌, ◌<◌}
use native.Mathlib.Nat.{add-suc, add-zero, pow-suc}
use native.Mathlib.Omega.{arith}
use lib.Dec.{eqb}
use lib.ListN.{length, length-append}
use borrow.Author.Tests.{eqb-true}
use Rattle.laws.proofs.Tests.{Tested, passed, failed, tested}
use Rattle.value.specs.Numerals.{all_digits, made_by}
use Rattle.value.specs.inner.Digits.{tenths, last_digits, digit_count}
use Rattle.value.proofs.DigitTexts.{digit_from, digit_to, digit_within, digits_none, digits_also, digits_first, digits_others, digits_append, made-append}

-- digits are left out one by one, from either end of the count, or some and then others
pub tenths-none : (n : ℕ) → tenths 0 n ≡ n
unfolding tenths
tenths-none n = refl

pub tenths-first : (k n : ℕ) → tenths (suc k) n ≡ tenths k (n / 10)
unfolding tenths
tenths-first k n = refl

pub tenths-last : (k n : ℕ) → tenths (suc k) n ≡ tenths k n / 10
unfolding tenths
tenths-last zero n = refl
tenths-last (suc k) n = tenths-last k (n / 10)

pub tenths_add : (w d n : ℕ) → tenths (w + d) n ≡ tenths w (tenths d n)
unfolding tenths
tenths_add w zero n = rw (add-zero w)
tenths_add w (suc d) n = ap (λ (k : ℕ). tenths k n) (add-suc w d) ∙ tenths_add w d (n / 10)

-- the last digits of a number: so many, digits all, the first of them, and some before others
pub last-length : (k n : ℕ) → length (last_digits k n) ≡ k
unfolding last_digits
last-length zero n = refl
last-length (suc k) n = omega (arith, length-append (last_digits k (n / 10)) ((48 + n % 10) ∷ []), last-length k (n / 10))

pub last_digits_lem : (k n : ℕ) → all_digits (last_digits k n) ≡ true
unfolding last_digits
last_digits_lem zero n = digits_none
last_digits_lem (suc k) n =
    digits_append (last_digits k (n / 10)) ((48 + n % 10) ∷ []) (last_digits_lem k (n / 10))
    (digits_also (48 + n % 10) [] (digit_within (48 + n % 10) (omega arith) (omega arith)) digits_none)

pub last-first : (k n : ℕ) → last_digits (suc k) n ≡ (48 + tenths k n % 10) ∷ last_digits k n
unfolding last_digits tenths
last-first zero n = refl
last-first (suc k) n = ap (λ (s : List ℕ). s ++ ((48 + n % 10) ∷ [])) (last-first k (n / 10))

pub last_add : (w d n : ℕ) → last_digits (w + d) n ≡ last_digits w (tenths d n) ++ last_digits d n
unfolding last_digits tenths
last_add w zero n = ap (λ (k : ℕ). last_digits k n) (add-zero w) ∙ sym (append-nil (last_digits w n))
last_add w (suc d) n =
    ap (λ (k : ℕ). last_digits k n) (add-suc w d)
    ∙ ap (λ (s : List ℕ). s ++ ((48 + n % 10) ∷ [])) (last_add w d (n / 10))
    ∙ append_assoc (last_digits w (tenths d (n / 10))) (last_digits d (n / 10)) ((48 + n % 10) ∷ [])

-- the digits of a number, behind the rest of it, make it again
pub made-last : (k n : ℕ) → made_by (tenths k n) (last_digits k n) ≡ n
unfolding last_digits tenths made_by
made-last zero n = refl
made-last (suc k) n =
    made-append (tenths k (n / 10)) (last_digits k (n / 10)) ((48 + n % 10) ∷ [])
    ∙ ap (λ (m : ℕ). m * 10 + ((48 + n % 10) - 48)) (made-last k (n / 10))
    ∙ (omega arith)

-- and the number that digits make has them as its last digits, behind what was made before
pub tenths-made : (m : ℕ) (s : List ℕ) → all_digits s ≡ true → tenths (length s) (made_by m s) ≡ m
unfolding made_by
tenths-made m [] h = tenths-none m
tenths-made m (b ∷ s) h =
    tenths-last (length s) (made_by (m * 10 + (b - 48)) s)
    ∙ ap (λ (x : ℕ). x / 10) (tenths-made (m * 10 + (b - 48)) s (digits_others b s h))
    ∙ (omega (arith, digit_from b (digits_first b s h), digit_to b (digits_first b s h)))

pub last_made : (m : ℕ) (s : List ℕ) → all_digits s ≡ true → last_digits (length s) (made_by m s) ≡ s
unfolding made_by last_digits
last_made m [] h = refl
last_made m (b ∷ s) h =
    let next = m * 10 + (b - 48) in
    let digit : 48 + next % 10 ≡ b = omega (arith, digit_from b (digits_first b s h), digit_to b (digits_first b s h)) in
    last-first (length s) (made_by next s)
    ∙ ap₂ (λ (x : ℕ) (t : List ℕ). x ∷ t) (ap (λ (x : ℕ). 48 + x % 10) (tenths-made next s (digits_others b s h)) ∙ digit) (last_made next s (digits_others b s h))

-- a number below a power of ten is brought to 0 by so many digits, and no other is
pub below-tenths : (k n : ℕ) → n < 10 ^ k → tenths k n ≡ 0
unfolding tenths
below-tenths zero n h = omega arith
below-tenths (suc k) n h = below-tenths k (n / 10) (omega (arith, pow-suc 10 k))

pub tenths-below : (k n : ℕ) → tenths k n ≡ 0 → n < 10 ^ k
unfolding tenths
tenths-below zero n h = omega arith
tenths-below (suc k) n h = omega (arith, pow-suc 10 k, tenths-below k (n / 10) h)

pub below_exactly : (k n : ℕ) → (n < 10 ^ k) ↔ (tenths k n ≡ 0)
below_exactly k n = (below-tenths k n, tenths-below k n)

-- how many digits a number has: 0 has none, any other one more than a tenth of it
pub count_zero : (most n : ℕ) → eqb n 0 ≡ true → digit_count most n ≡ 0
unfolding digit_count
count_zero zero n h = refl
count_zero (suc most) n h = rw (h, digit_count)

pub count_next : (most n : ℕ) → eqb n 0 ≡ false → digit_count (suc most) n ≡ suc (digit_count most (n / 10))
unfolding digit_count
count_next most n h = rw (h, digit_count)

pub count_most : (most n : ℕ) → digit_count most n ≤ most
unfolding digit_count
count_most zero n = omega arith
count_most (suc most) n = go (tested (eqb n 0)) (count_most most (n / 10))
  where
    go : Tested (eqb n 0) → digit_count most (n / 10) ≤ most → digit_count (suc most) n ≤ suc most
    go (passed h) ih = omega (arith, count_zero (suc most) n h)
    go (failed h) ih = omega (arith, ih, count_next most n h)

-- they bring it to 0, and no fewer do
pub count_enough : (most n : ℕ) → n < 10 ^ most → tenths (digit_count most n) n ≡ 0
unfolding digit_count tenths
count_enough zero n h = omega arith
count_enough (suc most) n h = go (tested (eqb n 0)) (count_enough most (n / 10) (omega (arith, pow-suc 10 most)))
  where
    go : Tested (eqb n 0) → tenths (digit_count most (n / 10)) (n / 10) ≡ 0 → tenths (digit_count (suc most) n) n ≡ 0
    go (passed h) ih = ap (λ (k : ℕ). tenths k n) (count_zero (suc most) n h) ∙ eqb-true n 0 h
    go (failed h) ih = ap (λ (k : ℕ). tenths k n) (count_next most n h) ∙ ih

pub count-least : (most k n : ℕ) → tenths k n ≡ 0 → digit_count most n ≤ k
unfolding digit_count tenths
count-least zero k n h = omega arith
count-least (suc most) zero n h = omega (arith, ap (digit_count (suc most)) h, count_zero (suc most) 0 refl)
count-least (suc most) (suc k) n h = go (tested (eqb n 0)) (count-least most k (n / 10) h)
  where
    go : Tested (eqb n 0) → digit_count most (n / 10) ≤ k → digit_count (suc most) n ≤ suc k
    go (passed e) ih = omega (arith, count_zero (suc most) n e)
    go (failed e) ih = omega (arith, ih, count_next most n e)
