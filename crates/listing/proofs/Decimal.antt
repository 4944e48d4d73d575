-- Decimal digits: the last one and those of a tenth before it, and how many there are.
-- Assumes nothing.
use mathlib.Core.List.{List, [], ◌∷◌, ◌++◌}
use mathlib.Core.Logic.{◌⊎◌, inl, inr}
use mathlib.Core.Path.{◌≡◌, refl, sym, ap, ◌∙◌}
use Prim.Native.Nat.{ℕ, zero, suc, ◌+◌, ◌*◌, ◌/◌, ◌%◌, ◌≤◌, ◌<◌}
use native.Mathlib.Omega.{arith}
use lib.ListN.{length, length-append}
use borrow.Author.Tests.{lt-ltb, le-ltb}
use Rattle.laws.proofs.Cases.{less_or_not}
use Rattle.listing.specs.Decimal.{digits_within, decimal}
use Rattle.listing.specs.inner.Putting.{six_digits}

-- a digit is its own text; a number from 10 on is that of a tenth and its last digit
one_digit : (more n : ℕ) → n < 10 → digits_within more n ≡ (48 + n) ∷ []
unfolding digits_within
one_digit zero n h = refl
one_digit (suc more) n h = rw (lt-ltb n 10 h, digits_within)

more_digits : (more n : ℕ) → 10 ≤ n → digits_within (suc more) n ≡ digits_within more (n / 10) ++ ((48 + n % 10) ∷ [])
unfolding digits_within
more_digits more n h = rw (le-ltb n 10 h, digits_within)

-- once there is enough room for the digits, more changes nothing
enough_by : (a b n : ℕ) → n ≤ suc a → n ≤ suc b → ((m : ℕ) → m ≤ a → m ≤ b → digits_within a m ≡ digits_within b m)
    → (n < 10) ⊎ (10 ≤ n) → digits_within (suc a) n ≡ digits_within (suc b) n
enough_by a b n h k tenth (inl few) = one_digit (suc a) n few ∙ sym (one_digit (suc b) n few)
enough_by a b n h k tenth (inr many) =
    more_digits a n many
    ∙ ap (λ (s : List ℕ). s ++ ((48 + n % 10) ∷ [])) (tenth (n / 10) (omega arith) (omega arith))
    ∙ sym (more_digits b n many)

room_enough : (a b n : ℕ) → n ≤ a → n ≤ b → digits_within a n ≡ digits_within b n
room_enough zero b n h k = one_digit 0 n (omega arith) ∙ sym (one_digit b n (omega arith))
room_enough (suc a) zero n h k = one_digit (suc a) n (omega arith) ∙ sym (one_digit 0 n (omega arith))
room_enough (suc a) (suc b) n h k = enough_by a b n h k (room_enough a b) (less_or_not n 10)

pub decimal_digit : (n : ℕ) → n < 10 → decimal n ≡ (48 + n) ∷ []
unfolding decimal
decimal_digit n h = one_digit n n h

pub decimal-more : (n : ℕ) → 10 ≤ n → decimal n ≡ decimal (n / 10) ++ ((48 + n % 10) ∷ [])
unfolding decimal
decimal-more zero h = absurd (omega arith)
decimal-more (suc n) h =
    more_digits n (suc n) h
    ∙ ap (λ (s : List ℕ). s ++ ((48 + suc n % 10) ∷ [])) (room_enough n (suc n / 10) (suc n / 10) (omega arith) (omega arith))

-- 10 to the power of k + 1
unfoldable tens : ℕ → ℕ
tens zero = 10
tens (suc k) = tens k * 10

-- a number below it has at most k + 1 digits
few_by : (k n : ℕ) → n < tens k * 10 → ((m : ℕ) → m < tens k → length (decimal m) ≤ suc k) → (n < 10) ⊎ (10 ≤ n)
    → length (decimal n) ≤ suc (suc k)
few_by k n h tenth (inl few) = omega (arith, ap length (decimal_digit n few))
few_by k n h tenth (inr many) =
    omega (
      arith,
      ap length (decimal-more n many),
      length-append (decimal (n / 10)) ((48 + n % 10) ∷ []),
      tenth (n / 10) (omega arith),
    )

few_digits : (k n : ℕ) → n < tens k → length (decimal n) ≤ suc k
unfolding tens
few_digits zero n h = omega (arith, ap length (decimal_digit n h))
few_digits (suc k) n h = few_by k n h (few_digits k) (less_or_not n 10)

-- a number below 100,000, and one of 64 bits
pub five_digits : (n : ℕ) → n < six_digits → length (decimal n) ≤ 5
unfolding tens
five_digits n h = few_digits 4 n (omega arith)

pub twenty_digits : (n : ℕ) → n < 18446744073709551616 → length (decimal n) ≤ 20
unfolding tens
twenty_digits n h = few_digits 19 n (omega arith)

-- room for a number is room for its digit, or for those of a tenth and one more
module _ (n at : ℕ) {size : ℕ} (room : at + length (decimal n) ≤ size) where
  pub digit_room : n < 10 → at + 1 ≤ size
  digit_room h = omega (arith, room, ap length (decimal_digit n h))

  pub tenth_room : 10 ≤ n → at + length (decimal (n / 10)) + 1 ≤ size
  tenth_room h = omega (arith, room, ap length (decimal-more n h), length-append (decimal (n / 10)) ((48 + n % 10) ∷ []))
