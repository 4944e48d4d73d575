-- Texts of digits: a digit's bounds, digits behind digits, the digits that a text begins with, and the number that digits make.
-- Assumes nothing.
use Rattle.std.specs.Char.{is_ascii_digit}
use mathlib.Core.Bool.{Bool, true, false}
use mathlib.Core.List.{List, [], ◌∷◌, ◌++◌, append-nil}
use mathlib.Core.Path.{◌≡◌, refl, sym, ap, ◌∙◌}
use Prim.Native.Nat.{ℕ, suc, ◌+◌, ◌*◌, ◌-◌, ◌^◌, ◌≤◌, ◌<◌}
use native.Mathlib.Nat.{le_trans, pow-le-pow_right, pow-suc, zero-lt-suc}
use native.Mathlib.Omega.{arith}
use lib.Dec.{eqb, leb}
use lib.ListN.{length, get_or, drop, length-append}
use lib.Seq.{drop-length}
use borrow.Author.Tests.{leb-true, le-leb, lt-ltb, ne_eqb}
use Rattle.laws.proofs.Tests.{Tested, passed, failed, tested, and_first, and_second, and_both, and_fails_first, and_fails_second}
use Rattle.value.specs.Numerals.{plus, minus, point, is_digit, all_digits, made_by}
use Rattle.value.specs.inner.Runs.{digit_run, with_digit, with_digits}

-- a digit is a byte from 48 to 57
pub digit_from : (b : ℕ) → is_digit b ≡ true → 48 ≤ b
unfolding is_digit
digit_from b h = leb-true 48 b (and_first (leb 48 b) (leb b 57) h)

pub digit_to : (b : ℕ) → is_digit b ≡ true → b ≤ 57
unfolding is_digit
digit_to b h = leb-true b 57 (and_second (leb 48 b) (leb b 57) h)

pub digit_within : (b : ℕ) → 48 ≤ b → b ≤ 57 → is_digit b ≡ true
unfolding is_digit
digit_within b h k = and_both (le-leb 48 b h) (le-leb b 57 k)

-- as std tests it
pub digit_tested : (b : ℕ) {r : Bool} → r ≡ is_ascii_digit b → {s : Bool} → r ≡ s → is_digit b ≡ s
unfolding is_digit
digit_tested b e f = sym e ∙ f

-- so it is no point and no sign
pub digit_no_point : (b : ℕ) → is_digit b ≡ true → eqb b point ≡ false
digit_no_point b h = ne_eqb b point (λ e. omega (arith, digit_from b h))

pub digit_no_plus : (b : ℕ) → is_digit b ≡ true → eqb b plus ≡ false
digit_no_plus b h = ne_eqb b plus (λ e. omega (arith, digit_from b h))

pub digit_no_minus : (b : ℕ) → is_digit b ≡ true → eqb b minus ≡ false
digit_no_minus b h = ne_eqb b minus (λ e. omega (arith, digit_from b h))

-- digits alone: the first one and the others
module _ (b : ℕ) (s : List ℕ) where
  pub digits_first : all_digits (b ∷ s) ≡ true → is_digit b ≡ true
  unfolding all_digits
  digits_first h = and_first (is_digit b) (all_digits s) h

  pub digits_others : all_digits (b ∷ s) ≡ true → all_digits s ≡ true
  unfolding all_digits
  digits_others h = and_second (is_digit b) (all_digits s) h

  pub digits_also : is_digit b ≡ true → all_digits s ≡ true → all_digits (b ∷ s) ≡ true
  unfolding all_digits
  digits_also h k = and_both h k

  pub digits_not : is_digit b ≡ false → all_digits (b ∷ s) ≡ false
  unfolding all_digits
  digits_not h = and_fails_first (all_digits s) h

  pub digits_not_later : all_digits s ≡ false → all_digits (b ∷ s) ≡ false
  unfolding all_digits
  digits_not_later h = and_fails_second (is_digit b) h

pub digits_none : all_digits [] ≡ true
unfolding all_digits
digits_none = refl

-- digits behind digits, and a byte among them that is none
pub digits_append : (s t : List ℕ) → all_digits s ≡ true → all_digits t ≡ true → all_digits (s ++ t) ≡ true
digits_append [] t h k = k
digits_append (b ∷ s) t h k = digits_also b (s ++ t) (digits_first b s h) (digits_append s t (digits_others b s h) k)

pub digits_left : (s t : List ℕ) → all_digits (s ++ t) ≡ true → all_digits s ≡ true
digits_left [] t h = digits_none
digits_left (b ∷ s) t h = digits_also b s (digits_first b (s ++ t) h) (digits_left s t (digits_others b (s ++ t) h))

pub digits_right : (s t : List ℕ) → all_digits (s ++ t) ≡ true → all_digits t ≡ true
digits_right [] t h = h
digits_right (b ∷ s) t h = digits_right s t (digits_others b (s ++ t) h)

pub digits_broken : (s : List ℕ) (b : ℕ) (t : List ℕ) → is_digit b ≡ false → all_digits (s ++ b ∷ t) ≡ false
digits_broken [] b t h = digits_not b t h
digits_broken (a ∷ s) b t h = digits_not_later a (s ++ b ∷ t) (digits_broken s b t h)

-- the digits that a text begins with: a digit is one of them, and any other byte ends them
module _ (b : ℕ) (s : List ℕ) where
  pub run_more : is_digit b ≡ true → digit_run (b ∷ s) ≡ b ∷ digit_run s
  unfolding digit_run
  run_more h = rw (h, digit_run)

  pub run_stop : is_digit b ≡ false → digit_run (b ∷ s) ≡ []
  unfolding digit_run
  run_stop h = rw (h, digit_run)

pub run_none : digit_run [] ≡ []
unfolding digit_run
run_none = refl

pub run_digits : (s : List ℕ) → all_digits (digit_run s) ≡ true
run_digits [] = rw run_none digits_none
run_digits (b ∷ s) = go (tested (is_digit b)) (run_digits s)
  where
    go : Tested (is_digit b) → all_digits (digit_run s) ≡ true → all_digits (digit_run (b ∷ s)) ≡ true
    go (passed h) ih = rw (run_more b s h) (digits_also b (digit_run s) h ih)
    go (failed h) ih = rw (run_stop b s h) digits_none

-- the text is they and what follows them, and what follows is empty or begins with a byte that is no digit
pub run_then_rest : (s : List ℕ) → s ≡ digit_run s ++ drop (length (digit_run s)) s
run_then_rest [] = rw run_none
run_then_rest (b ∷ s) = go (tested (is_digit b)) (run_then_rest s)
  where
    go : Tested (is_digit b) → s ≡ digit_run s ++ drop (length (digit_run s)) s → b ∷ s ≡ digit_run (b ∷ s) ++ drop (length (digit_run (b ∷ s))) (b ∷ s)
    go (passed h) ih = rw (run_more b s h) (ap {B = List ℕ} (λ (t : List ℕ). b ∷ t) ih)
    go (failed h) ih = rw (run_stop b s h)

pub run-within : (s : List ℕ) → length (digit_run s) ≤ length s
run-within s = omega (arith, ap length (run_then_rest s), length-append (digit_run s) (drop (length (digit_run s)) s))

pub run-whole : (s : List ℕ) → length (digit_run s) ≡ length s → s ≡ digit_run s
run-whole s h =
    run_then_rest s ∙ ap (λ (k : ℕ). digit_run s ++ drop k s) h ∙ ap (λ (t : List ℕ). digit_run s ++ t) (drop-length s) ∙ append-nil (digit_run s)

pub run-ended : (s : List ℕ) → length (digit_run s) < length s → is_digit (get_or s (length (digit_run s)) 0) ≡ false
run-ended [] h = absurd (omega arith)
run-ended (b ∷ s) h = go (tested (is_digit b)) (run-ended s) h
  where
    go : Tested (is_digit b) → (length (digit_run s) < length s → is_digit (get_or s (length (digit_run s)) 0) ≡ false)
        → length (digit_run (b ∷ s)) < length (b ∷ s) → is_digit (get_or (b ∷ s) (length (digit_run (b ∷ s))) 0) ≡ false
    go (passed h) ih = rw (run_more b s h) (λ k. ih (omega arith))
    go (failed h) ih = rw (run_stop b s h) (λ k. h)

-- a text of digits is its own run
pub run-all : (s : List ℕ) → all_digits s ≡ true → digit_run s ≡ s
run-all [] h = run_none
run-all (b ∷ s) h = run_more b s (digits_first b s h) ∙ ap {B = List ℕ} (λ (t : List ℕ). b ∷ t) (run-all s (digits_others b s h))

-- the number that digits make, one digit after the other and one row after the other
pub made_none : (n : ℕ) → made_by n [] ≡ n
unfolding made_by
made_none n = refl

pub made_more : (n b : ℕ) (s : List ℕ) → made_by n (b ∷ s) ≡ made_by (n * 10 + (b - 48)) s
unfolding made_by
made_more n b s = refl

pub made-append : (n : ℕ) (s t : List ℕ) → made_by n (s ++ t) ≡ made_by (made_by n s) t
unfolding made_by
made-append n [] t = refl
made-append n (b ∷ s) t = made-append (n * 10 + (b - 48)) s t

pub with_append : (most n : ℕ) (s t : List ℕ) → with_digits most n (s ++ t) ≡ with_digits most (with_digits most n s) t
unfolding with_digits
with_append most n [] t = refl
with_append most n (b ∷ s) t = with_append most (with_digit most n b) s t

-- a digit more leaves a number below the next power of ten
digit_below : (a n b : ℕ) → is_digit b ≡ true → n < 10 ^ a → n * 10 + (b - 48) < 10 ^ suc a
digit_below a n b h k = omega (arith, digit_from b h, digit_to b h, pow-suc 10 a)

pub made-below : (a n : ℕ) (s : List ℕ) → all_digits s ≡ true → n < 10 ^ a → made_by n s < 10 ^ (a + length s)
unfolding made_by
made-below a n [] h k = let e : a + 0 ≡ a = omega arith in rw e k
made-below a n (b ∷ s) h k =
    let e : a + suc (length s) ≡ suc a + length s = omega arith in
    rw e (made-below (suc a) (n * 10 + (b - 48)) s (digits_others b s h) (digit_below a n b (digits_first b s h) k))

pub power_within : (a c : ℕ) → a ≤ c → 10 ^ a ≤ 10 ^ c
power_within a c h = pow-le-pow_right (zero-lt-suc 9) h

-- while no more digits come than a number has, none is left out
pub with_digit_small : (most n b : ℕ) → n < 10 ^ most → with_digit most n b ≡ n * 10 + (b - 48)
unfolding with_digit
with_digit_small most n b h = rw (lt-ltb n (10 ^ most) h, with_digit)

pub with_made : (most a n : ℕ) (s : List ℕ) → all_digits s ≡ true → n < 10 ^ a → a + length s ≤ most → with_digits most n s ≡ made_by n s
unfolding with_digits made_by
with_made most a n [] h k few = refl
with_made most a n (b ∷ s) h k few =
    ap (λ (m : ℕ). with_digits most m s) (with_digit_small most n b (le_trans k (power_within a most (omega arith))))
    ∙ with_made most (suc a) (n * 10 + (b - 48)) s (digits_others b s h) (digit_below a n b (digits_first b s h) k) (omega arith)
