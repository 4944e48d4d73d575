-- A number divided and rounded up: the least count of pieces of b that hold a, and what it says of line counts.
-- Assumes nothing.
use mathlib.Core.Path.{◌≡◌, sym, ap, ◌∙◌}
use mathlib.Core.Logic.{⊎_elim}
use Prim.Native.Nat.{ℕ, zero, suc, ◌+◌, ◌-◌, ◌*◌, ◌/◌, ◌≤◌, ◌<◌}
use native.Mathlib.Nat.{div-mul-le_self, lt-div-mul-add, div-eq_of_lt, div-lt_iff_lt-mul, suc-mul, zero-mul}
use native.Mathlib.Omega.{arith}
use Rattle.laws.proofs.Cases.{less_or_not}
use Rattle.form.specs.Limits.{Lawful, line_count, rounded_up}
use Rattle.form.specs.declared.limits.Limits.{Limits}
use Rattle.form.proofs.LineCount.{one_line, more-lines}

-- so many pieces of b hold a
pub rounded_up-holds : (a b : ℕ) → 1 ≤ b → a ≤ rounded_up a b * b
unfolding rounded_up
rounded_up-holds a b h = omega (arith, lt-div-mul-add {a = a + (b - 1)} {b = b} h)

-- and the last of them is not empty
pub rounded_up_tight : (a b : ℕ) → 1 ≤ b → rounded_up a b * b < a + b
unfolding rounded_up
rounded_up_tight a b h = omega (arith, div-mul-le_self (a + (b - 1)) b)

-- no fewer hold it
pub rounded_up-least : (a b k : ℕ) → 1 ≤ b → a ≤ k * b → rounded_up a b ≤ k
unfolding rounded_up
rounded_up-least a b k h fits =
    let less : a + (b - 1) < suc k * b = rw suc-mul (omega arith) in
    let below : (a + (b - 1)) / b < suc k = (div-lt_iff_lt-mul h).1 less in
    omega arith

pub rounded_up_zero : (b : ℕ) → 1 ≤ b → rounded_up 0 b ≡ 0
unfolding rounded_up
rounded_up_zero b h = omega (arith, div-eq_of_lt {n = 0 + (b - 1)} {m = b} (omega arith))

-- one piece more for each b that is left
pub rounded_up-more : (a b : ℕ) → 1 ≤ b → 1 ≤ a → rounded_up a b ≡ suc (rounded_up (a - b) b)
rounded_up-more a b h some = go (rounded_up a b) (rounded_up-holds a b h) (λ k. rounded_up-least a b k h)
  where
    go : (j : ℕ) → a ≤ j * b → ((k : ℕ) → a ≤ k * b → j ≤ k) → j ≡ suc (rounded_up (a - b) b)
    go zero holds least = absurd (omega (arith, zero-mul b))
    go (suc j) holds least =
        omega (
          arith,
          rounded_up-least (a - b) b j h (omega (arith, suc-mul j b)),
          least (suc (rounded_up (a - b) b)) (omega (arith, suc-mul (rounded_up (a - b) b) b, rounded_up-holds (a - b) b h)),
        )

module _ (L : Limits) (lawful : Lawful L) where
  -- an addendum carries a byte at least
  pub some_more : 1 ≤ L.more
  some_more = omega arith

  -- the line count without a case: one line, and what passes it in addenda
  pub line_count-addenda : (n : ℕ) → line_count L n ≡ suc (rounded_up (n - L.line) L.more)
  line_count-addenda n =
      ⊎_elim
      (λ h. more-lines L n h ∙ omega arith)
      (λ h. one_line L n h ∙ ap suc (sym (rounded_up_zero L.more some_more)) ∙ ap (λ (k : ℕ). suc (rounded_up k L.more)) (omega arith))
      (less_or_not L.line n)
