-- Line counts (rule W2): the step equations of `line_count`, and the lines under any limits.
-- Assumes nothing.
use mathlib.Core.Bool.{Bool, true, false}
use mathlib.Core.Path.{◌≡◌, ap}
use Prim.Native.Nat.{ℕ, ◌+◌, ◌-◌, ◌≤◌, ◌<◌}
use lib.Dec.{leb}
use borrow.Author.Tests.{le-leb, lt-leb, eq-eqb, ne_eqb}
use Rattle.laws.proofs.Tests.{and_both, and_fails_second}
use Rattle.form.specs.Limits.{line_count, lines_under, rounded_up}
use Rattle.form.specs.declared.limits.Limits.{Limits}

module _ (L : Limits) (n : ℕ) where
  pub one_line : n ≤ L.line → line_count L n ≡ 1
  unfolding line_count
  one_line h = rw (le-leb n L.line h, line_count)

  pub more-lines : L.line < n → line_count L n ≡ 1 + rounded_up (n - L.line) L.more
  unfolding line_count
  more-lines h = rw (lt-leb n L.line h, line_count)

-- the lines under any limits: none where they are not lawful
module _ (L : Limits) (n : ℕ) where
  pub lines-short : L.line < 7 → lines_under L n ≡ 0
  unfolding lines_under
  lines-short h = rw (lt-leb 7 L.line h, lines_under)

  pub lines_other : (L.more + 2 ≡ L.line → ⊥) → lines_under L n ≡ 0
  unfolding lines_under
  lines_other h =
      ap {B = ℕ} (λ (b : Bool). elim b [ true ↦ line_count L n | false ↦ 0 ])
      (and_fails_second (leb 7 L.line) (ne_eqb (L.more + 2) L.line h))

  pub lines-lawful : L.more + 2 ≡ L.line → 7 ≤ L.line → lines_under L n ≡ line_count L n
  unfolding lines_under
  lines-lawful e h =
      ap {B = ℕ} (λ (b : Bool). elim b [ true ↦ line_count L n | false ↦ 0 ])
      (and_both (le-leb 7 L.line h) (eq-eqb (L.more + 2) L.line e))
