-- What is asked of the limits of a message form (rules L3, L5 and T6), and its line counts (rule W2). Definitions and laws take the limits as a
-- parameter; the two forms that the contracts of public functions cite stand in Forms.antt.
-- Assumes nothing.
use Rattle.std.specs.Prelude.{true, false, ◌&&◌, ◌≡◌, ℕ, ◌+◌, ◌-◌, ◌/◌, ◌≤◌, leb, eqb}
use Rattle.form.specs.declared.limits.Limits.{Limits}

-- what laws ask of a form: an addendum line is as long as a line, `A` and separator counted, and a line holds the header
pub record Lawful (L : Limits) : Type 0 where
  pub addendum : L.more + 2 ≡ L.line
  pub header : 7 ≤ L.line

-- limits L by which no less is allowed than by K, in lines of the same rule
pub record NoLess (K L : Limits) : Type 0 where
  pub line : K.line ≡ L.line
  pub more : K.more ≡ L.more
  pub segments : K.segments ≤ L.segments
  pub leaves : K.leaves ≤ L.leaves
  pub bytes : K.bytes ≤ L.bytes

-- a divided by b, rounded up
unfoldable pub rounded_up : ℕ → ℕ → ℕ
rounded_up a b = (a + (b - 1)) / b

-- how many lines a segment of n bytes takes (W2): its first, and what is left in addenda
unfoldable pub line_count : Limits → ℕ → ℕ
line_count L n = elim (leb n L.line) [ true ↦ 1 | false ↦ 1 + rounded_up (n - L.line) L.more ]

-- the same under any limits: 0 where they are not lawful
unfoldable pub lines_under : Limits → ℕ → ℕ
lines_under L n = elim (leb 7 L.line && eqb (L.more + 2) L.line) [ true ↦ line_count L n | false ↦ 0 ]
