-- What the first pass notes: the kind of each segment, for the second pass, so that it is recognised once, and where each begins.
-- Assumes nothing.
use Rattle.std.specs.Prelude.{false, List, ◌≡◌, ℕ, suc, ◌≤◌, ◌<◌, length, get_or, drop}
use Rattle.form.specs.declared.limits.Limits.{Limits}
use Rattle.form.specs.declared.separators.Separators.{Separators}
use Rattle.line.specs.Joining.{addendum}
use Rattle.line.specs.inner.Left.{LeftAt}
use Rattle.table.specs.Rows.{kinds_of}

-- the kinds of the first n of some segments, noted by number as far as there is room
abbrev pub Noted : Separators → List (List ℕ) → ℕ → List ℕ → Type 0
Noted ps segments n kinds = (i : ℕ) → i < n → i < length kinds → get_or kinds i 0 ≡ get_or (kinds_of ps segments) i 0

-- at `a` begins the line that begins the segment with the number r, counted from 0, behind the first: the lines before it have joined to the
-- segments before
pub record BeginsAt (L : Limits) (ps : Separators) (m : List ℕ) (r a : ℕ) : Type 0 where
  pub done : List (List ℕ)
  pub last : List ℕ
  pub number : suc (length done) ≡ r
  pub left : LeftAt L ps.field m done last a
  pub some : a < length m
  pub begins : addendum ps.field (drop a m) ≡ false

-- the starts of the segments behind the first, up to n segments, noted as far as there is room
abbrev pub Started : Limits → Separators → List ℕ → ℕ → List ℕ → Type 0
Started L ps m n starts = (r : ℕ) → 1 ≤ r → r < n → r < length starts → BeginsAt L ps m r (get_or starts r 0)
