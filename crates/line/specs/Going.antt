-- Going on (rule P1): the places that a walk comes to, and what is left of its lines.
-- Assumes nothing.
use Rattle.std.specs.Prelude.{List, ℕ, zero, suc}
use Rattle.std.specs.Borrow.{Bor}
use Rattle.form.specs.declared.limits.Limits.{Limits}
use Rattle.form.specs.Forms.{small_form}
use Rattle.line.specs.Lines.{Lines, end, fault, line}
use Rattle.line.specs.Finding.{found_at, next_of}
use Rattle.line.specs.declared.walk.Walk.{Walk}

-- a walk over a message that stands at its first line
abbrev pub walk_opened : Bor (List ℕ) → Walk
walk_opened message = record { message = message; at = 0 }

-- the same walk at the next line; at an end or a fault it stays
abbrev pub gone_on : Walk → Walk
gone_on w = record { message = w.message; at = next_of w.at (found_at small_form w.message.now w.at) }

-- a walk that was opened over a message and went on k times
unfoldable pub walk_after : Bor (List ℕ) → ℕ → Walk
walk_after message zero = walk_opened message
walk_after message (suc k) = gone_on (walk_after message k)

-- its place, of a message of any form
unfoldable pub place_after : Limits → List ℕ → ℕ → ℕ
place_after L message zero = 0
place_after L message (suc k) = next_of (place_after L message k) (found_at L message (place_after L message k))

-- what is left of a walk after k lines; an end or a fault stays (P1)
unfoldable pub after : ℕ → Lines → Lines
after zero ls = ls
after (suc k) end = end
after (suc k) (fault n p) = fault n p
after (suc k) (line t ls) = after k ls
