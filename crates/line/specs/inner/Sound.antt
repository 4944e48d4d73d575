-- Sound lines (rules L1 to L3) and walks that end well.
-- Assumes nothing.
use Rattle.std.specs.Prelude.{List, [], ◌∷◌, ℕ, ◌+◌, ◌≤◌, length}
use Rattle.laws.specs.Every.{All}
use Rattle.form.specs.declared.limits.Limits.{Limits}
use Rattle.line.specs.Lines.{Lines, end, fault, line, space}

-- every byte is one of text: 32 or more
abbrev pub Text : List ℕ → Type 0
Text t = All (λ (b : ℕ). space ≤ b) t

-- a sound line: it is not empty (L2), not too long (L3), and all its bytes are text (L1)
pub record SoundLine (L : Limits) (t : List ℕ) : Type 0 where
  pub some : 1 ≤ length t
  pub short : length t ≤ L.line
  pub text : Text t

-- the walk that gives these lines and ends in no fault
unfoldable pub given_lines : List (List ℕ) → Lines
given_lines [] = end
given_lines (t ∷ ts) = line t (given_lines ts)

-- the same walk over a message that begins k bytes later
unfoldable pub shifted : ℕ → Lines → Lines
shifted k end = end
shifted k (fault n p) = fault n (k + p)
shifted k (line t ls) = line t (shifted k ls)
