-- Where the text of a line begins that is joined to its segment: behind the first two bytes of an addendum (A1).
-- Assumes nothing.
use Rattle.std.specs.Prelude.{true, false, List, ℕ, ◌+◌}
use Rattle.line.specs.Joining.{addendum}

-- of a line that begins at `at` and from there on is this list, its CR and what follows included
unfoldable pub text_from : ℕ → ℕ → List ℕ → ℕ
text_from field at s = elim (addendum field s) [ true ↦ at + 2 | false ↦ at ]
