-- The codes of the pseudo-analyses (R2) by their places among the four.
-- Assumes nothing.
use Rattle.std.specs.Prelude.{ℕ, Option, Some, None}
use Rattle.screen.specs.declared.codes.Code.{Code}
use Rattle.screen.specs.declared.codes.Code.TheVariants.{Pays, Typor, Pross, Finge}

-- which code it is, counted from 0; 4 for none
abbrev pub code_number : Option Code → ℕ
code_number (Some Pays) = 0
code_number (Some Typor) = 1
code_number (Some Pross) = 2
code_number (Some Finge) = 3
code_number None = 4
