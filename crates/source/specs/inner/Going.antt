-- Going over addenda, as the code does.
-- Assumes nothing.
use Rattle.std.specs.Prelude.{true, false, List, Option, Some, None, ℕ, ◌-◌, take, drop}
use Rattle.form.specs.declared.limits.Limits.{Limits}
use Rattle.line.specs.Joining.{addendum}
use Rattle.line.specs.declared.finder.Found.{Found}
use Rattle.line.specs.declared.finder.Found.TheVariants.{Line, End, Fault}
use Rattle.source.specs.declared.row.LineRun.{LineRun}
use Rattle.source.specs.Places.{addenda_ahead, lines_from, run_of}

-- the place behind an addendum at `at`, by what was found there, where that is one
unfoldable pub behind_addendum : ℕ → List ℕ → ℕ → Found → Option ℕ
behind_addendum separator message at (Line e n) = elim (addendum separator (take (e - at) (drop at message))) [ true ↦ Some n | false ↦ None ]
behind_addendum separator message at End = None
behind_addendum separator message at (Fault n p) = None

-- the addenda at a place, one behind the other
unfoldable pub addenda_from : Limits → ℕ → List ℕ → ℕ → LineRun
addenda_from L separator message at = run_of L message at (addenda_ahead separator (lines_from L message at))
