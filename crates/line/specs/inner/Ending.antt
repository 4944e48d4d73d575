-- Where a line ends, as the finder and the passes over a message tell it, and how what is found gives the walk.
-- Assumes nothing.
use Rattle.std.specs.Prelude.{true, false, ◌&&◌, List, ℕ, ◌+◌, ◌-◌, leb, ltb, eqb, length, get_or, take, drop}
use Rattle.form.specs.declared.limits.Limits.{Limits}
use Rattle.form.specs.Numbers.{control_byte, long_line, open_line}
use Rattle.line.specs.Lines.{Lines, end, fault, line, CR, space, walk_from}
use Rattle.line.specs.Finding.{low_run}
use Rattle.line.specs.declared.finder.Found.{Found}
use Rattle.line.specs.declared.finder.Found.TheVariants.{Line, End, Fault}

-- what a line is that begins at `at` and whose text goes up to `stop`, by what stands there
unfoldable pub ended_line : List ℕ → ℕ → ℕ → Found
ended_line message at stop =
    elim (leb (length message) stop) [
      | true ↦ Fault open_line stop
      | false ↦
          elim (leb space (get_or message stop 0)) [
            | true ↦ Fault long_line stop
            | false ↦
                elim (eqb (get_or message stop 0) CR && ltb at stop) [
                  | true ↦ Line stop (stop + 1 + low_run (drop (stop + 1) message))
                  | false ↦ Fault control_byte stop
                ]
          ]
    ]

-- the walk from the place `at` on, by what was found there: a line is the bytes up to its CR, and the walk goes on at the next place
unfoldable pub handed_out : Limits → List ℕ → ℕ → Found → Lines
handed_out L message at (Line e n) = line (take (e - at) (drop at message)) (walk_from L n (drop n message))
handed_out L message at End = end
handed_out L message at (Fault n p) = fault n p
