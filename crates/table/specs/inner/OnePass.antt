-- One pass over a whole message (a model of its leaves): the first two leaves are given, then the pass goes over the glued
-- segments from the eighth byte on.
-- Assumes nothing.
use Rattle.std.specs.Prelude.{List, [], ◌∷◌, ℕ, take, drop}
use Rattle.form.specs.declared.separators.Separators.{Separators}
use Rattle.form.specs.Header.{splitting}
use Rattle.line.specs.Lines.{CR}
use Rattle.table.specs.inner.Flat.{leaf, glued, Pass, steps}
use Rattle.table.specs.inner.Filed.{header_bytes}

-- the pass behind the header (S4): two leaves closed, and the third begun, which is field 3
unfoldable pub header_pass : Separators → Pass
header_pass ps =
    record {
      place = 1 ∷ 3 ∷ 1 ∷ 1 ∷ 1 ∷ [];
      text = [];
      closed =
          leaf (1 ∷ 1 ∷ 1 ∷ 1 ∷ 1 ∷ []) (take 1 (header_bytes ps))
          ∷ leaf (1 ∷ 2 ∷ 1 ∷ 1 ∷ 1 ∷ []) (take 4 (drop 2 (header_bytes ps)))
          ∷ [];
    }

-- the pass over segments, of which the last may be begun only
unfoldable pub pass_over : Separators → List (List ℕ) → Pass
pass_over ps segments = steps (CR ∷ splitting ps) (header_pass ps) (drop 7 (glued segments))
