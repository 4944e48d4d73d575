-- What is left of the lines, for a pass that has come to a place: those before it have joined to segments, of which the last may go on.
-- Assumes nothing.
use Rattle.std.specs.Prelude.{List, ◌∷◌, ◌++◌, ◌≡◌, ℕ, drop}
use Rattle.form.specs.declared.limits.Limits.{Limits}
use Rattle.line.specs.Lines.{Lines, walk_from, walk, texts, fault_number, fault_place}
use Rattle.line.specs.Joining.{carried, joined}

-- the fault that a walk ends in is the one that its last lines end in
pub record SameFault (whole ls : Lines) : Type 0 where
  pub number : fault_number whole ≡ fault_number ls
  pub place : fault_place whole ≡ fault_place ls

-- the lines `ls` are the last of a walk, and those before them have joined to the segments `done` and to `last`, which goes on
pub record Left (field : ℕ) (whole : Lines) (done : List (List ℕ)) (last : List ℕ) (ls : Lines) : Type 0 where
  pub joins : joined field (texts whole) ≡ done ++ (last ++ carried field (texts ls)) ∷ joined field (texts ls)
  pub fault : SameFault whole ls

-- the lines of the message m from the place `at` on are those left
abbrev pub LeftAt : Limits → ℕ → List ℕ → List (List ℕ) → List ℕ → ℕ → Type 0
LeftAt L field m done last at = Left field (walk L m) done last (walk_from L at (drop at m))
