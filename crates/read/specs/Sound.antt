-- The messages that the reader must judge by their order alone (demand 3): those that no test refuses but the tests of kinds, context and
-- order (8, 9 and 10 of N2).
-- Assumes nothing.
use Rattle.std.specs.Prelude.{false, List, ◌≡◌, ℕ, ◌≤◌, length}
use Rattle.form.specs.declared.limits.Limits.{Limits}
use Rattle.form.specs.declared.separators.Separators.{Separators}
use Rattle.form.specs.declared.separators.Header.TheVariants.{Sound}
use Rattle.form.specs.Header.{header_of}
use Rattle.line.specs.Lines.{walk, texts, fault_number}
use Rattle.line.specs.Joining.{joined}
use Rattle.table.specs.Rows.{all_leaves}
use Rattle.table.specs.Reading.{Room, short}

-- the joined segments of a message (A1 to A3)
abbrev pub segments_in : Limits → Separators → List ℕ → List (List ℕ)
segments_in L ps message = joined ps.field (texts (walk L message))

-- a message that is not too long (L5), whose header names the separators ps (H1, H2), and of whose lines none has a fault (L6)
pub record SoundLines (L : Limits) (message : List ℕ) (ps : Separators) : Type 0 where
  pub fits : length message ≤ L.bytes
  pub header : header_of message ≡ Sound ps
  pub lines : fault_number (walk L message) ≡ 0

-- the same with no more segments and leaves than may be (T6), and read into buffers of which none is short (N1)
pub record SoundMessage (L : Limits) (room : Room) (message : List ℕ) (ps : Separators) : Type 0 where
  pub sound : SoundLines L message ps
  pub roomy : short L room ≡ false
  pub few-segments : length (segments_in L ps message) ≤ L.segments
  pub few-leaves : length (all_leaves ps (segments_in L ps message)) ≤ L.leaves
