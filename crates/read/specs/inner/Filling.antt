-- What the second pass may count on, and what it leaves in the three buffers.
-- Assumes nothing.
use Rattle.std.specs.Prelude.{List, ◌≡◌, ℕ, ◌*◌, ◌≤◌, length}
use Rattle.std.proofs.lemmas.List.Edits.{sets}
use Rattle.form.specs.declared.limits.Limits.{Limits}
use Rattle.form.specs.declared.separators.Separators.{Separators}
use Rattle.form.specs.declared.separators.Header.TheVariants.{Sound}
use Rattle.form.specs.Header.{header_of}
use Rattle.line.specs.Lines.{walk, fault_number}
use Rattle.order.specs.inner.Levels.{level_in, LevelsBelow}
use Rattle.table.specs.Rows.{Table, context_in, all_leaves, table_of, segment_row_size, leaf_row_size}
use Rattle.table.specs.inner.Fitting.{FitsRows}
use Rattle.table.specs.inner.Classes.{class_table}
use Rattle.read.specs.Sound.{segments_in}
use Rattle.read.specs.inner.Noting.{Noted}

-- what deciding has shown of a message that it accepts: its numbers fit the rows, and its kinds are noted
pub record Fillable (L : Limits) (class kinds : List ℕ) (ps : Separators) (context : ℕ) (message : List ℕ) : Type 0 where
  pub fits : FitsRows L
  pub header : header_of message ≡ Sound ps
  pub classes : class ≡ class_table ps
  pub sound : fault_number (walk L message) ≡ 0
  pub bytes : length message ≤ L.bytes
  pub few : length (segments_in L ps message) ≤ L.segments
  pub few_leaves : length (all_leaves ps (segments_in L ps message)) ≤ L.leaves
  pub named : context ≡ context_in ps (segments_in L ps message)
  pub some_context : 1 ≤ context
  pub seven_contexts : context ≤ 7
  pub noted : Noted ps (segments_in L ps message) (length (segments_in L ps message)) kinds
  pub all : length (segments_in L ps message) ≤ length kinds

-- what filling asks: such a message, the levels, and buffers of the stated sizes
pub record Prepared
    (L : Limits) (class kinds levels : List ℕ) (ps : Separators) (context : ℕ) (message text segments leaves : List ℕ)
    : Type 0 where
  pub given : Fillable L class kinds ps context message
  pub below : LevelsBelow (level_in levels)
  pub text_room : L.bytes ≤ length text
  pub segment_room : L.segments * segment_row_size ≤ length segments
  pub leaf_room : L.leaves * leaf_row_size ≤ length leaves

-- the table of a message, by a table of levels
abbrev pub table_in : Limits → List ℕ → Separators → List ℕ → Table
table_in L levels ps message = table_of (level_in levels) ps (segments_in L ps message)

-- the three buffers once it is filled in: the counted entries in front, the rest as it was; and the bytes of text
pub record Filled (t : Table) (text segments leaves text' segments' leaves' : List ℕ) (bytes : ℕ) : Type 0 where
  pub texts : text' ≡ sets text 0 t.text
  pub segment_rows : segments' ≡ sets segments 0 t.segment_rows
  pub leaf_rows : leaves' ≡ sets leaves 0 t.leaf_rows
  pub counted : bytes ≡ t.card.text
