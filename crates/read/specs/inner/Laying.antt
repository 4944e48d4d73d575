-- What the second pass holds: its state, the text area and the leaf rows, once one pass over the glued text has come to a point.
-- Assumes nothing.
use Rattle.std.specs.Prelude.{true, false, List, [], ◌∷◌, ◌++◌, ◌≡◌, ℕ, ◌+◌, ◌*◌, ◌-◌, ◌≤◌, ◌<◌, eqb, length, get_or, take, drop}
use Rattle.std.proofs.lemmas.List.Edits.{sets}
use Rattle.laws.specs.Every.{All}
use Rattle.form.specs.declared.separators.Separators.{Separators}
use Rattle.form.specs.Header.{splitting}
use Rattle.line.specs.Lines.{CR}
use Rattle.table.specs.Leaves.{Leaf}
use Rattle.table.specs.inner.Flat.{Pass, steps}
use Rattle.table.specs.Rows.{leaf_row_size, width, leaf_rows_from, text_of}
use Rattle.read.specs.declared.lay.Laying.{Laying}
use Rattle.read.specs.declared.lay.Laid.{Laid}
use Rattle.table.specs.inner.Classes.{class_table}
use Rattle.read.specs.inner.Scanning.{run, marks}

-- the five numbers of the place of the leaf begun
unfoldable pub leaf_place : Laying → List ℕ
leaf_place l = l.segment ∷ l.field ∷ l.repetition ∷ l.subfield ∷ l.subsubfield ∷ []

-- the row of the leaf begun
unfoldable pub row_of : Laying → List ℕ
row_of l = leaf_place l ++ (l.begin ∷ (l.out - l.begin) ∷ [])

-- the state once the leaf begun is closed, where the next one stands at these numbers of the same segment
abbrev pub closed_to : Laying → (field repetition subfield subsubfield : ℕ) → Laying
closed_to l field repetition subfield subsubfield =
    record {
      row = l.row + leaf_row_size;
      segment = l.segment;
      field = field;
      repetition = repetition;
      subfield = subfield;
      subsubfield = subsubfield;
      begin = l.out;
      out = l.out;
    }

-- the state once the leaf begun is closed by a separator of a sort
unfoldable pub next_leaf : Laying → ℕ → Laying
next_leaf l sort =
    elim (eqb sort 4) [
      | true ↦ closed_to l l.field l.repetition l.subfield (l.subsubfield + 1)
      | false ↦
          elim (eqb sort 3) [
            | true ↦ closed_to l l.field l.repetition (l.subfield + 1) 1
            | false ↦
                elim (eqb sort 2) [
                  | true ↦ closed_to l l.field (l.repetition + 1) 1 1
                  | false ↦ closed_to l (l.field + 1) 1 1 1
                ]
          ]
    ]

-- the state once the leaf begun is closed by the end of its segment
unfoldable pub next_segment : Laying → Laying
next_segment l =
    record {
      row = l.row + leaf_row_size;
      segment = l.segment + 1;
      field = 1;
      repetition = 1;
      subfield = 1;
      subsubfield = 1;
      begin = l.out;
      out = l.out;
    }

-- no number of a place is more than one past the leaves closed, a row each, so that all of them are small where the leaves are few
pub record PlaceCounted (l : Laying) : Type 0 where
  pub segments : l.segment * leaf_row_size ≤ l.row + leaf_row_size
  pub fields : l.field * leaf_row_size ≤ l.row + leaf_row_size
  pub repetitions : l.repetition * leaf_row_size ≤ l.row + leaf_row_size
  pub subfields : l.subfield * leaf_row_size ≤ l.row + leaf_row_size
  pub subsubfields : l.subsubfield * leaf_row_size ≤ l.row + leaf_row_size
  pub begins : l.begin ≤ l.out

-- what closing the leaf begun asks, and its row, whose numbers fit and for which there is room
pub record NextFits (l : Laying) : Type 0 where
  pub few : l.row + leaf_row_size < width * leaf_row_size
  pub counted : PlaceCounted l

pub record RowFits (l : Laying) (leaves : List ℕ) : Type 0 where
  pub room : l.row + leaf_row_size ≤ length leaves
  pub short : l.out < width
  pub next : NextFits l

-- the state, the text area and the leaf rows hold what one pass has made, over what the two buffers held before
pub record Held (text₀ leaves₀ : List ℕ) (pass : Pass) (l : Laying) (text leaves : List ℕ) : Type 0 where
  pub place : pass.place ≡ leaf_place l
  pub closed : l.row ≡ length pass.closed * leaf_row_size
  pub begins : l.begin ≡ length (text_of pass.closed)
  pub ends : l.out ≡ l.begin + length pass.text
  pub texts : text ≡ sets text₀ 0 (text_of pass.closed ++ pass.text)
  pub rows : leaves ≡ sets leaves₀ 0 (leaf_rows_from 0 pass.closed)
  pub placed : All (λ (leaf : Leaf). length leaf.place ≡ 5) pass.closed

-- what laying one line asks: the byte that ends it lies ahead, and the buffers have room for its text and the leaves that it closes
pub record Lays (class message : List ℕ) (from : ℕ) (l : Laying) (text leaves : List ℕ) : Type 0 where
  pub ahead : from + run class (drop from message) < length message
  pub room : l.out + run class (drop from message) ≤ length text
  pub short : l.out + run class (drop from message) < width
  pub rows : l.row + marks class (drop from message) * leaf_row_size ≤ length leaves
  pub few : l.row + marks class (drop from message) * leaf_row_size + leaf_row_size < width * leaf_row_size
  pub counted : PlaceCounted l

-- and that the field separator is of the first sort
pub record LaysSorted (class : List ℕ) (field : ℕ) (message : List ℕ) (from : ℕ) (l : Laying) (text leaves : List ℕ) : Type 0 where
  pub lays : Lays class message from l text leaves
  pub sorted : get_or class field 0 ≡ 1

-- what it gives: the line's end, and the pass gone on over its bytes
pub record LaidBy
    (class message : List ℕ) (from : ℕ) (l : Laying) (text leaves : List ℕ) (r : Laid) (text' leaves' : List ℕ)
    : Type 0 where
  pub ends : r.end ≡ from + run class (drop from message)
  pub row : r.laying.row ≡ l.row + marks class (drop from message) * leaf_row_size
  pub segment : r.laying.segment ≡ l.segment
  pub out : r.laying.out ≤ l.out + run class (drop from message)
  pub counted : PlaceCounted r.laying
  pub text-length : length text' ≡ length text
  pub leaves-length : length leaves' ≡ length leaves
  pub held :
      (ps : Separators) (text₀ leaves₀ : List ℕ) (pass : Pass)
      → class ≡ class_table ps
      → Held text₀ leaves₀ pass l text leaves
      → Held text₀ leaves₀
      (steps (CR ∷ splitting ps) pass (take (run class (drop from message)) (drop from message)))
      r.laying text' leaves'
