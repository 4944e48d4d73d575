-- What the second pass holds of whole segments: the rows of those closed, the text of the one begun, and the lines left.
-- Assumes nothing.
use Rattle.std.specs.Prelude.{List, [], ◌∷◌, ◌++◌, ◌≡◌, ℕ, ◌+◌, ◌*◌, ◌-◌, ◌/◌, ◌≤◌, ◌<◌, length, get_or, take, drop}
use Rattle.std.proofs.lemmas.List.Edits.{sets}
use Rattle.laws.specs.Every.{All}
use Rattle.form.specs.declared.limits.Limits.{Limits}
use Rattle.form.specs.declared.separators.Separators.{Separators}
use Rattle.line.specs.inner.Left.{LeftAt}
use Rattle.line.specs.Finding.{low_run}
use Rattle.order.specs.inner.Levels.{level_in}
use Rattle.order.specs.inner.Owning.{no_rows, owned, known_after, Owned}
use Rattle.table.specs.Leaves.{message_leaves}
use Rattle.table.specs.Rows.{segment_row_size, leaf_row_size, segment_row, segment_rows_of, kinds_of, all_leaves}
use Rattle.table.specs.inner.Filed.{Filed}
use Rattle.table.specs.inner.OnePass.{header_pass, pass_over}
use Rattle.read.specs.declared.fill.Filling.{Filling}
use Rattle.read.specs.declared.fill.Line.{Line}
use Rattle.read.specs.inner.Scanning.{run}
use Rattle.read.specs.inner.Laying.{row_of, next_segment, PlaceCounted, RowFits, Held, LaidBy}
use Rattle.read.specs.inner.Filling.{Prepared}

-- the kind that is noted of the segment begun
abbrev pub kind_noted : List ℕ → Filling → ℕ
kind_noted kinds f = get_or kinds (f.laying.segment - 1) 0

-- the row of the segment begun, once its kind and its owner are known
abbrev pub row_closed : Filling → (kind owner : ℕ) → List ℕ
row_closed f kind owner = segment_row kind owner f.first (f.laying.row / leaf_row_size + 2 - f.first)

-- what closing the segment begun asks: a context, its kind noted, and room for the row of its last leaf and for its own row, whose numbers fit a row
pub record Closable (f : Filling) (context : ℕ) (kinds segments leaves : List ℕ) : Type 0 where
  pub some_context : 1 ≤ context
  pub seven_contexts : context ≤ 7
  pub leaf : RowFits f.laying leaves
  pub numbered : 1 ≤ f.laying.segment
  pub noted : f.laying.segment ≤ length kinds
  pub segment_room : f.laying.segment * segment_row_size ≤ length segments
  pub begins : 1 ≤ f.first
  pub some : f.first ≤ f.laying.row / leaf_row_size + 1

-- what it gives, by the kind noted: both rows, and what is known of the rows so far
pub record ClosedBy (f : Filling) (kind : ℕ) (levels : List ℕ) (context : ℕ) (nearest segments leaves nearest' segments' leaves' : List ℕ) : Type 0 where
  pub leaf_row : leaves' ≡ sets leaves f.laying.row (row_of f.laying)
  pub owner : ℕ
  pub owns : Owned nearest nearest' f.laying.segment kind (level_in levels context kind) owner
  pub row : segments' ≡ sets segments ((f.laying.segment - 1) * segment_row_size) (row_closed f kind owner)

-- the state after a segment that has been closed
abbrev pub begun_after : Filling → Filling
begun_after f = record { laying = next_segment f.laying; first = f.laying.row / leaf_row_size + 2 }

-- the first two leaves (S4), of a message that begins with the bytes of these separators
pub record HeaderPut (ps : Separators) (text leaves : List ℕ) (r : Filling) (text' leaves' : List ℕ) : Type 0 where
  pub held : Held text leaves (header_pass ps) r.laying text' leaves'
  pub counted : PlaceCounted r.laying
  pub number : r.laying.segment ≡ 1
  pub out : r.laying.out ≡ 5
  pub first : r.first ≡ 1

-- the bytes of a line from `from` on
abbrev pub line_text : List ℕ → List ℕ → ℕ → List ℕ
line_text class message from = take (run class (drop from message)) (drop from message)

-- the place after the line that has them, and after the bytes below 32 that follow
abbrev pub line_after : List ℕ → List ℕ → ℕ → ℕ
line_after class message from =
    from + run class (drop from message) + 1 + low_run (drop (from + run class (drop from message) + 1) message)

-- the text of one line joined to the segment begun
pub record LineFilled
    (class message : List ℕ) (from : ℕ) (f : Filling) (text leaves : List ℕ) (r : Line) (text' leaves' : List ℕ)
    : Type 0 where
  pub laid :
      LaidBy class message from f.laying text leaves
      (record { laying = r.filling.laying; end = from + run class (drop from message) }) text' leaves'
  pub next : r.next ≡ line_after class message from
  pub first : r.filling.first ≡ f.first

-- the rows of closed segments, their owners by what is known as they come
unfoldable pub closed_rows : (ℕ → ℕ) → Separators → List (List ℕ) → List ℕ
closed_rows lv ps done =
    segment_rows_of (kinds_of ps done) (owned lv no_rows 1 (kinds_of ps done)) (message_leaves ps done)

-- segments closed, one begun behind them, and what the state and the buffers hold of them over what the buffers held before
pub record Begun
    (lv : ℕ → ℕ) (ps : Separators) (text₀ segments₀ leaves₀ : List ℕ) (done : List (List ℕ)) (last : List ℕ)
    (f : Filling) (nearest text segments leaves : List ℕ)
    : Type 0 where
  pub filed : Filed ps (done ++ (last ∷ []))
  pub held : Held text₀ leaves₀ (pass_over ps (done ++ (last ∷ []))) f.laying text leaves
  pub counted : PlaceCounted f.laying
  pub number : f.laying.segment ≡ length done + 1
  pub first : f.first ≡ length (all_leaves ps done) + 1
  pub rows : segments ≡ sets segments₀ 0 (closed_rows lv ps done)
  pub known : nearest ≡ known_after lv no_rows 1 (kinds_of ps done)

-- the limits, and the three buffers as they came
pub record Came : Type 0 where
  pub limits : Limits
  pub text : List ℕ
  pub segments : List ℕ
  pub leaves : List ℕ

-- the second pass stands at the place `at`, where a line begins or the message ends
pub record Stands
    (c : Came) (class kinds levels : List ℕ) (context : ℕ) (ps : Separators) (message : List ℕ) (at : ℕ) (f : Filling)
    (nearest text segments leaves : List ℕ)
    : Type 0 where
  pub prepared : Prepared c.limits class kinds levels ps context message c.text c.segments c.leaves
  pub bytes : All (λ (b : ℕ). b < 256) message
  pub done : List (List ℕ)
  pub last : List ℕ
  pub begins : Begun (level_in levels context) ps c.text c.segments c.leaves done last f nearest text segments leaves
  pub left : LeftAt c.limits ps.field message done last at
  pub behind : f.laying.out ≤ at
  pub within : f.laying.out ≤ length message

-- the second pass is about to fill a line from `from` on, whose text goes to the segment begun: the line's end lies ahead, and with
-- its text the lines after it give the rest
pub record AtLine
    (c : Came) (class kinds levels : List ℕ) (context : ℕ) (ps : Separators) (message : List ℕ) (from : ℕ) (f : Filling)
    (nearest text segments leaves : List ℕ)
    : Type 0 where
  pub prepared : Prepared c.limits class kinds levels ps context message c.text c.segments c.leaves
  pub bytes : All (λ (b : ℕ). b < 256) message
  pub done : List (List ℕ)
  pub last : List ℕ
  pub begins : Begun (level_in levels context) ps c.text c.segments c.leaves done last f nearest text segments leaves
  pub left : LeftAt c.limits ps.field message done (last ++ line_text class message from) (line_after class message from)
  pub inside : from + run class (drop from message) < length message
  pub behind : f.laying.out ≤ from

-- the lines from one place on to another: whatever the pass came with, from the one it comes to the other
abbrev pub Onward :
    (class kinds levels : List ℕ) (context : ℕ) (ps : Separators) (message : List ℕ)
    (from : ℕ) (f : Filling) (nearest text segments leaves : List ℕ)
    (from' : ℕ) (f' : Filling) (nearest' text' segments' leaves' : List ℕ) → Type 0
Onward class kinds levels context ps message from f nearest text segments leaves from' f' nearest' text' segments' leaves' =
    (c : Came) → AtLine c class kinds levels context ps message from f nearest text segments leaves
    → AtLine c class kinds levels context ps message from' f' nearest' text' segments' leaves'
