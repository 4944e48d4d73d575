-- The header: a message that begins with it begins its first line and its first segment so, and the first two leaves are laid.
-- Assumes nothing.
use mathlib.Core.Bool.{false}
use mathlib.Core.List.{List, [], ◌∷◌, ◌++◌}
use mathlib.Core.Path.{◌≡◌, refl, ap, ◌∙◌, subst}
use Prim.Native.Nat.{ℕ, ◌+◌, ◌≤◌, ◌<◌}
use native.Mathlib.Omega.{arith}
use lib.ListN.{length, drop, get_or}
use borrow.Author.Tests.{eq-eqb}
use Rattle.laws.specs.Lists.{concat, first_from}
use Rattle.laws.specs.Every.{none, also}
use Rattle.form.specs.declared.limits.Limits.{Limits}
use Rattle.form.specs.declared.separators.Separators.{Separators}
use Rattle.form.specs.Header.{splitting}
use Rattle.form.proofs.HeaderRule.{SoundHeader, sound-header}
use Rattle.laws.proofs.Bytes.{Bytes}
use Rattle.line.specs.Joining.{addendum}
use Rattle.line.specs.Finding.{text_run}
use Rattle.line.specs.inner.Left.{LeftAt}
use Rattle.line.proofs.Runs.{text_run-take}
use Rattle.order.specs.inner.Levels.{level_in}
use Rattle.order.specs.inner.Owning.{no_rows, known_after}
use Rattle.table.specs.Leaves.{message_leaves}
use Rattle.table.specs.Rows.{leaf_row_size, segment_rows_from, kinds_of, all_leaves}
use Rattle.table.specs.inner.Flat.{glued_to, glued, steps}
use Rattle.table.specs.inner.Classes.{sort_of}
use Rattle.table.specs.inner.Filed.{header_bytes, Filed}
use Rattle.table.specs.inner.OnePass.{pass_over}
use Rattle.table.proofs.Classes.{class_at, class_high}
use Rattle.table.proofs.HeaderBytes.{header-bytes, header-clear}
use Rattle.table.proofs.Growing.{count-leaves}
use Rattle.read.specs.declared.fill.Filling.{Filling}
use Rattle.read.specs.inner.Scanning.{run}
use Rattle.read.specs.inner.Filling.{Prepared}
use Rattle.read.specs.inner.Segments.{HeaderPut, line_text, line_after, closed_rows, Begun, AtLine}
use Rattle.read.proofs.LeftLaws.{no_addendum, line-fits, first-line, left-begins, leaves-line}
use Rattle.read.proofs.Starting.{header_seven}
use Rattle.read.proofs.StandLaws.{readable}

module _ {m : List ℕ} {ps : Separators} (s : SoundHeader m ps) where
  -- all seven header bytes are text
  pub header-run : 7 ≤ text_run m
  header-run = omega (arith, text_run-take 7 m, ap text_run (header-bytes ps m s), header_seven ps m s)

  pub header-first : addendum ps.field m ≡ false
  header-first = no_addendum ps.field m (λ e. let h = s.letter in omega arith)

  -- so they can be filed
  header-filed : Filed ps (header_bytes ps ∷ [])
  unfolding header_bytes
  header-filed = record { header = refl; lines = also (header-clear ps s.allowed) none }

-- what the second pass starts with
module _ {L : Limits} {class kinds levels : List ℕ} {ps : Separators} {context : ℕ} {m text₀ segments₀ leaves₀ : List ℕ}
    (y : Prepared L class kinds levels ps context m text₀ segments₀ leaves₀) (bytes : Bytes m) where
  header : SoundHeader m ps
  header = sound-header m ps y.given.header

  -- its field separator is of the first sort
  pub field_sorted : get_or class ps.field 0 ≡ 1
  unfolding sort_of splitting first_from
  field_sorted =
      let field = header.allowed.field in
      ap (λ (t : List ℕ). get_or t ps.field 0) y.given.classes ∙ class_at ps ps.field (omega (arith, field.high))
      ∙ class_high ps ps.field (omega (arith, field.low)) ∙ rw (eq-eqb ps.field ps.field refl, sort_of, first_from, splitting)

  -- the first line goes on after the header
  first-left : LeftAt L ps.field m [] (header_bytes ps ++ line_text class m 7) (line_after class m 7)
  first-left =
      subst (λ (t : List ℕ). LeftAt L ps.field m [] (t ++ line_text class m 7) (line_after class m 7)) (header-bytes ps m header)
      (left-begins (readable y.given bytes) (header-run header) (omega (arith, header.long)) (header-first header))

  first-within : 7 + run class (drop 7 m) < length m
  first-within =
      let s = readable y.given bytes in
      line-fits s (first-line s (omega (arith, header.long))) 7 (header-run header)

  -- there is room for the header's bytes and rows
  pub header-fits : (5 ≤ length text₀) × (leaf_row_size + leaf_row_size ≤ length leaves₀)
  header-fits =
      let given = y.given in
      let few = leaves-line (readable y.given bytes) [] (header_bytes ps) (header-filed header) 7 (line_after class m 7) first-left in
      let three = count-leaves ps (header_bytes ps ∷ []) (header-filed header) in
      let long = header.long in
      (omega (arith, given.bytes, y.text_room), omega (arith, given.few_leaves, y.leaf_room))

  module _ {r : Filling} {nearest text leaves : List ℕ} (put : HeaderPut ps text₀ leaves₀ r text leaves) (rows : nearest ≡ no_rows) where
    header-begun : Begun (level_in levels context) ps text₀ segments₀ leaves₀ [] (header_bytes ps) r nearest text segments₀ leaves
    unfolding pass_over glued glued_to steps header_bytes all_leaves message_leaves concat closed_rows kinds_of segment_rows_from known_after
    header-begun =
        record {
          filed = header-filed header;
          held = put.held;
          counted = put.counted;
          number = put.number;
          first = put.first;
          rows = refl;
          known = rows;
        }

    -- the rest of the first line goes to the first segment
    pub header-line : AtLine (record { limits = L; text = text₀; segments = segments₀; leaves = leaves₀ }) class kinds levels context ps m 7 r nearest text segments₀ leaves
    header-line =
        record {
          prepared = y;
          bytes = bytes;
          done = [];
          last = header_bytes ps;
          begins = header-begun;
          left = first-left;
          inside = first-within;
          behind = omega (arith, put.out);
        }
