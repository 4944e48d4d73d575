-- What comes back for a table that passed the table test, and what `write` answers by cases.
-- Assumes nothing.
use mathlib.Core.Bool.{true, false}
use mathlib.Core.List.{List, []}
use mathlib.Core.Path.{◌≡◌, refl, ap, ap₂, ◌∙◌}
use Prim.Native.Nat.{ℕ, ◌≤◌}
use lib.Dec.{ltb}
use lib.ListN.{length}
use Rattle.form.specs.declared.limits.Limits.{Limits}
use Rattle.form.specs.declared.separators.Separators.{Separators}
use Rattle.form.specs.Limits.{Lawful}
use Rattle.table.specs.declared.Card.{Card}
use Rattle.line.specs.Cutting.{unlines}
use Rattle.table.specs.inner.Back.{leaves_of, separators_at, segments_of, lines_of, written}
use Rattle.write.specs.declared.lines.Going.{Going}
use Rattle.table.specs.Lent.{Lent, counted, lent}
use Rattle.write.specs.Writing.{writes, writing}
use Rattle.write.specs.inner.ReadsBack.{is_table}
use Rattle.write.specs.inner.Passing.{Writable, WrittenOut}
use Rattle.write.specs.Answer.{answer, output_after, GivesWriting}
use Rattle.write.specs.inner.Message.{message_written, Tested}
use Rattle.write.proofs.LentTables.{table-written-out}
use Rattle.write.proofs.TablesWritten.{table-four, table_writable, table-message}
use Rattle.write.specs.inner.Asked.{FourWithin}

-- the segment rows change nothing of what is written
module _ (L : Limits) (card : Card) (segment_rows rows text : List ℕ) where
  lines_by_leaves : lines_of L (counted (lent card segment_rows rows text)) ≡ lines_of L (counted (lent card [] rows text))
  unfolding lines_of segments_of leaves_of separators_at counted
  lines_by_leaves = refl

  pub message_by_leaves : writes (written L (counted (lent card segment_rows rows text))) (length (lines_of L (counted (lent card segment_rows rows text))))
      ≡ message_written L card rows text
  unfolding message_written written
  message_by_leaves = ap (λ (ls : List (List ℕ)). writes (unlines ls) (length ls)) lines_by_leaves

module _ {L : Limits} {card : Card} {rows text : List ℕ} (lawful : Lawful L) (w : Tested L card rows text) where
  pub tested-four : FourWithin rows text
  tested-four = table-four L lawful w.levels (lent card w.segment_rows rows text) w.passed

  module _ {ps : Separators} (e : ps ≡ separators_at card.separator rows text) where
    pub tested_writable : {output : List ℕ} → L.bytes ≤ length output → Writable L ps rows card.leaves text output
    tested_writable = table_writable L lawful w.levels (lent card w.segment_rows rows text) w.passed e

    pub tested-answer : {output output' : List ℕ} {r : Going} → WrittenOut L ps rows card.leaves text output r output'
        → GivesWriting (message_written L card rows text) output (record { number = 0; place = 0; bytes = r.out; lines = r.lines }) output'
    unfolding answer output_after
    tested-answer {output} v =
        let m = table-message L lawful w.levels (lent card w.segment_rows rows text) w.passed e v in
        let same = message_by_leaves L card w.segment_rows rows text in
        record {
          answers = ap₂ (λ (bytes lines : ℕ). record { number = 0; place = 0; bytes = bytes; lines = lines }) m.1 m.2 ∙ ap answer same;
          message = m.0 ∙ ap (output_after output) same;
        }

-- the answer of writing a lent table, by cases: each return of `write` is one of these
module _ (L : Limits) (lawful : Lawful L) (levels : ℕ → ℕ → ℕ) (l : Lent) (output : ℕ) where
  pub writing-message : ltb output L.bytes ≡ false → is_table L levels l ≡ true
      → writing L levels l output ≡ message_written L l.card l.leaf_rows l.text
  writing-message h e =
      table-written-out L lawful levels l output h e ∙ message_by_leaves L l.card l.segment_rows l.leaf_rows l.text

  pub tested-lent : is_table L levels l ≡ true → Tested L l.card l.leaf_rows l.text
  tested-lent e = record { levels = levels; segment_rows = l.segment_rows; passed = e }
