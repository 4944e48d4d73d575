-- What the writer answers for a lent table, whatever it holds (N2, W4): it writes exactly where the counts lie
-- within the buffers and some message reads to the counted entries, and what it writes reads back to these.
-- Assumes nothing.
use mathlib.Core.Bool.{true, false, ◌&&◌}
use mathlib.Core.List.{List}
use mathlib.Core.Logic.{◌↔◌}
use mathlib.Core.Path.{◌≡◌, refl, sym, ap, ◌∙◌, subst}
use Prim.Native.Nat.{ℕ, ◌*◌, ◌≤◌}
use native.Mathlib.Omega.{arith}
use lib.Dec.{ltb}
use lib.ListN.{length}
use lib.Seq.{length-take-le}
use borrow.Author.Tests.{le-leb}
use Rattle.laws.proofs.Every.{all_first, all_rest}
use Rattle.laws.proofs.Tests.{Tested, passed, failed, tested, and_first, and_second, and_both}
use Rattle.form.specs.declared.limits.Limits.{Limits}
use Rattle.form.specs.Limits.{Lawful}
use Rattle.form.specs.Numbers.{short_output, no_table_number}
use Rattle.line.specs.Lines.{walk, texts}
use Rattle.line.specs.Cutting.{cuts}
use Rattle.line.proofs.Walking.{texts-given}
use Rattle.line.proofs.Written.{walk-written}
use Rattle.table.specs.inner.Filed.{header_bytes}
use Rattle.table.specs.Rows.{Table, segment_row_size, leaf_row_size, text_of}
use Rattle.table.specs.Reading.{accepted, reading, stated}
use Rattle.table.specs.inner.Back.{leaves_of, lines_of, written}
use Rattle.table.proofs.Lent.{segments-within, leaves-within, text-within}
use Rattle.table.proofs.Accepting.{Accepted, accepting}
use Rattle.table.proofs.BySegment.{concat-by_segment}
use Rattle.table.proofs.Filing.{segments_of_accepted, accepted-header, accepted_worded}
use Rattle.table.proofs.HeaderBytes.{header-text}
use Rattle.table.proofs.SegmentBytes.{texts-written}
use Rattle.table.specs.Lent.{Lent, within_limits, counts_fit, within_buffers, counted}
use Rattle.write.specs.inner.Local.{groups_of, Local}
use Rattle.write.specs.inner.RowByRow.{Sized, RowByRow}
use Rattle.write.specs.Writing.{ReadTo, refuses, writes, writing}
use Rattle.write.specs.inner.ReadsBack.{reads_back, is_table}
use Rattle.write.proofs.LocalTables.{read_local}
use Rattle.write.proofs.RoundTrip.{table-lines, table-written, reads_back_lem, reads_same}
use Rattle.write.proofs.RowByRow.{row_by_row, rows_local}

-- counts within the buffers
pub record Within (l : Lent) : Type 0 where
  pub segment_rows : l.card.segments * segment_row_size ≤ length l.segment_rows
  pub leaf_rows : l.card.leaves * leaf_row_size ≤ length l.leaf_rows
  pub text : l.card.text ≤ length l.text

pub within_buffers_lem : (l : Lent) → (within_buffers l ≡ true) ↔ Within l
unfolding counts_fit
within_buffers_lem l =
    let rows = length l.segment_rows in
    let leaves = length l.leaf_rows in
    let text = length l.text in (
      λ h.
          record {
            segment_rows = segments-within l.card rows leaves text h;
            leaf_rows = leaves-within l.card rows leaves text h;
            text = text-within l.card rows leaves text h;
          },
      λ w.
          and_both
          (and_both (le-leb (l.card.segments * segment_row_size) rows w.segment_rows) (le-leb (l.card.leaves * leaf_row_size) leaves w.leaf_rows))
          (le-leb l.card.text text w.text),
    )

-- then the counted entries are as many as the card says
pub counted-sized : (l : Lent) → within_buffers l ≡ true → Sized (counted l)
unfolding counted
counted-sized l h =
    let w = (within_buffers_lem l).0 h in
    record {
      segment_rows = length-take-le (l.card.segments * segment_row_size) l.segment_rows w.segment_rows;
      leaf_rows = length-take-le (l.card.leaves * leaf_row_size) l.leaf_rows w.leaf_rows;
      text = length-take-le l.card.text l.text w.text;
    }

module _ (L : Limits) (lawful : Lawful L) (levels : ℕ → ℕ → ℕ) where
  -- a table that some message reads to keeps to the limits
  pub local_within : (t : Table) → Local L levels t → within_limits L t.card ≡ true
  unfolding within_limits groups_of
  local_within t w =
      and_both
      (and_both (le-leb t.card.segments L.segments w.few.segments) (le-leb t.card.leaves L.leaves w.few.leaves))
      (le-leb t.card.text L.bytes short)
    where
      short : t.card.text ≤ L.bytes
      short =
          omega (
            arith,
            w.text_count,
            ap length (w.text ∙ ap text_of (sym (concat-by_segment (leaves_of t)))),
            texts-written L lawful (groups_of t),
            w.few.bytes,
          )

  -- the three tests of a lent table
  tests : (l : Lent) → is_table L levels l ≡ true → (within_buffers l ≡ true) × (reads_back L levels (counted l) ≡ true)
  unfolding is_table
  tests l h =
      let a = within_limits L l.card in
      let b = within_buffers l in
      let c = reads_back L levels (counted l) in
      (and_second a b (and_first (a && b) c h), and_second (a && b) c h)

  pub table-within : (l : Lent) → is_table L levels l ≡ true → within_limits L l.card ≡ true
  unfolding is_table
  table-within l h =
      let a = within_limits L l.card in
      let b = within_buffers l in
      and_first a b (and_first (a && b) (reads_back L levels (counted l)) h)

  tested_so : (l : Lent) → within_buffers l ≡ true → Local L levels (counted l) → reads_back L levels (counted l) ≡ true → is_table L levels l ≡ true
  unfolding is_table counted
  tested_so l within w back = and_both (and_both (local_within (counted l) w) within) back

  -- a lent table is one exactly where its counts lie within its buffers and some message reads to the counted entries
  pub is_table_lem : (l : Lent) → (is_table L levels l ≡ true) ↔ ((within_buffers l ≡ true) × ReadTo L levels (counted l))
  is_table_lem l = (
    λ h. let w = tests l h in (w.0, (reads_back_lem L lawful levels (counted l)).0 w.1),
    λ w.
        tested_so l w.0 ((read_local L lawful levels (counted l)).0 w.1) ((reads_back_lem L lawful levels (counted l)).1 w.1),
  )

  -- and it is tested row by row
  pub is_table_rows : (l : Lent) → (is_table L levels l ≡ true) ↔ ((within_buffers l ≡ true) × RowByRow L levels (counted l))
  is_table_rows l = (
    λ h. let w = tests l h in (w.0, ((row_by_row L lawful levels (counted l)).0 w.1).1),
    λ w.
        let sized = counted-sized l w.0 in
        tested_so l w.0 (rows_local sized w.1) ((row_by_row L lawful levels (counted l)).1 (sized, w.1)),
  )

  -- the lines of what is written for a table are those that the walk hands out
  module _ {t : Table} {m : List ℕ} (w : Accepted L levels (stated L) m t) where
    pub accepted-lines : texts (walk L (written L t)) ≡ lines_of L t
    unfolding header_bytes
    accepted-lines =
        ap (λ (s : List ℕ). texts (walk L s)) (table-written lawful w)
        ∙ ap texts
        (walk-written L lawful w.separators.field (all_first (all_rest (header-text w.separators (accepted-header lawful w).allowed)))
        (segments_of_accepted lawful w) (accepted_worded lawful w))
        ∙ texts-given (cuts L w.separators.field (segments_of_accepted lawful w))
        ∙ sym (table-lines lawful w)

  -- what the writer answers: 12, then 13, else the message and its lines
  pub record Wrote (l : Lent) (bytes : List ℕ) (lines : ℕ) : Type 0 where
    pub message : bytes ≡ written L (counted l)
    pub reads : reading L levels (stated L) bytes ≡ accepted (counted l)
    pub fits : length bytes ≤ L.bytes
    pub walked : lines ≡ length (texts (walk L bytes))

  wrote : (l : Lent) → is_table L levels l ≡ true → Wrote l (written L (counted l)) (length (lines_of L (counted l)))
  wrote l h =
      let read = reads_same L lawful levels (counted l) (tests l h).1 in
      let w = (accepting L levels (stated L) (written L (counted l)) (counted l)).0 read in
      record { message = refl; reads = read; fits = w.fits; walked = sym (ap length (accepted-lines w)) }

  module _ (l : Lent) (output : ℕ) where
    pub short-refused : ltb output L.bytes ≡ true → writing L levels l output ≡ refuses short_output
    unfolding writing
    short-refused h = rw (h, writing)

    pub no_table_refused : ltb output L.bytes ≡ false → is_table L levels l ≡ false → writing L levels l output ≡ refuses no_table_number
    unfolding writing
    no_table_refused h e = rw (h, e, writing)

    pub table-written-out : ltb output L.bytes ≡ false → is_table L levels l ≡ true
        → writing L levels l output ≡ writes (written L (counted l)) (length (lines_of L (counted l)))
    unfolding writing
    table-written-out h e = rw (h, e, writing)

    -- what is written reads back to the same card, rows and text
    pub writes_back : (bytes : List ℕ) (lines : ℕ) → writing L levels l output ≡ writes bytes lines → Wrote l bytes lines
    writes_back bytes lines e = go (tested (ltb output L.bytes)) (tested (is_table L levels l))
      where
        go : Tested (ltb output L.bytes) → Tested (is_table L levels l) → Wrote l bytes lines
        go (passed s) r = let q = short-refused s in let z : ◌≡◌ {A = ℕ} 0 1 = cc in absurd (omega arith)
        go (failed s) (failed r) = let q = no_table_refused s r in let z : ◌≡◌ {A = ℕ} 0 1 = cc in absurd (omega arith)
        go (failed s) (passed r) =
            let q = table-written-out s r in
            let same_bytes : written L (counted l) ≡ bytes = cc in
            let same_lines : length (lines_of L (counted l)) ≡ lines = cc in
            subst (λ (n : ℕ). Wrote l bytes n) same_lines
            (subst (λ (s : List ℕ). Wrote l s (length (lines_of L (counted l)))) same_bytes (wrote l r))

    -- 13 is answered only where no message reads to the table
    pub refused_none : writing L levels l output ≡ refuses no_table_number → within_buffers l ≡ true → ReadTo L levels (counted l) → ⊥
    refused_none e within r = go (tested (ltb output L.bytes))
      where
        go : Tested (ltb output L.bytes) → ⊥
        go (passed s) = let q = short-refused s in let z : short_output ≡ no_table_number = cc in omega arith
        go (failed s) = let q = table-written-out s ((is_table_lem l).1 (within, r)) in let z : ◌≡◌ {A = ℕ} 0 1 = cc in omega arith
