-- What the writer's contract says (rules N1 to N3, W1 to W4): one outcome on all inputs; 12 exactly where the output is short, 13 exactly where
-- no message reads to the lent table, and a refusal leaves the output; what is written reads to the table, in the fewest bytes and lines.
-- Assumes nothing.
use mathlib.Core.Bool.{Bool, true, true≢false}
use mathlib.Core.List.{List, ◌++◌}
use mathlib.Core.Logic.{◌↔◌}
use mathlib.Core.Path.{◌≡◌, refl, sym, ap, ap₂, ◌∙◌, subst⁻¹}
use Prim.Native.Nat.{ℕ, ◌+◌, ◌≤◌, ◌<◌}
use native.Mathlib.Omega.{arith}
use lib.Dec.{ltb}
use lib.ListN.{length, take, drop, length-take}
use lib.Seq.{sets, sets-eq, take-append_seam, drop-append_seam}
use borrow.Author.Tests.{ltb-true, ltb-false}
use Rattle.laws.specs.Every.{All}
use Rattle.laws.proofs.Every.{all_from}
use Rattle.laws.proofs.Tests.{Tested, passed, failed, tested}
use Rattle.form.specs.declared.limits.Limits.{Limits}
use Rattle.form.specs.Limits.{Lawful}
use Rattle.form.specs.Numbers.{short_output, no_table_number}
use Rattle.line.specs.Lines.{walk, texts}
use Rattle.line.specs.Joining.{joined}
use Rattle.line.specs.Cutting.{cuts}
use Rattle.line.proofs.Walking.{texts-sound}
use Rattle.table.specs.Lent.{Lent, within_buffers, counted}
use Rattle.table.specs.Reading.{accepted, reading, stated}
use Rattle.table.proofs.Accepting.{accepting}
use Rattle.table.specs.inner.Back.{lines_of, written}
use Rattle.write.specs.declared.Written.{Written}
use Rattle.write.specs.Writing.{ReadTo, refuses, writes, writing}
use Rattle.write.specs.inner.ReadsBack.{is_table}
use Rattle.write.specs.Answer.{answer, output_after, WroteAs}
use Rattle.write.specs.Wrote.{WroteTable}
use Rattle.write.proofs.Fewest.{least-bytes, least-lines}
use Rattle.write.proofs.LentTables.{within_buffers_lem, is_table_lem, short-refused, no_table_refused, table-written-out, accepted-lines, writes_back}
use Rattle.write.proofs.RoundTrip.{table-lines, table_separator, reads_back_lem}
use Rattle.write.proofs.RowByRow.{row_by_row}

-- what is stored at the front of a list that has room for it, and what is left behind it
stored_front : (l s : List ℕ) → length s ≤ length l → sets l 0 s ≡ s ++ drop (length s) l
stored_front l s h =
    let size : 0 + length s ≡ length s = omega arith in
    sets-eq s l 0 (omega (arith, h)) ∙ ap (λ (n : ℕ). s ++ drop n l) size

-- no line that a walk gives is too long
walked_short : (L : Limits) → Lawful L → (s : List ℕ) → All (λ (t : List ℕ). length t ≤ L.line) (texts (walk L s))
unfolding walk
walked_short L lawful s = all_from (λ t line. line.short) (texts-sound L (omega (arith, lawful.header)) 0 s)

module _ (L : Limits) (lawful : Lawful L) (levels : ℕ → ℕ → ℕ) (table : Lent) where
  -- entries that some message reads to are as many as the card counts, so the counts lie within the buffers
  within : ReadTo L levels (counted table) → within_buffers table ≡ true
  unfolding counted
  within to =
      let sized = ((row_by_row L lawful levels (counted table)).0 ((reads_back_lem L lawful levels (counted table)).1 to)).0 in
      (within_buffers_lem table).1
      (record {
        segment_rows = front_whole table.segment_rows sized.segment_rows;
        leaf_rows = front_whole table.leaf_rows sized.leaf_rows;
        text = front_whole table.text sized.text;
      })
    where
      front_whole : {n : ℕ} (s : List ℕ) → length (take n s) ≡ n → n ≤ length s
      front_whole {n} s e = omega (arith, e, length-take n s)

  -- the table test says yes exactly where some message reads to the counted entries
  pub table_exactly : (is_table L levels table ≡ true) ↔ ReadTo L levels (counted table)
  table_exactly = (λ h. ((is_table_lem L lawful levels table).0 h).1, λ to. (is_table_lem L lawful levels table).1 (within to, to))

  pub tested_exactly : (r : Bool) → r ≡ is_table L levels table → (r ≡ true) ↔ ReadTo L levels (counted table)
  tested_exactly r e = (λ yes. table_exactly.0 (sym e ∙ yes), λ to. e ∙ table_exactly.1 to)

  -- the three outcomes of writing, and when each comes
  data Outcome (output : ℕ) : Type 0 where
    short : output < L.bytes → writing L levels table output ≡ refuses short_output → Outcome output
    none : L.bytes ≤ output → (ReadTo L levels (counted table) → ⊥) → writing L levels table output ≡ refuses no_table_number → Outcome output
    whole : L.bytes ≤ output → ReadTo L levels (counted table)
        → writing L levels table output ≡ writes (written L (counted table)) (length (lines_of L (counted table))) → Outcome output

  outcome : (output : ℕ) → Outcome output
  outcome output = by (tested (ltb output L.bytes)) (tested (is_table L levels table))
    where
      by : Tested (ltb output L.bytes) → Tested (is_table L levels table) → Outcome output
      by (passed s) r = short (ltb-true output L.bytes s) (short-refused L lawful levels table output s)
      by (failed s) (passed r) =
          whole (ltb-false output L.bytes s) (table_exactly.0 r) (table-written-out L lawful levels table output s r)
      by (failed s) (failed r) =
          none (ltb-false output L.bytes s) (λ to. true≢false (sym (table_exactly.1 to) ∙ r))
          (no_table_refused L lawful levels table output s r)

  -- what is written is the cut of its own joined segments
  cut_itself : (bytes : List ℕ) → bytes ≡ written L (counted table) → reading L levels (stated L) bytes ≡ accepted (counted table)
      → texts (walk L bytes) ≡ cuts L table.card.separator (joined table.card.separator (texts (walk L bytes)))
  unfolding counted
  cut_itself bytes message read =
      let w = (accepting L levels (stated L) bytes (counted table)).0 read in
      ap (λ (s : List ℕ). texts (walk L s)) message
      ∙ accepted-lines L lawful levels w
      ∙ table-lines lawful w
      ∙ ap (λ (f : ℕ). cuts L f (joined f (texts (walk L bytes)))) (sym (table_separator lawful w))

  module _ {output output' : List ℕ} {r : Written} (wrote : WroteAs L levels table output r output') where
    -- one outcome
    pub one-writing : {s : Written} {output'' : List ℕ} → WroteAs L levels table output s output'' → (r ≡ s) × (output' ≡ output'')
    one-writing again = (wrote.answers ∙ sym again.answers, wrote.message ∙ sym again.message)

    refused_with : {n : ℕ} → writing L levels table (length output) ≡ refuses n → r ≡ answer (refuses n)
    refused_with e = wrote.answers ∙ ap answer e

    refused-number : {n : ℕ} → writing L levels table (length output) ≡ refuses n → r.number ≡ n
    unfolding answer
    refused-number e = ap (λ (w : Written). w.number) (refused_with e)

    written-number : {bytes : List ℕ} {lines : ℕ} → writing L levels table (length output) ≡ writes bytes lines → r.number ≡ 0
    unfolding answer
    written-number e = ap (λ (w : Written). w.number) (wrote.answers ∙ ap answer e)

    -- 12 exactly where the output is short
    pub short_exactly : (r.number ≡ short_output) ↔ (length output < L.bytes)
    short_exactly = by (outcome (length output))
      where
        by : Outcome (length output) → (r.number ≡ short_output) ↔ (length output < L.bytes)
        by (short h e) = (λ n. h, λ g. refused-number e)
        by (none h g e) = (λ n. absurd (omega (arith, n, refused-number e)), λ s. absurd (omega (arith, h, s)))
        by (whole h g e) = (λ n. absurd (omega (arith, n, written-number e)), λ s. absurd (omega (arith, h, s)))

    -- 13 exactly where it is not and no message reads to the table
    pub none_exactly : (r.number ≡ no_table_number) ↔ ((L.bytes ≤ length output) × (ReadTo L levels (counted table) → ⊥))
    none_exactly = by (outcome (length output))
      where
        by : Outcome (length output) → (r.number ≡ no_table_number) ↔ ((L.bytes ≤ length output) × (ReadTo L levels (counted table) → ⊥))
        by (short h e) = (λ n. absurd (omega (arith, n, refused-number e)), λ w. absurd (omega (arith, h, w.0)))
        by (none h g e) = (λ n. (h, g), λ w. refused-number e)
        by (whole h g e) = (λ n. absurd (omega (arith, n, written-number e)), λ w. absurd (w.1 g))

    -- and else the table is written
    pub written_exactly : (r.number ≡ 0) ↔ ((L.bytes ≤ length output) × ReadTo L levels (counted table))
    written_exactly = by (outcome (length output))
      where
        by : Outcome (length output) → (r.number ≡ 0) ↔ ((L.bytes ≤ length output) × ReadTo L levels (counted table))
        by (short h e) = (λ n. absurd (omega (arith, n, refused-number e)), λ w. absurd (omega (arith, h, w.0)))
        by (none h g e) = (λ n. absurd (omega (arith, n, refused-number e)), λ w. absurd (g w.1))
        by (whole h g e) = (λ n. (h, g), λ w. written-number e)

    -- a refusal leaves the output, and its place and counts are 0
    refusal_as_it_was : {n : ℕ} → writing L levels table (length output) ≡ refuses n
        → (output' ≡ output) × (r.place ≡ 0) × (r.bytes ≡ 0) × (r.lines ≡ 0)
    unfolding answer output_after
    refusal_as_it_was e = (
      wrote.message ∙ ap (output_after output) e,
      ap (λ (w : Written). w.place) (refused_with e),
      ap (λ (w : Written). w.bytes) (refused_with e),
      ap (λ (w : Written). w.lines) (refused_with e),
    )

    pub refused_as_it_was : (r.number ≡ 0 → ⊥) → (output' ≡ output) × (r.place ≡ 0) × (r.bytes ≡ 0) × (r.lines ≡ 0)
    refused_as_it_was h = by (outcome (length output))
      where
        by : Outcome (length output) → (output' ≡ output) × (r.place ≡ 0) × (r.bytes ≡ 0) × (r.lines ≡ 0)
        by (short g e) = refusal_as_it_was e
        by (none g o e) = refusal_as_it_was e
        by (whole g o e) = absurd (h (written-number e))

    -- what an accepted call says
    front_written : L.bytes ≤ length output → ReadTo L levels (counted table)
        → writing L levels table (length output) ≡ writes (written L (counted table)) (length (lines_of L (counted table)))
        → WroteTable L levels table output r output'
    unfolding answer output_after
    front_written room to e =
        let bytes = written L (counted table) in
        let w = writes_back L lawful levels table (length output) bytes (length (lines_of L (counted table))) e in
        let told : r ≡ answer (writes bytes (length (lines_of L (counted table)))) = wrote.answers ∙ ap answer e in
        let size : r.bytes ≡ length bytes = ap (λ (a : Written). a.bytes) told in
        let stored : output' ≡ bytes ++ drop (length bytes) output =
        wrote.message ∙ ap (output_after output) e ∙ stored_front output bytes (omega (arith, w.fits, room)) in
        let front : take r.bytes output' ≡ bytes = ap₂ take size stored ∙ take-append_seam bytes (drop (length bytes) output) in
        record {
          reads = ap (reading L levels (stated L)) front ∙ w.reads;
          lines = ap (λ (a : Written). a.lines) told ∙ w.walked ∙ sym (ap (λ (s : List ℕ). length (texts (walk L s))) front);
          short =
              subst⁻¹ (λ (s : List ℕ). All (λ (t : List ℕ). length t ≤ L.line) (texts (walk L s))) front (walked_short L lawful bytes);
          filled =
              subst⁻¹
              (λ (s : List ℕ). texts (walk L s) ≡ cuts L table.card.separator (joined table.card.separator (texts (walk L s)))) front
              (cut_itself bytes refl w.reads);
          rest = ap₂ drop size stored ∙ drop-append_seam bytes (drop (length bytes) output) ∙ sym (ap (λ (n : ℕ). drop n output) size);
        }

    pub wrote_table : r.number ≡ 0 → WroteTable L levels table output r output'
    wrote_table n = by (outcome (length output))
      where
        by : Outcome (length output) → WroteTable L levels table output r output'
        by (short h e) = absurd (omega (arith, n, refused-number e))
        by (none h g e) = absurd (omega (arith, n, refused-number e))
        by (whole h to e) = front_written h to e

    -- no message that reads to the table has fewer bytes, or fewer lines
    pub fewest : r.number ≡ 0 → (message : List ℕ) → reading L levels (stated L) message ≡ accepted (counted table)
        → (r.bytes ≤ length message) × (r.lines ≤ length (texts (walk L message)))
    unfolding answer
    fewest n message read = by (outcome (length output))
      where
        by : Outcome (length output) → (r.bytes ≤ length message) × (r.lines ≤ length (texts (walk L message)))
        by (short h e) = absurd (omega (arith, n, refused-number e))
        by (none h g e) = absurd (omega (arith, n, refused-number e))
        by (whole h to e) =
            let told = wrote.answers ∙ ap answer e in
            let bytes : r.bytes ≡ length (written L (counted table)) = ap (λ (a : Written). a.bytes) told in
            let lines : r.lines ≡ length (lines_of L (counted table)) = ap (λ (a : Written). a.lines) told in (
              omega (arith, bytes, least-bytes L lawful levels (stated L) message (counted table) read),
              omega (arith, lines, least-lines L lawful levels (stated L) message (counted table) read),
            )
