-- The writing pass over a lent table that passed the table test (W1, W3): it asks nothing more, and gives the message.
-- Assumes nothing.
use mathlib.Core.Bool.{true, false}
use mathlib.Core.List.{List, ◌∷◌}
use mathlib.Core.Path.{◌≡◌, sym, ap, ap₂, ◌∙◌, subst}
use Prim.Native.Nat.{ℕ, suc, ◌+◌, ◌*◌, ◌≤◌, ◌<◌}
use native.Mathlib.Omega.{arith}
use lib.Dec.{eqb}
use lib.ListN.{length, get_or, take, drop, length-take, length-drop, take-append-drop}
use lib.Seq.{sets, get_or-take}
use borrow.Author.Tests.{ne_eqb}
use Rattle.laws.specs.Every.{All, none, also}
use Rattle.laws.specs.Tables.{values}
use Rattle.laws.proofs.Every.{all_left, all_drop, all_at, all_of}
use Rattle.laws.proofs.Parts.{part_taken}
use Rattle.laws.proofs.Tables.{length-values, values_same}
use Rattle.form.specs.declared.limits.Limits.{Limits}
use Rattle.form.specs.declared.separators.Separators.{Separators}
use Rattle.form.specs.Limits.{Lawful}
use Rattle.form.specs.Header.{all_allowed, five, splitting}
use Rattle.form.proofs.HeaderRule.{Allowed, all-allowed_facts}
use Rattle.line.specs.Lines.{CR, space}
use Rattle.line.specs.Cutting.{cuts, unlines}
use Rattle.table.specs.Leaves.{Leaf, split}
use Rattle.table.specs.inner.Flat.{leaf}
use Rattle.table.specs.inner.Back.{leaf_at, leaves_of, separators_at, separators_in, unsplit, segments_of, lines_of, written}
use Rattle.table.specs.inner.RowTests.{next_place}
use Rattle.table.proofs.EndToEnd.{ended-within, ended-first, ended-next}
use Rattle.write.specs.declared.lines.Going.{Going}
use Rattle.table.specs.Lent.{Lent, within_buffers, counted}
use Rattle.write.specs.inner.Local.{Local}
use Rattle.write.specs.inner.RowByRow.{RowByRow}
use Rattle.write.specs.inner.ReadsBack.{is_table}
use Rattle.write.specs.inner.Filling.{InSegment}
use Rattle.write.specs.inner.Asked.{FourWithin}
use Rattle.write.specs.inner.Passing.{lines_of_rows, NextAfter, Writable, WrittenOut}
use Rattle.write.proofs.TableLeaves.{headed_leaves}
use Rattle.write.proofs.LocalTables.{local_accepted}
use Rattle.write.proofs.RowByRow.{rows_local}
use Rattle.write.proofs.GoingOn.{sound-next}
use Rattle.write.proofs.Passing.{three-leaves, header-sound}
use Rattle.write.proofs.LentTables.{within_buffers_lem, counted-sized, is_table_rows}
use Rattle.table.specs.Rows.{leaf_row_size, length_in, place_in, start_in}

-- a counted leaf of the lent rows and text
module _ (rows text : List ℕ) (count size : ℕ) where
  row-counted : (i k : ℕ) → i < count → k < 7 → get_or (take (count * leaf_row_size) rows) (i * leaf_row_size + k) 0 ≡ get_or rows (i * leaf_row_size + k) 0
  row-counted i k less small = get_or-take (count * leaf_row_size) rows (i * leaf_row_size + k) 0 (omega arith)

  pub leaf-counted : (i : ℕ) → i < count → start_in rows i + length_in rows i ≤ size
      → leaf_at (take (count * leaf_row_size) rows) (take size text) i ≡ leaf_at rows text i
  unfolding leaf_at
  leaf-counted i less fits =
      ap₂ leaf (part_taken rows (i * leaf_row_size) 5 (count * leaf_row_size) (omega arith))
      (ap₂ (λ (n k : ℕ). take n (drop k (take size text))) (row-counted i 6 less (omega arith)) (row-counted i 5 less (omega arith))
      ∙ part_taken text (start_in rows i) (length_in rows i) size fits)

-- a part of a text that is all text has no CR in it
in_segment_lem : {s : List ℕ} (start size : ℕ) → All (λ (b : ℕ). space ≤ b) s → InSegment (take size (drop start s))
in_segment_lem {s} start size w =
    all_of (take size (drop start s)) 0 (λ k less.
    let text = all_at k 0 all-text less in
    ne_eqb (get_or (take size (drop start s)) k 0) CR (λ e. omega arith))
  where
    all-text : All (λ (b : ℕ). space ≤ b) (take size (drop start s))
    all-text =
        all_left (take size (drop start s)) (drop size (drop start s))
        (subst (All (λ (b : ℕ). space ≤ b)) (sym (take-append-drop size (drop start s))) (all_drop start w))

module _ (L : Limits) (lawful : Lawful L) (levels : ℕ → ℕ → ℕ) (l : Lent) (test : is_table L levels l ≡ true) where
  within : within_buffers l ≡ true
  within = ((is_table_rows L lawful levels l).0 test).0

  rows : RowByRow L levels (counted l)
  rows = ((is_table_rows L lawful levels l).0 test).1

  local : Local L levels (counted l)
  local = rows_local (counted-sized l within) rows

  some-leaves : 2 ≤ l.card.leaves
  unfolding counted leaves_of
  some-leaves =
      omega (
        arith,
        ap length (headed_leaves (counted l) local.header local.others),
        length-values (leaf_at (counted l).leaf_rows (counted l).text) 0 l.card.leaves,
      )

  ends : (i : ℕ) → i < l.card.leaves → start_in l.leaf_rows i + length_in l.leaf_rows i ≤ l.card.text
  unfolding counted
  ends i less =
      omega (
        arith,
        ended-within (counted l).leaf_rows l.card.text l.card.leaves rows.laid i less,
        row-counted l.leaf_rows l.text l.card.leaves l.card.text i 5 less (omega arith),
        row-counted l.leaf_rows l.text l.card.leaves l.card.text i 6 less (omega arith),
      )

  next_start : (i : ℕ) → i + 1 < l.card.leaves
      → start_in l.leaf_rows (i + 1) ≡ start_in l.leaf_rows i + length_in l.leaf_rows i
  unfolding counted
  next_start i less =
      let there = row-counted l.leaf_rows l.text l.card.leaves l.card.text in
      omega (
        arith,
        subst
            (λ (j : ℕ).
            start_in (take (l.card.leaves * leaf_row_size) l.leaf_rows) j
            ≡ start_in (take (l.card.leaves * leaf_row_size) l.leaf_rows) i + length_in (take (l.card.leaves * leaf_row_size) l.leaf_rows) i)
            (let e : suc i ≡ i + 1 = omega arith in e)
            (ended-next (counted l).leaf_rows l.card.text l.card.leaves rows.laid i (omega arith)),
        there (i + 1) 5 less (omega arith),
        there i 5 (omega arith) (omega arith),
        there i 6 (omega arith) (omega arith),
      )

  next_place_lem : (i : ℕ) → i + 1 < l.card.leaves → NextAfter l.leaf_rows i
  unfolding counted
  next_place_lem i less =
      ap₂ next_place (sym (part_taken l.leaf_rows (i * leaf_row_size) 5 (l.card.leaves * leaf_row_size) (omega arith)))
      (sym (part_taken l.leaf_rows ((i + 1) * leaf_row_size) 5 (l.card.leaves * leaf_row_size) (omega arith)))
      ∙ subst (λ (j : ℕ). next_place (place_in (counted l).leaf_rows i) (place_in (counted l).leaf_rows j) ≡ true) (let e : suc i ≡ i + 1 = omega arith in e)
      (sound-next l.card.separator (counted l).leaf_rows (counted l).text l.card.leaves (header-sound (counted l) rows.header rows.others)
      (three-leaves (counted l) rows.others) i (omega arith))

  leaf-same : (i : ℕ) → i < l.card.leaves → leaf_at (counted l).leaf_rows (counted l).text i ≡ leaf_at l.leaf_rows l.text i
  unfolding counted
  leaf-same i less = leaf-counted l.leaf_rows l.text l.card.leaves l.card.text i less (ends i less)

  leaves-same : leaves_of (counted l) ≡ values (leaf_at l.leaf_rows l.text) 0 l.card.leaves
  unfolding leaves_of counted
  leaves-same =
      values_same (leaf_at (counted l).leaf_rows (counted l).text) (leaf_at l.leaf_rows l.text) 0 l.card.leaves
      (λ k low high. leaf-same k (omega arith))

  -- the separators of the lent rows are the table's
  pub separators_same : separators_at l.card.separator l.leaf_rows l.text ≡ separators_in (counted l)
  unfolding separators_at counted
  separators_same =
      ap (λ (m : Leaf). record {
        field = l.card.separator;
        subfield = get_or m.text 0 0;
        repeater = get_or m.text 1 0;
        escape = get_or m.text 2 0;
        subsubfield = get_or m.text 3 0;
      }) (sym (leaf-same 1 some-leaves))

  -- and they can be found there
  pub table-four : FourWithin l.leaf_rows l.text
  unfolding leaf_at
  table-four =
      let long = ((within_buffers_lem l).0 within).leaf_rows in
      let held = ((within_buffers_lem l).0 within).text in
      let some = some-leaves in
      let ended = ends 1 some-leaves in
      let size : length_in l.leaf_rows 1 ≡ 4 =
      omega (
        arith,
        sym (ap (λ (m : Leaf). length m.text) (leaf-same 1 some-leaves)) ∙ local.header.four,
        length-take (length_in l.leaf_rows 1) (drop (start_in l.leaf_rows 1) l.text),
        length-drop (start_in l.leaf_rows 1) l.text,
      ) in
      record { row = omega arith; four = size; within = omega arith }

  module _ {ps : Separators} (e : ps ≡ separators_at l.card.separator l.leaf_rows l.text) where
    -- the lines of the lent rows are the table's
    pub lines_same : lines_of_rows L ps l.leaf_rows l.card.leaves l.text ≡ lines_of L (counted l)
    unfolding lines_of_rows lines_of segments_of separators_at counted
    lines_same =
        ap₂ (λ (qs : Separators) (ls : List Leaf). cuts L qs.field (split CR (unsplit (CR ∷ splitting qs) ls))) (e ∙ separators_same) (sym leaves-same)

    -- no separator is CR
    splits-clear : InSegment (splitting ps)
    unfolding splitting
    splits-clear =
        let w = all-allowed_facts ps (ap (λ (qs : Separators). all_allowed (five qs)) (e ∙ separators_same) ∙ local.header.allowed) in
        also (clear_byte w.field) (also (clear_byte w.repeater) (also (clear_byte w.subfield) (also (clear_byte w.subsubfield) none)))
      where
        clear_byte : {b : ℕ} → Allowed b → eqb b CR ≡ false
        clear_byte {b} a = ne_eqb b CR (λ q. omega (arith, a.low))

    -- the pass may go over them
    pub table_writable : {output : List ℕ} → L.bytes ≤ length output
        → Writable L ps l.leaf_rows l.card.leaves l.text output
    unfolding written leaf_at counted
    table_writable {output} roomy =
        record {
          lawful = lawful;
          some = omega (arith, some-leaves);
          long = ((within_buffers_lem l).0 within).leaf_rows;
          leaves = λ i less.
              record {
                within = omega (arith, ends i less, ((within_buffers_lem l).0 within).text);
                in_segment =
                    subst (λ (m : Leaf). InSegment m.text) (leaf-same i less)
                    (in_segment_lem (start_in (counted l).leaf_rows i) (length_in (counted l).leaf_rows i) local.bytes);
              };
          first =
              sym (row-counted l.leaf_rows l.text l.card.leaves l.card.text 0 5 (omega (arith, some-leaves)) (omega arith))
              ∙ ended-first (counted l).leaf_rows l.card.text l.card.leaves rows.laid (omega (arith, some-leaves));
          next = next_start;
          splits = splits-clear;
          places = next_place_lem;
          fits = omega (arith, ap (λ (ls : List (List ℕ)). length (unlines ls)) lines_same, (local_accepted lawful local).fits);
        }

    -- and what it gives is the message
    pub table-message : {output output' : List ℕ} {r : Going} → WrittenOut L ps l.leaf_rows l.card.leaves l.text output r output'
        → (output' ≡ sets output 0 (written L (counted l))) × (r.out ≡ length (written L (counted l))) × (r.lines ≡ length (lines_of L (counted l)))
    unfolding written
    table-message {output} w = (
      w.message ∙ ap (λ (ls : List (List ℕ)). sets output 0 (unlines ls)) lines_same,
      w.bytes ∙ ap (λ (ls : List (List ℕ)). length (unlines ls)) lines_same,
      w.lines ∙ ap length lines_same,
    )
