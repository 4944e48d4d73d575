-- An archived table that a reader gave (rule B1): what its rows hold, and that with the owners in force they are those of its message now.
-- Assumes nothing.
use mathlib.Core.Bool.{true, false}
use mathlib.Core.List.{List, []}
use mathlib.Core.Logic.{◌⊎◌, inl, inr}
use mathlib.Core.Path.{◌≡◌, refl, sym, ap, ap₂, ◌∙◌, subst⁻¹}
use Prim.Native.Nat.{ℕ, ◌*◌, ◌≤◌, ◌<◌}
use native.Mathlib.Omega.{arith}
use lib.ListN.{get_or}
use lib.Seq.{sets, take-take}
use Rattle.form.specs.declared.limits.Limits.{Limits}
use Rattle.form.specs.declared.separators.Separators.{Separators}
use Rattle.form.specs.Limits.{Lawful}
use Rattle.form.proofs.Names.{kind-within}
use Rattle.order.specs.Owners.{level, former_level, owners}
use Rattle.order.proofs.Owner.{length-owners}
use Rattle.table.specs.declared.Card.{Card}
use Rattle.table.specs.Lent.{Lent, lent, within_limits, within_buffers, counted}
use Rattle.table.specs.Leaves.{split, kind_of_segment, message_leaves}
use Rattle.table.specs.Reading.{room_of, Outcome, short, stated}
use Rattle.table.specs.Rows.{Table, segment_row_size, leaf_row_size, width, kinds_of, context_in, none_before, table_of}
use Rattle.table.proofs.Accepting.{Judged, Accepted, accepting}
use Rattle.table.proofs.Filing.{segments_of_accepted}
use Rattle.table.proofs.Lent.{few-segments, few-leaves, few_bytes}
use Rattle.table.proofs.Room.{roomy-text, roomy-segments, roomy-leaves}
use Rattle.table.proofs.RowsGrowing.{length-kinds, length-message_leaves}
use Rattle.read.specs.Answering.{answer_of, text_put, segments_put, leaves_put, Gives}
use Rattle.write.specs.inner.Tests.{kind_column, KindsStated}
use Rattle.write.specs.Writing.{ReadTo}
use Rattle.write.proofs.LentTables.{Within, counted-sized, table-within, is_table_lem}
use Rattle.write.proofs.Contract.{table_exactly}
use Rattle.write.proofs.SameTables.{same_parts}
use Rattle.tested.proofs.LentRows.{row_at}
use Rattle.tested.proofs.LentOwners.{kinds-lent}
use Rattle.archive.specs.Widening.{ever_read, widening}
use Rattle.archive.specs.inner.OwnedRows.{rows_owned, rows_now, PutNow}
use Rattle.archive.proofs.OwnedRows.{rows_reowned}
use Rattle.archive.proofs.OtherLevels.{written-table}
use Rattle.archive.proofs.Outcomes.{given_by, widening-read}

-- the counted entries by themselves
abbrev counted_alone : Lent → Lent
counted_alone l = let t = counted l in lent l.card t.segment_rows t.leaf_rows t.text

alone_counted : (l : Lent) → counted (counted_alone l) ≡ counted l
unfolding counted
alone_counted l =
    let size = l.card.segments * segment_row_size in
    let many = l.card.leaves * leaf_row_size in
    let end = l.card.text in
    same_parts (counted (counted_alone l)) (counted l) refl (take-take size size l.segment_rows (omega arith))
    (take-take many many l.leaf_rows (omega arith)) (take-take end end l.text (omega arith))

-- a kind is one of twelve
kind-few : (ps : Separators) (s : List ℕ) → kind_of_segment ps s ≤ 12
unfolding kind_of_segment
kind-few ps s = kind-within (get_or (split ps.field s) 0 [])

module _ (L : Limits) (lawful : Lawful L) (levels : ℕ → ℕ → ℕ) (l : Lent) (to : ReadTo L levels (counted l)) where
  abbrev w : Accepted L levels (stated L) to.0 (counted l)
  w = (accepting L levels (stated L) to.0 (counted l)).0 to.1

  abbrev ps : Separators
  ps = w.separators

  abbrev segs : List (List ℕ)
  segs = segments_of_accepted lawful w

  judged : Judged L levels ps segs (counted (counted_alone l))
  judged = subst⁻¹ (Judged L levels ps segs) (alone_counted l) w.segments

  within : within_buffers l ≡ true
  within = ((is_table_lem L lawful levels l).0 ((table_exactly L lawful levels l).1 to)).0

  few : within_limits L l.card ≡ true
  few = table-within L lawful levels l ((table_exactly L lawful levels l).1 to)

  -- its rows state known kinds
  kinds-known : L.segments < width → KindsStated (counted l).segment_rows l.card.segments
  unfolding counted
  kinds-known narrow =
      record {
        sized = (counted-sized l within).segment_rows;
        few = omega (arith, narrow, few-segments L l.card few);
        kinds = λ i h. omega (arith, (row_at (counted_alone l) judged i h).kind_is, kind-few ps (get_or segs i []));
      }

  -- with the owners in force they are the rows of its segments
  kinds-column : kind_column (counted l).segment_rows l.card.segments ≡ kinds_of ps segs
  unfolding kind_column
  kinds-column = sym (kinds-lent (counted_alone l) judged)

  context-same : l.card.context ≡ context_in ps segs
  unfolding counted table_of
  context-same = ap (λ (t : Table). t.card.context) w.segments.table

  rows_made : rows_now l ≡ (table_of level ps segs).segment_rows
  unfolding table_of
  rows_made =
      let kinds = kinds_of ps segs in
      let made = owners (level (context_in ps segs)) kinds in
      ap₂ (λ (c : ℕ) (ks : List ℕ). rows_owned (owners (level c) ks) (counted l).segment_rows) context-same kinds-column
      ∙ ap (λ (t : Table). rows_owned made t.segment_rows) w.segments.table
      ∙ rows_reowned none_before kinds (owners (levels (context_in ps segs)) kinds) made (message_leaves ps segs)
      (length-owners (levels (context_in ps segs)) kinds) (length-owners (level (context_in ps segs)) kinds)
      (length-message_leaves ps segs ∙ sym (length-kinds ps segs))

  text_same : (counted l).text ≡ (table_of level ps segs).text
  unfolding table_of
  text_same = ap (λ (t : Table). t.text) w.segments.table

  leaves-same : (counted l).leaf_rows ≡ (table_of level ps segs).leaf_rows
  unfolding table_of
  leaves-same = ap (λ (t : Table). t.leaf_rows) w.segments.table

  card-same : l.card ≡ (table_of level ps segs).card
  unfolding counted table_of
  card-same = ap (λ (t : Table). t.card) w.segments.table

  -- so what is put is what the outcome says
  put-gives : {text segments leaves text' segments' leaves' : List ℕ} → ever_read L l ≡ true → short L (room_of text segments leaves) ≡ false
      → PutNow l text segments leaves text' segments' leaves'
      → Gives (widening L (room_of text segments leaves) l) text segments leaves (record { number = 0; place = 0; card = l.card }) text' segments' leaves'
  unfolding answer_of text_put segments_put leaves_put
  put-gives {text} {segments} {leaves} {text'} {segments'} {leaves'} given roomy put =
      subst⁻¹ (λ (o : Outcome). Gives o text segments leaves (record { number = 0; place = 0; card = l.card }) text' segments' leaves')
      (widening-read L (room_of text segments leaves) l roomy given
      ∙ written-table L lawful levels level to.0 (counted l) to.1 (room_of text segments leaves) roomy)
      (record {
        answer = ap (λ (c : Card). record { number = 0; place = 0; card = c }) card-same;
        text_area = put.text_area ∙ ap (sets text 0) text_same;
        segment_rows = put.segment_rows ∙ ap (sets segments 0) rows_made;
        leaf_rows = put.leaf_rows ∙ ap (sets leaves 0) leaves-same;
      })

-- the same of a table that a reader gave, by whichever levels
module _ (L : Limits) (lawful : Lawful L) (l : Lent) (given : ever_read L l ≡ true) where
  pub given-within : within_buffers l ≡ true
  given-within = go (given_by L lawful l given)
    where
      go : ReadTo L level (counted l) ⊎ ReadTo L former_level (counted l) → within_buffers l ≡ true
      go (inl to) = within L lawful level l to
      go (inr to) = within L lawful former_level l to

  -- and new buffers that are not short have room for it
  pub given-room : (text segments leaves : List ℕ) → short L (room_of text segments leaves) ≡ false → Within (lent l.card segments leaves text)
  given-room text segments leaves roomy = go (given_by L lawful l given)
    where
      fits : within_limits L l.card ≡ true → Within (lent l.card segments leaves text)
      fits allowed =
          let room = room_of text segments leaves in
          record {
            segment_rows = omega (arith, few-segments L l.card allowed, roomy-segments L room roomy);
            leaf_rows = omega (arith, few-leaves L l.card allowed, roomy-leaves L room roomy);
            text = omega (arith, few_bytes L l.card allowed, roomy-text L room roomy);
          }

      go : ReadTo L level (counted l) ⊎ ReadTo L former_level (counted l) → Within (lent l.card segments leaves text)
      go (inl to) = fits (few L lawful level l to)
      go (inr to) = fits (few L lawful former_level l to)

  pub given-kinds : L.segments < width → KindsStated (counted l).segment_rows l.card.segments
  given-kinds narrow = go (given_by L lawful l given)
    where
      go : ReadTo L level (counted l) ⊎ ReadTo L former_level (counted l) → KindsStated (counted l).segment_rows l.card.segments
      go (inl to) = kinds-known L lawful level l to narrow
      go (inr to) = kinds-known L lawful former_level l to narrow

  pub given-put : {text segments leaves text' segments' leaves' : List ℕ} → short L (room_of text segments leaves) ≡ false
      → PutNow l text segments leaves text' segments' leaves'
      → Gives (widening L (room_of text segments leaves) l) text segments leaves (record { number = 0; place = 0; card = l.card }) text' segments' leaves'
  given-put roomy put = go (given_by L lawful l given) roomy put
    where
      go : ReadTo L level (counted l) ⊎ ReadTo L former_level (counted l) → {text segments leaves text' segments' leaves' : List ℕ}
          → short L (room_of text segments leaves) ≡ false → PutNow l text segments leaves text' segments' leaves'
          → Gives (widening L (room_of text segments leaves) l) text segments leaves (record { number = 0; place = 0; card = l.card }) text' segments' leaves'
      go (inl to) roomy put = put-gives L lawful level l to given roomy put
      go (inr to) roomy put = put-gives L lawful former_level l to given roomy put
