-- Tested row by row, a table is one that some message reads to (W4), where its lists have the entries that its card counts.
-- Assumes nothing.
use mathlib.Core.Bool.{true}
use mathlib.Core.List.{List, ◌∷◌}
use mathlib.Core.Logic.{◌↔◌}
use mathlib.Core.Path.{◌≡◌, refl, sym, ap, ◌∙◌, subst}
use Prim.Native.Nat.{ℕ, ◌*◌}
use native.Mathlib.Omega.{arith}
use lib.ListN.{length, drop}
use Rattle.laws.specs.Every.{All}
use Rattle.laws.proofs.Every.{all_drop}
use Rattle.laws.proofs.Tables.{length-values}
use Rattle.form.specs.declared.limits.Limits.{Limits}
use Rattle.form.specs.Limits.{Lawful}
use Rattle.form.specs.Header.{splitting}
use Rattle.form.proofs.HeaderRule.{AllAllowed, all-allowed_facts, different_facts}
use Rattle.line.specs.Lines.{CR}
use Rattle.table.specs.Leaves.{Leaf}
use Rattle.table.specs.inner.Filed.{header_bytes}
use Rattle.table.specs.Rows.{Table, leaf_row_size, leaf_rows_from, text_of}
use Rattle.table.specs.inner.Back.{leaf_at, leaves_of, separators_in, segments_of}
use Rattle.table.specs.inner.RowTests.{end_to_end, go_on_from}
use Rattle.table.specs.inner.Sound.{Sound}
use Rattle.table.proofs.EndToEnd.{end_to_end_lem}
use Rattle.table.proofs.LeafTexts.{AllText, headed_text}
use Rattle.table.proofs.LeafRows.{Placed, all_placed, length-leaf_rows}
use Rattle.table.proofs.SegmentRows.{owners-stated, length-stated}
use Rattle.table.proofs.SoundRows.{coarsest_different, begin_sound}
use Rattle.write.specs.inner.Local.{HeaderRows, groups_of, kinds_among, third_place, Local}
use Rattle.write.specs.inner.RowByRow.{Sized, RowByRow}
use Rattle.write.specs.inner.ReadsBack.{reads_back}
use Rattle.write.proofs.TableLeaves.{headed_leaves}
use Rattle.write.proofs.LocalTables.{local_leaves, reads_back_local}

-- the header's bytes are text, and so are a table's where those of the leaves after it are
module _ (t : Table) (header : HeaderRows t) (others : Sound (CR ∷ splitting (separators_in t)) third_place (drop 2 (leaves_of t))) where
  all-allowed : AllAllowed (separators_in t)
  all-allowed = all-allowed_facts (separators_in t) header.allowed

  rest-text : AllText (text_of (leaves_of t)) → AllText (text_of (drop 2 (leaves_of t)))
  unfolding text_of header_bytes
  rest-text w =
      all_drop 5 (subst (λ (ls : List Leaf). AllText (text_of ls)) (headed_leaves t header others) w)

  all-text : AllText (text_of (drop 2 (leaves_of t))) → AllText (text_of (leaves_of t))
  all-text w =
      subst (λ (ls : List Leaf). AllText (text_of ls)) (sym (headed_leaves t header others))
      (headed_text (separators_in t) all-allowed (drop 2 (leaves_of t)) w)

-- the leaves after the header go on soundly and are text, by one test
others-tested : (t : Table) → HeaderRows t
    → (go_on_from (splitting (separators_in t)) third_place (drop 2 (leaves_of t)) ≡ true)
    ↔ (Sound (CR ∷ splitting (separators_in t)) third_place (drop 2 (leaves_of t)) × AllText (text_of (drop 2 (leaves_of t))))
unfolding splitting
others-tested t header =
    begin_sound (splitting (separators_in t))
    (coarsest_different (separators_in t) (all-allowed_facts (separators_in t) header.allowed) (different_facts (separators_in t) header.distinct))
    third_place (drop 2 (leaves_of t)) refl

-- the rows and the text are those of the leaves, by one test
laid-tested : (t : Table) → Sized t
    → (end_to_end t.leaf_rows t.card.text 0 t.card.leaves 0 ≡ true)
    ↔ ((t.leaf_rows ≡ leaf_rows_from 0 (leaves_of t)) × (t.text ≡ text_of (leaves_of t)))
unfolding leaves_of
laid-tested t sized =
    let test = end_to_end_lem t.leaf_rows t.text t.card.leaves sized.leaf_rows in (
      λ h. test.0 (ap (λ (n : ℕ). end_to_end t.leaf_rows n 0 t.card.leaves 0) sized.text ∙ h),
      λ w. ap (λ (n : ℕ). end_to_end t.leaf_rows n 0 t.card.leaves 0) (sym sized.text) ∙ test.1 w,
    )

module _ {L : Limits} {levels : ℕ → ℕ → ℕ} {t : Table} where
  pub rows_local : Sized t → RowByRow L levels t → Local L levels t
  unfolding kinds_among
  rows_local sized w =
      let sound = (others-tested t w.header).0 w.others in
      let laid = (laid-tested t sized).0 w.laid in
      record {
        header = w.header;
        others = sound.0;
        leaf_rows = laid.0;
        text = laid.1;
        bytes = subst AllText (sym laid.1) (all-text t w.header sound.0 sound.1);
        kinds = w.kinds;
        segment_rows = w.stated ∙ sym (owners-stated (levels t.card.context) (groups_of t));
        segment_count =
            omega (arith, sized.segment_rows, ap length w.stated, length-stated (levels t.card.context) (groups_of t));
        text_count = sym sized.text;
        few = w.few;
      }

  pub local_rows : Sized t → Local L levels t → RowByRow L levels t
  unfolding kinds_among
  local_rows sized w =
      record {
        header = w.header;
        others = (others-tested t w.header).1 (w.others, rest-text t w.header w.others (subst AllText w.text w.bytes));
        laid = (laid-tested t sized).1 (w.leaf_rows, w.text);
        kinds = w.kinds;
        stated = w.segment_rows ∙ owners-stated (levels t.card.context) (groups_of t);
        few = w.few;
      }

  -- a table that some message reads to has the entries that its card counts
  pub local_sized : Lawful L → Local L levels t → Sized t
  unfolding leaves_of kinds_among
  local_sized lawful w =
      record {
        segment_rows =
            omega (
              arith,
              w.segment_count,
              ap length (w.segment_rows ∙ owners-stated (levels t.card.context) (groups_of t)),
              length-stated (levels t.card.context) (groups_of t),
            );
        leaf_rows =
            ap length w.leaf_rows
            ∙ length-leaf_rows 0 (subst (All (Placed 5)) (local_leaves lawful w) (all_placed (separators_in t) (segments_of t)))
            ∙ ap (λ (n : ℕ). n * leaf_row_size) (length-values (leaf_at t.leaf_rows t.text) 0 t.card.leaves);
        text = sym w.text_count;
      }

-- so the table test is made row by row
pub row_by_row : (L : Limits) → Lawful L → (levels : ℕ → ℕ → ℕ) (t : Table)
    → (reads_back L levels t ≡ true) ↔ (Sized t × RowByRow L levels t)
row_by_row L lawful levels t = (
  λ h.
      let w = (reads_back_local L lawful levels t).0 h in
      let sized = local_sized lawful w in
      (sized, local_rows sized w),
  λ w. (reads_back_local L lawful levels t).1 (rows_local w.0 w.1),
)
