-- The table test as the code makes it: its tests are passed exactly where some message reads to the table.
-- Assumes nothing.
use Rattle.std.specs.Prelude.{Some, None}
use mathlib.Core.Bool.{Bool, true, false, not, ◌&&◌}
use mathlib.Core.List.{List, [], ◌∷◌, map}
use mathlib.Core.Path.{◌≡◌, sym, ap, ◌∙◌, subst}
use Prim.Native.Nat.{ℕ, zero, suc, ◌≤◌}
use native.Mathlib.Omega.{arith}
use lib.Dec.{eqb}
use lib.ListN.{length, get_or, length-map}
use borrow.Author.Tests.{eqb-true, eqb-false, eq-eqb, ne_eqb, not-true}
use Rattle.laws.specs.Lists.{sum_of}
use Rattle.laws.proofs.Lists.{same_equal}
use Rattle.laws.proofs.Tables.{get_or_values_zero}
use Rattle.laws.proofs.Tests.{Tested, passed, failed, tested, and_first, and_second, and_both}
use Rattle.form.specs.declared.limits.Limits.{Limits}
use Rattle.form.specs.Names.{kind_names, kind_of}
use Rattle.form.proofs.Names.{kind-within}
use Rattle.table.proofs.FieldNames.{number-one, number_more, number-later}
use Rattle.order.specs.inner.Place.{misplaced}
use Rattle.order.specs.Owners.{owners}
use Rattle.order.proofs.Owner.{length-owners}
use Rattle.table.specs.Leaves.{Leaf}
use Rattle.table.specs.Rows.{Table, segment_rows_of, kind_in}
use Rattle.table.specs.inner.Back.{leaves_of, written}
use Rattle.table.specs.inner.BySegment.{field_of, goes_on, number_of_field, kind_among, context_among, written_bytes}
use Rattle.table.specs.inner.RowTests.{end_to_end}
use Rattle.table.proofs.SegmentRows.{owners-stated}
use Rattle.write.specs.inner.Local.{groups_of, kinds_among}
use Rattle.write.specs.inner.RowByRow.{Sized, RowByRow}
use Rattle.write.specs.inner.Asked.{NarrowTable, CountedTable}
use Rattle.write.specs.inner.Tests.{groups_in, InText, Laid, KindsStated, groups_stated, kind_column, owner_column, in_order, SoundRows, size_back}
use Rattle.write.specs.inner.ReadsBack.{reads_back}
use Rattle.write.proofs.LocalTables.{local_bytes}
use Rattle.write.proofs.RowByRow.{row_by_row, rows_local}
use Rattle.write.proofs.GoingOn.{sound-next}
use Rattle.write.proofs.HeaderTest.{same_of}
use Rattle.write.proofs.Passing.{Stated, stated-rows, Again, rows_again, sound-header, header-sound, sound-others, three-leaves}

-- what the table test asks of the leaf rows, once they are known to be laid out
pub laid_in_text : {t : Table} → NarrowTable t → end_to_end t.leaf_rows t.card.text 0 t.card.leaves 0 ≡ true
    → InText t.leaf_rows t.text t.card.leaves
laid_in_text {t} w h =
    record {
      sized = w.sized.leaf_rows;
      few = w.leaves;
      short = omega (arith, w.sized.text, w.text);
      ended = ap (λ (n : ℕ). end_to_end t.leaf_rows n 0 t.card.leaves 0) w.sized.text ∙ h;
    }

-- every test of the code
pub record Passed (L : Limits) (levels : ℕ → ℕ → ℕ) (t : Table) : Type 0 where
  pub rows : SoundRows levels t
  pub short : sum_of (written_bytes L) (groups_in t.leaf_rows t.text t.card.leaves) ≤ L.bytes

-- so the rows of a table that passes them are laid out
pub sound-laid : {levels : ℕ → ℕ → ℕ} {t : Table} → SoundRows levels t → Laid t.leaf_rows t.card.leaves t.card.text
sound-laid {t = t} w = record { ended = w.laid; next = sound-next t.card.separator t.leaf_rows t.text t.card.leaves w.sound w.three }

module _ (L : Limits) (levels : ℕ → ℕ → ℕ) (t : Table) (sized : Sized t) where
  abbrev lv : ℕ → ℕ
  lv = levels t.card.context

  abbrev groups : List (List Leaf)
  groups = groups_in t.leaf_rows t.text t.card.leaves

  abbrev kinds : List ℕ
  kinds = map kind_among groups

  abbrev named : ℕ
  named = context_among groups

  pub rows-passed : RowByRow L levels t → Passed L levels t
  unfolding kinds_among groups_of leaves_of kind_column owner_column in_order
  rows-passed w =
      record {
        rows = record {
          three = three-leaves t w.others;
          laid = w.laid;
          sound = header-sound t w.header w.others;
          grouped = again.stated;
          owned =
              same_of (owner_column t.segment_rows t.card.segments) (owners lv (kind_column t.segment_rows t.card.segments))
              (again.owners_are ∙ ap (owners lv) (sym again.kinds_are));
          ordered =
              and_both (and_both (ap not (ne_eqb t.card.context 0 w.kinds.named)) (eq-eqb named t.card.context (sym w.kinds.context)))
              (eq-eqb (misplaced t.card.context (kind_column t.segment_rows t.card.segments)) 0
              (ap (misplaced t.card.context) again.kinds_are ∙ w.kinds.ordered));
        };
        short = w.few.bytes;
      }
    where
      many : t.card.segments ≡ length groups
      many = (rows_local sized w).segment_count

      again : Again t.segment_rows 0 t.card.segments 1 groups (owners lv kinds)
      again =
          rows_again t.segment_rows 0 t.card.segments 1 groups (owners lv kinds) (omega (arith, sized.segment_rows)) (sym many) w.kinds.known
          (length-owners lv kinds ∙ length-map groups kind_among ∙ sym many)
          (w.stated ∙ sym (owners-stated lv groups))

  pub passed-rows : t.card.segments ≤ L.segments → t.card.leaves ≤ L.leaves → Passed L levels t → RowByRow L levels t
  unfolding kinds_among groups_of leaves_of kind_column owner_column in_order
  passed-rows few-segments few-leaves w =
      record {
        header = sound-header t w.rows.sound;
        others = sound-others t w.rows.sound;
        laid = w.rows.laid;
        kinds =
            record {
              known = st.known;
              context = sym (eqb-true named t.card.context (and_second a b ab));
              named = eqb-false t.card.context 0 (not-true (eqb t.card.context 0) (and_first a b ab));
              ordered =
                  ap (misplaced t.card.context) (sym st.kinds)
                  ∙ eqb-true (misplaced t.card.context (kind_column t.segment_rows t.card.segments)) 0 (and_second (a && b) d w.rows.ordered);
            };
        stated =
            st.rows
            ∙ ap (λ (os : List ℕ). segment_rows_of kinds os groups)
            (same_equal (owner_column t.segment_rows t.card.segments) (owners lv (kind_column t.segment_rows t.card.segments)) w.rows.owned
            ∙ ap (owners lv) st.kinds)
            ∙ owners-stated lv groups;
        few = record { segments = few-segments; leaves = few-leaves; bytes = w.short };
      }
    where
      st : Stated t.segment_rows 0 t.card.segments 1 groups
      st = stated-rows t.segment_rows 0 t.card.segments 1 groups (omega (arith, sized.segment_rows)) w.rows.grouped

      a : Bool
      a = not (eqb t.card.context 0)

      b : Bool
      b = eqb named t.card.context

      d : Bool
      d = eqb (misplaced t.card.context (kind_column t.segment_rows t.card.segments)) 0

      ab : (a && b) ≡ true
      ab = and_first (a && b) d w.rows.ordered

-- the cases of `size_back`
module _ (L : Limits) (levels : ℕ → ℕ → ℕ) (t : Table) where
  pub size-there : reads_back L levels t ≡ true → size_back L levels t ≡ Some (length (written L t))
  unfolding size_back
  size-there e = rw (e, size_back)

  pub size_none : reads_back L levels t ≡ false → size_back L levels t ≡ None
  unfolding size_back
  size_none e = rw (e, size_back)

-- the kinds that the rows state are kinds
kind-among-few : (ls : List Leaf) → kind_among ls ≤ 12
unfolding kind_among number_of_field kind_of
kind-among-few [] = omega arith
kind-among-few (l ∷ ls) = go (tested (eqb (field_of l) 1)) (tested (goes_on 1 ls)) (kind-among-few ls)
  where
    go : Tested (eqb (field_of l) 1) → Tested (goes_on 1 ls) → number_of_field kind_names 1 ls ≤ 12 → number_of_field kind_names 1 (l ∷ ls) ≤ 12
    go (passed e) (passed f) ih = subst (λ (n : ℕ). n ≤ 12) (sym (number_more kind_names 1 l ls (eqb-true (field_of l) 1 e) f)) (omega arith)
    go (passed e) (failed f) ih = subst (λ (n : ℕ). n ≤ 12) (sym (number-one kind_names 1 l ls (eqb-true (field_of l) 1 e) f)) (kind-within l.text)
    go (failed e) g ih = subst (λ (n : ℕ). n ≤ 12) (sym (number-later kind_names 1 l ls (eqb-false (field_of l) 1 e))) ih

kinds-few : (groups : List (List Leaf)) (i : ℕ) → get_or (map kind_among groups) i 0 ≤ 12
kinds-few [] i = omega arith
kinds-few (g ∷ gs) zero = kind-among-few g
kinds-few (g ∷ gs) (suc i) = kinds-few gs i

pub narrow_kinds : {t : Table} → NarrowTable t
    → groups_stated t.segment_rows 0 t.card.segments 1 (groups_in t.leaf_rows t.text t.card.leaves) ≡ true
    → KindsStated t.segment_rows t.card.segments
narrow_kinds {t} w h =
    let many = t.card.segments in
    let found = groups_in t.leaf_rows t.text t.card.leaves in
    record {
      sized = w.sized.segment_rows;
      few = w.segments;
      kinds =
          λ i l.
          subst (λ (n : ℕ). n ≤ 12)
          (ap (λ (ks : List ℕ). get_or ks i 0) (sym (stated-rows t.segment_rows 0 many 1 found (omega (arith, w.sized.segment_rows)) h).kinds)
          ∙ get_or_values_zero (kind_in t.segment_rows) many i 0 l)
          (kinds-few found i);
    }

-- so the code's tests are the table test
module _ {L : Limits} {levels : ℕ → ℕ → ℕ} {t : Table} (w : CountedTable L levels t) where
  abbrev so_many : Sized t
  so_many = w.rows.narrow.sized

  refused_so : (Passed L levels t → ⊥) → false ≡ reads_back L levels t
  refused_so n = go (tested (reads_back L levels t))
    where
      go : Tested (reads_back L levels t) → false ≡ reads_back L levels t
      go (passed h) = absurd (n (rows-passed L levels t so_many ((row_by_row L w.lawful levels t).0 h).1))
      go (failed h) = sym h

  accepted_so : Passed L levels t → true ≡ reads_back L levels t
  accepted_so v = sym ((row_by_row L w.lawful levels t).1 (so_many, passed-rows L levels t so_many w.segments w.leaves v))

  -- and the bytes that are counted where all are passed are those that are written; elsewhere there are none
  pub passed-size : Passed L levels t → Some (sum_of (written_bytes L) (groups L levels t so_many)) ≡ size_back L levels t
  unfolding groups_of leaves_of
  passed-size v =
      ap (λ (n : ℕ). Some n) (local_bytes w.lawful (rows_local so_many (passed-rows L levels t so_many w.segments w.leaves v)))
      ∙ sym (size-there L levels t (sym (accepted_so v)))

  pub refused-size : (Passed L levels t → ⊥) → None ≡ size_back L levels t
  refused-size n = sym (size_none L levels t (sym (refused_so n)))
