-- The tests of segments as loops make them over leaf rows: where a segment ends, where one of its fields stands, what its texts count.
-- Assumes nothing.
use mathlib.Core.Bool.{Bool, true, false, not, ◌&&◌, and_assoc}
use mathlib.Core.List.{List, [], ◌∷◌}
use mathlib.Core.Logic.{◌⊎◌, inl, inr}
use mathlib.Core.Path.{◌≡◌, refl, sym, ap, ap₂, ◌∙◌}
use Rattle.std.specs.Prelude.{Option, Some, None}
use Prim.Native.Nat.{ℕ, zero, suc, ◌+◌, ◌-◌, ◌*◌, ◌≤◌, ◌<◌}
use native.Mathlib.Omega.{arith}
use native.Mathlib.Numerals.{add-one}
use lib.Dec.{eqb}
use lib.ListN.{length, take, drop, get_or, length-drop}
use lib.Seq.{get_or-drop, length-take-le, get_or-take}
use borrow.Author.Tests.{eqb-true, eqb-false, eq-eqb, ne_eqb, not-true}
use Rattle.laws.specs.Tables.{values}
use Rattle.laws.proofs.Cases.{less_or_not, equal_or_not}
use Rattle.laws.proofs.Tests.{and_first, and_second, and_passed, and_both, and_fails_first, and_fails_second}
use Rattle.table.specs.Rows.{leaf_row_size, kind_in, first_in, count_in, start_in, length_in}
use Rattle.table.specs.inner.Columns.{segment_in, field_in}
use Rattle.table.specs.inner.Back.{leaf_at}
use Rattle.table.specs.inner.BySegment.{segment_of, field_of, goes_on, number_of_field}
use Rattle.table.proofs.FieldNames.{number-one, number_more, number-later}
use Rattle.write.specs.inner.Asked.{FieldThere}
use Rattle.write.specs.inner.Tests.{leaves_between, SegmentEnd, FieldLeaf, number_at, row_states}

-- what a row states: its segment, its field, its text
module _ (rows text : List ℕ) (i : ℕ) where
  pub row-segment : segment_of (leaf_at rows text i) ≡ segment_in rows i
  unfolding segment_of leaf_at
  row-segment =
      get_or-take 5 (drop (i * leaf_row_size) rows) 0 0 (omega arith)
      ∙ get_or-drop (i * leaf_row_size) rows 0 0
      ∙ ap (λ (k : ℕ). get_or rows k 0) (let e : i * leaf_row_size + 0 ≡ i * leaf_row_size = omega arith in e)

  pub row_field : field_of (leaf_at rows text i) ≡ field_in rows i
  unfolding field_of leaf_at
  row_field = get_or-take 5 (drop (i * leaf_row_size) rows) 1 0 (omega arith) ∙ get_or-drop (i * leaf_row_size) rows 1 0

  pub row-length : start_in rows i + length_in rows i ≤ length text
      → length (leaf_at rows text i).text ≡ length_in rows i
  unfolding leaf_at
  row-length h =
      length-take-le (length_in rows i) (drop (start_in rows i) text)
      (omega (arith, length-drop (start_in rows i) text))

  -- its text, by where it lies
  pub row-text : {start size : ℕ} → start ≡ start_in rows i → size ≡ length_in rows i → take (start + size - start) (drop start text) ≡ (leaf_at rows text i).text
  unfolding leaf_at
  row-text {start} {size} starts sized =
      ap₂ (λ (n k : ℕ). take n (drop k text)) (let e : start + size - start ≡ length_in rows i = omega (arith, sized) in e) starts

-- the leaves from one on, one by one
pub leaves_cons : (rows text : List ℕ) (i end : ℕ) → i < end → leaves_between rows text i end ≡ leaf_at rows text i ∷ leaves_between rows text (i + 1) end
unfolding values
leaves_cons rows text i end h =
    ap (values (leaf_at rows text) i) (let e : end - i ≡ suc (end - (i + 1)) = omega arith in e)
    ∙ ap (λ (k : ℕ). leaf_at rows text i ∷ values (leaf_at rows text) k (end - (i + 1))) (sym (add-one i))

pub leaves_none : (rows text : List ℕ) (i end : ℕ) → end ≤ i → leaves_between rows text i end ≡ []
unfolding values
leaves_none rows text i end h = ap (values (leaf_at rows text) i) (let e : end - i ≡ 0 = omega arith in e)

-- the end of a segment: the leaves from `first` up to i stand in one
record Running (rows : List ℕ) (count first i : ℕ) : Type 0 where
  pub after : first < i
  pub to : i ≤ count
  pub within : (k : ℕ) → first ≤ k → k < i → segment_in rows k ≡ segment_in rows first

running_begins : {rows : List ℕ} {count first : ℕ} → first < count → Running rows count first (first + 1)
running_begins {rows} {count} {first} h =
    record {
      after = omega arith;
      to = omega arith;
      within = λ k low high. ap (λ (n : ℕ). segment_in rows n) (let e : k ≡ first = omega arith in e);
    }

module _ {rows : List ℕ} {count first i : ℕ} (w : Running rows count first i) where
  running_on : i < count → segment_in rows i ≡ segment_in rows first → Running rows count first (i + 1)
  running_on h e = record { after = omega (arith, w.after); to = omega arith; within = λ k low high. go k low (less_or_not k i) (omega arith) }
    where
      go : (k : ℕ) → first ≤ k → (k < i) ⊎ (i ≤ k) → k ≤ i → segment_in rows k ≡ segment_in rows first
      go k low (inl less) most = w.within k low less
      go k low (inr more) most = ap (λ (n : ℕ). segment_in rows n) (let q : k ≡ i = omega arith in q) ∙ e

  running_stops : (segment_in rows i ≡ segment_in rows first → ⊥) → SegmentEnd rows count first i
  running_stops n = record { from = w.after; to = w.to; within = w.within; other = λ h. n }

  running_done : count ≤ i → SegmentEnd rows count first i
  running_done h = record { from = w.after; to = w.to; within = w.within; other = λ l e. let z : ⊥ = omega arith in z }

-- each segment ends somewhere
pub record SomeEnd (rows : List ℕ) (count first : ℕ) : Type 0 where
  pub end : ℕ
  pub ends : SegmentEnd rows count first end

running_ends : (rows : List ℕ) (count first n i : ℕ) → count - i ≡ n → Running rows count first i → SomeEnd rows count first
running_ends rows count first zero i e w = record { end = i; ends = running_done w (omega arith) }
running_ends rows count first (suc n) i e w =
    go (equal_or_not (segment_in rows i) (segment_in rows first)) (running_ends rows count first n (i + 1) (omega arith))
  where
    go : (segment_in rows i ≡ segment_in rows first) ⊎ (segment_in rows i ≡ segment_in rows first → ⊥)
        → (Running rows count first (i + 1) → SomeEnd rows count first) → SomeEnd rows count first
    go (inl s) ih = ih (running_on w (omega arith) s)
    go (inr d) ih = record { end = i; ends = running_stops w d }

pub segment-ends : (rows : List ℕ) (count first : ℕ) → first < count → SomeEnd rows count first
segment-ends rows count first h = running_ends rows count first (count - (first + 1)) (first + 1) refl (running_begins h)

-- the leaf of a field
module _ {rows : List ℕ} {field at end : ℕ} (w : FieldThere rows field at end) where
  h : at < end
  h = w.within

  e : field_in rows at ≡ field
  e = w.there

  field_one : ((text : List ℕ) → goes_on field (leaves_between rows text (at + 1) end) ≡ false) → FieldLeaf rows field at end (Some at)
  unfolding number_at
  field_one g =
      record {
        within = λ k q. let same : at ≡ k = cc in (omega arith, omega arith);
        number =
            λ names text.
            ap (number_of_field names field) (leaves_cons rows text at end h)
            ∙ number-one names field (leaf_at rows text at) (leaves_between rows text (at + 1) end) (row_field rows text at ∙ e) (g text);
      }

  pub field_last : end ≤ at + 1 → FieldLeaf rows field at end (Some at)
  unfolding goes_on
  field_last l = field_one (λ text. ap (goes_on field) (leaves_none rows text (at + 1) end (omega arith)))

  next_field : (text : List ℕ) → at + 1 < end → goes_on field (leaves_between rows text (at + 1) end) ≡ eqb (field_in rows (at + 1)) field
  unfolding goes_on
  next_field text l =
      ap (goes_on field) (leaves_cons rows text (at + 1) end l) ∙ ap (λ (n : ℕ). eqb n field) (row_field rows text (at + 1))

  pub field_alone : at + 1 < end → (field_in rows (at + 1) ≡ field → ⊥) → FieldLeaf rows field at end (Some at)
  field_alone l n = field_one (λ text. next_field text l ∙ ne_eqb (field_in rows (at + 1)) field n)

  pub field_twice : at + 1 < end → field_in rows (at + 1) ≡ field → FieldLeaf rows field at end None
  unfolding number_at
  field_twice l f =
      record {
        within = λ k q. cc;
        number =
            λ names text.
            ap (number_of_field names field) (leaves_cons rows text at end h)
            ∙ number_more names field (leaf_at rows text at) (leaves_between rows text (at + 1) end) (row_field rows text at ∙ e)
            (next_field text l ∙ eq-eqb (field_in rows (at + 1)) field f);
      }

pub record Seeking (rows : List ℕ) (field first end i : ℕ) : Type 0 where
  pub after : first ≤ i
  pub within : i ≤ end
  pub so : (names : List (List ℕ)) (text : List ℕ)
      → number_of_field names field (leaves_between rows text first end) ≡ number_of_field names field (leaves_between rows text i end)

pub seeking_begins : {rows : List ℕ} {field first end : ℕ} → first ≤ end → Seeking rows field first end first
seeking_begins h = record { after = omega arith; within = h; so = λ names text. refl }

module _ {rows : List ℕ} {field first end i : ℕ} (w : Seeking rows field first end i) where
  pub seeking_found : {found : Option ℕ} → FieldLeaf rows field i end found → FieldLeaf rows field first end found
  seeking_found f =
      record {
        within = λ k q. (omega (arith, w.after, (f.within k q).0), (f.within k q).1);
        number = λ names text. w.so names text ∙ f.number names text;
      }

  pub seeking_on : i < end → (field_in rows i ≡ field → ⊥) → Seeking rows field first end (i + 1)
  seeking_on h n =
      record {
        after = omega (arith, w.after);
        within = omega arith;
        so =
            λ names text.
            w.so names text
            ∙ ap (number_of_field names field) (leaves_cons rows text i end h)
            ∙ number-later names field (leaf_at rows text i) (leaves_between rows text (i + 1) end) (λ e. n (sym (row_field rows text i) ∙ e));
      }

  pub seeking_done : end ≤ i → FieldLeaf rows field first end None
  unfolding number_of_field number_at
  seeking_done h =
      record {
        within = λ k q. cc;
        number = λ names text. w.so names text ∙ ap (number_of_field names field) (leaves_none rows text i end h);
      }

-- what a segment row states
module _ (rows : List ℕ) (i kind first count : ℕ) where
  abbrev known : Bool
  known = not (eqb kind 0)

  abbrev kind_is : Bool
  kind_is = eqb (kind_in rows i) kind

  abbrev first_is : Bool
  first_is = eqb (first_in rows i) first

  abbrev count_is : Bool
  count_is = eqb (count_in rows i) count

  -- what such a row states
  pub record RowStated : Type 0 where
    pub unlike_none : kind ≡ 0 → ⊥
    pub same_kind : kind_in rows i ≡ kind
    pub same_first : first_in rows i ≡ first
    pub same_count : count_in rows i ≡ count

  pub states_all : row_states rows i kind first count ≡ true → RowStated
  unfolding row_states
  states_all e =
      let three = and_first (known && kind_is && first_is) count_is e in
      let two = and_first (known && kind_is) first_is three in
      record {
        unlike_none = eqb-false kind 0 (not-true (eqb kind 0) (and_first known kind_is two));
        same_kind = eqb-true (kind_in rows i) kind (and_second known kind_is two);
        same_first = eqb-true (first_in rows i) first (and_second (known && kind_is) first_is three);
        same_count = eqb-true (count_in rows i) count (and_second (known && kind_is && first_is) count_is e);
      }

  pub all-stated : RowStated → row_states rows i kind first count ≡ true
  unfolding row_states
  all-stated w =
      and_both
      (and_both (and_both (ap not (ne_eqb kind 0 w.unlike_none)) (eq-eqb (kind_in rows i) kind w.same_kind)) (eq-eqb (first_in rows i) first w.same_first))
      (eq-eqb (count_in rows i) count w.same_count)

  -- a row that states another count
  pub states_another : (count_in rows i ≡ count → ⊥) → row_states rows i kind first count ≡ false
  unfolding row_states
  states_another n = and_fails_second (known && kind_is && first_is) (ne_eqb (count_in rows i) count n)

  -- as the code tests it
  pub states_no : (kind_is && first_is) ≡ false → false ≡ row_states rows i kind first count
  unfolding row_states
  states_no e = sym (and_fails_first count_is (and_assoc known kind_is first_is ∙ and_fails_second known e))

  pub states_count : 1 ≤ kind → (kind_is && first_is) ≡ true → count_is ≡ row_states rows i kind first count
  unfolding row_states
  states_count some e =
      sym (and_passed count_is (and_assoc known kind_is first_is ∙ and_both (ap not (ne_eqb kind 0 (λ z. let n : ⊥ = omega arith in n))) e))

  pub states_unknown : kind ≡ 0 → false ≡ row_states rows i kind first count
  unfolding row_states
  states_unknown e = sym (and_fails_first count_is (and_fails_first first_is (and_fails_first kind_is (ap not (eq-eqb kind 0 e)))))
