-- Segment rows against the leaves of their segments, one segment after the other.
-- Assumes nothing.
use mathlib.Core.Bool.{Bool, true, false, ◌&&◌}
use mathlib.Core.List.{List, [], ◌∷◌, ◌++◌}
use mathlib.Core.Logic.{◌⊎◌, inl, inr}
use mathlib.Core.Path.{◌≡◌, refl, sym, ap, ap₂, ◌∙◌, subst}
use Rattle.std.specs.Prelude.{Option, Some, None}
use Prim.Native.Nat.{ℕ, zero, suc, ◌+◌, ◌-◌, ◌≤◌, ◌<◌}
use native.Mathlib.Omega.{arith}
use native.Mathlib.Numerals.{add-one}
use lib.Dec.{eqb}
use lib.ListN.{length, get_or}
use borrow.Author.Tests.{eqb-true, eq-eqb, ne_eqb}
use Rattle.laws.specs.Every.{All}
use Rattle.laws.specs.Tables.{values}
use Rattle.laws.proofs.Cases.{less_or_not}
use Rattle.laws.proofs.Every.{all_of}
use Rattle.laws.proofs.Tables.{length-values, get_or_values}
use Rattle.laws.proofs.Tests.{Tested, passed, failed, tested, never_both, and_first, and_passed, and_fails_first}
use Rattle.form.specs.Names.{number_among, context_names}
use Rattle.table.specs.Leaves.{Leaf}
use Rattle.table.specs.Rows.{count_in}
use Rattle.table.specs.inner.Columns.{segment_in, field_in}
use Rattle.table.specs.inner.Flat.{leaf}
use Rattle.table.specs.inner.Back.{leaf_at}
use Rattle.table.specs.inner.BySegment.{segment_of, with_leaf, by_segment, kind_among, number_of_field, context_among}
use Rattle.table.proofs.BySegment.{InSegment, Ended, group_first}
use Rattle.write.specs.inner.Asked.{KindsAndLeaves}
use Rattle.write.specs.inner.Tests.{groups_in, leaves_between, SegmentEnd, FieldLeaf, number_at, row_states, groups_stated}
use Rattle.write.proofs.Said.{answered_no, answered_yes}
use Rattle.write.proofs.SegmentTests.{row-segment, leaves_cons, leaves_none, SomeEnd, segment-ends, states_all, states_another}

-- all the leaves
pub leaves_all : (rows text : List ℕ) (count : ℕ) → leaves_between rows text 0 count ≡ values (leaf_at rows text) 0 count
leaves_all rows text count = ap (values (leaf_at rows text) 0) (let e : count - 0 ≡ count = omega arith in e)

-- leaves up to one, and the others
leaves-append : (rows text : List ℕ) (n a b c : ℕ) → b ≡ a + n → b ≤ c → leaves_between rows text a c ≡ leaves_between rows text a b ++ leaves_between rows text b c
leaves-append rows text zero a b c e h =
    ap (λ (k : ℕ). leaves_between rows text k c) (let q : a ≡ b = omega arith in q)
    ∙ ap (λ (ls : List Leaf). ls ++ leaves_between rows text b c) (sym (leaves_none rows text a b (omega arith)))
leaves-append rows text (suc n) a b c e h =
    leaves_cons rows text a c (omega arith)
    ∙ ap (λ (ls : List Leaf). leaf_at rows text a ∷ ls) (leaves-append rows text n (a + 1) b c (omega arith) h)
    ∙ ap (λ (ls : List Leaf). ls ++ leaves_between rows text b c) (sym (leaves_cons rows text a b (omega arith)))

-- the first segment of the leaves from one on
module _ (rows text : List ℕ) {count first end : ℕ} (w : SegmentEnd rows count first end) where
  abbrev number : ℕ
  number = segment_in rows first

  inside : All (InSegment number) (leaves_between rows text (first + 1) end)
  inside =
      all_of (leaves_between rows text (first + 1) end) (leaf [] [])
      (λ i less.
      let l : i < end - (first + 1) = omega (arith, length-values (leaf_at rows text) (first + 1) (end - (first + 1))) in
      ap segment_of (get_or_values (leaf_at rows text) (first + 1) (end - (first + 1)) i (leaf [] []) l)
      ∙ row-segment rows text (first + 1 + i)
      ∙ w.within (first + 1 + i) (omega arith) (omega arith))

  ended_by : (end < count) ⊎ (count ≤ end) → Ended number (leaves_between rows text end count)
  ended_by (inl h) = subst (Ended number) (sym (leaves_cons rows text end count h)) (λ e. w.other h (sym (row-segment rows text end) ∙ e))
  ended_by (inr h) = subst (Ended number) (sym (leaves_none rows text end count h)) tt

  pub first-segment : by_segment (leaves_between rows text first count) ≡ leaves_between rows text first end ∷ by_segment (leaves_between rows text end count)
  first-segment =
      ap by_segment
      (leaves_cons rows text first count (omega (arith, w.from, w.to))
      ∙ ap (λ (ls : List Leaf). leaf_at rows text first ∷ ls)
      (leaves-append rows text (end - (first + 1)) (first + 1) end count (omega (arith, w.from)) w.to))
      ∙ group_first (leaf_at rows text first) (leaves_between rows text end count) (row-segment rows text first) inside (ended_by (less_or_not end count))
      ∙ ap (λ (g : List Leaf). g ∷ by_segment (leaves_between rows text end count)) (sym (leaves_cons rows text first end w.from))

  pub segment-count : length (leaves_between rows text first end) ≡ end - first
  segment-count = length-values (leaf_at rows text) first (end - first)

-- the number of a field where its leaf was found, and where not
module _ {rows : List ℕ} {field first end : ℕ} {found : Option ℕ} (w : FieldLeaf rows field first end found) (names : List (List ℕ)) (text : List ℕ) where
  pub field_missing : found ≡ None → number_of_field names field (leaves_between rows text first end) ≡ 0
  unfolding number_at
  field_missing e = w.number names text ∙ ap (number_at names rows text) e

  pub field_found : {at : ℕ} → found ≡ Some at → number_of_field names field (leaves_between rows text first end) ≡ number_among names (leaf_at rows text at).text
  unfolding number_at
  field_found e = w.number names text ∙ ap (number_at names rows text) e

-- the context: field 7 of the first segment
pub context-first : (rows text : List ℕ) {count end : ℕ} → SegmentEnd rows count 0 end
    → number_of_field context_names 7 (leaves_between rows text 0 end) ≡ context_among (groups_in rows text count)
unfolding context_among
context-first rows text {count} w =
    ap (λ (gs : List (List Leaf)). number_of_field context_names 7 (get_or gs 0 [])) (sym (first-segment rows text w) ∙ ap by_segment (leaves_all rows text count))

-- the leaf at which a segment begins is of field 1
pub record FieldOne (rows : List ℕ) (count first : ℕ) : Type 0 where
  pub head : first < count → field_in rows first ≡ 1

-- segment rows: the first i state the segments of the leaves up to `first`
pub record Grouping (segments : List ℕ) (many : ℕ) (rows text : List ℕ) (count i first : ℕ) : Type 0 where
  pub within : i ≤ many
  pub to : first ≤ count
  pub so : groups_stated segments i (many - i) (first + 1) (by_segment (leaves_between rows text first count))
      ≡ groups_stated segments 0 many 1 (groups_in rows text count)

pub grouping_begins : {segments : List ℕ} {many : ℕ} {rows text : List ℕ} {count : ℕ} → Grouping segments many rows text count 0 0
grouping_begins {segments} {many} {rows} {text} {count} =
    record {
      within = omega arith;
      to = omega arith;
      so =
          ap₂ (λ (n : ℕ) (ls : List Leaf). groups_stated segments 0 n 1 (by_segment ls)) (let e : many - 0 ≡ many = omega arith in e)
          (leaves_all rows text count);
    }

stated-more : (segments : List ℕ) (i first : ℕ) (l : Leaf) (groups : List (List Leaf)) → groups_stated segments i 0 first (with_leaf l groups) ≡ false
unfolding groups_stated with_leaf
stated-more segments i first l [] = refl
stated-more segments i first l ([] ∷ groups) = refl
stated-more segments i first l ((m ∷ ms) ∷ groups) = go (tested (eqb (segment_of l) (segment_of m)))
  where
    go : Tested (eqb (segment_of l) (segment_of m)) → groups_stated segments i 0 first (with_leaf l ((m ∷ ms) ∷ groups)) ≡ false
    go (passed e) = rw (e, with_leaf)
    go (failed e) = rw (e, with_leaf)

module _ {segments : List ℕ} {many : ℕ} {rows text : List ℕ} {count i first : ℕ} (w : Grouping segments many rows text count i first) where
  abbrev Whole : Bool
  Whole = groups_stated segments 0 many 1 (groups_in rows text count)

  pub grouping_short : i < many → first ≡ count → false ≡ Whole
  unfolding groups_stated by_segment
  grouping_short h e =
      ap₂ (λ (n : ℕ) (ls : List Leaf). groups_stated segments i n (first + 1) (by_segment ls))
      (let q : suc (many - (i + 1)) ≡ many - i = omega arith in q) (sym (leaves_none rows text first count (omega arith)))
      ∙ w.so

  module _ {end : ℕ} (h : i < many) (v : SegmentEnd rows count first end) where
    abbrev stated : Bool
    stated = row_states segments i (kind_among (leaves_between rows text first end)) (first + 1) (end - first)

    abbrev others : Bool
    others = groups_stated segments (i + 1) (many - (i + 1)) (end + 1) (by_segment (leaves_between rows text end count))

    grouping_turn : (stated && others) ≡ Whole
    unfolding groups_stated
    grouping_turn =
        ap₂ (λ (n k : ℕ). row_states segments i (kind_among (leaves_between rows text first end)) (first + 1) n
        && groups_stated segments k (many - (i + 1)) (end + 1) (by_segment (leaves_between rows text end count)))
        (sym (segment-count rows text v)) (add-one i)
        ∙ ap (λ (k : ℕ). row_states segments i (kind_among (leaves_between rows text first end)) (first + 1) (length (leaves_between rows text first end))
        && groups_stated segments (suc i) (many - (i + 1)) k (by_segment (leaves_between rows text end count)))
        (let q : end + 1 ≡ first + 1 + length (leaves_between rows text first end) = omega (arith, segment-count rows text v, v.from) in q)
        ∙ ap₂ (λ (n : ℕ) (gs : List (List Leaf)). groups_stated segments i n (first + 1) gs)
        (let q : suc (many - (i + 1)) ≡ many - i = omega arith in q) (sym (first-segment rows text v))
        ∙ w.so

    pub grouping_fails : stated ≡ false → false ≡ Whole
    grouping_fails e = sym (and_fails_first others e) ∙ grouping_turn

    pub grouping_on : stated ≡ true → Grouping segments many rows text count (i + 1) end
    grouping_on e = record { within = omega arith; to = v.to; so = sym (and_passed others e) ∙ grouping_turn }

  -- as the code tests it
  module _ (h : i < many) (leaves : ℕ) (v : SegmentEnd rows count first (first + leaves)) {kind : ℕ} {r : Bool}
      (is : kind ≡ kind_among (leaves_between rows text first (first + leaves))) (said : r ≡ row_states segments i kind (first + 1) leaves) where
    said_so : r ≡ stated h v
    said_so =
        said ∙ ap₂ (λ (k n : ℕ). row_states segments i k (first + 1) n) is (let e : leaves ≡ first + leaves - first = omega arith in e)

    pub stated_wrong : r ≡ false → false ≡ Whole
    stated_wrong e = grouping_fails h v (answered_no said_so e)

    pub stated_right : r ≡ true → Grouping segments many rows text count (i + 1) (first + leaves)
    stated_right e = grouping_on h v (answered_yes said_so e)

  grouping_over : (first < count) ⊎ (count ≤ first) → eqb first count ≡ groups_stated segments i 0 (first + 1) (by_segment (leaves_between rows text first count))
  unfolding groups_stated by_segment
  grouping_over (inl h) =
      ne_eqb first count (λ e. let z : ⊥ = omega arith in z)
      ∙ sym (ap (λ (ls : List Leaf). groups_stated segments i 0 (first + 1) (by_segment ls)) (leaves_cons rows text first count h)
      ∙ stated-more segments i (first + 1) (leaf_at rows text first) (by_segment (leaves_between rows text (first + 1) count)))
  grouping_over (inr h) =
      eq-eqb first count (omega (arith, w.to))
      ∙ sym (ap (λ (ls : List Leaf). groups_stated segments i 0 (first + 1) (by_segment ls)) (leaves_none rows text first count h))

  pub grouping_done : many ≤ i → eqb first count ≡ Whole
  grouping_done h =
      grouping_over (less_or_not first count)
      ∙ ap (λ (n : ℕ). groups_stated segments i n (first + 1) (by_segment (leaves_between rows text first count))) (let q : 0 ≡ many - i = omega arith in q)
      ∙ w.so

-- a row that states another count than its segment has
pub grouping_otherwise : {segments : List ℕ} {many : ℕ} {rows text : List ℕ} {count i first : ℕ} → Grouping segments many rows text count i first → i < many
    → {stated : ℕ} → stated ≡ count_in segments i → (SegmentEnd rows count first (first + stated) → ⊥)
    → false ≡ groups_stated segments 0 many 1 (groups_in rows text count)
grouping_otherwise {segments} {many} {rows} {text} {count} {i} {first} w h {stated} is n = go (less_or_not first count)
  where
    refuted : SomeEnd rows count first → false ≡ groups_stated segments 0 many 1 (groups_in rows text count)
    refuted v =
        grouping_fails w h v.ends
        (states_another segments i (kind_among (leaves_between rows text first v.end)) (first + 1) (v.end - first)
        (λ e. n (subst (SegmentEnd rows count first) (let q : v.end ≡ first + stated = omega (arith, v.ends.from, is, e) in q) v.ends)))

    go : (first < count) ⊎ (count ≤ first) → false ≡ groups_stated segments 0 many 1 (groups_in rows text count)
    go (inl l) = refuted (segment-ends rows count first l)
    go (inr l) = grouping_short w h (omega (arith, w.to))

-- where all rows state their segments, each states the count of its own
pub record StatedEnd (segments : List ℕ) (many : ℕ) (rows text : List ℕ) (count i first end : ℕ) : Type 0 where
  pub ends : SegmentEnd rows count first end
  pub on : Grouping segments many rows text count (i + 1) end

pub grouping_ends : {segments : List ℕ} {many : ℕ} {rows text : List ℕ} {count i first : ℕ} → Grouping segments many rows text count i first → i < many
    → groups_stated segments 0 many 1 (groups_in rows text count) ≡ true
    → {stated : ℕ} → stated ≡ count_in segments i → StatedEnd segments many rows text count i first (first + stated)
grouping_ends {segments} {many} {rows} {text} {count} {i} {first} w h all {stated} is = go (less_or_not first count)
  where
    found : SomeEnd rows count first → StatedEnd segments many rows text count i first (first + stated)
    found v =
        let states = row_states segments i (kind_among (leaves_between rows text first v.end)) (first + 1) (v.end - first) in
        let later = groups_stated segments (i + 1) (many - (i + 1)) (v.end + 1) (by_segment (leaves_between rows text v.end count)) in
        let so : states ≡ true = and_first states later (grouping_turn w h v.ends ∙ all) in
        let counts : count_in segments i ≡ v.end - first =
        (states_all segments i (kind_among (leaves_between rows text first v.end)) (first + 1) (v.end - first) so).same_count in
        subst (StatedEnd segments many rows text count i first) (let q : v.end ≡ first + stated = omega (arith, v.ends.from, is, counts) in q)
        (record { ends = v.ends; on = grouping_on w h v.ends so })

    go : (first < count) ⊎ (count ≤ first) → StatedEnd segments many rows text count i first (first + stated)
    go (inl l) = found (segment-ends rows count first l)
    go (inr l) = absurd (never_both all (sym (grouping_short w h (omega (arith, w.to)))))

-- and the last of them ends with the leaves
pub grouping_all : {segments : List ℕ} {many : ℕ} {rows text : List ℕ} {count i first : ℕ} → Grouping segments many rows text count i first → many ≤ i
    → groups_stated segments 0 many 1 (groups_in rows text count) ≡ true → first ≡ count
grouping_all {count = count} {first = first} w h all = eqb-true first count (grouping_done w h ∙ all)

-- so the first of them, which there is, ends the first segment
pub record FirstStated (segments : List ℕ) (many : ℕ) (rows : List ℕ) (count : ℕ) : Type 0 where
  pub some : 1 ≤ many
  pub ends : {stated : ℕ} → stated ≡ count_in segments 0 → SegmentEnd rows count 0 stated

pub first-stated : {segments : List ℕ} {many : ℕ} {rows text : List ℕ} {count : ℕ} → KindsAndLeaves segments many rows text count
    → FirstStated segments many rows count
first-stated {segments} {many} {rows} {text} {count} w = go (less_or_not 0 many)
  where
    begins : Grouping segments many rows text count 0 0
    begins = grouping_begins

    ended : (stated : ℕ) → SegmentEnd rows count 0 (0 + stated) → SegmentEnd rows count 0 stated
    ended stated = subst (SegmentEnd rows count 0) (let e : 0 + stated ≡ stated = omega arith in e)

    go : (0 < many) ⊎ (many ≤ 0) → FirstStated segments many rows count
    go (inl h) = record { some = omega arith; ends = λ {stated} is. ended stated (grouping_ends begins h w.grouped is).ends }
    go (inr h) = absurd (omega (arith, w.some, grouping_all begins h w.grouped))
