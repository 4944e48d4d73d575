-- The bytes that are written for the segments of some leaves, counted segment by segment, and how many they are at most.
-- Assumes nothing.
use mathlib.Core.List.{List, [], ◌∷◌}
use mathlib.Core.Logic.{◌⊎◌, inl, inr}
use mathlib.Core.Path.{◌≡◌, ap, ap₂, ◌∙◌}
use Prim.Native.Nat.{ℕ, ◌+◌, ◌-◌, ◌*◌, ◌≤◌, ◌<◌}
use native.Mathlib.Nat.{div-le_self}
use native.Mathlib.Omega.{arith}
use lib.Dec.{eqb}
use lib.ListN.{length-append, length}
use Rattle.laws.specs.Tables.{values}
use Rattle.laws.proofs.Cases.{less_or_not}
use Rattle.laws.proofs.Tables.{length-values}
use Rattle.laws.proofs.Tests.{Tested, passed, failed, tested}
use Rattle.form.specs.declared.limits.Limits.{Limits}
use Rattle.form.specs.Limits.{Lawful, line_count, lines_under, rounded_up}
use Rattle.form.proofs.LineCount.{one_line, more-lines, lines-lawful}
use Rattle.table.specs.Leaves.{Leaf}
use Rattle.table.specs.Rows.{text_of}
use Rattle.table.specs.inner.Back.{leaf_at}
use Rattle.table.specs.inner.BySegment.{segment_of, with_leaf, by_segment, segment_bytes, written_bytes}
use Rattle.table.proofs.BySegment.{concat-by_segment}
use Rattle.write.specs.inner.Tests.{groups_in, InText, leaves_between, SegmentEnd}
use Rattle.laws.specs.Lists.{concat, sum_of}
use Rattle.laws.specs.Every.{All, none, also}
use Rattle.table.proofs.LeafRows.{text_of_append}
use Rattle.table.proofs.EndToEnd.{end_to_end_lem}
use Rattle.write.proofs.Groups.{leaves_all, first-segment}
use Rattle.write.proofs.SegmentTests.{leaves_none}

-- the lines of a segment are no more than its bytes and one
pub few-lines : (L : Limits) → Lawful L → (n : ℕ) → line_count L n ≤ n + 1
unfolding rounded_up
few-lines L lawful n = go (less_or_not L.line n)
  where
    go : (L.line < n) ⊎ (n ≤ L.line) → line_count L n ≤ n + 1
    go (inl h) = omega (arith, more-lines L n h, div-le_self (n - L.line + (L.more - 1)) L.more, lawful.addendum)
    go (inr h) = omega (arith, one_line L n h)

pub segment-written : (L : Limits) → Lawful L → (rows text : List ℕ) (first end : ℕ) → first < end → {bytes lines : ℕ}
    → bytes ≡ length (text_of (leaves_between rows text first end)) → lines ≡ lines_under L (bytes + (end - first - 1))
    → bytes + (end - first - 1) + 3 * lines - 2 ≡ written_bytes L (leaves_between rows text first end)
unfolding written_bytes segment_bytes
segment-written L lawful rows text first end h {bytes} {lines} e f =
    ap₂ (λ (n k : ℕ). n + 3 * k - 2) size (f ∙ lines-lawful L (bytes + (end - first - 1)) lawful.addendum lawful.header ∙ ap (line_count L) size)
  where
    size : bytes + (end - first - 1) ≡ length (text_of (leaves_between rows text first end)) + (length (leaves_between rows text first end) - 1)
    size = omega (arith, e, length-values (leaf_at rows text) first (end - first))

pub some-lines : (L : Limits) (n : ℕ) → 1 ≤ line_count L n
some-lines L n = go (less_or_not L.line n)
  where
    go : (L.line < n) ⊎ (n ≤ L.line) → 1 ≤ line_count L n
    go (inl h) = omega (arith, more-lines L n h)
    go (inr h) = omega (arith, one_line L n h)

-- written bytes: those of the segments of the leaves up to `first` have been counted
pub record Counting (L : Limits) (rows text : List ℕ) (count first total : ℕ) : Type 0 where
  pub to : first ≤ count
  pub so : total + sum_of (written_bytes L) (by_segment (leaves_between rows text first count))
      ≡ sum_of (written_bytes L) (groups_in rows text count)

pub counting-begins : {L : Limits} {rows text : List ℕ} {count : ℕ} → Counting L rows text count 0 0
counting-begins {L} {rows} {text} {count} =
    record {
      to = omega arith;
      so = omega (arith, ap (λ (ls : List Leaf). sum_of (written_bytes L) (by_segment ls)) (leaves_all rows text count));
    }

module _ {L : Limits} {rows text : List ℕ} {count first total : ℕ} (w : Counting L rows text count first total) where
  pub counting_on : {end : ℕ} → SegmentEnd rows count first end → {bytes : ℕ} → bytes ≡ written_bytes L (leaves_between rows text first end) → Counting L rows text count end (total + bytes)
  unfolding sum_of
  counting_on v e =
      record {
        to = v.to;
        so = omega (arith, e, w.so, ap (sum_of (written_bytes L)) (first-segment rows text v));
      }

  pub counting-done : count ≤ first → total ≡ sum_of (written_bytes L) (groups_in rows text count)
  unfolding sum_of by_segment
  counting-done h = omega (arith, w.so, ap (λ (ls : List Leaf). sum_of (written_bytes L) (by_segment ls)) (leaves_none rows text first count h))

-- what is written for segments that have leaves is at most four bytes for each byte of their texts and each leaf
abbrev Full : List (List Leaf) → Type 0
Full groups = All (λ (g : List Leaf). 1 ≤ length g) groups

joined_full : (l : Leaf) (groups : List (List Leaf)) → Full groups → Full (with_leaf l groups)
unfolding with_leaf
joined_full l [] none = also {a = l ∷ []} (omega arith) none
joined_full l ([] ∷ groups) (also w ws) = absurd (omega arith)
joined_full l ((m ∷ ms) ∷ groups) (also w ws) = go (tested (eqb (segment_of l) (segment_of m)))
  where
    go : Tested (eqb (segment_of l) (segment_of m)) → Full (with_leaf l ((m ∷ ms) ∷ groups))
    go (passed e) = rw (e, with_leaf) (also {a = l ∷ m ∷ ms} (omega arith) ws)
    go (failed e) = rw (e, with_leaf) (also {a = l ∷ []} (omega arith) (also w ws))

segments_full : (ls : List Leaf) → Full (by_segment ls)
unfolding by_segment
segments_full [] = none
segments_full (l ∷ ls) = joined_full l (by_segment ls) (segments_full ls)

few-written : (L : Limits) → Lawful L → {groups : List (List Leaf)} → Full groups
    → sum_of (written_bytes L) groups ≤ 4 * (length (text_of (concat groups)) + length (concat groups))
unfolding sum_of concat text_of written_bytes segment_bytes
few-written L lawful none = omega arith
few-written L lawful (also {a = g} {s = groups} w ws) =
    omega (
      arith,
      few-written L lawful ws,
      few-lines L lawful (length (text_of g) + (length g - 1)),
      length-append g (concat groups),
      ap length (text_of_append g (concat groups)),
      length-append (text_of g) (text_of (concat groups)),
    )

-- so all that is written is bounded by the text and the leaves
pub all-written : (L : Limits) → Lawful L → {rows text : List ℕ} {count : ℕ} → InText rows text count
    → sum_of (written_bytes L) (groups_in rows text count) ≤ 4 * (length text + count)
all-written L lawful {rows} {text} {count} w =
    let leaves = values (leaf_at rows text) 0 count in
    omega (
      arith,
      few-written L lawful (segments_full leaves),
      ap (λ (ls : List Leaf). length (text_of ls) + length ls) (concat-by_segment leaves),
      length-values (leaf_at rows text) 0 count,
      ap length ((end_to_end_lem rows text count w.sized).0 w.ended).1,
    )
