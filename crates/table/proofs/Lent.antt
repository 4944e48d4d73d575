-- A card's counts against the buffers, one test after the other, and what counts that fit say of each buffer.
-- Assumes nothing.
use mathlib.Core.Bool.{true, false, ◌&&◌, and-true}
use mathlib.Core.Logic.{◌⊎◌, inl, inr}
use mathlib.Core.Path.{◌≡◌, sym, ◌∙◌}
use Prim.Native.Nat.{ℕ, ◌*◌, ◌/◌, ◌<◌, ◌≤◌}
use native.Mathlib.Omega.{arith}
use borrow.Author.Tests.{leb-true, le-leb, lt-leb}
use lib.Dec.{leb}
use lib.ListN.{length}
use Rattle.laws.proofs.Cases.{less_or_not}
use Rattle.laws.proofs.Tests.{and_first, and_second, and_fails_second}
use Rattle.form.specs.declared.limits.Limits.{Limits}
use Rattle.table.specs.declared.Card.{Card}
use Rattle.table.specs.Rows.{segment_row_size, leaf_row_size}
use Rattle.table.specs.Lent.{Lent, within_limits, counts_fit, within_buffers, counted, SameCounted}

-- a count of leaves against so many numbers, by division
pub leaves_divided : (count numbers : ℕ) → leb count (numbers / leaf_row_size) ≡ leb (count * leaf_row_size) numbers
leaves_divided count numbers = go (less_or_not numbers (count * leaf_row_size))
  where
    go : (numbers < count * leaf_row_size) ⊎ (count * leaf_row_size ≤ numbers) → leb count (numbers / leaf_row_size) ≡ leb (count * leaf_row_size) numbers
    go (inl h) = lt-leb count (numbers / leaf_row_size) (omega arith) ∙ sym (lt-leb (count * leaf_row_size) numbers h)
    go (inr h) = le-leb count (numbers / leaf_row_size) (omega arith) ∙ sym (le-leb (count * leaf_row_size) numbers h)

module _ (c : Card) (segment_rows leaf_rows text : ℕ) where
  pub segments_past : segment_rows < c.segments * segment_row_size → false ≡ counts_fit c segment_rows leaf_rows text
  unfolding counts_fit
  segments_past h = rw (lt-leb (c.segments * segment_row_size) segment_rows h)

  module _ (within : c.segments * segment_row_size ≤ segment_rows) where
    pub text_past : text < c.text → false ≡ counts_fit c segment_rows leaf_rows text
    unfolding counts_fit
    text_past h =
        sym (and_fails_second (leb (c.segments * segment_row_size) segment_rows && leb (c.leaves * leaf_row_size) leaf_rows) (lt-leb c.text text h))

    pub leaves_decide : c.text ≤ text → leb (c.leaves * leaf_row_size) leaf_rows ≡ counts_fit c segment_rows leaf_rows text
    unfolding counts_fit
    leaves_decide h =
        rw (le-leb (c.segments * segment_row_size) segment_rows within, le-leb c.text text h, and-true (leb (c.leaves * leaf_row_size) leaf_rows))

  module _ (e : counts_fit c segment_rows leaf_rows text ≡ true) where
    both_rows : (leb (c.segments * segment_row_size) segment_rows && leb (c.leaves * leaf_row_size) leaf_rows) ≡ true
    unfolding counts_fit
    both_rows = and_first (leb (c.segments * segment_row_size) segment_rows && leb (c.leaves * leaf_row_size) leaf_rows) (leb c.text text) e

    pub segments-within : c.segments * segment_row_size ≤ segment_rows
    segments-within =
        leb-true (c.segments * segment_row_size) segment_rows
        (and_first (leb (c.segments * segment_row_size) segment_rows) (leb (c.leaves * leaf_row_size) leaf_rows) both_rows)

    pub leaves-within : c.leaves * leaf_row_size ≤ leaf_rows
    leaves-within =
        leb-true (c.leaves * leaf_row_size) leaf_rows
        (and_second (leb (c.segments * segment_row_size) segment_rows) (leb (c.leaves * leaf_row_size) leaf_rows) both_rows)

    pub text-within : c.text ≤ text
    unfolding counts_fit
    text-within =
        leb-true c.text text
        (and_second (leb (c.segments * segment_row_size) segment_rows && leb (c.leaves * leaf_row_size) leaf_rows) (leb c.text text) e)

-- the same of the limits
module _ (L : Limits) (c : Card) where
  pub segments_over : L.segments < c.segments → false ≡ within_limits L c
  unfolding within_limits
  segments_over h = rw (lt-leb c.segments L.segments h)

  pub leaves_over : c.segments ≤ L.segments → L.leaves < c.leaves → false ≡ within_limits L c
  unfolding within_limits
  leaves_over few h = rw (le-leb c.segments L.segments few, lt-leb c.leaves L.leaves h)

  pub bytes_decide : c.segments ≤ L.segments → c.leaves ≤ L.leaves → leb c.text L.bytes ≡ within_limits L c
  unfolding within_limits
  bytes_decide few short = rw (le-leb c.segments L.segments few, le-leb c.leaves L.leaves short)

  module _ (e : within_limits L c ≡ true) where
    both_counts : (leb c.segments L.segments && leb c.leaves L.leaves) ≡ true
    unfolding within_limits
    both_counts = and_first (leb c.segments L.segments && leb c.leaves L.leaves) (leb c.text L.bytes) e

    pub few-segments : c.segments ≤ L.segments
    few-segments = leb-true c.segments L.segments (and_first (leb c.segments L.segments) (leb c.leaves L.leaves) both_counts)

    pub few-leaves : c.leaves ≤ L.leaves
    few-leaves = leb-true c.leaves L.leaves (and_second (leb c.segments L.segments) (leb c.leaves L.leaves) both_counts)

    pub few_bytes : c.text ≤ L.bytes
    unfolding within_limits
    few_bytes = leb-true c.text L.bytes (and_second (leb c.segments L.segments && leb c.leaves L.leaves) (leb c.text L.bytes) e)

-- entries past the counted ones change nothing about whether the counts fit
pub same-within : (l k : Lent) → SameCounted l k → within_buffers l ≡ within_buffers k
unfolding counted
same-within l k w =
    let segments = w.segment_rows in
    let leaves = w.leaf_rows in
    let text = w.text in
    let entries = w.entries in
    let e
    : counts_fit (counted l).card (length l.segment_rows) (length l.leaf_rows) (length l.text)
    ≡ counts_fit (counted k).card (length k.segment_rows) (length k.leaf_rows) (length k.text) = cc in
    e
