-- The leaf rows that a segment row names (F4): a search for those named-fits all counted rows is one over a part of them alone.
-- Assumes nothing.
use mathlib.Core.Bool.{true, false, ◌&&◌}
use mathlib.Core.Logic.{◌⊎◌, inl, inr}
use mathlib.Core.Path.{◌≡◌, sym, ap, ◌∙◌}
use Rattle.std.specs.Prelude.{min}
use Prim.Native.Nat.{ℕ, suc, ◌+◌, ◌-◌, ◌<◌, ◌≤◌}
use native.Mathlib.Omega.{arith}
use borrow.Author.Tests.{le-leb, lt-leb, lt-ltb, le-ltb}
use lib.Dec.{leb, ltb}
use Rattle.laws.proofs.Cases.{less_or_not}
use Rattle.laws.proofs.Tests.{Tested, passed, failed, tested, and_fails_first, and_fails_second}
use Rattle.table.specs.Lent.{Lent, within_buffers}
use Rattle.table.specs.Rows.{first_in, count_in}
use Rattle.look.specs.declared.leaf.Place.{Place}
use Rattle.look.specs.declared.leaf.Sought.TheVariants.{NotThere}
use Rattle.look.specs.Looking.{leaf_fits, in_run, is_named, named_fits}
use Rattle.look.specs.inner.Searching.{sought_from, sought_in_segment}
use Rattle.look.proofs.FirstFits.{none_found, part_searched}
use Rattle.look.proofs.Seeking.{found_at, sought_first, sought_searched, sought_uncounted}

-- a segment row that is not counted names no leaf row
module _ (t : Lent) (s i : ℕ) where
  zero_names : s < 1 → is_named t s i ≡ false
  unfolding is_named
  zero_names h = rw (lt-leb 1 s h)

  past_names : t.card.segments < s → is_named t s i ≡ false
  unfolding is_named
  past_names h =
      and_fails_first (in_run (first_in t.segment_rows (s - 1)) (count_in t.segment_rows (s - 1)) i)
      (and_fails_second (leb 1 s) (lt-leb s t.card.segments h))

-- a lookup in a segment that names none
module _ (t : Lent) (p : Place) (fit : within_buffers t ≡ true) where
  none_named : ((i : ℕ) → is_named t p.segment i ≡ false) → NotThere ≡ sought_in_segment t p
  none_named unnamed =
      none_found (named_fits t p) (found_at t.leaf_rows) NotThere 0 t.card.leaves t.card.leaves (omega arith)
      (λ j from to. and_fails_first (leaf_fits t p j) (unnamed j))
      ∙ sym (sought_searched (named_fits t p) t fit)

  past_named : t.card.segments < p.segment → NotThere ≡ sought_in_segment t p
  past_named h = none_named (λ i. past_names t p.segment i h)

  pub segment_zero : p.segment < 1 → NotThere ≡ sought_in_segment t p
  segment_zero h = none_named (λ i. zero_names t p.segment i h)

  -- one in a counted segment: from its first leaf's row on, and before the row after its last leaf's or the end of the counted rows
  module _ (some : 1 ≤ p.segment) (counts : p.segment ≤ t.card.segments) where
    abbrev first : ℕ
    first = first_in t.segment_rows (p.segment - 1)

    abbrev count : ℕ
    count = count_in t.segment_rows (p.segment - 1)

    in_run_lem : (i : ℕ) → is_named t p.segment i ≡ in_run first count i
    unfolding is_named
    in_run_lem i = rw (le-leb 1 p.segment some, le-leb p.segment t.card.segments counts)

    out_of_run : (i : ℕ) → in_run first count i ≡ false → named_fits t p i ≡ false
    out_of_run i e = and_fails_first (leaf_fits t p i) (in_run_lem i ∙ e)

    -- a first leaf of 0 names none
    first_zero : first < 1 → NotThere ≡ sought_in_segment t p
    first_zero h =
        none_named
        (λ i.
        in_run_lem i
        ∙ and_fails_first (ltb (suc i) (first + count)) (and_fails_first (leb first (suc i)) (lt-leb 1 first h)))

    module _ (begins : 1 ≤ first) where
      named-fits : (i : ℕ) → first ≤ suc i → suc i < first + count → named_fits t p i ≡ leaf_fits t p i
      named-fits i from to = rw (in_run_lem i, le-leb 1 first begins, le-leb first (suc i) from, lt-ltb (suc i) (first + count) to)

      named_part : (to : ℕ) → to ≤ first - 1 + count → to ≤ t.card.leaves → (to ≡ first - 1 + count) ⊎ (to ≡ t.card.leaves)
          → sought_from (leaf_fits t p) t.leaf_rows (first - 1) (to - (first - 1)) ≡ sought_in_segment t p
      named_part to named counted either =
          sought_first (leaf_fits t p) t.leaf_rows (first - 1) (to - (first - 1))
          ∙ sym (sought_searched (named_fits t p) t fit
          ∙ part_searched (named_fits t p) (leaf_fits t p) (found_at t.leaf_rows) NotThere t.card.leaves (first - 1) to counted outside
          (λ k from below. named-fits k (omega (arith, from)) (omega (arith, below, named, begins))))
        where
          before : (k : ℕ) → k < first - 1 → in_run first count k ≡ false
          before k h = and_fails_first (ltb (suc k) (first + count)) (and_fails_second (leb 1 first) (lt-leb first (suc k) (omega (arith, h))))

          behind : (k : ℕ) → k < t.card.leaves → to ≤ k → (to ≡ first - 1 + count) ⊎ (to ≡ t.card.leaves) → in_run first count k ≡ false
          behind k h past (inl e) = and_fails_second (leb 1 first && leb first (suc k)) (le-ltb (suc k) (first + count) (omega (arith, past, e, begins)))
          behind k h past (inr e) = absurd (omega (arith, h, past, e))

          outside : (k : ℕ) → k < t.card.leaves → (k < first - 1) ⊎ (to ≤ k) → named_fits t p k ≡ false
          outside k h (inl early) = out_of_run k (before k early)
          outside k h (inr late) = out_of_run k (behind k h late either)

  -- the same as a function comes to them: by the segment's number, its first leaf and its leaf count as they are read
  module _ {number first : ℕ} (row : number ≡ p.segment) (some : 1 ≤ number) (counts : number ≤ t.card.segments)
      (reads : first ≡ first_in t.segment_rows (number - 1)) where
    least : 1 ≤ p.segment
    least = omega (arith, row, some)

    most : p.segment ≤ t.card.segments
    most = omega (arith, row, counts)

    at_first : first ≡ first_in t.segment_rows (p.segment - 1)
    at_first = reads ∙ ap (λ (n : ℕ). first_in t.segment_rows (n - 1)) row

    pub none-found-first : first < 1 → NotThere ≡ sought_in_segment t p
    none-found-first h = first_zero least most (omega (arith, h, at_first))

    pub named-found : {many to : ℕ} → 1 ≤ first → many ≡ count_in t.segment_rows (number - 1)
        → to ≡ min t.card.leaves (first - 1 + many)
        → sought_from (leaf_fits t p) t.leaf_rows (first - 1) (to - (first - 1)) ≡ sought_in_segment t p
    named-found {many} {to} begins reads-many ends =
        ap (λ (k : ℕ). sought_from (leaf_fits t p) t.leaf_rows (k - 1) (to - (k - 1))) at_first
        ∙ named_part least most (omega (arith, begins, at_first)) to (omega (arith, ends, at_end)) (omega (arith, ends))
        (either (less_or_not t.card.leaves (first - 1 + many)))
      where
        at_end : first - 1 + many ≡ first_in t.segment_rows (p.segment - 1) - 1 + count_in t.segment_rows (p.segment - 1)
        at_end = omega (arith, at_first, reads-many ∙ ap (λ (n : ℕ). count_in t.segment_rows (n - 1)) row)

        either : (t.card.leaves < first - 1 + many) ⊎ (first - 1 + many ≤ t.card.leaves)
            → (to ≡ first_in t.segment_rows (p.segment - 1) - 1 + count_in t.segment_rows (p.segment - 1)) ⊎ (to ≡ t.card.leaves)
        either (inl h) = inr (omega (arith, ends, h))
        either (inr h) = inl (omega (arith, ends, h, at_end))

-- a place past the counted segments has no leaf, whatever the buffers hold
pub segment_past : (t : Lent) (p : Place) → t.card.segments < p.segment → NotThere ≡ sought_in_segment t p
segment_past t p h = by (tested (within_buffers t))
  where
    by : Tested (within_buffers t) → NotThere ≡ sought_in_segment t p
    by (passed e) = past_named t p e h
    by (failed e) = sym (sought_uncounted (named_fits t p) t e)
