-- The lookup within a segment (F4) answers what the lookup (F1) answers, of every table that some message reads to: there each leaf row is one of
-- those that its segment's row names.
-- Assumes nothing.
use mathlib.Core.Bool.{true}
use mathlib.Core.List.{List}
use mathlib.Core.Path.{◌≡◌, refl, sym, ap, ◌∙◌, subst, subst⁻¹}
use Prim.Native.Nat.{ℕ, suc, ◌+◌, ◌-◌, ◌<◌}
use native.Mathlib.Omega.{arith}
use borrow.Author.Tests.{le-leb, lt-ltb}
use lib.Dec.{leb}
use lib.ListN.{get_or}
use Rattle.laws.specs.Lists.{same}
use Rattle.laws.proofs.Lists.{same_equal}
use Rattle.laws.proofs.Searching.{first_of_same}
use Rattle.laws.proofs.Tests.{Tested, passed, failed, tested, and_first, and_both, and_fails_second}
use Rattle.form.specs.declared.limits.Limits.{Limits}
use Rattle.form.specs.declared.separators.Separators.{Separators}
use Rattle.table.specs.Lent.{Lent, within_buffers, counted}
use Rattle.table.specs.Rows.{Table, first_in, count_in, place_in, start_in, length_in, table_of}
use Rattle.table.specs.Reading.{Room, accepted, reading}
use Rattle.table.proofs.Accepting.{accepting}
use Rattle.table.proofs.OwnLeaves.{Named, own_leaf}
use Rattle.look.specs.declared.leaf.Place.{Place}
use Rattle.look.specs.declared.leaf.Sought.TheVariants.{NotThere}
use Rattle.look.specs.Looking.{numbers_of, fits, leaf_fits, in_run, is_named, named_fits}
use Rattle.look.specs.inner.Searching.{sought_in, sought_in_segment}
use Rattle.look.proofs.Entries.{lent_whole, fits-taken, named-taken}
use Rattle.look.proofs.Seeking.{found_at, sought_searched, sought_uncounted}

-- where each counted row that fits is named by its segment row, the two lookups are one
module _ (t : Lent) (p : Place) (own : (i : ℕ) → i < t.card.leaves → leaf_fits t p i ≡ true → is_named t p.segment i ≡ true) where
  same_test : (i : ℕ) → i < t.card.leaves → named_fits t p i ≡ leaf_fits t p i
  same_test i h = by (tested (leaf_fits t p i))
    where
      by : Tested (leaf_fits t p i) → named_fits t p i ≡ leaf_fits t p i
      by (passed e) = and_both (own i h e) e ∙ sym e
      by (failed e) = and_fails_second (is_named t p.segment i) e ∙ sym e

  same_search : sought_in_segment t p ≡ sought_in t p
  same_search = by (tested (within_buffers t))
    where
      by : Tested (within_buffers t) → sought_in_segment t p ≡ sought_in t p
      by (passed e) =
          sought_searched (named_fits t p) t e
          ∙ first_of_same (named_fits t p) (leaf_fits t p) (found_at t.leaf_rows) (found_at t.leaf_rows) NotThere 0 t.card.leaves
          (λ k g h. same_test k (omega (arith, h))) (λ k g h. refl)
          ∙ sym (sought_searched (leaf_fits t p) t e)
      by (failed e) = sought_uncounted (named_fits t p) t e ∙ sym (sought_uncounted (leaf_fits t p) t e)

-- a row that its segment row names by the table's law is named by the lookup's test
pub named_by : (T : Table) (s i : ℕ) → Named T s i → is_named (lent_whole T) s i ≡ true
unfolding is_named
named_by T s i w =
    and_both (and_both (le-leb 1 s (omega (arith, w.number))) (le-leb s T.card.segments (omega (arith, w.number, w.counts))))
    (ap (λ (k : ℕ). in_run (first_in T.segment_rows k) (count_in T.segment_rows k) i) (let e : s - 1 ≡ w.row = omega (arith, w.number) in e)
    ∙ and_both (and_both (le-leb 1 (first_in T.segment_rows w.row) w.begins) (le-leb (first_in T.segment_rows w.row) (suc i) w.from))
    (lt-ltb (suc i) (first_in T.segment_rows w.row + count_in T.segment_rows w.row) w.to))

-- a row that fits has the place's segment number
segment_at : (rows : List ℕ) (bytes : ℕ) (p : Place) (i : ℕ) → fits rows bytes p i ≡ true → get_or (place_in rows i) 0 0 ≡ p.segment
unfolding fits numbers_of
segment_at rows bytes p i e =
    ap (λ (l : List ℕ). get_or l 0 0)
    (same_equal (place_in rows i) (numbers_of p) (and_first (same (place_in rows i) (numbers_of p)) (leb (start_in rows i + length_in rows i) bytes) e))

-- of a table of joined segments
module _ (t : Lent) (levels : ℕ → ℕ → ℕ) (ps : Separators) (segs : List (List ℕ)) (filed : counted t ≡ table_of levels ps segs) (p : Place) where
  named_here : (i : ℕ) → i < t.card.leaves → leaf_fits t p i ≡ true → is_named t p.segment i ≡ true
  unfolding counted
  named_here i h e =
      let within : i < (table_of levels ps segs).card.leaves = subst (λ (T : Table). i < T.card.leaves) filed h in
      let at_leaf = subst⁻¹ (λ (T : Table). Named T (get_or (place_in T.leaf_rows i) 0 0) i) filed (own_leaf levels ps segs i within) in
      let segment = segment_at (counted t).leaf_rows t.card.text p i (fits-taken t p i h ∙ e) in
      sym (named-taken t p.segment i) ∙ named_by (counted t) p.segment i (subst (λ (s : ℕ). Named (counted t) s i) segment at_leaf)

  pub table-answer : sought_in_segment t p ≡ sought_in t p
  table-answer = same_search t p named_here

-- of a table that some message reads to
pub same_answer : (L : Limits) (levels : ℕ → ℕ → ℕ) (room : Room) (message : List ℕ) (t : Lent) → reading L levels room message ≡ accepted (counted t)
    → (p : Place) → sought_in_segment t p ≡ sought_in t p
same_answer L levels room message t read p =
    let w = (accepting L levels room message (counted t)).0 read in
    table-answer t levels w.separators _ w.segments.table p
