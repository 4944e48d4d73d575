-- What the lookups answer (rules F1 to F4): the first row that fits, or none where none does.
-- Assumes nothing.
use mathlib.Core.Bool.{Bool, true, ◌&&◌}
use mathlib.Core.List.{List}
use mathlib.Core.Logic.{◌⊎◌, inl, inr, ◌↔◌}
use mathlib.Core.Path.{◌≡◌, refl, sym, ap, ap₂, ◌∙◌, subst, subst⁻¹}
use Prim.Native.Nat.{ℕ, zero, suc, ◌+◌, ◌-◌}
use native.Mathlib.Omega.{arith}
use lib.ListN.{take, drop}
use Rattle.laws.specs.Lists.{same}
use Rattle.laws.proofs.Cases.{equal_or_not, at_least_one}
use Rattle.laws.proofs.Lists.{same_self, same_equal}
use Rattle.laws.proofs.Searching.{first_of}
use Rattle.laws.proofs.Tests.{Tested, passed, failed, tested, and_first, and_second, and_both, never_both}
use Rattle.table.specs.Lent.{Lent, within_buffers}
use Rattle.table.specs.Rows.{start_in, length_in}
use Rattle.look.specs.declared.leaf.Place.{Place}
use Rattle.look.specs.declared.leaf.Sought.{Sought}
use Rattle.look.specs.declared.leaf.Sought.TheVariants.{At, Empty, NotThere}
use Rattle.look.specs.Looking.{leaf_fits, named_fits, segments_fit, has_kind_and_owner, order_at, order_place}
use Rattle.look.specs.inner.Searching.{sought_by, sought_in, sought_in_segment, row_after, same_texts, same_order}
use Rattle.look.specs.Matches.{FirstFit, FindsBy, Finds, FindsInSegment, FindsRow, SameOrders}
use Rattle.look.proofs.Seeking.{found_at, found_empty, found_some, sought_searched, sought_uncounted}
use Rattle.look.proofs.FirstFits.{first_means, first_fit_found, none_found}
use Rattle.look.proofs.RowSearch.{row_first, rows_past}

-- a lookup by the first row that passes a test
module _ (test : ℕ → Bool) (t : Lent) where
  -- what the first row states
  states : within_buffers t ≡ true → (k : ℕ) → FirstFit test 0 t.card.leaves k → FindsBy test t (found_at t.leaf_rows k)
  states h k f = by (equal_or_not (length_in t.leaf_rows k) 0)
    where
      by : (length_in t.leaf_rows k ≡ 0) ⊎ (length_in t.leaf_rows k ≡ 0 → ⊥) → FindsBy test t (found_at t.leaf_rows k)
      by (inl e) = subst⁻¹ (FindsBy test t) (found_empty (start_in t.leaf_rows k) (length_in t.leaf_rows k) e) (h, (k, f, e))
      by (inr e) =
          subst⁻¹ (FindsBy test t) (found_some (start_in t.leaf_rows k) (length_in t.leaf_rows k) e)
          (h, (k, f, refl, refl, at_least_one (length_in t.leaf_rows k) e))

  finds_by : (r : Sought) → r ≡ sought_by test t → FindsBy test t r
  finds_by r e = subst⁻¹ (FindsBy test t) e (by (tested (within_buffers t)))
    where
      by : Tested (within_buffers t) → FindsBy test t (sought_by test t)
      by (passed h) =
          subst⁻¹ (FindsBy test t) (sought_searched test t h)
          (first_means test (found_at t.leaf_rows) NotThere (FindsBy test t) 0 t.card.leaves t.card.leaves (omega arith)
          (λ no w. no) (states h))
      by (failed h) = subst⁻¹ (FindsBy test t) (sought_uncounted test t h) (λ w. absurd (never_both w h))

  first-row : within_buffers t ≡ true → (k : ℕ) → FirstFit test 0 t.card.leaves k → found_at t.leaf_rows k ≡ sought_by test t
  first-row h k f =
      first_fit_found test (found_at t.leaf_rows) NotThere 0 t.card.leaves t.card.leaves k (omega arith) f ∙ sym (sought_searched test t h)

  found_by : (r : Sought) → FindsBy test t r → r ≡ sought_by test t
  found_by (At start n) f =
      let w = f.1 in
      ap₂ At w.2 w.3
      ∙ sym (found_some (start_in t.leaf_rows w.0) (length_in t.leaf_rows w.0) (λ e. omega (arith, e, w.3, w.4)))
      ∙ first-row f.0 w.0 w.1
  found_by Empty f =
      let w = f.1 in
      sym (found_empty (start_in t.leaf_rows w.0) (length_in t.leaf_rows w.0) w.2) ∙ first-row f.0 w.0 w.1
  found_by NotThere f = by (tested (within_buffers t))
    where
      by : Tested (within_buffers t) → NotThere ≡ sought_by test t
      by (passed h) =
          none_found test (found_at t.leaf_rows) NotThere 0 t.card.leaves t.card.leaves (omega arith) (f h) ∙ sym (sought_searched test t h)
      by (failed h) = sym (sought_uncounted test t h)

  finds_by_exactly : (r : Sought) → (r ≡ sought_by test t) ↔ FindsBy test t r
  finds_by_exactly r = (finds_by r, found_by r)

-- the leaf lookup, and the lookup within a segment
module _ (t : Lent) (p : Place) where
  pub finds_exactly : (r : Sought) → (r ≡ sought_in t p) ↔ Finds t p r
  finds_exactly = finds_by_exactly (leaf_fits t p) t

  pub finds_in_segment_exactly : (r : Sought) → (r ≡ sought_in_segment t p) ↔ FindsInSegment t p r
  finds_in_segment_exactly = finds_by_exactly (named_fits t p) t

-- the row finder
module _ (rows : List ℕ) (count after kind owner : ℕ) where
  abbrev has : ℕ → Bool
  has i = has_kind_and_owner rows kind owner i

  searched_rows : segments_fit rows count ≡ true → row_after rows count after kind owner ≡ first_of has suc 0 after (count - after)
  unfolding row_after
  searched_rows h = (rw (h, row_after)) ∙ row_first rows kind owner after (count - after)

  -- the rows after one, up to the count: none where it is past the count
  shortened : {k : ℕ} → FirstFit has after (after + (count - after)) k → FirstFit has after count k
  shortened f = record { later = f.later; within = omega (arith, f.later, f.within); fits = f.fits; first = f.first }

  lengthened : {k : ℕ} → FirstFit has after count k → FirstFit has after (after + (count - after)) k
  lengthened f = record { later = f.later; within = omega (arith, f.later, f.within); fits = f.fits; first = f.first }

  finds_row : (r : ℕ) → r ≡ row_after rows count after kind owner → FindsRow rows count after kind owner r
  finds_row r e = subst⁻¹ (FindsRow rows count after kind owner) e (by (tested (segments_fit rows count)))
    where
      by : Tested (segments_fit rows count) → FindsRow rows count after kind owner (row_after rows count after kind owner)
      by (failed h) = subst (FindsRow rows count after kind owner) (rows_past rows count after kind owner h) (λ w. absurd (never_both w h))
      by (passed h) =
          subst⁻¹ (FindsRow rows count after kind owner) (searched_rows h)
          (first_means has suc 0 (FindsRow rows count after kind owner) after (count - after) (after + (count - after)) refl
          (λ no w j from to. no j from (omega (arith, from, to))) (λ k f. (h, shortened f)))

  found-row : (r : ℕ) → FindsRow rows count after kind owner r → r ≡ row_after rows count after kind owner
  found-row (suc i) f =
      first_fit_found has suc 0 after (count - after) (after + (count - after)) i refl (lengthened f.1) ∙ sym (searched_rows f.0)
  found-row zero f = by (tested (segments_fit rows count))
    where
      by : Tested (segments_fit rows count) → 0 ≡ row_after rows count after kind owner
      by (failed h) = rows_past rows count after kind owner h
      by (passed h) =
          none_found has suc 0 after (count - after) (after + (count - after)) refl (λ j from to. f h j from (omega (arith, from, to)))
          ∙ sym (searched_rows h)

  pub finds_row_exactly : (r : ℕ) → (r ≡ row_after rows count after kind owner) ↔ FindsRow rows count after kind owner r
  finds_row_exactly r = (finds_row r, found-row r)

-- the same-order test
module _ (t : Lent) (row : ℕ) (u : Lent) (other : ℕ) where
  both_found : (s v : Sought) → sought_in t (order_place row) ≡ s → sought_in u (order_place other) ≡ v
      → order_at t row ≡ true → order_at u other ≡ true → same_texts t.text s u.text v ≡ true → SameOrders t row u other
  unfolding same_texts
  both_found (At a n) (At b m) e f first second h =
      record {
        first = first;
        second = second;
        start = a;
        size = n;
        found = (finds_exactly t (order_place row) (At a n)).0 (sym e);
        start-other = b;
        size-other = m;
        found-other = (finds_exactly u (order_place other) (At b m)).0 (sym f);
        same = same_equal (take n (drop a t.text)) (take m (drop b u.text)) h;
      }
  both_found (At a n) Empty e f first second h = absurd (never_both h refl)
  both_found (At a n) NotThere e f first second h = absurd (never_both h refl)
  both_found Empty v e f first second h = absurd (never_both h refl)
  both_found NotThere v e f first second h = absurd (never_both h refl)

  pub same-orders : (r : Bool) → r ≡ same_order t row u other → (r ≡ true) ↔ SameOrders t row u other
  unfolding same_order same_texts
  same-orders r e =
      let s = sought_in t (order_place row) in
      let v = sought_in u (order_place other) in
      let texts = same_texts t.text s u.text v in (
        λ yes.
            let h : (order_at t row && order_at u other && texts) ≡ true = sym e ∙ yes in
            let both = and_first (order_at t row && order_at u other) texts h in
            both_found s v refl refl (and_first (order_at t row) (order_at u other) both) (and_second (order_at t row) (order_at u other) both)
            (and_second (order_at t row && order_at u other) texts h),
        λ w.
            e
            ∙ and_both (and_both w.first w.second)
            (ap₂ (λ (a b : Sought). same_texts t.text a u.text b) (sym ((finds_exactly t (order_place row) (At w.start w.size)).1 w.found))
            (sym ((finds_exactly u (order_place other) (At w.start-other w.size-other)).1 w.found-other))
            ∙ ap (same (take w.size (drop w.start t.text))) (sym w.same) ∙ same_self (take w.size (drop w.start t.text))),
      )
