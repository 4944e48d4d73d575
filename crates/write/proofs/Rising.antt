-- Segment numbers never fall along places that follow each other: the last leaf of a stretch tells whether it is one segment, and where a
-- segment begins stands field 1.
-- Assumes nothing.
use mathlib.Core.Bool.{not}
use mathlib.Core.List.{List, ◌∷◌}
use mathlib.Core.Logic.{◌⊎◌, inl, inr}
use mathlib.Core.Path.{◌≡◌, sym, ap, ◌∙◌, subst}
use Prim.Native.Nat.{ℕ, zero, suc, ◌+◌, ◌-◌, ◌*◌, ◌≤◌, ◌<◌}
use native.Mathlib.Omega.{arith}
use lib.Dec.{eqb}
use lib.ListN.{length, get_or}
use borrow.Author.Tests.{eqb-true, eqb-false, not-true, not-false}
use Rattle.laws.specs.Lists.{same}
use Rattle.laws.specs.Tables.{values}
use Rattle.laws.proofs.Cases.{equal_or_not}
use Rattle.laws.proofs.Lists.{same_equal}
use Rattle.laws.proofs.Tests.{and_first, and_second}
use Rattle.table.specs.Rows.{leaf_row_size, place_in}
use Rattle.table.specs.inner.Columns.{segment_in, field_in}
use Rattle.table.specs.inner.Flat.{ones}
use Rattle.table.specs.inner.RowTests.{next_place}
use Rattle.table.proofs.RowTests.{next-raised}
use Rattle.write.specs.inner.Asked.{TwoPlaces}
use Rattle.write.specs.inner.Tests.{Decides, PlacesFollow, SegmentEnd, finer}
use Rattle.write.proofs.PlaceTests.{Next, next-numbers}

-- segment numbers never fall along places that follow each other, so the last leaf of a stretch tells whether it is one segment
module _ (rows : List ℕ) (count : ℕ) (sized : length rows ≡ count * leaf_row_size) (next : PlacesFollow rows count) where
  abbrev segment : ℕ → ℕ
  segment k = segment_in rows k

  both : (k : ℕ) → suc k < count → TwoPlaces rows (k * leaf_row_size) (suc k * leaf_row_size)
  both k l = record { former = omega arith; latter = omega arith }

  segment-step : (k : ℕ) → suc k < count → segment k ≤ segment (suc k)
  segment-step k l = go (equal_or_not (segment k) (segment (suc k)))
    where
      numbers : Next (segment k ∷ finer rows (k * leaf_row_size) 1) (segment (suc k) ∷ finer rows (suc k * leaf_row_size) 1) (next_place (place_in rows k) (place_in rows (suc k)))
      numbers = next-numbers (both k l)

      go : (segment k ≡ segment (suc k)) ⊎ (segment k ≡ segment (suc k) → ⊥) → segment k ≤ segment (suc k)
      go (inl e) = omega arith
      go (inr d) =
          let raised : suc (segment k) ≡ segment (suc k) =
          eqb-true (suc (segment k)) (segment (suc k))
          (and_first (eqb (suc (segment k)) (segment (suc k))) (same (ones (finer rows (k * leaf_row_size) 1)) (finer rows (suc k * leaf_row_size) 1))
          (sym (next-raised (segment k) (finer rows (k * leaf_row_size) 1) (segment (suc k)) (finer rows (suc k * leaf_row_size) 1) d) ∙ numbers.so ∙ next k l)) in
          omega arith

  segment-rises : (n k : ℕ) → k + n < count → segment k ≤ segment (k + n)
  segment-rises zero k l = subst (λ (j : ℕ). segment k ≤ segment j) (let e : k ≡ k + 0 = omega arith in e) (omega arith)
  segment-rises (suc n) k l =
      subst (λ (j : ℕ). segment k ≤ segment j) (let e : suc (k + n) ≡ k + suc n = omega arith in e)
      (omega (arith, segment-rises n k (omega arith), segment-step (k + n) (omega arith)))

  rises : (a b : ℕ) → a ≤ b → b < count → segment a ≤ segment b
  rises a b h l = subst (λ (j : ℕ). segment a ≤ segment j) (let e : a + (b - a) ≡ b = omega arith in e) (segment-rises (b - a) a (omega arith))

  -- where the segment number differs, the later leaf is the first of its segment and so of field 1
  head-after : (k : ℕ) → suc k < count → (segment k ≡ segment (suc k) → ⊥) → get_or rows (suc k * leaf_row_size + 1) 0 ≡ 1
  unfolding values ones
  head-after k l d =
      let numbers = next-numbers (both k l) in
      ap (λ (p : List ℕ). get_or p 0 0)
      (sym (same_equal (ones (finer rows (k * leaf_row_size) 1)) (finer rows (suc k * leaf_row_size) 1)
      (and_second (eqb (suc (segment k)) (segment (suc k))) (same (ones (finer rows (k * leaf_row_size) 1)) (finer rows (suc k * leaf_row_size) 1))
      (sym (next-raised (segment k) (finer rows (k * leaf_row_size) 1) (segment (suc k)) (finer rows (suc k * leaf_row_size) 1) d) ∙ numbers.so ∙ next k l))))

  pub segment-head : {first end : ℕ} → SegmentEnd rows count first end → end < count → field_in rows end ≡ 1
  segment-head {first} {end} w l =
      let e : suc (end - 1) ≡ end = omega (arith, w.from) in
      subst (λ (j : ℕ). field_in rows j ≡ 1) e
      (head-after (end - 1) (omega (arith, w.from))
      (λ q. w.other l
      (sym (ap segment e) ∙ sym q ∙ w.within (end - 1) (omega (arith, w.from)) (omega (arith, w.from)))))

  pub segment-whole : (first end : ℕ) → first < end → end ≤ count → segment (end - 1) ≡ segment first
      → (end < count → segment end ≡ segment first → ⊥) → SegmentEnd rows count first end
  segment-whole first end from to e other =
      record {
        from = from;
        to = to;
        within = λ k low high. omega (arith, rises first k low (omega arith), rises k (end - 1) (omega arith) (omega arith), e);
        other = other;
      }

  pub segment_decides : (first end : ℕ) → first < end → end < count → segment (end - 1) ≡ segment first
      → Decides (not (eqb (segment end) (segment first))) (SegmentEnd rows count first end)
  segment_decides first end from to e = (
    λ d. segment-whole first end from (omega arith) e (λ l. eqb-false (segment end) (segment first) (not-true (eqb (segment end) (segment first)) d)),
    λ d w. w.other to (eqb-true (segment end) (segment first) (not-false (eqb (segment end) (segment first)) d)),
  )
