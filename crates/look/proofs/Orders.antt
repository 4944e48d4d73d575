-- The same-order test: what makes a row an order, and that it compares where the text of leaf 9.4.2 of each order lies.
-- Assumes nothing.
use mathlib.Core.Bool.{true, false, ◌&&◌}
use mathlib.Core.List.{List}
use mathlib.Core.Path.{◌≡◌, refl, sym, ap, ap₂, ◌∙◌}
use Prim.Native.Nat.{ℕ, ◌+◌, ◌-◌, ◌<◌, ◌≤◌}
use native.Mathlib.Omega.{arith}
use borrow.Author.Tests.{leb-true, eqb-true, le-leb, lt-leb}
use lib.Dec.{leb, eqb}
use lib.ListN.{length, take, drop}
use Rattle.laws.specs.Lists.{same}
use Rattle.laws.proofs.Tests.{Tested, passed, failed, tested, and_first, and_second}
use Rattle.table.specs.Lent.{Lent}
use Rattle.table.specs.Rows.{kind_in}
use Rattle.look.specs.declared.leaf.Sought.{Sought}
use Rattle.look.specs.declared.leaf.Sought.TheVariants.{At, Empty, NotThere}
use Rattle.look.specs.Looking.{segments_fit, is_order, order_at, order_place}
use Rattle.look.specs.inner.Searching.{sought_in, same_texts, same_order}
use Rattle.look.specs.inner.Ordering.{order_text}
use Rattle.look.proofs.Seeking.{found_within}
use Rattle.look.proofs.TextParts.{part_long}

-- whether a row is an order

module _ (rows : List ℕ) (count row : ℕ) where
  pub count_past : segments_fit rows count ≡ false → false ≡ is_order rows count row
  unfolding is_order
  count_past e = rw e

  module _ (fit : segments_fit rows count ≡ true) where
    pub row_zero : row < 1 → false ≡ is_order rows count row
    unfolding is_order
    row_zero h = rw (fit, lt-leb 1 row h)

    module _ (some : 1 ≤ row) where
      pub row_past : count < row → false ≡ is_order rows count row
      unfolding is_order
      row_past h = rw (fit, le-leb 1 row some, lt-leb row count h)

      pub kind_decides : row ≤ count → eqb (kind_in rows (row - 1)) 5 ≡ is_order rows count row
      unfolding is_order
      kind_decides h = rw (fit, le-leb 1 row some, le-leb row count h)

-- where the text of an order lies

module _ (t : Lent) (row : ℕ) where
  pub order-text : order_at t row ≡ true → order_text t row ≡ sought_in t (order_place row)
  unfolding order_text
  order-text e = rw (e, order_text)

  pub no_order : order_at t row ≡ false → order_text t row ≡ NotThere
  unfolding order_text
  no_order e = rw (e, order_text)

  pub order-within : (start n : ℕ) → order_text t row ≡ At start n → start + n ≤ length t.text
  order-within start n found = go (tested (order_at t row))
    where
      go : Tested (order_at t row) → start + n ≤ length t.text
      go (passed e) = found_within t (order_place row) start n (sym (order-text e) ∙ found)
      go (failed e) = let z : ◌≡◌ {A = ℕ} 0 1 = cc (no_order e) in let n : ⊥ = omega arith in absurd n

-- the test, by where the two texts lie

not_there_differs : (text : List ℕ) (s : Sought) (other : List ℕ) → same_texts text s other NotThere ≡ false
unfolding same_texts
not_there_differs text (At start n) other = refl
not_there_differs text Empty other = refl
not_there_differs text NotThere other = refl

empty_differs : (text : List ℕ) (s : Sought) (other : List ℕ) → same_texts text s other Empty ≡ false
unfolding same_texts
empty_differs text (At start n) other = refl
empty_differs text Empty other = refl
empty_differs text NotThere other = refl

module _ (t : Lent) (row : ℕ) (u : Lent) (other : ℕ) where
  pub same-order-texts : same_order t row u other ≡ same_texts t.text (order_text t row) u.text (order_text u other)
  unfolding same_order same_texts
  same-order-texts = go (tested (order_at t row)) (tested (order_at u other))
    where
      go : Tested (order_at t row) → Tested (order_at u other)
          → same_order t row u other ≡ same_texts t.text (order_text t row) u.text (order_text u other)
      go (passed e) (passed f) = rw (order-text t row e, order-text u other f, e, f)
      go (passed e) (failed f) =
          rw (order-text t row e, no_order u other f, e, f) (sym (not_there_differs t.text (sought_in t (order_place row)) u.text))
      go (failed e) f = rw (no_order t row e, e)

  -- the answer where both have a text, and where one is empty or not there
  pub both_with_text : (a n b m : ℕ) → order_text t row ≡ At a n → order_text u other ≡ At b m
      → same (take (a + n - a) (drop a t.text)) (take (b + m - b) (drop b u.text)) ≡ same_order t row u other
  unfolding same_texts
  both_with_text a n b m e f =
      ap₂ (λ (x y : List ℕ). same x y) (part_long t.text a n) (part_long u.text b m)
      ∙ sym (same-order-texts ∙ ap₂ (λ (x y : Sought). same_texts t.text x u.text y) e f)

  -- an order that has no text, or that is none
  pub first_without : ((a n : ℕ) → order_text t row ≡ At a n → ⊥) → false ≡ same_order t row u other
  unfolding same_texts
  first_without none = go (order_text t row) refl
    where
      go : (s : Sought) → order_text t row ≡ s → false ≡ same_order t row u other
      go (At a n) e = absurd (none a n e)
      go Empty e = sym (same-order-texts ∙ ap (λ (x : Sought). same_texts t.text x u.text (order_text u other)) e)
      go NotThere e = sym (same-order-texts ∙ ap (λ (x : Sought). same_texts t.text x u.text (order_text u other)) e)

  pub second_without : ((b m : ℕ) → order_text u other ≡ At b m → ⊥) → false ≡ same_order t row u other
  second_without none = go (order_text u other) refl
    where
      go : (s : Sought) → order_text u other ≡ s → false ≡ same_order t row u other
      go (At b m) e = absurd (none b m e)
      go Empty e =
          sym (same-order-texts ∙ ap (same_texts t.text (order_text t row) u.text) e ∙ empty_differs t.text (order_text t row) u.text)
      go NotThere e =
          sym (same-order-texts ∙ ap (same_texts t.text (order_text t row) u.text) e ∙ not_there_differs t.text (order_text t row) u.text)

-- an order, by its test: one of the counted rows, of kind 5
pub record CountedOrder (t : Lent) (order : ℕ) : Type 0 where
  pub first : 1 ≤ order
  pub counts : order ≤ t.card.segments
  pub kind : kind_in t.segment_rows (order - 1) ≡ 5

pub order_is : (t : Lent) (order : ℕ) → order_at t order ≡ true → CountedOrder t order
unfolding is_order
order_is t order e =
    let fits = segments_fit t.segment_rows t.card.segments in
    let least = leb 1 order in
    let most = leb order t.card.segments in
    let kind = eqb (kind_in t.segment_rows (order - 1)) 5 in
    let counted-row = and_first (fits && least && most) kind e in
    record {
      first = leb-true 1 order (and_second fits least (and_first (fits && least) most counted-row));
      counts = leb-true order t.card.segments (and_second (fits && least) most counted-row);
      kind = eqb-true (kind_in t.segment_rows (order - 1)) 5 (and_second (fits && least && most) kind e);
    }
