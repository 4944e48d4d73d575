-- The segment rows of a lent table whose counted entries are the table of joined segments (T1, T2): each is its segment's, with that one's kind and
-- owner. The segments passed the tests 7 to 11 (N2).
-- Assumes nothing.
use mathlib.Core.Bool.{false}
use mathlib.Core.List.{List}
use mathlib.Core.Path.{◌≡◌, sym, ap, ◌∙◌, subst⁻¹}
use Prim.Native.Nat.{ℕ, ◌<◌}
use native.Mathlib.Omega.{arith}
use borrow.Author.Tests.{ne_eqb}
use lib.ListN.{length, get_or}
use Rattle.form.specs.declared.limits.Limits.{Limits}
use Rattle.form.specs.declared.separators.Separators.{Separators}
use Rattle.order.specs.Owners.{is_c, owners}
use Rattle.table.specs.Lent.{Lent, counted}
use Rattle.table.specs.Rows.{Table, kind_in, owner_in, kinds_of, context_in, table_of, RowOf}
use Rattle.table.proofs.Accepting.{Judged}
use Rattle.table.proofs.OwnedRows.{kind-column, owner-column}
use Rattle.table.proofs.RowsGrowing.{length-kinds}
use Rattle.table.proofs.SegmentColumns.{table-rows, row-taken}

module _ {L : Limits} {levels : ℕ → ℕ → ℕ} {ps : Separators} {segs : List (List ℕ)} (t : Lent) (w : Judged L levels ps segs (counted t)) where
  -- the card has the segments' context, and counts as many rows as there are segments and kinds
  pub context-lent : t.card.context ≡ context_in ps segs
  unfolding counted table_of
  context-lent = ap (λ (T : Table). T.card.context) w.table

  pub count-lent : t.card.segments ≡ length segs
  unfolding counted table_of
  count-lent = ap (λ (T : Table). T.card.segments) w.table

  pub kind-count : length (kinds_of ps segs) ≡ t.card.segments
  kind-count = length-kinds ps segs ∙ sym count-lent

  -- a counted row is that of its segment
  module _ (i : ℕ) (h : i < t.card.segments) where
    pub segment-there : i < length segs
    segment-there = omega (arith, h, count-lent)

    pub row_at : RowOf levels ps segs t.segment_rows i
    row_at = row-taken t i h (subst⁻¹ (λ (T : Table). RowOf levels ps segs T.segment_rows i) w.table (table-rows levels ps segs i segment-there))

    -- so its kind and its owner are those of the message
    pub kind_of_row : get_or (kinds_of ps segs) i 0 ≡ kind_in t.segment_rows i
    kind_of_row = kind-column levels ps segs i segment-there row_at

    pub owner_of_row : get_or (owners (levels (context_in ps segs)) (kinds_of ps segs)) i 0 ≡ owner_in t.segment_rows i
    owner_of_row = owner-column levels ps segs i segment-there row_at

    -- and a row that is no C, kind 12, is none there either
    pub no_C : (kind_in t.segment_rows i ≡ 12 → ⊥) → is_c (get_or (kinds_of ps segs) i 0) ≡ false
    unfolding is_c
    no_C other = ne_eqb (get_or (kinds_of ps segs) i 0) 12 (λ e. other (sym kind_of_row ∙ e))
