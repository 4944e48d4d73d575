-- Who owns whom in a lent table whose counted entries are the table of joined segments (O2, O3, O5): by any levels, and by those in force.
-- Assumes nothing.
use mathlib.Core.List.{List}
use mathlib.Core.Path.{◌≡◌, sym, ap, ap₂, ◌∙◌, subst, subst₂, subst⁻¹}
use Prim.Native.Nat.{ℕ, ◌≤◌, ◌<◌}
use native.Mathlib.Omega.{arith}
use lib.ListN.{length, get_or}
use Rattle.laws.specs.Tables.{values}
use Rattle.laws.proofs.Tables.{values-entries, values_same}
use Rattle.form.specs.declared.limits.Limits.{Limits}
use Rattle.form.specs.declared.separators.Separators.{Separators}
use Rattle.order.specs.Owners.{level, owners}
use Rattle.order.specs.OwnerKinds.{owner_kind}
use Rattle.order.proofs.Misplaced.{derived_unless_misplaced}
use Rattle.order.proofs.Together.{none_lower}
use Rattle.table.specs.Lent.{Lent, counted}
use Rattle.table.specs.Rows.{kind_in, owner_in, kinds_of, context_in}
use Rattle.table.specs.OwnedRows.{NearestRow}
use Rattle.table.proofs.Accepting.{Judged}
use Rattle.table.proofs.OwnedRows.{nearest-row}
use Rattle.tested.proofs.LentRows.{context-lent, count-lent, kind-count, segment-there, row_at, kind_of_row, owner_of_row, no_C}

-- by any levels: the owners are those of the kinds in the rows
module _ {L : Limits} {levels : ℕ → ℕ → ℕ} {ps : Separators} {segs : List (List ℕ)} (t : Lent) (w : Judged L levels ps segs (counted t)) where
  pub kinds-lent : kinds_of ps segs ≡ values (kind_in t.segment_rows) 0 t.card.segments
  kinds-lent =
      let kinds = kinds_of ps segs in
      sym (values-entries kinds 0)
      ∙ values_same (λ k. get_or kinds k 0) (kind_in t.segment_rows) 0 (length kinds)
      (λ k low high. kind_of_row t w k (omega (arith, high, kind-count t w)))
      ∙ ap (values (kind_in t.segment_rows) 0) (kind-count t w)

  pub owner-lent : (i : ℕ) → i < t.card.segments
      → owner_in t.segment_rows i ≡ get_or (owners (levels t.card.context) (values (kind_in t.segment_rows) 0 t.card.segments)) i 0
  owner-lent i h =
      sym (owner_of_row t w i h)
      ∙ ap₂ (λ (c : ℕ) (ks : List ℕ). get_or (owners (levels c) ks) i 0) (sym (context-lent t w)) kinds-lent

-- by the levels in force
module _ {L : Limits} {ps : Separators} {segs : List (List ℕ)} (t : Lent) (w : Judged L level ps segs (counted t)) where
  -- the owner is the nearest row of the kind that is named
  pub nearest-lent : (i : ℕ) → i < t.card.segments → 1 ≤ owner_kind t.card.context (kind_in t.segment_rows i)
      → NearestRow (owner_kind t.card.context (kind_in t.segment_rows i)) t.segment_rows i
  nearest-lent i h owned =
      let kind = kind_in t.segment_rows i in
      let context = context-lent t w in
      let derived = (derived_unless_misplaced (context_in ps segs) (kinds_of ps segs)).0 w.ordered in
      subst⁻¹ (λ (c : ℕ). NearestRow (owner_kind c kind) t.segment_rows i) context
      (nearest-row ps segs derived (λ j l. row_at t w j (omega (arith, l, count-lent t w))) i (segment-there t w i h)
      (subst (λ (c : ℕ). 1 ≤ owner_kind c kind) context owned))

  -- of the rows between a row and its owner none, C left out, has a lower level
  pub none_lower_lent : (i m : ℕ) → i < t.card.segments → owner_in t.segment_rows i ≤ m → m < i
      → (kind_in t.segment_rows i ≡ 12 → ⊥) → (kind_in t.segment_rows m ≡ 12 → ⊥)
      → level t.card.context (kind_in t.segment_rows i) ≤ level t.card.context (kind_in t.segment_rows m)
  none_lower_lent i m h from to i-other m-other =
      let before : m < t.card.segments = omega (arith, h, to) in
      let rows = t.segment_rows in
      let lv = level (context_in ps segs) in
      subst⁻¹ (λ (c : ℕ). level c (kind_in rows i) ≤ level c (kind_in rows m)) (context-lent t w)
      (subst₂ (λ (k l : ℕ). lv k ≤ lv l) (kind_of_row t w i h) (kind_of_row t w m before)
      (none_lower lv (kinds_of ps segs) i m (omega (arith, h, kind-count t w)) (omega (arith, from, owner_of_row t w i h)) to (no_C t w i h i-other)
      (no_C t w m before m-other)))
