-- Who owns a row of a table (rule O5): the nearest row of the kind that `owner_kind` names; by the former levels the same row, but for three kinds.
-- Assumes nothing.
use mathlib.Core.Bool.{false}
use mathlib.Core.List.{List, [], reverse, append-nil}
use mathlib.Core.Logic.{◌⊎◌}
use mathlib.Core.Path.{◌≡◌, sym, ap, ◌∙◌, subst⁻¹, subst₂}
use Prim.Native.Nat.{ℕ, ◌≤◌, ◌<◌}
use native.Mathlib.Omega.{arith}
use lib.ListN.{length, take, get_or}
use Rattle.laws.proofs.Lists.{get_d_map}
use Rattle.form.specs.declared.separators.Separators.{Separators}
use Rattle.order.specs.Grammar.{Derives, Begins}
use Rattle.order.specs.Contexts.{grammar}
use Rattle.order.specs.Owners.{level, former_level, owner, owners}
use Rattle.order.specs.OwnerKinds.{owner_kind, moved, NearestOf}
use Rattle.order.proofs.Owner.{owners_at}
use Rattle.order.proofs.GoingBack.{nearest_along}
use Rattle.order.proofs.OwnerKinds.{owners_by_kind}
use Rattle.table.specs.Leaves.{kind_of_segment}
use Rattle.table.specs.Rows.{kind_in, owner_in, kinds_of, context_in, RowOf}
use Rattle.table.specs.OwnedRows.{NearestRow}
use Rattle.table.proofs.RowsGrowing.{length-kinds}

-- a row of joined segments, by any levels: its kind and its owner are those of the columns
module _ (levels : ℕ → ℕ → ℕ) (ps : Separators) (segs : List (List ℕ)) {rows : List ℕ} (i : ℕ) (h : i < length segs) (row : RowOf levels ps segs rows i) where
  pub kind-column : get_or (kinds_of ps segs) i 0 ≡ kind_in rows i
  unfolding kinds_of
  kind-column = get_d_map (kind_of_segment ps) segs i [] 0 h ∙ sym row.kind_is

  pub owner-column : get_or (owners (levels (context_in ps segs)) (kinds_of ps segs)) i 0 ≡ owner_in rows i
  owner-column =
      let lv = levels (context_in ps segs) in
      owners_at lv (kinds_of ps segs) i (let e = length-kinds ps segs in omega arith)
      ∙ ap (owner lv (reverse (take i (kinds_of ps segs)))) (kind-column ∙ row.kind_is) ∙ sym row.owner_is

-- the rows of joined segments whose kinds the context's grammar derives
module _ (ps : Separators) (segs : List (List ℕ)) (derived : Derives (grammar (context_in ps segs)) (kinds_of ps segs)) where
  kinds_begin : Begins (grammar (context_in ps segs)) (kinds_of ps segs)
  kinds_begin = ([], subst⁻¹ (λ (w : List ℕ). Derives (grammar (context_in ps segs)) w) (append-nil (kinds_of ps segs)) derived)

  place_inside : (i : ℕ) → i < length segs → i < length (kinds_of ps segs)
  place_inside i h = let e = length-kinds ps segs in omega arith

  -- by the levels in force: the owner is the nearest row of the kind that is named
  pub nearest-row : {rows : List ℕ} → ((j : ℕ) → j < length segs → RowOf level ps segs rows j) → (i : ℕ) → i < length segs
      → 1 ≤ owner_kind (context_in ps segs) (kind_in rows i) → NearestRow (owner_kind (context_in ps segs) (kind_in rows i)) rows i
  nearest-row {rows} each i h owned =
      let c = context_in ps segs in
      let kind = kind-column level ps segs i h (each i h) in
      let named = subst⁻¹ (λ (k : ℕ). 1 ≤ owner_kind c k) kind owned in
      subst₂ (λ (k o : ℕ). NearestOf (owner_kind c k) (kind_in rows) i o) kind (owner-column level ps segs i h (each i h))
      (nearest_along (λ m l. kind-column level ps segs m (omega arith) (each m (omega arith)))
      (owners_by_kind.any-kind c (kinds_of ps segs) kinds_begin i (place_inside i h) named))

  -- where none is named, the row is that of a C or has no owner
  pub unnamed-row : {rows : List ℕ} (i : ℕ) → i < length segs → RowOf level ps segs rows i → owner_kind (context_in ps segs) (kind_in rows i) ≡ 0
      → (kind_in rows i ≡ 12) ⊎ (owner_in rows i ≡ 0)
  unnamed-row i h row none =
      let c = context_in ps segs in
      let kind = kind-column level ps segs i h row in
      subst₂ (λ (k o : ℕ). (k ≡ 12) ⊎ (o ≡ 0)) kind (owner-column level ps segs i h row)
      (owners_by_kind.unnamed c (kinds_of ps segs) kinds_begin i (place_inside i h) (ap (owner_kind c) kind ∙ none))

  -- and by the former levels the same, but for the kinds that moved
  pub same-owner : {rows formerRows : List ℕ} (i : ℕ) → i < length segs → RowOf level ps segs rows i → RowOf former_level ps segs formerRows i
      → moved (context_in ps segs) (kind_in rows i) ≡ false → owner_in rows i ≡ owner_in formerRows i
  same-owner i h row former stays =
      sym (owner-column level ps segs i h row)
      ∙ owners_by_kind.others (context_in ps segs) (kinds_of ps segs) kinds_begin i (place_inside i h)
      (subst⁻¹ (λ (k : ℕ). moved (context_in ps segs) k ≡ false) (kind-column level ps segs i h row) stays)
      ∙ owner-column former_level ps segs i h former
