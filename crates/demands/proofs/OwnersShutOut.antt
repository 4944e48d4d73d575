-- Readers and writers that the contracts shut out by who belongs to whom: an OBR of an ORA under its AC, an ACT under the REG before it, another owner
-- than before in a context that is neither ORA nor FAC.
-- Assumes nothing.
use mathlib.Core.Bool.{false}
use mathlib.Core.List.{List}
use mathlib.Core.Logic.{inr}
use mathlib.Core.Path.{◌≡◌, ap₂, ◌∙◌}
use Prim.Native.Nat.{ℕ, suc, ◌-◌, ◌≤◌, ◌<◌}
use native.Mathlib.Omega.{arith}
use borrow.Author.Tests.{ne_eqb}
use lib.ListN.{length}
use Rattle.form.specs.declared.limits.Limits.{Limits}
use Rattle.form.specs.Limits.{Lawful}
use Rattle.order.specs.Owners.{level, former_level}
use Rattle.order.specs.OwnerKinds.{owner_kinds, owner_kind, moved}
use Rattle.table.specs.Lent.{Lent}
use Rattle.table.specs.Rows.{kind_in, owner_in}
use Rattle.read.specs.declared.Answer.{Answer}
use Rattle.read.specs.Answering.{ReadAs}
use Rattle.write.specs.declared.Written.{Written}
use Rattle.write.specs.Answer.{WroteAs}
use Rattle.demands.proofs.Belonging.{belonging}

-- what row i says of its owner's kind
abbrev owner_kind_in : List ℕ → ℕ → ℕ
owner_kind_in rows i = kind_in rows (owner_in rows i - 1)

module _ (L : Limits) (lawful : Lawful L) (message : List ℕ) {text segments leaves text' segments' leaves' : List ℕ} {r : Answer}
    (read : ReadAs L level message text segments leaves r text' segments' leaves') (yes : r.number ≡ 0) where
  -- an OBR of an ORA under its AC
  pub order-under-cover : r.card.context ≡ 3 → (i : ℕ) → i < r.card.segments → kind_in segments' i ≡ 5 → owner_kind_in segments' i ≡ 4 → ⊥
  order-under-cover context i h kind under = omega (arith, under, ((belonging L lawful).order message read yes context i h kind).of_kind)

  -- an ACT under the REG before it
  pub act_under_reg : r.card.context ≡ 7 → (i : ℕ) → i < r.card.segments → kind_in segments' i ≡ 9 → owner_kind_in segments' i ≡ 8 → ⊥
  act_under_reg context i h kind under = omega (arith, under, ((belonging L lawful).invoice-line message read yes context i h (inr kind)).of_kind)

  -- in ORM, ORU, ADM, REG or ERR another owner than by the former levels
  pub moved_elsewhere : {text₁ segments₁ leaves₁ : List ℕ} {s : Answer} → ReadAs L former_level message text segments leaves s text₁ segments₁ leaves₁
      → (r.card.context ≡ 3 → ⊥) → (r.card.context ≡ 7 → ⊥) → (i : ℕ) → i < r.card.segments → (owner_in segments' i ≡ owner_in segments₁ i → ⊥) → ⊥
  unfolding moved
  moved_elsewhere former no-ORA no-FAC i h other =
      let stays : moved r.card.context (kind_in segments' i) ≡ false
      = rw (ne_eqb r.card.context 3 no-ORA, ne_eqb r.card.context 7 no-FAC, moved) in
      other (((belonging L lawful).rows_alike message read former yes i h).owner stays)

-- a writer that takes such a table
module _ (L : Limits) (lawful : Lawful L) (table : Lent) {output output' : List ℕ} {r : Written}
    (wrote : WroteAs L level table output r output') (room : L.bytes ≤ length output) (i : ℕ) (h : i < table.card.segments) where
  other-kind : (o : ℕ) → owner_kind table.card.context (kind_in table.segment_rows i) ≡ suc o → (owner_kind_in table.segment_rows i ≡ suc o → ⊥)
      → r.number ≡ 0 → ⊥
  other-kind o named other taken =
      omega (arith, taken, (belonging L lawful).not_nearest table wrote room i h (omega (arith, named)) (λ near. other (near.of_kind ∙ named)))

  pub writes-order-under-cover : table.card.context ≡ 3 → kind_in table.segment_rows i ≡ 5 → owner_kind_in table.segment_rows i ≡ 4
      → r.number ≡ 0 → ⊥
  unfolding owner_kind owner_kinds
  writes-order-under-cover context kind under = other-kind 1 (ap₂ owner_kind context kind) (λ e. omega (arith, e, under))

  pub writes_act_under_reg : table.card.context ≡ 7 → kind_in table.segment_rows i ≡ 9 → owner_kind_in table.segment_rows i ≡ 8
      → r.number ≡ 0 → ⊥
  unfolding owner_kind owner_kinds
  writes_act_under_reg context kind under = other-kind 6 (ap₂ owner_kind context kind) (λ e. omega (arith, e, under))
