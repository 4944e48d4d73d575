-- Who belongs to whom, proved: of what the reader leaves, of two readings by two levels, and of a table that is lent to the writer.
-- Assumes nothing.
use mathlib.Core.List.{List}
use mathlib.Core.Logic.{◌⊎◌, ⊎_elim}
use mathlib.Core.Path.{◌≡◌, refl, sym, ap, ap₂, ◌∙◌, subst, subst⁻¹}
use Prim.Native.Nat.{ℕ, suc, ◌≤◌, ◌<◌}
use native.Mathlib.Omega.{arith}
use lib.ListN.{length}
use lib.Seq.{sets}
use Rattle.form.specs.declared.limits.Limits.{Limits}
use Rattle.form.specs.declared.separators.Separators.{Separators}
use Rattle.form.specs.declared.forms.Form.{Form}
use Rattle.form.specs.Forms.{limits_of}
use Rattle.form.specs.Limits.{Lawful}
use Rattle.form.proofs.TwoForms.{form_lawful}
use Rattle.order.specs.Owners.{level, former_level}
use Rattle.order.specs.OwnerKinds.{owner_kinds, owner_kind}
use Rattle.table.specs.Rows.{kind_in, owner_in, context_in, table_of, RowOf}
use Rattle.table.specs.OwnedRows.{NearestRow}
use Rattle.table.specs.Reading.{room_of}
use Rattle.table.proofs.AnyLevels.{levels_unseen}
use Rattle.table.proofs.OwnedRows.{nearest-row, unnamed-row, same-owner}
use Rattle.read.specs.declared.Answer.{Answer}
use Rattle.read.specs.Answering.{answer_of, text_put, leaves_put, ReadAs}
use Rattle.read.specs.Acceptance.{Read}
use Rattle.read.specs.Sound.{segments_in}
use Rattle.read.proofs.Acceptance.{accepted-read}
use Rattle.read.proofs.Contract.{accepted-table}
use Rattle.read.proofs.OwnersColumn.{segments-count, owners-column}
use Rattle.write.proofs.Contract.{none_exactly}
use Rattle.tested.proofs.LentOwners.{owner-lent, nearest-lent}
use Rattle.tested.proofs.PassedTables.{read_so}
use Rattle.demands.specs.Belonging.{SameButMoved, Belonging}

-- what the reader leaves of an accepted message, by any levels
module _ {L : Limits} {levels : ℕ → ℕ → ℕ} {message : List ℕ} {ps : Separators} {text segments leaves text' segments' leaves' : List ℕ} {r : Answer}
    (read : Read L levels message ps text segments leaves r text' segments' leaves') where
  context-read : r.card.context ≡ context_in ps (segments_in L ps message)
  unfolding answer_of table_of
  context-read = ap (λ (a : Answer). a.card.context) read.given.answer

  rows-read : (j : ℕ) → j < length (segments_in L ps message) → RowOf levels ps (segments_in L ps message) segments' j
  rows-read j h = owners-column read j (omega (arith, segments-count read))

-- by the levels in force
module _ (L : Limits) (message : List ℕ) {text segments leaves text' segments' leaves' : List ℕ} {r : Answer}
    (read : ReadAs L level message text segments leaves r text' segments' leaves') (yes : r.number ≡ 0) where
  read-nearest : (i : ℕ) → i < r.card.segments → 1 ≤ owner_kind r.card.context (kind_in segments' i)
      → NearestRow (owner_kind r.card.context (kind_in segments' i)) segments' i
  read-nearest i h owned =
      let a = accepted-table L level message read yes in
      let segs = segments_in L a.0 message in
      let context = context-read a.1 in
      subst⁻¹ (λ (c : ℕ). NearestRow (owner_kind c (kind_in segments' i)) segments' i) context
      (nearest-row a.0 segs a.1.derived (rows-read a.1) i (omega (arith, segments-count a.1))
      (subst (λ (c : ℕ). 1 ≤ owner_kind c (kind_in segments' i)) context owned))

  read-unnamed : (i : ℕ) → i < r.card.segments → owner_kind r.card.context (kind_in segments' i) ≡ 0
      → (kind_in segments' i ≡ 12) ⊎ (owner_in segments' i ≡ 0)
  read-unnamed i h none =
      let a = accepted-table L level message read yes in
      let row-there : i < length (segments_in L a.0 message) = omega (arith, segments-count a.1) in
      unnamed-row a.0 (segments_in L a.0 message) a.1.derived i row-there (rows-read a.1 i row-there)
      (ap (λ (c : ℕ). owner_kind c (kind_in segments' i)) (sym (context-read a.1)) ∙ none)

  read_named : (c k o : ℕ) → owner_kind c k ≡ suc o → r.card.context ≡ c → (i : ℕ) → i < r.card.segments → kind_in segments' i ≡ k
      → NearestRow (suc o) segments' i
  read_named c k o named context i h kind =
      let here = ap₂ owner_kind context kind ∙ named in
      subst (λ (n : ℕ). NearestRow n segments' i) here (read-nearest i h (omega (arith, here)))

-- by two levels
module _ (L : Limits) (levels others : ℕ → ℕ → ℕ) (message : List ℕ) {text segments leaves text₁ segments₁ leaves₁ text₂ segments₂ leaves₂ : List ℕ} {r s : Answer}
    (one : ReadAs L levels message text segments leaves r text₁ segments₁ leaves₁)
    (other : ReadAs L others message text segments leaves s text₂ segments₂ leaves₂) where
  read_alike : (r ≡ s) × (text₁ ≡ text₂) × (leaves₁ ≡ leaves₂)
  unfolding answer_of text_put leaves_put table_of
  read_alike =
      let room = room_of text segments leaves in (
        one.answer ∙ levels_unseen answer_of L levels others (λ ps segs. refl) room message ∙ sym other.answer,
        one.text_area ∙ ap (sets text 0) (levels_unseen text_put L levels others (λ ps segs. refl) room message) ∙ sym other.text_area,
        one.leaf_rows ∙ ap (sets leaves 0) (levels_unseen leaves_put L levels others (λ ps segs. refl) room message) ∙ sym other.leaf_rows,
      )

module _ (L : Limits) (message : List ℕ) {text segments leaves text₁ segments₁ leaves₁ text₂ segments₂ leaves₂ : List ℕ} {r s : Answer}
    (one : ReadAs L level message text segments leaves r text₁ segments₁ leaves₁)
    (former : ReadAs L former_level message text segments leaves s text₂ segments₂ leaves₂) (yes : r.number ≡ 0) where
  rows_same : (i : ℕ) → i < r.card.segments → SameButMoved r.card.context segments₁ segments₂ i
  rows_same i h =
      let a = accepted-table L level message one yes in
      let ps = a.0 in
      let segs = segments_in L ps message in
      let yes-former : s.number ≡ 0 = ap (λ (x : Answer). x.number) (sym (read_alike L level former_level message one former).0) ∙ yes in
      let b = accepted-read L former_level message ps a.1.sound.sound.header former yes-former in
      let inside : i < length segs = omega (arith, segments-count a.1) in
      let row = rows-read a.1 i inside in
      let formerRow = rows-read b i inside in
      record {
        kind = row.kind_is ∙ sym formerRow.kind_is;
        owner = λ stays.
            same-owner ps segs a.1.derived i inside row formerRow (rw (← context-read a.1) stays);
        first = row.first_is ∙ sym formerRow.first_is;
        count = row.count_is ∙ sym formerRow.count_is;
      }

module _ (L : Limits) (lawful : Lawful L) where
  pub belonging : Belonging L
  unfolding owner_kind owner_kinds
  belonging =
      record {
        order = λ message read yes. read_named L message read yes 3 5 1 refl;
        invoice = λ message read yes. read_named L message read yes 7 7 1 refl;
        invoice-line = λ message read yes context i h.
            ⊎_elim (read_named L message read yes 7 8 6 refl context i h) (read_named L message read yes 7 9 6 refl context i h);
        any-kind = read-nearest L;
        unnamed = read-unnamed L;
        accepted_alike = read_alike L;
        rows_alike = rows_same L;
        other-owner = λ table wrote room i h other.
            (none_exactly L lawful level table wrote).1 (room, λ to. other (owner-lent table (read_so L level table to).segments i h));
        not_nearest = λ table wrote room i h owned other.
            (none_exactly L lawful level table wrote).1 (room, λ to. other (nearest-lent table (read_so L level table to).segments i h owned));
      }

-- in each form
pub form_belonging : (f : Form) → Belonging (limits_of f)
form_belonging f = belonging (limits_of f) (form_lawful f)
