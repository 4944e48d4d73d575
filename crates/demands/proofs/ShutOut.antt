-- Writers that the contract shuts out: whatever the table, and on the table of K1.
-- Assumes nothing.
use mathlib.Core.Bool.{false}
use mathlib.Core.List.{List}
use mathlib.Core.Path.{◌≡◌, refl, sym, ap, ◌∙◌}
use Prim.Native.Nat.{ℕ, ◌≤◌, ◌<◌}
use native.Mathlib.Omega.{arith}
use lib.Dec.{ltb}
use borrow.Author.Tests.{le-ltb}
use lib.ListN.{length, get_or}
use lib.Seq.{sets}
use Rattle.laws.specs.Lists.{concat}
use Rattle.laws.specs.Tables.{values}
use Rattle.laws.specs.Texts.{bytes}
use Rattle.form.specs.declared.limits.Limits.{Limits}
use Rattle.form.specs.Header.{splitting}
use Rattle.form.specs.declared.forms.Form.{Form}
use Rattle.form.specs.declared.forms.Form.TheVariants.{Small, Large}
use Rattle.form.specs.Forms.{limits_of}
use Rattle.form.specs.Limits.{Lawful, line_count, rounded_up}
use Rattle.form.proofs.TwoForms.{form_lawful, small_least}
use Rattle.line.specs.Cutting.{pieces, addenda, cut, cuts, unlines}
use Rattle.order.specs.Owners.{level}
use Rattle.table.specs.Leaves.{onto, split}
use Rattle.table.specs.inner.Back.{leaf_at, leaves_of, separators_at, between, unsplit_from, unsplit, segments_of, lines_of, written}
use Rattle.table.specs.Examples.{filed, k1}
use Rattle.table.specs.Lent.{Lent, counted}
use Rattle.table.specs.Rows.{Table}
use Rattle.table.specs.Reading.{accepted, reading, stated}
use Rattle.table.proofs.Room.{front_at}
use Rattle.read.proofs.ShutOut.{K1, k1-read}
use Rattle.write.specs.declared.Written.{Written}
use Rattle.write.specs.Writing.{ReadTo, Writing, refuses, writes, writing}
use Rattle.write.specs.Answer.{answer, output_after, written_size}
use Rattle.write.proofs.LentTables.{table-written-out, writes_back}
use Rattle.write.proofs.Contract.{table_exactly}

module _ (L : Limits) (lawful : Lawful L) (levels : ℕ → ℕ → ℕ) (l : Lent) (output : ℕ) where
  -- one that refuses always
  pub refuses_always : ltb output L.bytes ≡ false → ReadTo L levels (counted l) → (n : ℕ) → writing L levels l output ≡ refuses n → ⊥
  refuses_always h to n e =
      let w = table-written-out L lawful levels l output h ((table_exactly L lawful levels l).1 to) in
      let z : ◌≡◌ {A = ℕ} 0 1 = cc in omega arith

  -- one that drops fields, as empty ones at a segment's end: what it writes reads to a table of fewer leaves
  pub drops_fields : (bytes : List ℕ) (lines : ℕ) (t : Table) → reading L levels (stated L) bytes ≡ accepted t
      → t.card.leaves < l.card.leaves → writing L levels l output ≡ writes bytes lines → ⊥
  unfolding counted
  drops_fields bytes lines t read fewer e =
      let w = (writes_back L lawful levels l output bytes lines e).reads in
      let same : t ≡ counted l = cc in
      let z : t.card.leaves ≡ l.card.leaves = ap (λ (u : Table). u.card.leaves) same in
      omega (arith, z, fewer)

-- K1's table, lent in buffers of just its entries, and what is written for it
unfoldable pub K1_lent : Lent
K1_lent = record { card = k1.card; segment_rows = k1.segment_rows; leaf_rows = k1.leaf_rows; text = k1.text }

k1-counted : counted K1_lent ≡ k1
unfolding K1_lent counted k1 filed concat bytes
k1-counted = refl

-- what is written of it is K1 itself, in five lines, in either form
k1-message : (f : Form) → written (limits_of f) k1 ≡ K1
unfolding
    K1 k1 filed concat bytes values line_count rounded_up splitting pieces addenda cut cuts unlines onto split leaf_at leaves_of separators_at between unsplit_from unsplit
    segments_of lines_of written limits_of
k1-message Small = refl
k1-message Large = refl

k1-lines : (f : Form) → length (lines_of (limits_of f) k1) ≡ 5
unfolding bytes k1 filed concat values line_count rounded_up splitting pieces addenda cut cuts unlines onto split leaf_at leaves_of separators_at between unsplit_from unsplit segments_of lines_of limits_of
k1-lines Small = refl
k1-lines Large = refl

module _ (f : Form) where
  k1-to : ReadTo (limits_of f) level (counted K1_lent)
  k1-to = (K1, k1-read f ∙ ap accepted (sym k1-counted))

  k1-written : writing (limits_of f) level K1_lent (limits_of f).bytes ≡ writes (written (limits_of f) k1) (length (lines_of (limits_of f) k1))
  k1-written =
      table-written-out (limits_of f) (form_lawful f) level K1_lent (limits_of f).bytes (le-ltb (limits_of f).bytes (limits_of f).bytes (omega arith))
      ((table_exactly (limits_of f) (form_lawful f) level K1_lent).1 k1-to)
      ∙ ap (λ (t : Table). writes (written (limits_of f) t) (length (lines_of (limits_of f) t))) k1-counted

  -- a writer that stores nothing leaves an output of zeros as it was
  pub stores_nothing : (output : List ℕ) → (limits_of f).bytes ≤ length output → get_or output 0 0 ≡ 0
      → output_after output (writing (limits_of f) level K1_lent (limits_of f).bytes) ≡ output → ⊥
  unfolding output_after K1 bytes
  stores_nothing output room zero e =
      let after = ap (output_after output) k1-written ∙ ap (sets output 0) (k1-message f) in
      let first = front_at output K1 0 (omega (arith, room, (small_least f).bytes)) (omega arith) in
      let z : ◌≡◌ {A = ℕ} 72 0 = sym first ∙ ap (λ (s : List ℕ). get_or s 0 0) (sym after ∙ e) ∙ zero in
      omega arith

  -- a count of the writer's bytes that leaves the separators and the CRs out, or that answers 0 always
  module _ (r : ℕ) (h : r ≡ written_size (limits_of f) level K1_lent) where
    size_65 : r ≡ 65
    unfolding written_size answer K1 bytes
    size_65 = h ∙ ap (λ (w : Writing). (answer w).bytes) k1-written ∙ ap length (k1-message f)

    pub counts-text-only : r ≡ k1.card.text → ⊥
    unfolding k1 filed
    counts-text-only e = omega (arith, size_65, e)

    pub counts-nothing : r ≡ 0 → ⊥
    counts-nothing e = omega (arith, size_65, e)

  -- an answer whose lines or bytes are one off
  module _ (r : Written) (h : r ≡ answer (writing (limits_of f) level K1_lent (limits_of f).bytes)) where
    pub counts_a_line_more : r.lines ≡ 6 → ⊥
    unfolding answer
    counts_a_line_more e =
        let lines : r.lines ≡ 5 = ap (λ (w : Written). w.lines) h ∙ ap (λ (w : Writing). (answer w).lines) k1-written ∙ k1-lines f in
        omega (arith, lines, e)

    pub counts_a_byte_more : r.bytes ≡ 66 → ⊥
    unfolding answer K1 bytes
    counts_a_byte_more e =
        let size : r.bytes ≡ 65
        = ap (λ (w : Written). w.bytes) h ∙ ap (λ (w : Writing). (answer w).bytes) k1-written ∙ ap length (k1-message f) in
        omega (arith, size, e)
