-- Widenings that the contract shuts out: one that keeps the old owners, takes a mixture of both, refuses older tables, refuses all, or stores before it knows.
-- Assumes nothing.
use mathlib.Core.Bool.{false}
use mathlib.Core.List.{List}
use mathlib.Core.Logic.{inl, inr}
use mathlib.Core.Path.{◌≡◌, refl, ap, ◌∙◌}
use Prim.Native.Nat.{ℕ, ◌+◌, ◌*◌, ◌<◌}
use native.Mathlib.Omega.{arith}
use lib.Dec.{lit≤}
use lib.Seq.{sets}
use Rattle.laws.specs.Lists.{concat}
use Rattle.form.specs.declared.forms.Form.TheVariants.{Small}
use Rattle.form.specs.Forms.{small_form, limits_of}
use Rattle.order.specs.Owners.{level, former_level}
use Rattle.table.specs.Lent.{Lent, lent, counted}
use Rattle.table.specs.Reading.{Outcome, room_of, short}
use Rattle.table.specs.Rows.{segment_row_size, owner_in}
use Rattle.table.specs.Examples.{filed, k11}
use Rattle.table.proofs.Accepting.{any-room}
use Rattle.table.proofs.Room.{front_at, roomy-segments}
use Rattle.read.specs.declared.Answer.{Answer}
use Rattle.read.specs.Answering.{segments_put, ReadAs}
use Rattle.read.proofs.ShutOut.{K11, k11-read}
use Rattle.write.specs.Writing.{ReadTo}
use Rattle.archive.specs.Promises.{owner_by}
use Rattle.archive.specs.Refusals.{never_read}
use Rattle.archive.specs.Widening.{WidenedAs}
use Rattle.archive.proofs.Promises.{small_widens}

-- of K11, an order behind two covers
module _ {text segments leaves text₁ segments₁ leaves₁ : List ℕ} {r : Answer}
    (once : ReadAs small_form former_level K11 text segments leaves r text₁ segments₁ leaves₁) (zero : r.number ≡ 0)
    {newText newSegments newLeaves text₂ segments₂ leaves₂ : List ℕ} {s : Answer} (roomy : short small_form (room_of newText newSegments newLeaves) ≡ false)
    (w : WidenedAs small_form (lent r.card segments₁ leaves₁ text₁) newText newSegments newLeaves s text₂ segments₂ leaves₂) where
  -- one that keeps the old owners: K11's order was filed under row 5, its last cover, and is under row 2 now, its patient
  pub keeps_the_old_owner : owner_in segments₂ 5 ≡ 5 → ⊥
  unfolding segments_put k11 filed concat limits_of
  keeps_the_old_owner e =
      let now = small_widens.reads_now former_level (inr refl) K11 once zero w in
      let is : owner_in segments₂ 5 ≡ 2 =
      ap (λ (l : List ℕ). owner_in l 5)
      (now.segment_rows ∙ ap (λ (o : Outcome). sets newSegments 0 (segments_put o)) (any-room small_form level (room_of newText newSegments newLeaves) K11 roomy ∙ k11-read Small))
      ∙ front_at newSegments k11.segment_rows (5 * segment_row_size + 1)
      (omega (arith, roomy-segments small_form (room_of newText newSegments newLeaves) roomy)) (lit≤ tt) in
      omega (arith, is, e)

-- of any table
module _ (table : Lent) {text segments leaves text' segments' leaves' : List ℕ} {r : Answer} (roomy : short small_form (room_of text segments leaves) ≡ false)
    (w : WidenedAs small_form table text segments leaves r text' segments' leaves') where
  -- one that takes a mixture of both rules
  pub takes_a_mixture : (i j : ℕ) → i < table.card.segments → j < table.card.segments
      → (owner_in table.segment_rows i ≡ owner_by level table i → ⊥) → (owner_in table.segment_rows j ≡ owner_by former_level table j → ⊥)
      → r.number ≡ 0 → ⊥
  takes_a_mixture i j h g a b e = omega (arith, e, small_widens.one_rule table w roomy i j h g a b)

  -- one that refuses older tables, or all
  pub refuses_older_tables : ReadTo small_form former_level (counted table) → (r.number ≡ 0 → ⊥) → ⊥
  refuses_older_tables to other = other ((small_widens.widened_exactly table w).1 (roomy, inr to))

  pub refuses_always : ReadTo small_form level (counted table) → (r.number ≡ 0 → ⊥) → ⊥
  refuses_always to other = other ((small_widens.widened_exactly table w).1 (roomy, inl to))

  -- one that stores before it knows
  pub stores_first : r.number ≡ never_read → (segments' ≡ segments → ⊥) → ⊥
  stores_first e changed = changed (small_widens.refused-widening table w (λ zero. omega (arith, e, zero))).1
