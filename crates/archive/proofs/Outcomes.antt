-- The outcomes of widening (rules B1, B2), and when each comes.
-- Assumes nothing.
use mathlib.Core.Bool.{Bool, true, false, ◌||◌}
use mathlib.Core.List.{List}
use mathlib.Core.Logic.{◌⊎◌, inl, inr}
use mathlib.Core.Path.{◌≡◌, refl, subst⁻¹}
use Prim.Native.Nat.{ℕ, ◌*◌, ◌<◌, ◌≤◌}
use borrow.Author.Tests.{lt-ltb, le-ltb}
use Rattle.laws.proofs.Tests.{Tested, passed, failed, tested, never_both}
use Rattle.form.specs.declared.limits.Limits.{Limits}
use Rattle.form.specs.Limits.{Lawful}
use Rattle.form.specs.Numbers.{short_buffer}
use Rattle.order.specs.Owners.{level, former_level}
use Rattle.table.specs.Lent.{Lent, counted}
use Rattle.table.specs.Rows.{segment_row_size, leaf_row_size}
use Rattle.table.specs.Reading.{Room, Outcome, refused, refuse_if, short, reading}
use Rattle.table.specs.inner.Back.{written}
use Rattle.read.specs.declared.Answer.{Answer}
use Rattle.read.specs.Answering.{answer_of, text_put, segments_put, leaves_put, Gives}
use Rattle.write.specs.inner.ReadsBack.{is_table}
use Rattle.write.specs.Writing.{ReadTo}
use Rattle.write.proofs.Contract.{table_exactly}
use Rattle.archive.specs.Refusals.{never_read}
use Rattle.archive.specs.Widening.{ever_read, widening}

-- the new buffers, one after the other
module _ (L : Limits) (room : Room) where
  pub short-text : room.text < L.bytes → short L room ≡ true
  unfolding short
  short-text h = rw (lt-ltb room.text L.bytes h)

  module _ (text : L.bytes ≤ room.text) where
    pub short-segments : room.segment_rows < L.segments * segment_row_size → short L room ≡ true
    unfolding short
    short-segments h = rw (le-ltb room.text L.bytes text, lt-ltb room.segment_rows (L.segments * segment_row_size) h)

    module _ (segments : L.segments * segment_row_size ≤ room.segment_rows) where
      pub short-leaves : room.leaf_rows < L.leaves * leaf_row_size → short L room ≡ true
      unfolding short
      short-leaves h =
          rw (
            le-ltb room.text L.bytes text,
            le-ltb room.segment_rows (L.segments * segment_row_size) segments,
            lt-ltb room.leaf_rows (L.leaves * leaf_row_size) h,
          )

      pub none-short : L.leaves * leaf_row_size ≤ room.leaf_rows → short L room ≡ false
      unfolding short
      none-short leaves =
          rw (
            le-ltb room.text L.bytes text,
            le-ltb room.segment_rows (L.segments * segment_row_size) segments,
            le-ltb room.leaf_rows (L.leaves * leaf_row_size) leaves,
          )

module _ (L : Limits) (room : Room) (l : Lent) where
  pub widening-short : short L room ≡ true → widening L room l ≡ refused short_buffer 0
  unfolding widening refuse_if
  widening-short h = rw (h, widening)

  module _ (roomy : short L room ≡ false) where
    pub widening-never : ever_read L l ≡ false → widening L room l ≡ refused never_read 0
    unfolding widening refuse_if
    widening-never h = rw (roomy, h, widening)

    pub widening-read : ever_read L l ≡ true → widening L room l ≡ reading L level room (written L (counted l))
    unfolding widening refuse_if
    widening-read h = rw (roomy, h, widening)

-- a reader gave a table exactly where some message reads to it by either levels
module _ (L : Limits) (lawful : Lawful L) (l : Lent) where
  either : (a b : Bool) → (a || b) ≡ true → (a ≡ true) ⊎ (b ≡ true)
  either true b e = inl refl
  either false b e = inr e

  neither : (a b : Bool) → (a || b) ≡ false → (a ≡ false) × (b ≡ false)
  neither true b e = absurd (never_both refl e)
  neither false b e = (refl, e)

  pub given_by : ever_read L l ≡ true → ReadTo L level (counted l) ⊎ ReadTo L former_level (counted l)
  unfolding ever_read
  given_by e = go (either (is_table L level l) (is_table L former_level l) e)
    where
      go : (is_table L level l ≡ true) ⊎ (is_table L former_level l ≡ true) → ReadTo L level (counted l) ⊎ ReadTo L former_level (counted l)
      go (inl h) = inl ((table_exactly L lawful level l).0 h)
      go (inr h) = inr ((table_exactly L lawful former_level l).0 h)

  pub never-given : ever_read L l ≡ false → (ReadTo L level (counted l) → ⊥) × (ReadTo L former_level (counted l) → ⊥)
  unfolding ever_read
  never-given e =
      let none = neither (is_table L level l) (is_table L former_level l) e in (
        λ to. never_both ((table_exactly L lawful level l).1 to) none.0,
        λ to. never_both ((table_exactly L lawful former_level l).1 to) none.1,
      )

  pub given-once : ReadTo L level (counted l) ⊎ ReadTo L former_level (counted l) → ever_read L l ≡ true
  given-once to = go (tested (ever_read L l)) to
    where
      go : Tested (ever_read L l) → ReadTo L level (counted l) ⊎ ReadTo L former_level (counted l) → ever_read L l ≡ true
      go (passed e) g = e
      go (failed e) (inl g) = absurd ((never-given e).0 g)
      go (failed e) (inr g) = absurd ((never-given e).1 g)

-- a refusal, answered and with the buffers as they were
pub refusal_gives : {o : Outcome} {n : ℕ} {text segments leaves : List ℕ} {r : Answer} → o ≡ refused n 0 → r ≡ answer_of (refused n 0)
    → Gives o text segments leaves r text segments leaves
unfolding answer_of text_put segments_put leaves_put
refusal_gives {n = n} {text} {segments} {leaves} {r} e told =
    subst⁻¹ (λ (p : Outcome). Gives p text segments leaves r text segments leaves) e
    (record { answer = told; text_area = refl; segment_rows = refl; leaf_rows = refl })

-- the three outcomes
pub data Widening (L : Limits) (room : Room) (l : Lent) : Type 0 where
  short-room : short L room ≡ true → widening L room l ≡ refused short_buffer 0 → Widening L room l
  never : short L room ≡ false → ever_read L l ≡ false → widening L room l ≡ refused never_read 0 → Widening L room l
  again : short L room ≡ false → ever_read L l ≡ true → widening L room l ≡ reading L level room (written L (counted l)) → Widening L room l

pub outcome : (L : Limits) (room : Room) (l : Lent) → Widening L room l
outcome L room l = go (tested (short L room)) (tested (ever_read L l))
  where
    go : Tested (short L room) → Tested (ever_read L l) → Widening L room l
    go (passed s) e = short-room s (widening-short L room l s)
    go (failed s) (failed e) = never s e (widening-never L room l s e)
    go (failed s) (passed e) = again s e (widening-read L room l s e)
