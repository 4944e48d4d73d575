-- The lent buffers: those that are not short have the stated sizes, and what is stored at the front of one is found there.
-- Assumes nothing.
use mathlib.Core.Bool.{Bool, true, false, ◌||◌}
use mathlib.Core.List.{List}
use mathlib.Core.Path.{◌≡◌, refl, ap, ◌∙◌}
use Prim.Native.Nat.{ℕ, ◌+◌, ◌*◌, ◌≤◌, ◌<◌}
use native.Mathlib.Omega.{arith}
use lib.Dec.{ltb}
use lib.ListN.{length, drop, get_or, get_or-append}
use lib.Seq.{sets, sets-eq}
use borrow.Author.Tests.{ltb-false, le-ltb}
use Rattle.form.specs.declared.limits.Limits.{Limits}
use Rattle.table.specs.Rows.{segment_row_size, leaf_row_size}
use Rattle.table.specs.Reading.{Room, short, stated}

pub front_at : (buffer front : List ℕ) (j : ℕ) → length front ≤ length buffer → j < length front → get_or (sets buffer 0 front) j 0 ≡ get_or front j 0
front_at buffer front j fits h =
    ap (λ (s : List ℕ). get_or s j 0) (sets-eq front buffer 0 (omega arith))
    ∙ get_or-append front (drop (0 + length front) buffer) 0 j h

-- buffers of the stated sizes are long enough
pub stated-roomy : (L : Limits) → short L (stated L) ≡ false
unfolding short stated
stated-roomy L =
    rw (
      le-ltb L.bytes L.bytes (omega arith),
      le-ltb (L.segments * segment_row_size) (L.segments * segment_row_size) (omega arith),
      le-ltb (L.leaves * leaf_row_size) (L.leaves * leaf_row_size) (omega arith),
    )

none_of_three : (a b c : Bool) → (a || b || c) ≡ false → (a ≡ false) × (b ≡ false) × (c ≡ false)
none_of_three true b c e = let z : ◌≡◌ {A = ℕ} 0 1 = cc in absurd (omega arith)
none_of_three false true c e = let z : ◌≡◌ {A = ℕ} 0 1 = cc in absurd (omega arith)
none_of_three false false true e = let z : ◌≡◌ {A = ℕ} 0 1 = cc in absurd (omega arith)
none_of_three false false false e = (refl, refl, refl)

module _ (L : Limits) (room : Room) (roomy : short L room ≡ false) where
  sizes : (ltb room.text L.bytes ≡ false) × (ltb room.segment_rows (L.segments * segment_row_size) ≡ false)
      × (ltb room.leaf_rows (L.leaves * leaf_row_size) ≡ false)
  unfolding short
  sizes =
      none_of_three (ltb room.text L.bytes) (ltb room.segment_rows (L.segments * segment_row_size))
      (ltb room.leaf_rows (L.leaves * leaf_row_size)) roomy

  pub roomy-text : L.bytes ≤ room.text
  roomy-text = ltb-false room.text L.bytes sizes.0

  pub roomy-segments : L.segments * segment_row_size ≤ room.segment_rows
  roomy-segments = ltb-false room.segment_rows (L.segments * segment_row_size) sizes.1

  pub roomy-leaves : L.leaves * leaf_row_size ≤ room.leaf_rows
  roomy-leaves = ltb-false room.leaf_rows (L.leaves * leaf_row_size) sizes.2
