-- The table test of an archived table, by the rows that its card counts, wherever they lie (rules T7, B2).
-- Assumes nothing.
use mathlib.Core.Bool.{Bool, true, false, ◌&&◌, ◌||◌}
use mathlib.Core.List.{List}
use mathlib.Core.Path.{◌≡◌, refl, sym, ap, ap₂, ◌∙◌}
use Prim.Native.Nat.{ℕ, ◌*◌, ◌≤◌, ◌<◌}
use native.Mathlib.Omega.{arith}
use lib.Dec.{leb}
use lib.ListN.{length, take}
use lib.Seq.{sets, length-sets, length-take-le, take-take, take-length}
use borrow.Author.Tests.{le-leb, lt-leb}
use mathlib.Core.Logic.{◌⊎◌, inl, inr}
use Rattle.laws.proofs.Cases.{less_or_not}
use Rattle.laws.proofs.Stores.{front_taken}
use Rattle.form.specs.declared.limits.Limits.{Limits}
use Rattle.order.specs.Owners.{level, former_level}
use Rattle.table.specs.declared.Card.{Card}
use Rattle.table.specs.Rows.{Table, segment_row_size, leaf_row_size}
use Rattle.table.specs.Lent.{Lent, lent, within_limits, counts_fit, within_buffers, counted}
use Rattle.table.proofs.Lent.{few-segments, few-leaves}
use Rattle.write.specs.inner.ReadsBack.{reads_back, is_table}
use Rattle.write.proofs.LentTables.{Within, within_buffers_lem}
use Rattle.write.proofs.LentTest.{limits_refuse, buffers_refuse}
use Rattle.write.proofs.SameTables.{same_parts}
use Rattle.archive.specs.Widening.{ever_read}
use Rattle.archive.specs.inner.Asked.{JustCounted}

-- as many rows as have room in the stated buffers are no more than the limits allow
segments-allowed : (a b : ℕ) → leb (a * segment_row_size) (b * segment_row_size) ≡ leb a b
segments-allowed a b = go (less_or_not b a)
  where
    go : (b < a) ⊎ (a ≤ b) → leb (a * segment_row_size) (b * segment_row_size) ≡ leb a b
    go (inl h) = lt-leb (a * segment_row_size) (b * segment_row_size) (omega arith) ∙ sym (lt-leb a b h)
    go (inr h) = le-leb (a * segment_row_size) (b * segment_row_size) (omega arith) ∙ sym (le-leb a b h)

leaves-allowed : (a b : ℕ) → leb (a * leaf_row_size) (b * leaf_row_size) ≡ leb a b
leaves-allowed a b = go (less_or_not b a)
  where
    go : (b < a) ⊎ (a ≤ b) → leb (a * leaf_row_size) (b * leaf_row_size) ≡ leb a b
    go (inl h) = lt-leb (a * leaf_row_size) (b * leaf_row_size) (omega arith) ∙ sym (lt-leb a b h)
    go (inr h) = le-leb (a * leaf_row_size) (b * leaf_row_size) (omega arith) ∙ sym (le-leb a b h)

pub counts-allowed : (L : Limits) (c : Card) → counts_fit c (L.segments * segment_row_size) (L.leaves * leaf_row_size) L.bytes ≡ within_limits L c
unfolding counts_fit within_limits
counts-allowed L c =
    ap₂ (λ (a b : Bool). a && b && leb c.text L.bytes) (segments-allowed c.segments L.segments) (leaves-allowed c.leaves L.leaves)

-- no reader gave a table whose card counts more than the limits allow, or than its buffers hold
module _ (L : Limits) (l : Lent) where
  pub never_past_limits : within_limits L l.card ≡ false → false ≡ ever_read L l
  unfolding ever_read
  never_past_limits e = ap₂ ◌||◌ (limits_refuse L level l e) (limits_refuse L former_level l e)

  pub never_past_buffers : within_buffers l ≡ false → false ≡ ever_read L l
  unfolding ever_read
  never_past_buffers e = ap₂ ◌||◌ (buffers_refuse L level l e) (buffers_refuse L former_level l e)

-- two tables of one card, which counts the same entries in both, are both tables or both none
module _ (L : Limits) (l k : Lent) (card : l.card ≡ k.card) (here : within_buffers l ≡ true) (there : within_buffers k ≡ true)
    (same : counted l ≡ counted k) where
  same_test : (levels : ℕ → ℕ → ℕ) → is_table L levels l ≡ is_table L levels k
  unfolding is_table
  same_test levels =
      ap₂ (λ (a : Bool) (t : Table). a && within_buffers l && reads_back L levels t) (ap (within_limits L) card) same
      ∙ ap (λ (b : Bool). within_limits L k.card && b && reads_back L levels (counted k)) (here ∙ sym there)

  pub read_alike : ever_read L l ≡ ever_read L k
  unfolding ever_read
  read_alike = ap₂ ◌||◌ (same_test level) (same_test former_level)

-- the counted rows by themselves
module _ (L : Limits) (card : Card) (segments leaves text : List ℕ) (within : within_buffers (lent card segments leaves text) ≡ true) where
  abbrev size : ℕ
  size = card.segments * segment_row_size

  abbrev many : ℕ
  many = card.leaves * leaf_row_size

  fits : Within (lent card segments leaves text)
  fits = (within_buffers_lem (lent card segments leaves text)).0 within

  pub just_counted : within_limits L card ≡ true → JustCounted L (lent card (take size segments) (take many leaves) text)
  just_counted few =
      record {
        segment_rows = length-take-le size segments fits.segment_rows;
        leaf_rows = length-take-le many leaves fits.leaf_rows;
        text = fits.text;
        few = few;
      }

  pub counted-read : ever_read L (lent card (take size segments) (take many leaves) text) ≡ ever_read L (lent card segments leaves text)
  unfolding counted
  counted-read =
      let front = lent card (take size segments) (take many leaves) text in
      let whole = lent card segments leaves text in
      read_alike L front whole refl
      ((within_buffers_lem front).1
      (record {
        segment_rows = omega (arith, length-take-le size segments fits.segment_rows);
        leaf_rows = omega (arith, length-take-le many leaves fits.leaf_rows);
        text = fits.text;
      }))
      within
      (same_parts (counted front) (counted whole) refl (take-take size size segments (omega arith)) (take-take many many leaves (omega arith)) refl)

-- the same rows at the front of longer buffers
module _ (L : Limits) (card : Card) (segments leaves text : List ℕ) (just : JustCounted L (lent card segments leaves text)) where
  pub wide_read : (wideSegments wideLeaves : List ℕ) → length segments ≤ length wideSegments → length leaves ≤ length wideLeaves
      → ever_read L (lent card (sets wideSegments 0 segments) (sets wideLeaves 0 leaves) text) ≡ ever_read L (lent card segments leaves text)
  unfolding counted
  wide_read wideSegments wideLeaves room roomLeaves =
      let wide = lent card (sets wideSegments 0 segments) (sets wideLeaves 0 leaves) text in
      let given = lent card segments leaves text in
      read_alike L wide given refl
      ((within_buffers_lem wide).1
      (record {
        segment_rows = omega (arith, just.segment_rows, room, length-sets wideSegments 0 segments);
        leaf_rows = omega (arith, just.leaf_rows, roomLeaves, length-sets wideLeaves 0 leaves);
        text = just.text;
      }))
      ((within_buffers_lem given).1
      (record { segment_rows = omega (arith, just.segment_rows); leaf_rows = omega (arith, just.leaf_rows); text = just.text }))
      (same_parts (counted wide) (counted given) refl
      (front_taken wideSegments segments (card.segments * segment_row_size) just.segment_rows room ∙ sym (whole segments just.segment_rows))
      (front_taken wideLeaves leaves (card.leaves * leaf_row_size) just.leaf_rows roomLeaves ∙ sym (whole leaves just.leaf_rows)) refl)
    where
      whole : {n : ℕ} (s : List ℕ) → length s ≡ n → take n s ≡ s
      whole s e = ap (λ (m : ℕ). take m s) (sym e) ∙ take-length s

  -- rows within the limits have room in buffers of the stated sizes
  pub room_for_segments : length segments ≤ L.segments * segment_row_size
  room_for_segments = omega (arith, just.segment_rows, few-segments L card just.few)

  pub room_for_leaves : length leaves ≤ L.leaves * leaf_row_size
  room_for_leaves = omega (arith, just.leaf_rows, few-leaves L card just.few)

  -- what the table test says of the wide rows: yes by the owners in force, or what it says by the former ones
  module _ (wideSegments wideLeaves : List ℕ) {wide₁ wide₂ : List ℕ} (put : wide₁ ≡ sets wideSegments 0 segments) (putLeaves : wide₂ ≡ sets wideLeaves 0 leaves)
      (room : length segments ≤ length wideSegments) (roomLeaves : length leaves ≤ length wideLeaves) where
    whole-read : ever_read L (lent card wide₁ wide₂ text) ≡ ever_read L (lent card segments leaves text)
    whole-read = ap₂ (λ (s t : List ℕ). ever_read L (lent card s t text)) put putLeaves ∙ wide_read wideSegments wideLeaves room roomLeaves

    pub read_now : is_table L level (lent card wide₁ wide₂ text) ≡ true → true ≡ ever_read L (lent card segments leaves text)
    unfolding ever_read
    read_now is = sym (ap (λ (b : Bool). b || is_table L former_level (lent card wide₁ wide₂ text)) is) ∙ whole-read

    pub read-once : is_table L level (lent card wide₁ wide₂ text) ≡ false → {r : Bool} → r ≡ is_table L former_level (lent card wide₁ wide₂ text)
        → r ≡ ever_read L (lent card segments leaves text)
    unfolding ever_read
    read-once none e = e ∙ sym (ap (λ (b : Bool). b || is_table L former_level (lent card wide₁ wide₂ text)) none) ∙ whole-read
