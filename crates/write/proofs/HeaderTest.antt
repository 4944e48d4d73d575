-- The header's two leaf rows, and the place of the third: what the tests of their numbers say.
-- Assumes nothing.
use mathlib.Core.Bool.{true, false, ◌&&◌}
use mathlib.Core.List.{List, [], ◌∷◌, head-eq_of_cons-eq, tail-eq_of_cons-eq}
use mathlib.Core.Logic.{◌⊎◌, inl, inr}
use mathlib.Core.Path.{◌≡◌, sym, ap, ap₂, ◌∙◌, subst}
use Prim.Native.Nat.{ℕ, suc, ◌+◌, ◌*◌, ◌≤◌, ◌<◌}
use native.Mathlib.Omega.{arith}
use lib.Dec.{eqb}
use lib.ListN.{length, take, drop, get_or}
use lib.Seq.{get_or-take, get_or-drop}
use borrow.Author.Tests.{eqb-true}
use Rattle.laws.specs.Lists.{same}
use Rattle.laws.specs.Tables.{values}
use Rattle.laws.proofs.Cases.{equal_or_not}
use Rattle.laws.proofs.Lists.{same_self, same_equal}
use Rattle.laws.proofs.Parts.{left_cons}
use Rattle.laws.proofs.Tests.{Tested, passed, failed, tested, and_first, and_second, and_passed, and_both, never_both}
use Rattle.form.specs.declared.separators.Separators.{Separators}
use Rattle.table.specs.inner.Flat.{ones}
use Rattle.table.specs.Rows.{leaf_row_size, place_in, start_in, length_in}
use Rattle.table.specs.inner.Columns.{field_in}
use Rattle.table.specs.inner.Back.{leaf_at, separators_at}
use Rattle.table.specs.inner.RowTests.{next_place}
use Rattle.table.proofs.RowTests.{next-same, next-raised}
use Rattle.write.specs.inner.Tests.{finer, header_leaves_at}
use Rattle.write.specs.inner.Asked.{LaidOut, FourWithin}
use Rattle.write.proofs.LaidRows.{in_text_fits}
use Rattle.write.proofs.PlaceTests.{five_at}
use Rattle.write.proofs.SegmentTests.{row-length}

pub same_of : (s u : List ℕ) → s ≡ u → same s u ≡ true
same_of s u e = subst (λ (v : List ℕ). same s v ≡ true) e (same_self s)

-- the place of the only leaf of a field of segment 1
abbrev pub only_of : ℕ → List ℕ
only_of field = 1 ∷ field ∷ 1 ∷ 1 ∷ 1 ∷ []

-- a leaf that stands there is of that field, and the leaf after it, where it is of the next one, stands alone there too
pub field_of : (rows : List ℕ) (i field : ℕ) → place_in rows i ≡ only_of field → field_in rows i ≡ field
field_of rows i field e =
    sym (get_or-take 5 (drop (i * leaf_row_size) rows) 1 0 (omega arith) ∙ get_or-drop (i * leaf_row_size) rows 1 0) ∙ ap (λ (p : List ℕ). get_or p 1 0) e

next_field : (f a b c d e : ℕ) → 1 ≤ f → next_place (only_of f) (a ∷ b ∷ c ∷ d ∷ e ∷ []) ≡ true → b ≡ suc f → ◌≡◌ {A = List ℕ} (a ∷ b ∷ c ∷ d ∷ e ∷ []) (only_of (suc f))
unfolding ones same
next_field f a b c d e some h is = go (equal_or_not 1 a)
  where
    go : (1 ≡ a) ⊎ (1 ≡ a → ⊥) → ◌≡◌ {A = List ℕ} (a ∷ b ∷ c ∷ d ∷ e ∷ []) (only_of (suc f))
    go (inr n) =
        let raised = sym (next-raised 1 (f ∷ 1 ∷ 1 ∷ 1 ∷ []) a (b ∷ c ∷ d ∷ e ∷ []) n) ∙ h in
        let finer-ones = same_equal (1 ∷ 1 ∷ 1 ∷ 1 ∷ []) (b ∷ c ∷ d ∷ e ∷ []) (and_second (eqb 2 a) (same (1 ∷ 1 ∷ 1 ∷ 1 ∷ []) (b ∷ c ∷ d ∷ e ∷ [])) raised) in
        absurd (omega (arith, head-eq_of_cons-eq finer-ones))
    go (inl i) =
        let later = sym (next-same 1 (f ∷ 1 ∷ 1 ∷ 1 ∷ []) a (b ∷ c ∷ d ∷ e ∷ []) i) ∙ h in
        let raised = sym (next-raised f (1 ∷ 1 ∷ 1 ∷ []) b (c ∷ d ∷ e ∷ []) (λ q. omega arith)) ∙ later in
        let finest = same_equal (1 ∷ 1 ∷ 1 ∷ []) (c ∷ d ∷ e ∷ []) (and_second (eqb (suc f) b) (same (1 ∷ 1 ∷ 1 ∷ []) (c ∷ d ∷ e ∷ [])) raised) in
        cc

pub place-next : (rows : List ℕ) (i field : ℕ) → 1 ≤ field → (suc i) * leaf_row_size + 5 ≤ length rows → place_in rows i ≡ only_of field
    → next_place (place_in rows i) (place_in rows (suc i)) ≡ true → field_in rows (suc i) ≡ suc field → place_in rows (suc i) ≡ only_of (suc field)
place-next rows i field some long here next is =
    let at = suc i * leaf_row_size in
    five_at rows at long
    ∙ next_field field (get_or rows at 0) (get_or rows (at + 1) 0) (get_or rows (at + 2) 0) (get_or rows (at + 3) 0) (get_or rows (at + 4) 0) some
    (ap₂ next_place (sym here) (sym (five_at rows at long)) ∙ next) is

-- what the test of the header's two rows says
pub record HeaderLeaves (rows text : List ℕ) : Type 0 where
  pub first : place_in rows 0 ≡ only_of 1
  pub letter : (leaf_at rows text 0).text ≡ 72 ∷ []
  pub second : place_in rows 1 ≡ only_of 2
  pub four : length (leaf_at rows text 1).text ≡ 4

module _ (rows text : List ℕ) where
  pub header-leaves : header_leaves_at rows text ≡ true → HeaderLeaves rows text
  unfolding header_leaves_at leaf_at
  header-leaves h =
      let a = same (place_in rows 0) (only_of 1) in
      let b = same (leaf_at rows text 0).text (72 ∷ []) in
      let d = same (place_in rows 1) (only_of 2) in
      let e = eqb (length (leaf_at rows text 1).text) 4 in
      let abd = and_first (a && b && d) e h in
      let ab = and_first (a && b) d abd in
      record {
        first = same_equal (place_in rows 0) (only_of 1) (and_first a b ab);
        letter = same_equal (leaf_at rows text 0).text (72 ∷ []) (and_second a b ab);
        second = same_equal (place_in rows 1) (only_of 2) (and_second (a && b) d abd);
        four = eqb-true (length (leaf_at rows text 1).text) 4 (and_second (a && b && d) e h);
      }

  pub leaves-header : place_in rows 0 ≡ only_of 1 → (leaf_at rows text 0).text ≡ 72 ∷ [] → place_in rows 1 ≡ only_of 2
      → eqb (length (leaf_at rows text 1).text) 4 ≡ header_leaves_at rows text
  unfolding header_leaves_at leaf_at
  leaves-header first letter second =
      sym (and_passed (eqb (length (leaf_at rows text 1).text) 4)
      (and_both (and_both (same_of (place_in rows 0) (only_of 1) first) (same_of (leaf_at rows text 0).text (72 ∷ []) letter)) (same_of (place_in rows 1) (only_of 2) second)))

  -- one fact that fails is enough
  pub no_header_leaves : (HeaderLeaves rows text → ⊥) → false ≡ header_leaves_at rows text
  no_header_leaves n = go (tested (header_leaves_at rows text))
    where
      go : Tested (header_leaves_at rows text) → false ≡ header_leaves_at rows text
      go (passed h) = absurd (n (header-leaves h))
      go (failed h) = sym h

  -- the four tests of the first row, one after the other
  module _ {count : ℕ} (w : LaidOut rows text count) where
    first_fits : start_in rows 0 + length_in rows 0 ≤ length text
    first_fits = in_text_fits w.in_text 0 (omega (arith, w.three))

    first-place : place_in rows 0 ≡ get_or rows 0 0 ∷ finer rows 0 1
    unfolding values
    first-place = five_at rows 0 (omega (arith, w.in_text.sized, w.three))

    pub not_segment_one : (get_or rows 0 0 ≡ 1 → ⊥) → false ≡ header_leaves_at rows text
    not_segment_one n = no_header_leaves (λ v. n (head-eq_of_cons-eq (sym first-place ∙ v.first)))

    pub not_first : same (1 ∷ 1 ∷ 1 ∷ 1 ∷ []) (finer rows 0 1) ≡ false → false ≡ header_leaves_at rows text
    not_first e =
        no_header_leaves (λ v.
        never_both (same_of (1 ∷ 1 ∷ 1 ∷ 1 ∷ []) (finer rows 0 1) (sym (tail-eq_of_cons-eq (sym first-place ∙ v.first)))) e)

    pub not_one_byte : (length_in rows 0 ≡ 1 → ⊥) → false ≡ header_leaves_at rows text
    not_one_byte n = no_header_leaves (λ v. n (sym (row-length rows text 0 first_fits) ∙ ap length v.letter))

    module _ (one : length_in rows 0 ≡ 1) {at : ℕ} (is : at ≡ start_in rows 0) where
      byte_there : (leaf_at rows text 0).text ≡ get_or text at 0 ∷ []
      unfolding leaf_at
      byte_there =
          ap₂ (λ (n k : ℕ). take n (drop k text)) one (sym is) ∙ ap (take 1) (left_cons text at 0 (omega (arith, first_fits)))

      pub not_letter : (get_or text at 0 ≡ 72 → ⊥) → false ≡ header_leaves_at rows text
      not_letter n = no_header_leaves (λ v. n (head-eq_of_cons-eq (sym byte_there ∙ v.letter)))

      pub not_field_two : (field_in rows 1 ≡ 2 → ⊥) → false ≡ header_leaves_at rows text
      not_field_two n = no_header_leaves (λ v. n (field_of rows 1 2 v.second))

      pub four_decides : get_or rows 0 0 ≡ 1 → same (1 ∷ 1 ∷ 1 ∷ 1 ∷ []) (finer rows 0 1) ≡ true → get_or text at 0 ≡ 72 → field_in rows 1 ≡ 2
          → eqb (length_in rows 1) 4 ≡ header_leaves_at rows text
      four_decides segment finest letter field =
          let first = first-place ∙ ap₂ (λ (a : ℕ) (s : List ℕ). a ∷ s) segment (sym (same_equal (1 ∷ 1 ∷ 1 ∷ 1 ∷ []) (finer rows 0 1) finest)) in
          ap (λ (n : ℕ). eqb n 4) (sym (row-length rows text 1 (in_text_fits w.in_text 1 (omega (arith, w.three)))))
          ∙ leaves-header first (byte_there ∙ ap (λ (b : ℕ). b ∷ []) letter)
          (place-next rows 0 1 (omega arith) (omega (arith, w.in_text.sized, w.three)) first (w.next 0 (omega (arith, w.three))) field)

  -- the second leaf of such rows is of four bytes
  pub header-four : {count : ℕ} → LaidOut rows text count → header_leaves_at rows text ≡ true → FourWithin rows text
  header-four w h =
      let fits = in_text_fits w.in_text 1 (omega (arith, w.three)) in
      let four : length_in rows 1 ≡ 4 = sym (row-length rows text 1 fits) ∙ (header-leaves h).four in
      record { row = omega (arith, w.in_text.sized, w.three); four = four; within = omega arith }

-- and they name the separators
module _ (field : ℕ) (rows text : List ℕ) (w : FourWithin rows text) {at : ℕ} (e : at ≡ start_in rows 1) where
  byte_of : (k : ℕ) → k < 4 → get_or text (at + k) 0 ≡ get_or (leaf_at rows text 1).text k 0
  unfolding leaf_at
  byte_of k less =
      sym (ap₂ (λ (n j : ℕ). get_or (take n (drop j text)) k 0) w.four (sym e)
      ∙ get_or-take 4 (drop at text) k 0 less
      ∙ get_or-drop at text k 0)

  pub separators_read : ◌≡◌ {A = Separators}
      (record {
        field = field;
        subfield = get_or text at 0;
        repeater = get_or text (at + 1) 0;
        escape = get_or text (at + 2) 0;
        subsubfield = get_or text (at + 3) 0;
      })
      (separators_at field rows text)
  unfolding separators_at
  separators_read =
      let first = ap (λ (j : ℕ). get_or text j 0) (let z : at ≡ at + 0 = omega arith in z) ∙ byte_of 0 (omega arith) in
      let second = byte_of 1 (omega arith) in
      let third = byte_of 2 (omega arith) in
      let fourth = byte_of 3 (omega arith) in
      cc
