-- The search for a leaf: what one row says, the turns of the loop over the rows, and that what is found lies within the text.
-- Assumes nothing.
use mathlib.Core.Bool.{Bool, true, false, ◌&&◌, and-true}
use Rattle.std.proofs.Math.Bool.{and_assoc}
use mathlib.Core.List.{List, [], ◌∷◌}
use mathlib.Core.Logic.{◌⊎◌, inl, inr}
use mathlib.Core.Path.{◌≡◌, refl, sym, ap, ap₂, ◌∙◌, subst, subst⁻¹}
use Prim.Native.Nat.{ℕ, zero, suc, ◌+◌, ◌*◌, ◌-◌, ◌<◌, ◌≤◌}
use native.Mathlib.Nat.{le_trans}
use native.Mathlib.Omega.{arith}
use borrow.Author.Tests.{leb-true, le-leb, lt-leb, eq-eqb, ne_eqb}
use lib.Dec.{leb, eqb}
use lib.ListN.{length, get_or, drop}
use lib.Seq.{get_or-take, get_or-drop}
use Rattle.laws.specs.Lists.{same}
use Rattle.laws.proofs.Cases.{equal_or_not}
use Rattle.laws.proofs.Lists.{same_equal}
use Rattle.laws.proofs.Parts.{left_cons}
use Rattle.laws.proofs.Searching.{first_of, first_of_holds, Searching, search_begins, search_hit, search_miss, search_done}
use Rattle.laws.proofs.Tests.{Tested, passed, failed, tested, and_second, and_both, and_fails_first, and_fails_second}
use Rattle.table.specs.Lent.{Lent, within_buffers}
use Rattle.table.specs.Rows.{leaf_row_size, place_in, start_in, length_in}
use Rattle.table.specs.inner.Columns.{segment_in, field_in}
use Rattle.table.proofs.Lent.{text-within}
use Rattle.look.specs.declared.leaf.Sought.{Sought}
use Rattle.look.specs.declared.leaf.Sought.TheVariants.{At, Empty, NotThere}
use Rattle.look.specs.declared.leaf.Place.{Place}
use Rattle.look.specs.Looking.{numbers_of, fits, leaf_fits}
use Rattle.look.specs.inner.Searching.{found_of, sought_from, sought_by, sought_in}

-- the five numbers of a row's place: the row has them where each is that of the place

module _ (rows : List ℕ) (i : ℕ) (within : (i + 1) * leaf_row_size ≤ length rows) (p : Place) where
  next-number : (k j : ℕ) → k < (i + 1) * leaf_row_size → k + 1 ≡ j → drop k rows ≡ get_or rows k 0 ∷ drop j rows
  next-number k j h e = left_cons rows k 0 (omega arith) ∙ ap (λ (n : ℕ). get_or rows k 0 ∷ drop n rows) e

  abbrev number : ℕ → ℕ
  number k = get_or rows (i * leaf_row_size + k) 0

  five-numbers : place_in rows i ≡ segment_in rows i ∷ field_in rows i ∷ number 2 ∷ number 3 ∷ number 4 ∷ []
  five-numbers =
      rw (
        next-number (i * leaf_row_size) (i * leaf_row_size + 1) (omega arith) (omega arith),
        next-number (i * leaf_row_size + 1) (i * leaf_row_size + 2) (omega arith) (omega arith),
        next-number (i * leaf_row_size + 2) (i * leaf_row_size + 3) (omega arith) (omega arith),
        next-number (i * leaf_row_size + 3) (i * leaf_row_size + 4) (omega arith) (omega arith),
        next-number (i * leaf_row_size + 4) (i * leaf_row_size + 5) (omega arith) (omega arith),
      )

  abbrev SamePlace : Bool
  SamePlace = same (place_in rows i) (numbers_of p)

  same-five : SamePlace
      ≡ (eqb (segment_in rows i) p.segment
      && (eqb (field_in rows i) p.field
      && (eqb (number 2) p.repetition && (eqb (number 3) p.subfield && eqb (number 4) p.subsubfield))))
  unfolding same numbers_of
  same-five = rw (five-numbers, and-true (eqb (number 4) p.subsubfield))

  -- as `&&` tests them one after the other
  pub five_tested : {two three four : Bool}
      → two ≡ (eqb (segment_in rows i) p.segment && eqb (field_in rows i) p.field)
      → three ≡ (two && eqb (number 2) p.repetition)
      → four ≡ (three && eqb (number 3) p.subfield)
      → (four && eqb (number 4) p.subsubfield) ≡ SamePlace
  five_tested e f g = rw (g, f, e, same-five) (simp and_assoc)

-- a row with another field has another place
pub field_differs : (rows : List ℕ) (i : ℕ) (p : Place) → (field_in rows i ≡ p.field → ⊥) → false ≡ same (place_in rows i) (numbers_of p)
unfolding numbers_of
field_differs rows i p other = sym (by (tested (same (place_in rows i) (numbers_of p))))
  where
    by : Tested (same (place_in rows i) (numbers_of p)) → same (place_in rows i) (numbers_of p) ≡ false
    by (passed e) =
        absurd
        (other (sym (get_or-take 5 (drop (i * leaf_row_size) rows) 1 0 (omega arith) ∙ get_or-drop (i * leaf_row_size) rows 1 0)
        ∙ ap (λ (l : List ℕ). get_or l 1 0) (same_equal (place_in rows i) (numbers_of p) e)))
    by (failed e) = e

-- what is found in a row
abbrev pub found_at : List ℕ → ℕ → Sought
found_at rows i = found_of (start_in rows i) (length_in rows i)

-- which is found empty, or found with its start and length
pub found_empty : (start n : ℕ) → n ≡ 0 → found_of start n ≡ Empty
unfolding found_of
found_empty start n e = rw (eq-eqb n 0 e, found_of)

pub found_some : (start n : ℕ) → (n ≡ 0 → ⊥) → found_of start n ≡ At start n
unfolding found_of
found_some start n e = rw (ne_eqb n 0 e, found_of)

-- the search is one for the first row that passes a test
pub sought_first : (test : ℕ → Bool) (rows : List ℕ) (i n : ℕ) → sought_from test rows i n ≡ first_of test (found_at rows) NotThere i n
unfolding sought_from first_of
sought_first test rows i zero = refl
sought_first test rows i (suc n) =
    ap (λ (r : Sought). elim (test i) [ true ↦ found_at rows i | false ↦ r ]) (sought_first test rows (suc i) n)

-- the loop over the rows before row `to` from row `from` on, before its turn at row i
pub record Seeking (rows : List ℕ) (bytes : ℕ) (p : Place) (from to i : ℕ) : Type 0 where
  pub search : Searching (fits rows bytes p) (found_at rows) NotThere from to i

pub seek_begins : {rows : List ℕ} {bytes : ℕ} {p : Place} {from to : ℕ} → Seeking rows bytes p from to from
seek_begins {rows} {bytes} {p} {from} {to} = record { search = search_begins (fits rows bytes p) (found_at rows) NotThere from to }

module _ {rows : List ℕ} {bytes : ℕ} {p : Place} {from to i : ℕ} (s : Seeking rows bytes p from to i) where
  abbrev Whole : Sought
  Whole = sought_from (fits rows bytes p) rows from (to - from)

  whole : first_of (fits rows bytes p) (found_at rows) NotThere from (to - from) ≡ Whole
  whole = sym (sought_first (fits rows bytes p) rows from (to - from))

  pub seek_nowhere : to ≤ i → NotThere ≡ Whole
  seek_nowhere h = search_done (fits rows bytes p) (found_at rows) NotThere s.search h ∙ whole

  module _ (h : i < to) {b : Bool} (answer : b ≡ same (place_in rows i) (numbers_of p)) where
    missed : fits rows bytes p i ≡ false → Seeking rows bytes p from to (i + 1)
    missed e = record { search = search_miss (fits rows bytes p) (found_at rows) NotThere s.search h e }

    -- the row has another place
    pub seek_elsewhere : b ≡ false → Seeking rows bytes p from to (i + 1)
    unfolding fits
    seek_elsewhere e = missed (and_fails_first (leb (start_in rows i + length_in rows i) bytes) (sym answer ∙ e))

    module _ {start m : ℕ} (begins : start ≡ start_in rows i) (long : m ≡ length_in rows i) where
      -- it points past the text
      pub seek_past : bytes < start + m → Seeking rows bytes p from to (i + 1)
      unfolding fits
      seek_past past =
          missed
          (and_fails_second (same (place_in rows i) (numbers_of p)) (lt-leb (start_in rows i + length_in rows i) bytes (omega arith)))

      -- it is the one
      pub seek_found : b ≡ true → start + m ≤ bytes → found_of start m ≡ Whole
      unfolding fits
      seek_found e within =
          ap₂ found_of begins long
          ∙ search_hit (fits rows bytes p) (found_at rows) NotThere s.search h
          (and_both (sym answer ∙ e) (le-leb (start_in rows i + length_in rows i) bytes (omega arith)))
          ∙ whole

-- what is found lies within so many bytes
abbrev pub Within : ℕ → Sought → Type 0
Within bytes (At start n) = start + n ≤ bytes
Within bytes Empty = Unit
Within bytes NotThere = Unit

found-within-bytes : (bytes start n : ℕ) → start + n ≤ bytes → Within bytes (found_of start n)
found-within-bytes bytes start n h = go (equal_or_not n 0)
  where
    go : (n ≡ 0) ⊎ (n ≡ 0 → ⊥) → Within bytes (found_of start n)
    go (inl e) = subst⁻¹ (Within bytes) (found_empty start n e) tt
    go (inr e) = subst⁻¹ (Within bytes) (found_some start n e) h

-- where the counts are within the buffers, and where not
module _ (test : ℕ → Bool) (t : Lent) where
  pub sought_counted : within_buffers t ≡ true → sought_by test t ≡ sought_from test t.leaf_rows 0 t.card.leaves
  unfolding sought_by
  sought_counted e = rw (e, sought_by)

  pub sought_searched : within_buffers t ≡ true → sought_by test t ≡ first_of test (found_at t.leaf_rows) NotThere 0 t.card.leaves
  sought_searched e = sought_counted e ∙ sought_first test t.leaf_rows 0 t.card.leaves

  pub sought_uncounted : within_buffers t ≡ false → sought_by test t ≡ NotThere
  unfolding sought_by
  sought_uncounted e = rw (e, sought_by)

  -- where each row that passes lies within the card's text, so does a leaf that is found
  module _ (inside : (k : ℕ) → test k ≡ true → start_in t.leaf_rows k + length_in t.leaf_rows k ≤ t.card.text) where
    sought_in_card : Within t.card.text (sought_by test t)
    sought_in_card = go (tested (within_buffers t))
      where
        go : Tested (within_buffers t) → Within t.card.text (sought_by test t)
        go (passed e) =
            subst⁻¹ (Within t.card.text) (sought_searched e)
            (first_of_holds test (found_at t.leaf_rows) NotThere (Within t.card.text) tt
            (λ k passes. found-within-bytes t.card.text (start_in t.leaf_rows k) (length_in t.leaf_rows k) (inside k passes)) 0 t.card.leaves)
        go (failed e) = subst⁻¹ (Within t.card.text) (sought_uncounted e) tt

    -- and within the text area
    sought_in_area : (start n : ℕ) → sought_by test t ≡ At start n → start + n ≤ length t.text
    sought_in_area start n found = go (tested (within_buffers t))
      where
        go : Tested (within_buffers t) → start + n ≤ length t.text
        go (passed e) =
            le_trans (subst (Within t.card.text) found sought_in_card)
            (text-within t.card (length t.segment_rows) (length t.leaf_rows) (length t.text) e)
        go (failed e) = let z : ◌≡◌ {A = ℕ} 0 1 = cc (sought_uncounted e) in let n : ⊥ = omega arith in absurd n

-- the leaf that the lookup finds
module _ (t : Lent) (p : Place) where
  fitting_inside : (k : ℕ) → leaf_fits t p k ≡ true → start_in t.leaf_rows k + length_in t.leaf_rows k ≤ t.card.text
  unfolding fits
  fitting_inside k e =
      leb-true (start_in t.leaf_rows k + length_in t.leaf_rows k) t.card.text
      (and_second (same (place_in t.leaf_rows k) (numbers_of p)) (leb (start_in t.leaf_rows k + length_in t.leaf_rows k) t.card.text) e)

  pub leaf_in_card : Within t.card.text (sought_in t p)
  leaf_in_card = sought_in_card (leaf_fits t p) t fitting_inside

  pub found_within : (start n : ℕ) → sought_in t p ≡ At start n → start + n ≤ length t.text
  found_within start n e = sought_in_area (leaf_fits t p) t fitting_inside start n e
