-- What the contracts rule out, most on a small table: a lookup that returns the last match, or trusts a row past the text, or scans the
-- whole buffer, or takes a leaf that was sent empty for one that was not sent, or finds a text of no byte, or hands out equal bytes from
-- elsewhere; one within a segment that goes past its leaves or answers a leaf of another segment; a finder that begins at the given row itself;
-- same order on different bytes, or on two empty texts; texts that are the same by their lengths alone, or where one only begins like the other.
-- Assumes nothing.
use mathlib.Core.Bool.{Bool, true, true≢false}
use mathlib.Core.List.{List, [], ◌∷◌, ◌++◌}
use mathlib.Core.Path.{◌≡◌, refl, sym, ap, ◌∙◌}
use Prim.Native.Nat.{ℕ, ◌+◌}
use native.Mathlib.Omega.{arith}
use denote.Ref.{Bor}
use Rattle.laws.specs.Lists.{same}
use Rattle.laws.specs.Parts.{Part, whole_of, part_of}
use Rattle.laws.proofs.LentParts.{in_its_block, at_its_place, at_no_other}
use Rattle.table.specs.declared.Card.{Card}
use Rattle.table.specs.Lent.{Lent, lent, counts_fit}
use Rattle.table.specs.Rows.{segment_row}
use Rattle.look.specs.declared.leaf.Sought.{Sought}
use Rattle.look.specs.declared.leaf.Sought.TheVariants.{At, Empty, NotThere}
use Rattle.look.specs.declared.leaf.Place.{Place}
use Rattle.look.specs.Looking.{numbers_of, fits, is_named, sought_number, has_kind_and_owner, is_order, order_place}
use Rattle.look.specs.Matches.{looked_up}
use Rattle.look.specs.inner.Searching.{found_of, sought_from, sought_by, sought_in, sought_in_segment, row_from, row_after, same_texts, same_order}
use Rattle.look.proofs.FirstMatch.{finds_exactly, finds_in_segment_exactly}
use Rattle.look.proofs.TextParts.{part_found, empty_part, no_part}

-- an OBR, row 1, with as many leaf rows counted and as many bytes of text
abbrev counts : ℕ → ℕ → Card
counts leaves text = record { separator = 124; context = 2; segments = 1; leaves = leaves; text = text }

abbrev order : List ℕ
order = segment_row 5 0 1 1

-- a leaf row of leaf 9.4.2 of row 1
abbrev row : ℕ → ℕ → List ℕ → List ℕ
row start n rows = 1 ∷ 4 ∷ 1 ∷ 2 ∷ 1 ∷ start ∷ n ∷ rows

abbrev table : ℕ → ℕ → List ℕ → List ℕ → Lent
table leaves bytes rows text = record { card = counts leaves bytes; segment_rows = order; leaf_rows = rows; text = text }

-- what meets the contract of `find_leaf`
module _ (f : Lent → Place → Sought) (meets : (t : Lent) (p : Place) → f t p ≡ sought_in t p) where
  -- two rows have the place: the second is not what comes back
  pub last_match : f (table 2 2 (row 0 1 (row 1 1 [])) (65 ∷ 66 ∷ [])) (order_place 1) ≡ At 1 1 → ⊥
  unfolding sought_by sought_from fits found_of numbers_of order_place counts_fit same
  last_match h =
      let e : At 0 1 ≡ At 1 1 = sym (meets (table 2 2 (row 0 1 (row 1 1 [])) (65 ∷ 66 ∷ [])) (order_place 1)) ∙ h in
      let z : ◌≡◌ {A = ℕ} 0 1 = cc in
      omega arith

  -- the row points past the card's text, though not past the buffer: it is passed over
  pub past_the_text : f (table 1 2 (row 0 3 []) (65 ∷ 66 ∷ 67 ∷ [])) (order_place 1) ≡ At 0 3 → ⊥
  unfolding sought_by sought_from fits found_of numbers_of order_place counts_fit same
  past_the_text h =
      let e : NotThere ≡ At 0 3 = sym (meets (table 1 2 (row 0 3 []) (65 ∷ 66 ∷ 67 ∷ [])) (order_place 1)) ∙ h in
      let z : ◌≡◌ {A = ℕ} 0 1 = cc in
      omega arith

  -- and the next row that has the place comes back
  pub after_the_row_past : f (table 2 2 (row 0 3 (row 1 1 [])) (65 ∷ 66 ∷ 67 ∷ [])) (order_place 1) ≡ At 1 1
  unfolding sought_by sought_from fits found_of numbers_of order_place counts_fit same
  after_the_row_past = meets (table 2 2 (row 0 3 (row 1 1 [])) (65 ∷ 66 ∷ 67 ∷ [])) (order_place 1)

  -- a row that is not counted is not found
  pub whole_buffer : f (table 0 2 (row 0 1 []) (65 ∷ 66 ∷ [])) (order_place 1) ≡ At 0 1 → ⊥
  unfolding sought_by sought_from fits found_of numbers_of order_place counts_fit same
  whole_buffer h =
      let e : NotThere ≡ At 0 1 = sym (meets (table 0 2 (row 0 1 []) (65 ∷ 66 ∷ [])) (order_place 1)) ∙ h in
      let z : ◌≡◌ {A = ℕ} 0 1 = cc in
      omega arith

  -- a leaf that was sent empty is there
  pub sent_empty : f (table 1 2 (row 1 0 []) (65 ∷ 66 ∷ [])) (order_place 1) ≡ NotThere → ⊥
  unfolding sought_by sought_from fits found_of numbers_of order_place counts_fit same
  sent_empty h =
      let e : Empty ≡ NotThere = sym (meets (table 1 2 (row 1 0 []) (65 ∷ 66 ∷ [])) (order_place 1)) ∙ h in
      let z : ◌≡◌ {A = ℕ} 0 1 = cc in
      omega arith

  -- and never found with a text of no byte, in whatever table
  pub no_byte : (t : Lent) (p : Place) (start : ℕ) → f t p ≡ At start 0 → ⊥
  no_byte t p start h = let some = ((finds_exactly t p (At start 0)).0 (sym h ∙ meets t p)).1.4 in omega (arith, some)

-- two orders, of which each names one leaf row, the first or the second; both rows have the place of leaf 9.4.2, of the segments given
abbrev two_orders : (first second : ℕ) → Lent
two_orders first second =
    lent (record { separator = 124; context = 2; segments = 2; leaves = 2; text = 2 }) (segment_row 5 0 1 1 ++ segment_row 5 0 2 1)
    (first ∷ 4 ∷ 1 ∷ 2 ∷ 1 ∷ 0 ∷ 1 ∷ second ∷ 4 ∷ 1 ∷ 2 ∷ 1 ∷ 1 ∷ 1 ∷ []) (65 ∷ 66 ∷ [])

-- what meets the contract of `find_leaf_in_segment`
module _ (f : Lent → Place → Sought) (meets : (t : Lent) (p : Place) → f t p ≡ sought_in_segment t p) where
  -- the first order's row names leaf row 1 alone: it does not go on to row 2, though that has the place
  pub past_its_leaves : f (two_orders 2 1) (order_place 1) ≡ At 1 1 → ⊥
  unfolding sought_by sought_from fits found_of numbers_of order_place is_named counts_fit same
  past_its_leaves h =
      let e : NotThere ≡ At 1 1 = sym (meets (two_orders 2 1) (order_place 1)) ∙ h in
      let z : ◌≡◌ {A = ℕ} 0 1 = cc in
      omega arith

  -- nor is leaf row 1 the answer, which has another segment's number
  pub of_another_segment : f (two_orders 2 1) (order_place 1) ≡ At 0 1 → ⊥
  unfolding sought_by sought_from fits found_of numbers_of order_place is_named counts_fit same
  of_another_segment h =
      let e : NotThere ≡ At 0 1 = sym (meets (two_orders 2 1) (order_place 1)) ∙ h in
      let z : ◌≡◌ {A = ℕ} 0 1 = cc in
      omega arith

  -- a leaf that was sent empty is there, and never found with a text of no byte
  pub sent_empty_in_segment : f (table 1 2 (row 1 0 []) (65 ∷ 66 ∷ [])) (order_place 1) ≡ NotThere → ⊥
  unfolding sought_by sought_from fits found_of numbers_of order_place is_named counts_fit same
  sent_empty_in_segment h =
      let e : Empty ≡ NotThere = sym (meets (table 1 2 (row 1 0 []) (65 ∷ 66 ∷ [])) (order_place 1)) ∙ h in
      let z : ◌≡◌ {A = ℕ} 0 1 = cc in
      omega arith

  pub no_byte_in_segment : (t : Lent) (p : Place) (start : ℕ) → f t p ≡ At start 0 → ⊥
  no_byte_in_segment t p start h =
      let some = ((finds_in_segment_exactly t p (At start 0)).0 (sym h ∙ meets t p)).1.4 in omega (arith, some)

  -- where the rows have the numbers of the segments that name them, each is found
  pub in_its_segment : (f (two_orders 1 2) (order_place 1) ≡ At 0 1) × (f (two_orders 1 2) (order_place 2) ≡ At 1 1)
  unfolding sought_by sought_from fits found_of numbers_of order_place is_named counts_fit same
  in_its_segment = (meets (two_orders 1 2) (order_place 1), meets (two_orders 1 2) (order_place 2))

-- what meets the contract of `Sought::number`: the three answers have three numbers
module _ (f : Sought → ℕ) (meets : (s : Sought) → f s ≡ sought_number s) where
  pub told-apart : (start n : ℕ) → (f Empty ≡ f NotThere → ⊥) × (f Empty ≡ f (At start n) → ⊥) × (f (At start n) ≡ f NotThere → ⊥)
  unfolding sought_number
  told-apart start n = (
    λ e. let z : ◌≡◌ {A = ℕ} 2 0 = sym (meets Empty) ∙ e ∙ meets NotThere in omega arith,
    λ e. let z : ◌≡◌ {A = ℕ} 2 1 = sym (meets Empty) ∙ e ∙ meets (At start n) in omega arith,
    λ e. let z : ◌≡◌ {A = ℕ} 1 0 = sym (meets (At start n)) ∙ e ∙ meets NotThere in omega arith,
  )

-- what meets the contract of `leaf_text`: equal bytes from elsewhere do not, whatever the table is
module _ (card : Card) (segments leaves : List ℕ) (text : Bor (List ℕ)) (p : Place) (substitute r : Bor (List ℕ))
    (meets : whole_of r ≡ looked_up card segments leaves text p substitute) where
  module _ (start n : ℕ) (there : sought_in (lent card segments leaves text.now) p ≡ At start n) where
    found : whole_of r ≡ part_of text start n
    found = meets ∙ part_found text substitute start n there

    -- a leaf that is there lies in the text area: not in the substitute's block, nor in a copy's
    pub another_block : (r.ref_ptr.0 ≡ text.ref_ptr.0 → ⊥) → ⊥
    another_block elsewhere = elsewhere (in_its_block r text start n found)

    -- and where its row says, not at another place with the same bytes
    pub another_place : (b : ℕ) → r.ref_ptr.1 ≡ b + text.ref_ptr.1 → (b ≡ start → ⊥) → ⊥
    another_place b lies other = other (at_no_other r text start n found b lies)

  -- a leaf that was sent empty gives no byte, at the front of the text area and nowhere else
  module _ (empty : sought_in (lent card segments leaves text.now) p ≡ Empty) where
    none_of_text : whole_of r ≡ part_of text 0 0
    none_of_text = meets ∙ empty_part text substitute empty

    pub empty_elsewhere : (whole_of r ≡ part_of text 0 0 → ⊥) → ⊥
    empty_elsewhere other = other none_of_text

    -- so not the substitute, which lies in another block
    pub substitute_for_empty : (substitute.ref_ptr.0 ≡ text.ref_ptr.0 → ⊥) → whole_of r ≡ whole_of substitute → ⊥
    substitute_for_empty apart it = apart (ap (λ (q : Part). q.block) (sym it) ∙ in_its_block r text 0 0 none_of_text)

  -- where no leaf is there, the substitute itself comes back, not a text like it
  pub like_the_substitute : sought_in (lent card segments leaves text.now) p ≡ NotThere → (whole_of r ≡ whole_of substitute → ⊥) → ⊥
  like_the_substitute none other = other (meets ∙ no_part text substitute none)

-- a table whose text has the same byte twice, and the leaf is the first
abbrev twice : List ℕ
twice = 65 ∷ 65 ∷ []

twice_found : sought_in (table 1 2 (row 0 1 []) twice) (order_place 1) ≡ At 0 1
unfolding sought_by sought_from fits found_of numbers_of order_place counts_fit same
twice_found = refl

module _ (text substitute : Bor (List ℕ)) (lies : text.now ≡ twice) (like : substitute.now ≡ 65 ∷ []) where
  -- its bytes are those of the second, and of the substitute
  pub bytes_alike : ((part_of text 0 1).bytes ≡ (part_of text 1 1).bytes) × ((part_of text 0 1).bytes ≡ (whole_of substitute).bytes)
  bytes_alike = (rw lies refl, rw (lies, like) refl)

  module _ (r : Bor (List ℕ)) (meets : whole_of r ≡ looked_up (counts 1 2) order (row 0 1 []) text (order_place 1) substitute) where
    first_found : sought_in (lent (counts 1 2) order (row 0 1 []) text.now) (order_place 1) ≡ At 0 1
    first_found = ap (λ (l : List ℕ). sought_in (lent (counts 1 2) order (row 0 1 []) l) (order_place 1)) lies ∙ twice_found

    -- but the second is not what comes back
    pub the_second : whole_of r ≡ part_of text 1 1 → ⊥
    the_second second =
        another_place (counts 1 2) order (row 0 1 []) text (order_place 1) substitute r meets 0 1 first_found 1 (at_its_place r text 1 1 second) (λ e. omega arith)

    -- nor is a substitute that lies in another block
    pub the_substitute : (substitute.ref_ptr.0 ≡ text.ref_ptr.0 → ⊥) → whole_of r ≡ whole_of substitute → ⊥
    the_substitute apart it =
        another_block (counts 1 2) order (row 0 1 []) text (order_place 1) substitute r meets 0 1 first_found
        (λ e. apart (sym (ap (λ (q : Part). q.block) it) ∙ e))

-- what meets the contract of `next_row`: row 1 is an OBR of owner 0, and no row after it is
module _ (f : List ℕ → ℕ → ℕ → ℕ → ℕ → ℕ) (meets : (rows : List ℕ) (count after kind owner : ℕ) → f rows count after kind owner ≡ row_after rows count after kind owner) where
  pub given-row_itself : f order 1 1 5 0 ≡ 1 → ⊥
  unfolding row_after row_from has_kind_and_owner
  given-row_itself h =
      let z : ◌≡◌ {A = ℕ} 0 1 = sym (meets order 1 1 5 0) ∙ h in
      omega arith

  pub first-row-found : f order 1 0 5 0 ≡ 1
  unfolding row_after row_from has_kind_and_owner
  first-row-found = meets order 1 0 5 0

-- what meets the contract of `same_order`
module _ (f : Lent → ℕ → Lent → ℕ → Bool) (meets : (t : Lent) (row : ℕ) (u : Lent) (other : ℕ) → f t row u other ≡ same_order t row u other) where
  pub different-bytes : f (table 1 1 (row 0 1 []) (65 ∷ [])) 1 (table 1 1 (row 0 1 []) (66 ∷ [])) 1 ≡ true → ⊥
  unfolding same_order is_order same_texts sought_by sought_from fits found_of numbers_of order_place counts_fit same
  different-bytes h = true≢false (sym h ∙ meets (table 1 1 (row 0 1 []) (65 ∷ [])) 1 (table 1 1 (row 0 1 []) (66 ∷ [])) 1)

  -- two twoOrders whose numbers were sent empty are not the same
  pub both_empty : f (table 1 1 (row 0 0 []) (65 ∷ [])) 1 (table 1 1 (row 0 0 []) (65 ∷ [])) 1 ≡ true → ⊥
  unfolding same_order is_order same_texts sought_by sought_from fits found_of numbers_of order_place counts_fit same
  both_empty h = true≢false (sym h ∙ meets (table 1 1 (row 0 0 []) (65 ∷ [])) 1 (table 1 1 (row 0 0 []) (65 ∷ [])) 1)

  pub same-bytes_elsewhere : f (table 1 1 (row 0 1 []) (65 ∷ [])) 1 (table 1 2 (row 1 1 []) (66 ∷ 65 ∷ [])) 1 ≡ true
  unfolding same_order is_order same_texts sought_by sought_from fits found_of numbers_of order_place counts_fit same
  same-bytes_elsewhere = meets (table 1 1 (row 0 1 []) (65 ∷ [])) 1 (table 1 2 (row 1 1 []) (66 ∷ 65 ∷ [])) 1

-- what meets the contract of `same_bytes`
module _ (f : List ℕ → List ℕ → Bool) (meets : (text other : List ℕ) → f text other ≡ same text other) where
  -- as many bytes are not the same ones
  pub by_length_alone : f (65 ∷ 66 ∷ []) (65 ∷ 67 ∷ []) ≡ true → ⊥
  unfolding same
  by_length_alone h = true≢false (sym h ∙ meets (65 ∷ 66 ∷ []) (65 ∷ 67 ∷ []))

  -- nor is a text the same that only begins so, whichever of the two it is
  pub begins_so : (f (65 ∷ []) (65 ∷ 66 ∷ []) ≡ true → ⊥) × (f (65 ∷ 66 ∷ []) (65 ∷ []) ≡ true → ⊥)
  unfolding same
  begins_so = (λ h. true≢false (sym h ∙ meets (65 ∷ []) (65 ∷ 66 ∷ [])), λ h. true≢false (sym h ∙ meets (65 ∷ 66 ∷ []) (65 ∷ [])))
