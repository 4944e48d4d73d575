-- What is looked at when something is looked up (rules F1 to F4): a leaf row's place and its text, a segment row's kind and owner, an order's
-- number, and the leaf rows that a segment row names.
-- Assumes nothing.
use Rattle.std.specs.Prelude.{Bool, false, ◌&&◌, List, [], ◌∷◌, ℕ, suc, ◌+◌, ◌*◌, ◌-◌, leb, ltb, eqb, length, take, drop}
use Rattle.laws.specs.Lists.{same}
use Rattle.table.specs.Lent.{Lent}
use Rattle.table.specs.Rows.{segment_row_size, kind_in, owner_in, first_in, count_in, place_in, start_in, length_in}
use Rattle.look.specs.declared.leaf.Place.{Place}
use Rattle.look.specs.declared.leaf.Sought.{Sought}
use Rattle.look.specs.declared.leaf.Sought.TheVariants.{At, Empty, NotThere}

-- the kinds that a report of results is made of, by number (S1): H, P, OBR and OBX
abbrev pub header_kind : ℕ
header_kind = 1

abbrev pub patient_kind : ℕ
patient_kind = 2

abbrev pub order_kind : ℕ
order_kind = 5

abbrev pub result_kind : ℕ
result_kind = 6

-- the five numbers of a place (S5)
unfoldable pub numbers_of : Place → List ℕ
numbers_of p = p.segment ∷ p.field ∷ p.repetition ∷ p.subfield ∷ p.subsubfield ∷ []

-- the place of a leaf of a row by a name such as 10.4.1 (S5): its field and subfield; the repetition and whatever a name leaves out is 1
abbrev pub leaf_named : (row field subfield : ℕ) → Place
leaf_named row field subfield = record { segment = row; field = field; repetition = 1; subfield = subfield; subsubfield = 1 }

-- whether leaf row i, counted from 0, counts as a match (F1): it has the place, and its start and length stay within so many bytes of text
unfoldable pub fits : List ℕ → ℕ → Place → ℕ → Bool
fits rows bytes p i = same (place_in rows i) (numbers_of p) && leb (start_in rows i + length_in rows i) bytes

-- the same of the counted text of a lent table
abbrev pub leaf_fits : Lent → Place → ℕ → Bool
leaf_fits t p i = fits t.leaf_rows t.card.text p i

-- whether leaf row i, counted from 0, is one of so many from a first leaf on, which counts from 1 (T2): a first leaf of 0 is none
abbrev pub in_run : (first count : ℕ) → ℕ → Bool
in_run first count i = leb 1 first && leb first (suc i) && ltb (suc i) (first + count)

-- whether it is one of those that segment row s, counted from 1, names by its first leaf and its leaf count (F4); only a counted row names any
unfoldable pub is_named : Lent → ℕ → ℕ → Bool
is_named t s i =
    leb 1 s && leb s t.card.segments && in_run (first_in t.segment_rows (s - 1)) (count_in t.segment_rows (s - 1)) i

-- whether leaf row i fits and is one of those that its place's segment row names
abbrev pub named_fits : Lent → Place → ℕ → Bool
named_fits t p i = is_named t p.segment i && leaf_fits t p i

-- the number of an answer (F1): 1 found, 2 found empty, 0 not there
unfoldable pub sought_number : Sought → ℕ
sought_number (At start n) = 1
sought_number Empty = 2
sought_number NotThere = 0

-- the text that it stands for: no text where the leaf is empty or not there
unfoldable pub text_found : (text : List ℕ) → Sought → List ℕ
text_found text (At start n) = take n (drop start text)
text_found text Empty = []
text_found text NotThere = []

-- whether what was sought is there with a given text
unfoldable pub says_text : List ℕ → List ℕ → Sought → Bool
says_text text wanted (At start n) = same (take n (drop start text)) wanted
says_text text wanted Empty = false
says_text text wanted NotThere = false

-- whether so many rows are within the segment rows
abbrev pub segments_fit : List ℕ → ℕ → Bool
segments_fit rows count = leb (count * segment_row_size) (length rows)

-- whether segment row i, counted from 0, has a kind and an owner
unfoldable pub has_kind_and_owner : List ℕ → ℕ → ℕ → ℕ → Bool
has_kind_and_owner rows kind owner i = eqb (kind_in rows i) kind && eqb (owner_in rows i) owner

-- whether a row is an OBR and one of the counted rows, which the segment rows all hold
unfoldable pub is_order : List ℕ → ℕ → ℕ → Bool
is_order rows count row = segments_fit rows count && leb 1 row && leb row count && eqb (kind_in rows (row - 1)) order_kind

-- the place of leaf 9.4.2 of a row (S5)
unfoldable pub order_place : ℕ → Place
order_place row = leaf_named row 4 2

-- whether a row of a lent table is an order
abbrev pub order_at : Lent → ℕ → Bool
order_at t row = is_order t.segment_rows t.card.segments row
