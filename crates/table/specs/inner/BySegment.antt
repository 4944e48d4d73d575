-- What the leaves of all segments say of each segment: its leaves, its kind (S1), the context (C1) and its bytes (S3, W2), with no segment
-- turned back to text. Each is found leaf by leaf, with a look at the next one.
-- Assumes nothing.
use Rattle.std.specs.Prelude.{Bool, true, false, List, [], ◌∷◌, ℕ, ◌+◌, ◌-◌, ◌*◌, eqb, length, get_or}
use Rattle.form.specs.declared.limits.Limits.{Limits}
use Rattle.form.specs.Limits.{line_count}
use Rattle.form.specs.Names.{kind_names, context_names, number_among}
use Rattle.table.specs.Leaves.{Leaf}
use Rattle.table.specs.Rows.{text_of}

-- the segment and the field that a leaf stands in
unfoldable pub segment_of : Leaf → ℕ
segment_of l = get_or l.place 0 0

unfoldable pub field_of : Leaf → ℕ
field_of l = get_or l.place 1 0

-- a leaf in front of the leaves of some segments: it belongs to the first of them, or is a segment's last leaf
unfoldable pub with_leaf : Leaf → List (List Leaf) → List (List Leaf)
with_leaf l [] = (l ∷ []) ∷ []
with_leaf l ([] ∷ groups) = (l ∷ []) ∷ groups
with_leaf l ((m ∷ ms) ∷ groups) =
    elim (eqb (segment_of l) (segment_of m)) [ true ↦ (l ∷ m ∷ ms) ∷ groups | false ↦ (l ∷ []) ∷ (m ∷ ms) ∷ groups ]

-- the leaves of each segment: those in a row that have one segment number
unfoldable pub by_segment : List Leaf → List (List Leaf)
by_segment [] = []
by_segment (l ∷ ls) = with_leaf l (by_segment ls)

-- whether the first of some leaves, if there is one, stands in a given field
unfoldable pub goes_on : ℕ → List Leaf → Bool
goes_on field [] = false
goes_on field (l ∷ ls) = eqb (field_of l) field

-- the number among names of a field of one segment's leaves; 0 where the field is missing, or is more than one leaf
unfoldable pub number_of_field : List (List ℕ) → ℕ → List Leaf → ℕ
number_of_field names field [] = 0
number_of_field names field (l ∷ ls) =
    elim (eqb (field_of l) field) [
      | true ↦ elim (goes_on field ls) [ true ↦ 0 | false ↦ number_among names l.text ]
      | false ↦ number_of_field names field ls
    ]

-- a segment's kind stands in its field 1, a message's context in field 7 of its first segment
unfoldable pub kind_among : List Leaf → ℕ
kind_among ls = number_of_field kind_names 1 ls

unfoldable pub context_among : List (List Leaf) → ℕ
context_among groups = number_of_field context_names 7 (get_or groups 0 [])

-- a segment's bytes: the texts of its leaves, and its separators, one fewer than leaves (S3)
unfoldable pub segment_bytes : List Leaf → ℕ
segment_bytes ls = length (text_of ls) + (length ls - 1)

-- the bytes that are written for it (W1): its own, a CR for each line, and `A` and separator for each line but the first
unfoldable pub written_bytes : Limits → List Leaf → ℕ
written_bytes L ls = segment_bytes ls + 3 * line_count L (segment_bytes ls) - 2
