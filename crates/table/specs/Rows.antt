-- The table of joined segments (rules T1 to T5): card, segment rows, leaf rows, text area; and the row of each segment.
-- Assumes nothing.
use Rattle.std.specs.Prelude.{List, [], ◌∷◌, ◌++◌, map, reverse, ◌≡◌, ℕ, ◌+◌, ◌*◌, length, take, drop, get_or}
use Rattle.laws.specs.Lists.{concat}
use Rattle.form.specs.declared.separators.Separators.{Separators}
use Rattle.order.specs.Owners.{owner, owners}
use Rattle.table.specs.declared.Card.{Card}
use Rattle.table.specs.Leaves.{Leaf, kind_of_segment, context_of_header, message_leaves}

-- how many numbers a segment row (T2) and a leaf row (T3) have
abbrev pub segment_row_size : ℕ
segment_row_size = 4

abbrev pub leaf_row_size : ℕ
leaf_row_size = 7

-- every number of a row is below this: it is 32 bits wide (T1)
abbrev pub width : ℕ
width = 4294967296

-- a segment's row (T2): its kind, its owner (a row's number, or 0), the number of its first leaf, its leaf count
abbrev pub segment_row : (kind owner first count : ℕ) → List ℕ
segment_row kind owner first count = kind ∷ owner ∷ first ∷ count ∷ []

-- its columns, in row i of the segment rows, counted from 0
abbrev pub kind_in : List ℕ → ℕ → ℕ
kind_in rows i = get_or rows (i * segment_row_size) 0

abbrev pub owner_in : List ℕ → ℕ → ℕ
owner_in rows i = get_or rows (i * segment_row_size + 1) 0

abbrev pub first_in : List ℕ → ℕ → ℕ
first_in rows i = get_or rows (i * segment_row_size + 2) 0

abbrev pub count_in : List ℕ → ℕ → ℕ
count_in rows i = get_or rows (i * segment_row_size + 3) 0

-- row i has these four numbers
pub record RowIs (rows : List ℕ) (i kind owner first count : ℕ) : Type 0 where
  pub kind_is : kind_in rows i ≡ kind
  pub owner_is : owner_in rows i ≡ owner
  pub first_is : first_in rows i ≡ first
  pub count_is : count_in rows i ≡ count

-- the columns of a leaf's row (T3), in row i of the leaf rows, counted from 0: the whole place, start and length of the text
abbrev pub place_in : List ℕ → ℕ → List ℕ
place_in rows i = take 5 (drop (i * leaf_row_size) rows)

abbrev pub start_in : List ℕ → ℕ → ℕ
start_in rows i = get_or rows (i * leaf_row_size + 5) 0

abbrev pub length_in : List ℕ → ℕ → ℕ
length_in rows i = get_or rows (i * leaf_row_size + 6) 0

-- a table (T1): its card, and the counted entries of its three buffers
pub record Table : Type 0 where
  pub card : Card
  pub segment_rows : List ℕ
  pub leaf_rows : List ℕ
  pub text : List ℕ

-- what a segment's row takes from the segments before it, the number of its first leaf: of the first segment, and after one with these leaves
pub record Next : Type 0 where
  pub first_leaf : ℕ

abbrev pub none_before : Next
none_before = record { first_leaf = 1 }

abbrev pub next_after : Next → List Leaf → Next
next_after n l = record { first_leaf = n.first_leaf + length l }

-- the row that comes next, of a segment's kind, owner and leaves
abbrev pub row_next : Next → (kind owner : ℕ) → List Leaf → List ℕ
row_next n kind owner l = segment_row kind owner n.first_leaf (length l)

-- the segment rows, from the columns of kinds, owners and each segment's leaves
unfoldable pub segment_rows_from : Next → List ℕ → List ℕ → List (List Leaf) → List ℕ
segment_rows_from n [] os ls = []
segment_rows_from n (k ∷ ks) [] ls = []
segment_rows_from n (k ∷ ks) (o ∷ os) [] = []
segment_rows_from n (k ∷ ks) (o ∷ os) (l ∷ ls) =
    row_next n k o l ++ segment_rows_from (next_after n l) ks os ls

-- all of them
abbrev pub segment_rows_of : (kinds owners : List ℕ) (leaves : List (List Leaf)) → List ℕ
segment_rows_of kinds owners leaves = segment_rows_from none_before kinds owners leaves

-- the rows of leaves (T3) whose texts stand one behind the other from `start` on, and the text area that these texts make (T4)
unfoldable pub leaf_rows_from : ℕ → List Leaf → List ℕ
leaf_rows_from start [] = []
leaf_rows_from start (l ∷ ls) = l.place ++ (start ∷ length l.text ∷ leaf_rows_from (start + length l.text) ls)

unfoldable pub text_of : List Leaf → List ℕ
text_of [] = []
text_of (l ∷ ls) = l.text ++ text_of ls

-- the kinds of joined segments (S1)
unfoldable pub kinds_of : Separators → List (List ℕ) → List ℕ
kinds_of ps segments = map (kind_of_segment ps) segments

-- the context that joined segments name, or 0 (C1)
unfoldable pub context_in : Separators → List (List ℕ) → ℕ
context_in ps segments = context_of_header ps (get_or segments 0 [])

-- all leaves of joined segments (S2)
unfoldable pub all_leaves : Separators → List (List ℕ) → List Leaf
all_leaves ps segments = concat (message_leaves ps segments)

-- the table of joined segments; `levels` gives the level of a kind in a context (O1)
unfoldable pub table_of : (ℕ → ℕ → ℕ) → Separators → List (List ℕ) → Table
table_of levels ps segments =
    record {
      card =
          record {
            separator = ps.field;
            context = context_in ps segments;
            segments = length segments;
            leaves = length (all_leaves ps segments);
            text = length (text_of (all_leaves ps segments));
          };
      segment_rows =
          segment_rows_of (kinds_of ps segments) (owners (levels (context_in ps segments)) (kinds_of ps segments))
          (message_leaves ps segments);
      leaf_rows = leaf_rows_from 0 (all_leaves ps segments);
      text = text_of (all_leaves ps segments);
    }

-- the owner of segment i (O2, O3), by the kinds before it, the nearest first
abbrev pub owner_of_segment : (ℕ → ℕ → ℕ) → Separators → List (List ℕ) → ℕ → ℕ
owner_of_segment levels ps segs i = owner (levels (context_in ps segs)) (reverse (take i (kinds_of ps segs))) (kind_of_segment ps (get_or segs i []))

-- the number of its first leaf, one more than the leaves of the segments before it, and how many leaves it has
abbrev pub first_leaf_of : Separators → List (List ℕ) → ℕ → ℕ
first_leaf_of ps segs i = 1 + length (concat (take i (message_leaves ps segs)))

abbrev pub leaf_count_of : Separators → List (List ℕ) → ℕ → ℕ
leaf_count_of ps segs i = length (get_or (message_leaves ps segs) i [])

-- row i of rows is that of segment i (T2), both counted from 0
abbrev pub RowOf : (ℕ → ℕ → ℕ) → Separators → List (List ℕ) → List ℕ → ℕ → Type 0
RowOf levels ps segs rows i =
    RowIs rows i (kind_of_segment ps (get_or segs i [])) (owner_of_segment levels ps segs i) (first_leaf_of ps segs i) (leaf_count_of ps segs i)
