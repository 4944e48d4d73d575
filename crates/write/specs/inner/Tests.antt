-- The table test (W4) as loops make it (models that antt computes): each is a test of a card, of the counted rows as plain lists of numbers, and of
-- the counted text.
-- Assumes nothing.
use Rattle.std.specs.Prelude.{Bool, true, false, not, ◌&&◌, cond, Option, Some, None, List, [], ◌∷◌, ◌≡◌, ℕ, zero, suc, ◌+◌, ◌-◌, ◌*◌, ◌≤◌, ◌<◌, leb, eqb, length, get_or}
use Rattle.laws.specs.Lists.{same, among}
use Rattle.laws.specs.Tables.{values}
use Rattle.form.specs.declared.limits.Limits.{Limits}
use Rattle.form.specs.Header.{all_allowed, different, five, splitting}
use Rattle.form.specs.Names.{number_among}
use Rattle.line.specs.Lines.{space}
use Rattle.table.specs.declared.Card.{Card}
use Rattle.table.specs.Leaves.{Leaf}
use Rattle.table.specs.Rows.{Table, segment_row_size, leaf_row_size, kind_in, owner_in, first_in, count_in, place_in, width}
use Rattle.table.specs.inner.Columns.{segment_in}
use Rattle.table.specs.inner.Back.{leaf_at, separators_at, written}
use Rattle.order.specs.Owners.{owners}
use Rattle.order.specs.inner.Place.{misplaced}
use Rattle.table.specs.inner.BySegment.{by_segment, kind_among, context_among, number_of_field}
use Rattle.table.specs.inner.RowTests.{end_to_end, next_place, go_on_from}
use Rattle.write.specs.inner.ReadsBack.{reads_back, is_table}
use Rattle.table.specs.Lent.{Lent, counted}
use Rattle.write.specs.inner.Local.{third_place}

-- a test that is passed exactly where something holds
abbrev pub Decides : Bool → Type 0 → Type 0
Decides r holds = (r ≡ true → holds) × (r ≡ false → holds → ⊥)

-- so many leaf rows, whose texts lie end to end in a text; both are few enough for a row's number
pub record InText (rows text : List ℕ) (count : ℕ) : Type 0 where
  pub sized : length rows ≡ count * leaf_row_size
  pub few : count < width
  pub short : length text < width
  pub ended : end_to_end rows (length text) 0 count 0 ≡ true

-- leaf rows of which each stands at the place that comes next
abbrev pub PlacesFollow : List ℕ → ℕ → Type 0
PlacesFollow rows count = (k : ℕ) → suc k < count → next_place (place_in rows k) (place_in rows (suc k)) ≡ true

-- leaf rows that are laid out: their texts lie end to end, and each stands at the place that comes next
pub record Laid (rows : List ℕ) (count finish : ℕ) : Type 0 where
  pub ended : end_to_end rows finish 0 count 0 ≡ true
  pub next : PlacesFollow rows count

-- the leaves that the rows from one up to another state
abbrev pub leaves_between : List ℕ → List ℕ → ℕ → ℕ → List Leaf
leaves_between rows text first end = values (leaf_at rows text) first (end - first)

-- so many leaves, by segment
abbrev pub groups_in : List ℕ → List ℕ → ℕ → List (List Leaf)
groups_in rows text count = by_segment (values (leaf_at rows text) 0 count)

-- the numbers of the place at an entry that are finer than its first k
abbrev pub finer : List ℕ → ℕ → ℕ → List ℕ
finer rows at k = values (λ (j : ℕ). get_or rows (at + j) 0) k (5 - k)

-- whether a byte may stand in a leaf's text
unfoldable pub leaf_byte : List ℕ → ℕ → Bool
leaf_byte ps b = leb space b && not (among ps b)

-- whether the first two leaf rows are a header's: `H`, and four bytes (S4)
unfoldable pub header_leaves_at : List ℕ → List ℕ → Bool
header_leaves_at rows text =
    same (leaf_at rows text 0).place (1 ∷ 1 ∷ 1 ∷ 1 ∷ 1 ∷ [])
    && same (leaf_at rows text 0).text (72 ∷ [])
    && same (leaf_at rows text 1).place (1 ∷ 2 ∷ 1 ∷ 1 ∷ 1 ∷ [])
    && eqb (length (leaf_at rows text 1).text) 4

-- the leaf after the last one of the segment that a leaf stands in
pub record SegmentEnd (rows : List ℕ) (count first end : ℕ) : Type 0 where
  pub from : first < end
  pub to : end ≤ count
  pub within : (k : ℕ) → first ≤ k → k < end → segment_in rows k ≡ segment_in rows first
  pub other : end < count → segment_in rows end ≡ segment_in rows first → ⊥

-- a number that names something, or none where it is 0
abbrev pub known : ℕ → Option ℕ
known number = cond (eqb number 0) None (Some number)

-- the number that names give the text of a leaf, or 0 where there is no leaf
unfoldable pub number_at : List (List ℕ) → List ℕ → List ℕ → Option ℕ → ℕ
number_at names rows text None = 0
number_at names rows text (Some at) = number_among names (leaf_at rows text at).text

-- the one leaf of a field among some leaves, or none where the field is missing or is more than one leaf
pub record FieldLeaf (rows : List ℕ) (field first end : ℕ) (found : Option ℕ) : Type 0 where
  pub within : (at : ℕ) → found ≡ Some at → (first ≤ at) × (at < end)
  pub number : (names : List (List ℕ)) (text : List ℕ)
      → number_of_field names field (leaves_between rows text first end) ≡ number_at names rows text found

-- whether segment row i states a known kind, a first leaf and a leaf count
unfoldable pub row_states : List ℕ → ℕ → ℕ → ℕ → ℕ → Bool
row_states rows i kind first count =
    not (eqb kind 0)
    && eqb (kind_in rows i) kind
    && eqb (first_in rows i) first
    && eqb (count_in rows i) count

-- whether the n segment rows from row i on state the kinds, the first leaves and the leaf counts of some segments, owners aside
unfoldable pub groups_stated : List ℕ → ℕ → ℕ → ℕ → List (List Leaf) → Bool
groups_stated rows i zero first [] = true
groups_stated rows i zero first (g ∷ gs) = false
groups_stated rows i (suc n) first [] = false
groups_stated rows i (suc n) first (g ∷ gs) = row_states rows i (kind_among g) first (length g) && groups_stated rows (suc i) n (first + length g) gs

-- the kinds and the owners that segment rows state
unfoldable pub kind_column : List ℕ → ℕ → List ℕ
kind_column rows n = values (λ (i : ℕ). kind_in rows i) 0 n

unfoldable pub owner_column : List ℕ → ℕ → List ℕ
owner_column rows n = values (λ (i : ℕ). owner_in rows i) 0 n

-- segment rows that state kinds
pub record KindsStated (rows : List ℕ) (n : ℕ) : Type 0 where
  pub sized : length rows ≡ n * segment_row_size
  pub few : n < width
  pub kinds : (i : ℕ) → i < n → kind_in rows i ≤ 12

-- whether the header's rows keep the header rule (H2, S4) and the leaf rows after them go on soundly
unfoldable pub sound_leaves : ℕ → List ℕ → List ℕ → ℕ → Bool
sound_leaves field rows text count =
    header_leaves_at rows text
    && (all_allowed (five (separators_at field rows text)) && different (five (separators_at field rows text)))
    && go_on_from (splitting (separators_at field rows text)) third_place (leaves_between rows text 2 count)

-- whether field 7 of the first segment names the context (C1) and the kinds stand where it allows them (C2, C3)
unfoldable pub in_order : ℕ → List ℕ → ℕ → List ℕ → List ℕ → ℕ → Bool
in_order context segments many rows text count =
    not (eqb context 0)
    && eqb (context_among (groups_in rows text count)) context
    && eqb (misplaced context (kind_column segments many)) 0

-- a table whose rows and text pass every test but that of the message's bytes
pub record SoundRows (levels : ℕ → ℕ → ℕ) (t : Table) : Type 0 where
  pub three : 3 ≤ t.card.leaves
  pub laid : end_to_end t.leaf_rows t.card.text 0 t.card.leaves 0 ≡ true
  pub sound : sound_leaves t.card.separator t.leaf_rows t.text t.card.leaves ≡ true
  pub grouped : groups_stated t.segment_rows 0 t.card.segments 1 (groups_in t.leaf_rows t.text t.card.leaves) ≡ true
  pub owned : same (owner_column t.segment_rows t.card.segments)
      (owners (levels t.card.context) (kind_column t.segment_rows t.card.segments)) ≡ true
  pub ordered : in_order t.card.context t.segment_rows t.card.segments t.leaf_rows t.text t.card.leaves ≡ true

-- the bytes that are written for a table, if some message reads to it
unfoldable pub size_back : Limits → (ℕ → ℕ → ℕ) → Table → Option ℕ
size_back L levels t = elim (reads_back L levels t) [ true ↦ Some (length (written L t)) | false ↦ None ]

-- the same of a lent table
unfoldable pub lent_size : Limits → (ℕ → ℕ → ℕ) → Lent → Option ℕ
lent_size L levels l = elim (is_table L levels l) [ true ↦ Some (length (written L (counted l))) | false ↦ None ]

-- a table of some counted entries
abbrev pub table_with : Card → (segment_rows leaf_rows text : List ℕ) → Table
table_with card segment_rows leaf_rows text = record { card = card; segment_rows = segment_rows; leaf_rows = leaf_rows; text = text }

-- a card with other counts of rows
abbrev pub of_counts : Card → (segments leaves : ℕ) → Card
of_counts card segments leaves =
    record { separator = card.separator; context = card.context; segments = segments; leaves = leaves; text = card.text }
