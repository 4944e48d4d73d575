-- How the lookups find what they answer: row by row, from the first on. What they answer is said in Matches.
-- Assumes nothing.
use Rattle.std.specs.Prelude.{Bool, true, false, ◌&&◌, List, ◌≡◌, ℕ, zero, suc, ◌-◌, eqb, take, drop}
use Rattle.laws.specs.Lists.{same}
use Rattle.table.specs.Lent.{Lent, within_buffers}
use Rattle.table.specs.Rows.{place_in, start_in, length_in}
use Rattle.look.specs.declared.leaf.Sought.{Sought}
use Rattle.look.specs.declared.leaf.Sought.TheVariants.{At, Empty, NotThere}
use Rattle.look.specs.declared.leaf.Place.{Place}
use Rattle.look.specs.Looking.{numbers_of, leaf_fits, named_fits, segments_fit, has_kind_and_owner, order_at, order_place}

-- a test of rows, by what it may answer of a row, tells whether the row has a place
pub record Tells (answers : ℕ → Bool → Type 0) (rows : List ℕ) (p : Place) : Type 0 where
  pub tells : (i : ℕ) (b : Bool) → answers i b → b ≡ same (place_in rows i) (numbers_of p)

-- what a row's start and length come to: found, or found empty where there is no byte
unfoldable pub found_of : (start length : ℕ) → Sought
found_of start n = elim (eqb n 0) [ true ↦ Empty | false ↦ At start n ]

-- where the text of a leaf lies by the first of n rows, from row i on, that passes a test, or that none does
unfoldable pub sought_from : (ℕ → Bool) → List ℕ → ℕ → ℕ → Sought
sought_from test rows i zero = NotThere
sought_from test rows i (suc n) =
    elim (test i) [ true ↦ found_of (start_in rows i) (length_in rows i) | false ↦ sought_from test rows (suc i) n ]

-- the same of all leaf rows that the card of a lent table counts; no row is looked at where the card counts more than some buffer holds
unfoldable pub sought_by : (ℕ → Bool) → Lent → Sought
sought_by test t = elim (within_buffers t) [ true ↦ sought_from test t.leaf_rows 0 t.card.leaves | false ↦ NotThere ]

-- the leaf lookup (F1), and the one among the leaf rows that the place's segment row names (F4)
abbrev pub sought_in : Lent → Place → Sought
sought_in t p = sought_by (leaf_fits t p) t

abbrev pub sought_in_segment : Lent → Place → Sought
sought_in_segment t p = sought_by (named_fits t p) t

-- the number, counted from 1, of the first of n rows from row i on that has both, or 0
unfoldable pub row_from : List ℕ → ℕ → ℕ → ℕ → ℕ → ℕ
row_from rows kind owner i zero = 0
row_from rows kind owner i (suc n) =
    elim (has_kind_and_owner rows kind owner i) [ true ↦ suc i | false ↦ row_from rows kind owner (suc i) n ]

-- the number of the next row, behind row `after`, that has both, or 0; 0 as well where there are fewer segment rows than the count says (F2)
unfoldable pub row_after : List ℕ → ℕ → ℕ → ℕ → ℕ → ℕ
row_after rows count after kind owner =
    elim (segments_fit rows count) [ true ↦ row_from rows kind owner after (count - after) | false ↦ 0 ]

-- whether two found texts have the same bytes; a leaf that is empty or not there has none to compare
unfoldable pub same_texts : List ℕ → Sought → List ℕ → Sought → Bool
same_texts text (At a n) other (At b m) = same (take n (drop a text)) (take m (drop b other))
same_texts text (At a n) other Empty = false
same_texts text (At a n) other NotThere = false
same_texts text Empty other s = false
same_texts text NotThere other s = false

-- whether a row of one table and a row of another are the same order (F3)
unfoldable pub same_order : Lent → ℕ → Lent → ℕ → Bool
same_order t row u other =
    order_at t row
    && order_at u other
    && same_texts t.text (sought_in t (order_place row)) u.text (sought_in u (order_place other))
