-- From a table back to its segments, and to the lines that it is written in (rules S3 and W1): between two neighbouring leaves stands
-- exactly one separator, the one that leads from the first place to the second.
-- Assumes nothing.
use Rattle.std.specs.Prelude.{true, false, List, [], ◌∷◌, ◌++◌, ℕ, eqb, take, drop, get_or}
use Rattle.laws.specs.Tables.{values}
use Rattle.form.specs.declared.limits.Limits.{Limits}
use Rattle.form.specs.declared.separators.Separators.{Separators}
use Rattle.form.specs.Header.{splitting}
use Rattle.line.specs.Lines.{CR}
use Rattle.line.specs.Cutting.{cuts, unlines}
use Rattle.table.specs.Leaves.{Leaf, split}
use Rattle.table.specs.Rows.{Table, place_in, start_in, length_in}

-- the leaf that row i of the leaf rows states, counted from 0
unfoldable pub leaf_at : List ℕ → List ℕ → ℕ → Leaf
leaf_at rows text i = record { place = place_in rows i; text = take (length_in rows i) (drop (start_in rows i) text) }

-- the counted leaves of a table
unfoldable pub leaves_of : Table → List Leaf
leaves_of t = values (leaf_at t.leaf_rows t.text) 0 t.card.leaves

-- the separators (H1) by the field separator and the second leaf, whose text is the other four (S4)
unfoldable pub separators_at : (field : ℕ) (rows text : List ℕ) → Separators
separators_at field rows text =
    record {
      field = field;
      subfield = get_or (leaf_at rows text 1).text 0 0;
      repeater = get_or (leaf_at rows text 1).text 1 0;
      escape = get_or (leaf_at rows text 1).text 2 0;
      subsubfield = get_or (leaf_at rows text 1).text 3 0;
    }

-- those of a table, whose card has the field separator (T5)
abbrev pub separators_in : Table → Separators
separators_in t = separators_at t.card.separator t.leaf_rows t.text

-- the separator, of some that are the coarsest first, that leads from one place to another: that of the first number that differs
unfoldable pub between : List ℕ → List ℕ → List ℕ → ℕ
between [] from to = 0
between (p ∷ ps) [] to = p
between (p ∷ ps) (m ∷ from) [] = p
between (p ∷ ps) (m ∷ from) (n ∷ to) = elim (eqb m n) [ true ↦ between ps from to | false ↦ p ]

-- the text that leaves come from, of which the first is l; then of any leaves
unfoldable pub unsplit_from : List ℕ → Leaf → List Leaf → List ℕ
unsplit_from ps l [] = l.text
unsplit_from ps l (m ∷ ls) = l.text ++ between ps l.place m.place ∷ unsplit_from ps m ls

unfoldable pub unsplit : List ℕ → List Leaf → List ℕ
unsplit ps [] = []
unsplit ps (l ∷ ls) = unsplit_from ps l ls

-- the segments of a table: CR, which no segment has, stands for a separator coarser than the four and parts them
unfoldable pub segments_of : Table → List (List ℕ)
segments_of t = split CR (unsplit (CR ∷ splitting (separators_in t)) (leaves_of t))

-- the lines that a table is written in (W1), and the bytes, each line with its CR
unfoldable pub lines_of : Limits → Table → List (List ℕ)
lines_of L t = cuts L t.card.separator (segments_of t)

unfoldable pub written : Limits → Table → List ℕ
written L t = unlines (lines_of L t)
