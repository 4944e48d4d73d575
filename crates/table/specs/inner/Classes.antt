-- The class of a byte, by which text is told from separators: 0 text, 1 to 4 the splitting separators, the coarsest first, 5 below 32.
-- Assumes nothing.
use Rattle.std.specs.Prelude.{true, false, List, ℕ, ltb, eqb, set, replicate}
use Rattle.std.proofs.lemmas.List.Edits.{sets}
use Rattle.laws.specs.Lists.{first_from}
use Rattle.laws.specs.Tables.{values}
use Rattle.form.specs.declared.separators.Separators.{Separators}
use Rattle.form.specs.Header.{splitting}

-- which of the splitting separators a byte is, counted from 1, the coarsest first; 0 where it is none
unfoldable pub sort_of : Separators → ℕ → ℕ
sort_of ps b = first_from (eqb b) 1 (splitting ps)

unfoldable pub class_of : Separators → ℕ → ℕ
class_of ps b = elim (ltb b 32) [ true ↦ 5 | false ↦ sort_of ps b ]

-- the table of all bytes
unfoldable pub class_table : Separators → List ℕ
class_table ps = values (class_of ps) 0 256

-- what is set in a table that is lent: each separator's sort, the coarser over the finer, and 5 below 32; the other entries stay
unfoldable pub classes_over : Separators → List ℕ → List ℕ
classes_over ps t =
    sets (set (set (set (set t ps.subsubfield 4) ps.subfield 3) ps.repeater 2) ps.field 1) 0 (replicate 32 5)
