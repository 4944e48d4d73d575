-- The analysis codes that a message's results carry (X2): 10.4.1 of each OBX, in its first repetition.
-- Assumes nothing.
use Rattle.std.specs.Prelude.{true, false, List, [], ◌∷◌, map, ℕ, eqb, ltb, length, get_or}
use Rattle.laws.specs.Lists.{first_from}
use Rattle.form.specs.declared.limits.Limits.{Limits}
use Rattle.form.specs.declared.separators.Separators.{Separators}
use Rattle.form.specs.declared.separators.Header.TheVariants.{Sound, Broken}
use Rattle.form.specs.Header.{header_of}
use Rattle.table.specs.Leaves.{split, kind_of_segment}
use Rattle.index.specs.Index.{code_most}
use Rattle.read.specs.Sound.{segments_in}

-- the kind whose rows are counted, OBX (S1)
abbrev pub counted_kind : ℕ
counted_kind = 6

-- the part of a number, counted from 0, between the bytes p of a text (S2): no text where there are not so many
abbrev pub part_numbered : (p n : ℕ) → List ℕ → List ℕ
part_numbered p n s = get_or (split p s) n []

-- the leaf 10.4.1 of a segment (S2, S5): of its fourth field the first repetition, of that the first subfield, of that the first sub-subfield
unfoldable pub leaf_code : Separators → List ℕ → List ℕ
leaf_code ps s =
    part_numbered ps.subsubfield 0 (part_numbered ps.subfield 0 (part_numbered ps.repeater 0 (part_numbered ps.field 3 s)))

-- the code that a segment carries: none, where it is no OBX
unfoldable pub code_carried : Separators → List ℕ → List ℕ
code_carried ps s = elim (eqb (kind_of_segment ps s) counted_kind) [ true ↦ leaf_code ps s | false ↦ [] ]

-- what each segment of a message carries, in their order
unfoldable pub codes_in : Limits → List ℕ → List (List ℕ)
codes_in L message =
    elim (header_of message) [ Sound ps ↦ map (code_carried ps) (segments_in L ps message) | Broken ↦ [] ]

-- those that are counted: what is absent or empty is not
unfoldable pub codes_counted : List (List ℕ) → List (List ℕ)
codes_counted [] = []
codes_counted (c ∷ cs) = elim (eqb (length c) 0) [ true ↦ codes_counted cs | false ↦ c ∷ codes_counted cs ]

-- the number of the first segment whose code is too long, or 0
unfoldable pub first_long : List (List ℕ) → ℕ
first_long cs = first_from (λ (c : List ℕ). ltb code_most (length c)) 1 cs
