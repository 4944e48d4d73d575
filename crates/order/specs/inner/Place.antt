-- The place of refusal 10 (rule N1), computed by derivatives of the grammar: what may still follow once a kind has been told. A derivative
-- is a list of alternatives, and each of these a row of shapes that are still to come.
-- Assumes nothing.
use Rattle.std.specs.Prelude.{Bool, true, false, ◌&&◌, ◌||◌, List, [], ◌∷◌, ◌++◌, ℕ, suc, eqb}
use Rattle.order.specs.Grammar.{Shape, never, only, ◌▸◌, any, plus, maybe}
use Rattle.order.specs.Contexts.{grammar}

-- whether a shape derives the empty order
unfoldable pub empties : Shape → Bool
empties never = false
empties (only k) = false
empties (a ▸ b) = empties a && empties b
empties (any a) = true
empties (plus a) = empties a
empties (maybe a) = true

-- the rows that are left of a shape and the rest of its row, once the kind k has been told
unfoldable pub told : ℕ → Shape → List Shape → List (List Shape)
told k never rest = []
told k (only j) rest = elim (eqb k j) [ true ↦ rest ∷ [] | false ↦ [] ]
told k (a ▸ b) rest = told k a (b ∷ rest) ++ elim (empties a) [ true ↦ told k b rest | false ↦ [] ]
told k (any a) rest = told k a (any a ∷ rest)
told k (plus a) rest = told k a (any a ∷ rest)
told k (maybe a) rest = told k a rest

-- the same of a row
unfoldable pub row_told : ℕ → List Shape → List (List Shape)
row_told k [] = []
row_told k (r ∷ rest) = told k r rest ++ elim (empties r) [ true ↦ row_told k rest | false ↦ [] ]

-- the same of all alternatives
unfoldable pub rows_told : ℕ → List (List Shape) → List (List Shape)
rows_told k [] = []
rows_told k (row ∷ rows) = row_told k row ++ rows_told k rows

-- whether a row derives the empty order; whether one of the alternatives does
unfoldable pub row_empties : List Shape → Bool
row_empties [] = true
row_empties (r ∷ rest) = empties r && row_empties rest

unfoldable pub rows_empty : List (List Shape) → Bool
rows_empty [] = false
rows_empty (row ∷ rows) = row_empties row || rows_empty rows

-- what is left of the alternatives once kinds have been told, one after the other
unfoldable pub rows_after : List (List Shape) → List ℕ → List (List Shape)
rows_after rows [] = rows
rows_after rows (k ∷ w) = rows_after (rows_told k rows) w

-- whether there is an alternative
unfoldable pub some_left : List (List Shape) → Bool
some_left [] = false
some_left (row ∷ rows) = true

-- a shape as the one alternative
abbrev pub start : Shape → List (List Shape)
start r = (r ∷ []) ∷ []

-- the place, counted from `at`, of the first kind that may not stand there, or one past the end where more must follow;
-- 0 where the order is whole
unfoldable pub place_from : ℕ → List (List Shape) → List ℕ → ℕ
place_from at rows [] = elim (rows_empty rows) [ true ↦ 0 | false ↦ at ]
place_from at rows (k ∷ w) = elim (rows_told k rows) [ [] ↦ at | row ∷ more ↦ place_from (suc at) (row ∷ more) w ]

-- the place of refusal 10 for the kinds of a message in a context (N1); 0 where there is none
unfoldable pub misplaced : ℕ → List ℕ → ℕ
misplaced c kinds = place_from 1 (start (grammar c)) kinds
