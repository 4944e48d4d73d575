-- Levels and owners (rules O1 to O4).
-- Assumes nothing.
use Rattle.std.specs.Prelude.{Bool, true, false, not, ◌&&◌, List, [], ◌∷◌, ℕ, suc, ltb, eqb, length, get_or}

-- the level of a kind in a context by rows of levels: a row is a context, a column a kind, both by number; 0 where there is none
abbrev pub level_by : List (List ℕ) → ℕ → ℕ → ℕ
level_by rows context kind = get_or (get_or rows context []) kind 0

-- rows of levels, given those of the two contexts in which the former ones differ; 0 where a context has no such kind
abbrev pub levels_with : (ora fac : List ℕ) → List (List ℕ)
levels_with ora fac =
    --      H   P   AP  AC  OBR OBX FAC REG ACT ERR L
    []
    ∷ (0 ∷ 1 ∷ 2 ∷ 3 ∷ 4 ∷ 0 ∷ 0 ∷ 0 ∷ 0 ∷ 0 ∷ 0 ∷ 1 ∷ [])  -- ADM
    ∷ (0 ∷ 1 ∷ 2 ∷ 0 ∷ 0 ∷ 3 ∷ 4 ∷ 0 ∷ 0 ∷ 0 ∷ 0 ∷ 1 ∷ [])  -- ORM
    ∷ ora
    ∷ (0 ∷ 1 ∷ 2 ∷ 0 ∷ 0 ∷ 0 ∷ 0 ∷ 0 ∷ 3 ∷ 0 ∷ 0 ∷ 1 ∷ [])  -- REG
    ∷ (0 ∷ 1 ∷ 0 ∷ 0 ∷ 0 ∷ 0 ∷ 0 ∷ 0 ∷ 0 ∷ 0 ∷ 2 ∷ 1 ∷ [])  -- ERR
    ∷ (0 ∷ 1 ∷ 2 ∷ 0 ∷ 0 ∷ 3 ∷ 4 ∷ 0 ∷ 0 ∷ 0 ∷ 0 ∷ 1 ∷ [])  -- ORU
    ∷ fac
    ∷ []

-- the rows of levels in force (O1): a patient owns the orders and the invoices, and an invoice all of its lines
unfoldable pub levels : List (List ℕ)
levels =
    levels_with
    --   H   P   AP  AC  OBR OBX FAC REG ACT ERR L
    (0 ∷ 1 ∷ 2 ∷ 3 ∷ 4 ∷ 3 ∷ 4 ∷ 0 ∷ 0 ∷ 0 ∷ 0 ∷ 1 ∷ [])  -- ORA
    (0 ∷ 1 ∷ 2 ∷ 3 ∷ 4 ∷ 0 ∷ 0 ∷ 3 ∷ 4 ∷ 4 ∷ 0 ∷ 1 ∷ [])  -- FAC

-- the former rows of levels (O4), by which archived tables may have been made: the last cover owns what follows it, and a REG the ACT behind it
unfoldable pub former_levels : List (List ℕ)
former_levels =
    levels_with
    --   H   P   AP  AC  OBR OBX FAC REG ACT ERR L
    (0 ∷ 1 ∷ 2 ∷ 3 ∷ 4 ∷ 5 ∷ 6 ∷ 0 ∷ 0 ∷ 0 ∷ 0 ∷ 1 ∷ [])  -- ORA
    (0 ∷ 1 ∷ 2 ∷ 3 ∷ 4 ∷ 0 ∷ 0 ∷ 5 ∷ 6 ∷ 7 ∷ 0 ∷ 1 ∷ [])  -- FAC

-- the levels in force, and the former ones
unfoldable pub level : ℕ → ℕ → ℕ
level context kind = level_by levels context kind

unfoldable pub former_level : ℕ → ℕ → ℕ
former_level context kind = level_by former_levels context kind

-- the row of the nearest of some earlier kinds that passes a test, or 0; the nearest stands first
unfoldable pub nearest : (ℕ → Bool) → List ℕ → ℕ
nearest p [] = 0
nearest p (k ∷ before) = elim (p k) [ true ↦ suc (length before) | false ↦ nearest p before ]

-- whether a kind is C
unfoldable pub is_c : ℕ → Bool
is_c k = eqb k 12

-- the owner of a segment of kind k after those before it, the nearest first, by levels lv of kinds: of a C the nearest that is no C (O3), of
-- any other the nearest, C left out, of a lower level (O2). H and L have 0 by their level 1: in an order of the context no kind but C has a lower one.
unfoldable pub owner : (ℕ → ℕ) → List ℕ → ℕ → ℕ
owner lv before k =
    elim (is_c k) [
      | true ↦ nearest (λ j. not (is_c j)) before
      | false ↦ nearest (λ j. not (is_c j) && ltb (lv j) (lv k)) before
    ]

-- the owners of kinds in a row, after those before them
unfoldable pub owners_after : (ℕ → ℕ) → List ℕ → List ℕ → List ℕ
owners_after lv before [] = []
owners_after lv before (k ∷ ks) = owner lv before k ∷ owners_after lv (k ∷ before) ks

unfoldable pub owners : (ℕ → ℕ) → List ℕ → List ℕ
owners lv kinds = owners_after lv [] kinds
