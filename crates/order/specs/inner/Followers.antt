-- The follower table (rule C4). What an entry means is `Follows`; `follows` computes it from the grammar.
-- Assumes nothing.
use Rattle.std.specs.Prelude.{Bool, true, false, List, [], ◌∷◌, ◌++◌, ℕ, zero, suc, ◌+◌, ◌/◌, ◌%◌, eqb, get_or, replicate}
use Rattle.laws.specs.Lists.{among}
use Rattle.laws.specs.Tables.{values}
use Rattle.order.specs.Grammar.{Shape, Begins}
use Rattle.order.specs.Contexts.{grammar}
use Rattle.order.specs.inner.Place.{rows_told, rows_after, some_left, start}

-- some order begun in context c has x, any number of C, and then k
abbrev pub Follows : ℕ → ℕ → ℕ → Type 0
Follows c x k = (u : List ℕ) × (n : ℕ) × Begins (grammar c) (u ++ (x ∷ replicate n 12) ++ (k ∷ []))

-- one order of each context, by its number, that goes through all of the context's kinds
unfoldable pub ways : List (List ℕ)
ways =
    []
    ∷ (1 ∷ 2 ∷ 3 ∷ 4 ∷ 11 ∷ [])  -- ADM: H, P, AP, AC, L
    ∷ (1 ∷ 2 ∷ 5 ∷ 6 ∷ 11 ∷ [])  -- ORM: H, P, OBR, OBX, L
    ∷ (1 ∷ 2 ∷ 3 ∷ 4 ∷ 5 ∷ 6 ∷ 11 ∷ [])  -- ORA: H, P, AP, AC, OBR, OBX, L
    ∷ (1 ∷ 2 ∷ 8 ∷ 11 ∷ [])  -- REG: H, P, REG, L
    ∷ (1 ∷ 10 ∷ 11 ∷ [])  -- ERR: H, ERR, L
    ∷ (1 ∷ 2 ∷ 5 ∷ 6 ∷ 11 ∷ [])  -- ORU: H, P, OBR, OBX, L
    ∷ (1 ∷ 2 ∷ 3 ∷ 4 ∷ 7 ∷ 8 ∷ 9 ∷ 11 ∷ [])  -- FAC: H, P, AP, AC, FAC, REG, ACT, L
    ∷ []

-- the part of an order before the first x
unfoldable pub before : ℕ → List ℕ → List ℕ
before x [] = []
before x (k ∷ w) = elim (eqb x k) [ true ↦ [] | false ↦ k ∷ before x w ]

-- what is left of a context's grammar once x has come by the context's way: all of it at 0, before any kind has come, and
-- nothing where the context has no kind x
unfoldable pub left_at : ℕ → ℕ → List (List Shape)
left_at c zero = start (grammar c)
left_at c (suc x) =
    elim (among (get_or ways c []) (suc x)) [
      | true ↦ rows_after (start (grammar c)) (before (suc x) (get_or ways c []) ++ (suc x ∷ []))
      | false ↦ []
    ]

-- whether k may come right after x
unfoldable pub follows : ℕ → ℕ → ℕ → Bool
follows c x k = some_left (rows_told k (left_at c x))

-- a test as an entry of the table
abbrev pub as_entry : Bool → ℕ
as_entry true = 1
as_entry false = 0

-- the entry at a place of the table: contexts, kinds that stand and kinds that come all count from 1, and the last run fastest
unfoldable pub follower : ℕ → ℕ
follower i = as_entry (follows (i / 121 + 1) (i / 11 % 11 + 1) (i % 11 + 1))

unfoldable pub followers : List ℕ
followers = values follower 0 847
