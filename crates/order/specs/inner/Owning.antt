-- Owners as rows are read: what is known of the rows so far, and one row more.
-- Assumes nothing.
use Rattle.std.specs.Prelude.{true, false, List, [], ◌∷◌, ◌≡◌, ℕ, suc, ◌+◌, ◌-◌, ltb, get_or, replicate}
use Rattle.std.proofs.lemmas.List.Edits.{sets}
use Rattle.order.specs.Owners.{is_c}
use Rattle.order.specs.inner.Levels.{top_level}

-- what is known: at place l, up to `top_level`, the row of the nearest segment, C aside, with a level below l, or 0
unfoldable pub no_rows : List ℕ
no_rows = replicate (top_level + 1) 0

-- the place that a kind with a level goes by
unfoldable pub level_place : ℕ → ℕ → ℕ
level_place k l = elim (is_c k) [ true ↦ top_level | false ↦ elim (ltb l top_level) [ true ↦ l | false ↦ top_level ] ]

-- what is known once a row has come at a place: it is the nearest for every place above
unfoldable pub added : List ℕ → ℕ → ℕ → List ℕ
added nearest place row = sets nearest (place + 1) (replicate (top_level - place) row)

-- one row: its owner, and what is known after it
pub record Owned (nearest after : List ℕ) (row k l r : ℕ) : Type 0 where
  pub owner : r ≡ get_or nearest (level_place k l) 0
  pub known : after ≡ added nearest (level_place k l) row

-- the owners that come back for kinds in a row, the first of them at a row
unfoldable pub owned : (ℕ → ℕ) → List ℕ → ℕ → List ℕ → List ℕ
owned lv nearest row [] = []
owned lv nearest row (k ∷ ks) = get_or nearest (level_place k (lv k)) 0 ∷ owned lv (added nearest (level_place k (lv k)) row) (suc row) ks

-- what is known once kinds in a row have come, the first of them at a row
unfoldable pub known_after : (ℕ → ℕ) → List ℕ → ℕ → List ℕ → List ℕ
known_after lv nearest row [] = nearest
known_after lv nearest row (k ∷ ks) = known_after lv (added nearest (level_place k (lv k)) row) (suc row) ks
