-- Rows as they come: one kind more at the end has its owner by what is known of those before it, and is then known itself.
-- Assumes nothing.
use mathlib.Core.List.{List, [], ◌∷◌, ◌++◌}
use mathlib.Core.Path.{◌≡◌, refl, ap, ◌∙◌}
use Prim.Native.Nat.{ℕ, suc, ◌+◌}
use native.Mathlib.Omega.{arith}
use lib.ListN.{length, get_or}
use Rattle.order.specs.inner.Owning.{level_place, added, owned, known_after}

module _ (lv : ℕ → ℕ) where
  pub length-owned : (near : List ℕ) (row : ℕ) (ks : List ℕ) → length (owned lv near row ks) ≡ length ks
  unfolding owned
  length-owned near row [] = refl
  length-owned near row (k ∷ ks) = ap suc (length-owned (added near (level_place k (lv k)) row) (suc row) ks)

  pub owned-last : (near : List ℕ) (row : ℕ) (ks : List ℕ) (k : ℕ)
      → owned lv near row (ks ++ (k ∷ []))
      ≡ owned lv near row ks ++ (get_or (known_after lv near row ks) (level_place k (lv k)) 0 ∷ [])
  unfolding owned known_after
  owned-last near row [] k = refl
  owned-last near row (j ∷ ks) k =
      ap {B = List ℕ} (λ r. get_or near (level_place j (lv j)) 0 ∷ r) (owned-last (added near (level_place j (lv j)) row) (suc row) ks k)

  pub known-last : (near : List ℕ) (row : ℕ) (ks : List ℕ) (k : ℕ)
      → known_after lv near row (ks ++ (k ∷ [])) ≡ added (known_after lv near row ks) (level_place k (lv k)) (row + length ks)
  unfolding known_after
  known-last near row [] k = ap (added near (level_place k (lv k))) (omega arith)
  known-last near row (j ∷ ks) k =
      known-last (added near (level_place j (lv j)) row) (suc row) ks k
      ∙ ap (added (known_after lv (added near (level_place j (lv j)) row) (suc row) ks) (level_place k (lv k))) (omega arith)
