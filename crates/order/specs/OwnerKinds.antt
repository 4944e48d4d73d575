-- Owners by kind (rule O5): by the levels in force each segment belongs to the nearest one of a certain kind before it, whatever stands between;
-- and the former levels give the same owner to every kind but three.
-- Assumes nothing.
use Rattle.std.specs.Prelude.{Bool, false, ◌&&◌, ◌||◌, List, [], ◌∷◌, ◌⊎◌, ◌≡◌, ℕ, ◌-◌, ◌≤◌, ◌<◌, eqb, length, get_or}
use Rattle.order.specs.Grammar.{Begins}
use Rattle.order.specs.Contexts.{grammar}
use Rattle.order.specs.Owners.{level, former_level, owners}

-- the kind of the owner of each kind: a row is a context, a column a kind, both by number; 0 where there is no owner, or no such kind
unfoldable pub owner_kinds : List (List ℕ)
owner_kinds =
    --      H   P   AP  AC  OBR OBX FAC REG ACT ERR L
    []
    ∷ (0 ∷ 0 ∷ 1 ∷ 2 ∷ 3 ∷ 0 ∷ 0 ∷ 0 ∷ 0 ∷ 0 ∷ 0 ∷ 0 ∷ [])  -- ADM
    ∷ (0 ∷ 0 ∷ 1 ∷ 0 ∷ 0 ∷ 2 ∷ 5 ∷ 0 ∷ 0 ∷ 0 ∷ 0 ∷ 0 ∷ [])  -- ORM
    ∷ (0 ∷ 0 ∷ 1 ∷ 2 ∷ 3 ∷ 2 ∷ 5 ∷ 0 ∷ 0 ∷ 0 ∷ 0 ∷ 0 ∷ [])  -- ORA
    ∷ (0 ∷ 0 ∷ 1 ∷ 0 ∷ 0 ∷ 0 ∷ 0 ∷ 0 ∷ 2 ∷ 0 ∷ 0 ∷ 0 ∷ [])  -- REG
    ∷ (0 ∷ 0 ∷ 0 ∷ 0 ∷ 0 ∷ 0 ∷ 0 ∷ 0 ∷ 0 ∷ 0 ∷ 1 ∷ 0 ∷ [])  -- ERR
    ∷ (0 ∷ 0 ∷ 1 ∷ 0 ∷ 0 ∷ 2 ∷ 5 ∷ 0 ∷ 0 ∷ 0 ∷ 0 ∷ 0 ∷ [])  -- ORU
    ∷ (0 ∷ 0 ∷ 1 ∷ 2 ∷ 3 ∷ 0 ∷ 0 ∷ 2 ∷ 7 ∷ 7 ∷ 0 ∷ 0 ∷ [])  -- FAC
    ∷ []

unfoldable pub owner_kind : ℕ → ℕ → ℕ
owner_kind context kind = get_or (get_or owner_kinds context []) kind 0

-- whether the former levels give a kind of a context another owner: an OBR in ORA; a FAC or an ACT in FAC
unfoldable pub moved : ℕ → ℕ → Bool
moved context kind = (eqb context 3 && eqb kind 5) || (eqb context 7 && (eqb kind 7 || eqb kind 9))

-- `row`, counted from 1, is the nearest of a kind before place i, counted from 0: it is there, it is of that kind, and none between them is
pub record NearestOf (kind : ℕ) (kind_at : ℕ → ℕ) (i row : ℕ) : Type 0 where
  pub there : 1 ≤ row
  pub earlier : row ≤ i
  pub of_kind : kind_at (row - 1) ≡ kind
  pub none_nearer : (m : ℕ) → row ≤ m → m < i → kind_at m ≡ kind → ⊥

-- the owner at place i of an order is the nearest of a kind before it
abbrev pub NearestOwns : (ℕ → ℕ) → ℕ → List ℕ → ℕ → Type 0
NearestOwns lv kind w i = NearestOf kind (λ m. get_or w m 0) i (get_or (owners lv w) i 0)

-- what the levels in force say, of every order that a context's grammar begins
pub record OwnersByKind : Type 0 where
  -- in ORA the owner of an OBR is the nearest P before it
  pub order : (w : List ℕ) → Begins (grammar 3) w → (i : ℕ) → i < length w → get_or w i 0 ≡ 5 → NearestOwns (level 3) 2 w i
  -- in FAC the owner of a FAC is the nearest P, and that of a REG or an ACT the nearest FAC
  pub invoice : (w : List ℕ) → Begins (grammar 7) w → (i : ℕ) → i < length w → get_or w i 0 ≡ 7 → NearestOwns (level 7) 2 w i
  pub invoice-line : (w : List ℕ) → Begins (grammar 7) w → (i : ℕ) → i < length w → (get_or w i 0 ≡ 8) ⊎ (get_or w i 0 ≡ 9) → NearestOwns (level 7) 7 w i
  -- in every context, where the table of owners' kinds names one, the nearest of that kind
  pub any-kind : (c : ℕ) (w : List ℕ) → Begins (grammar c) w → (i : ℕ) → i < length w → 1 ≤ owner_kind c (get_or w i 0)
      → NearestOwns (level c) (owner_kind c (get_or w i 0)) w i
  -- and where it names none, the segment is a C or has no owner
  pub unnamed : (c : ℕ) (w : List ℕ) → Begins (grammar c) w → (i : ℕ) → i < length w → owner_kind c (get_or w i 0) ≡ 0
      → (get_or w i 0 ≡ 12) ⊎ (get_or (owners (level c) w) i 0 ≡ 0)
  -- in every other context and for every other kind the former levels give the same owner
  pub others : (c : ℕ) (w : List ℕ) → Begins (grammar c) w → (i : ℕ) → i < length w → moved c (get_or w i 0) ≡ false
      → get_or (owners (level c) w) i 0 ≡ get_or (owners (former_level c) w) i 0
