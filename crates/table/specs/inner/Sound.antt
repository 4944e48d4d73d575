-- Leaves that come from a text (S2, S3): what the writer asks of rows, of each leaf and its neighbour alone.
-- Assumes nothing.
use Rattle.std.specs.Prelude.{Bool, true, false, ◌&&◌, List, [], ◌∷◌, ◌≡◌, ℕ}
use Rattle.laws.specs.Lists.{same, among}
use Rattle.laws.specs.Every.{All}
use Rattle.table.specs.Leaves.{Leaf}
use Rattle.table.specs.inner.Back.{between}
use Rattle.table.specs.inner.Flat.{leaf, raised}

-- that no byte of a text is one of some separators
abbrev pub Plain : List ℕ → List ℕ → Type 0
Plain ps text = All (λ (b : ℕ). among ps b ≡ false) text

-- the first leaf stands at a place, each next one where one separator leads, and no text has a separator in it
pub data Sound (ps : List ℕ) : List ℕ → List Leaf → Type 0 where
  last : {place text : List ℕ} → Plain ps text → Sound ps place (leaf place text ∷ [])
  next : {place text : List ℕ} {ls : List Leaf} (b : ℕ) → Plain ps text → among ps b ≡ true → Sound ps (raised ps b place) ls
      → Sound ps place (leaf place text ∷ ls)

-- the same, computed: whether no byte of a text is one of some separators
unfoldable pub plain : List ℕ → List ℕ → Bool
plain ps [] = true
plain ps (b ∷ s) = elim (among ps b) [ true ↦ false | false ↦ plain ps s ]

-- whether one separator leads from a place to another
unfoldable pub onward : List ℕ → List ℕ → List ℕ → Bool
onward ps from to = among ps (between ps from to) && same (raised ps (between ps from to) from) to
