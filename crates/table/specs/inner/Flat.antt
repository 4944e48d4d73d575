-- Splitting in one pass (a model of `leaves`, which antt computes and a loop over bytes follows): a separator closes the leaf begun,
-- raises its own number and sets the finer ones to 1; any other byte belongs to the leaf begun. CR may be one more separator, the coarsest.
-- Assumes nothing.
use Rattle.std.specs.Prelude.{true, false, List, [], ◌∷◌, ◌++◌, map, ◌≡◌, ℕ, suc, eqb}
use Rattle.laws.specs.Lists.{among}
use Rattle.laws.specs.Every.{All}
use Rattle.line.specs.Lines.{CR}
use Rattle.table.specs.Leaves.{Leaf}

-- a leaf from its place and its text
abbrev pub leaf : List ℕ → List ℕ → Leaf
leaf place text = record { place = place; text = text }

-- a 1 for each separator: the place of the first leaf
unfoldable pub ones : List ℕ → List ℕ
ones [] = []
ones (p ∷ ps) = 1 ∷ ones ps

-- the place after the separator b, of some that are the coarsest first: the number of the first that b equals is one more, the finer are 1
unfoldable pub raised : List ℕ → ℕ → List ℕ → List ℕ
raised [] b place = place
raised (p ∷ ps) b [] = []
raised (p ∷ ps) b (n ∷ place) = elim (eqb b p) [ true ↦ suc n ∷ ones ps | false ↦ n ∷ raised ps b place ]

-- the leaves of a text, from a place and from the text of the leaf begun
unfoldable pub flat : List ℕ → List ℕ → List ℕ → List ℕ → List Leaf
flat ps place text [] = leaf place text ∷ []
flat ps place text (b ∷ s) =
    elim (among ps b) [
      | true ↦ leaf place text ∷ flat ps (raised ps b place) [] s
      | false ↦ flat ps place (text ++ (b ∷ [])) s
    ]

-- leaves with some numbers in front of each place
unfoldable pub under : List ℕ → List Leaf → List Leaf
under pre ls = map (λ (l : Leaf). leaf (pre ++ l.place) l.text) ls

-- that no byte of a text is p
abbrev pub Without : ℕ → List ℕ → Type 0
Without p s = All (λ (b : ℕ). eqb b p ≡ false) s

-- segments with CR between them, as one text
unfoldable pub glued_to : List ℕ → List (List ℕ) → List ℕ
glued_to s [] = s
glued_to s (t ∷ ts) = s ++ CR ∷ glued_to t ts

unfoldable pub glued : List (List ℕ) → List ℕ
glued [] = []
glued (s ∷ ss) = glued_to s ss

-- how far one pass has come: the place reached, the text of the leaf begun, the leaves closed
pub record Pass : Type 0 where
  pub place : List ℕ
  pub text : List ℕ
  pub closed : List Leaf

-- one byte on
unfoldable pub step : List ℕ → Pass → ℕ → Pass
step ps c b =
    elim (among ps b) [
      | true ↦ record { place = raised ps b c.place; text = []; closed = c.closed ++ (leaf c.place c.text ∷ []) }
      | false ↦ record { place = c.place; text = c.text ++ (b ∷ []); closed = c.closed }
    ]

-- a list of bytes on
unfoldable pub steps : List ℕ → Pass → List ℕ → Pass
steps ps c [] = c
steps ps c (b ∷ s) = steps ps (step ps c b) s

-- the leaves at the end: the leaf begun is closed too
unfoldable pub ended : Pass → List Leaf
ended c = c.closed ++ (leaf c.place c.text ∷ [])
