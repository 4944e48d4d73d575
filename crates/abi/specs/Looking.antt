-- What `sargaceu_find_leaf` and `sargaceu_find_leaf_in_segment` (include/sargaceu.h) answer of the two lookups of a leaf (rules F1 and F4).
-- Assumes nothing.
use Rattle.std.specs.Prelude.{List, [], ◌∷◌, ◌≡◌, ℕ}
use Rattle.table.specs.Lent.{Lent}
use Rattle.look.specs.declared.leaf.Place.{Place}
use Rattle.look.specs.declared.leaf.Sought.{Sought}
use Rattle.look.specs.declared.leaf.Sought.TheVariants.{At, Empty, NotThere}
use Rattle.look.specs.Looking.{sought_number}
use Rattle.look.specs.inner.Searching.{sought_in, sought_in_segment}
use Rattle.abi.specs.Putting.{put_all}

-- a place of five numbers (S5)
abbrev pub given_place : (segment field repetition subfield subsubfield : ℕ) → Place
given_place segment field repetition subfield subsubfield =
    record { segment = segment; field = field; repetition = repetition; subfield = subfield; subsubfield = subsubfield }

-- what goes into the answer: where the leaf's text starts and how long it is, 0 and 0 where it is empty, or no number at all
unfoldable pub leaf_numbers : Sought → List ℕ
leaf_numbers (At start n) = start ∷ n ∷ []
leaf_numbers Empty = 0 ∷ 0 ∷ []
leaf_numbers NotThere = []

-- what was sought, told by its number and put into the answer
pub record TellsSought (s : Sought) (answer : List ℕ) (r : ℕ) (answer' : List ℕ) : Type 0 where
  pub told : r ≡ sought_number s
  pub numbers : answer' ≡ put_all answer (leaf_numbers s)

-- the contract of `sargaceu_find_leaf`, and that of `sargaceu_find_leaf_in_segment`
abbrev pub FoundLeaf : Lent → Place → (answer : List ℕ) → ℕ → (answer' : List ℕ) → Type 0
FoundLeaf table place answer r answer' = TellsSought (sought_in table place) answer r answer'

abbrev pub FoundLeafInSegment : Lent → Place → (answer : List ℕ) → ℕ → (answer' : List ℕ) → Type 0
FoundLeafInSegment table place answer r answer' = TellsSought (sought_in_segment table place) answer r answer'
