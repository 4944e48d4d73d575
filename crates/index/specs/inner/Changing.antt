-- The two ways to change an index (X2), as the functions that do it state them: a count once more, and a new code at a place.
-- Assumes nothing.
use Rattle.std.specs.Prelude.{true, false, List, ◌∷◌, ◌++◌, ◌≡◌, ℕ, suc, ◌<◌, ◌≤◌, leb, length, take, drop, get_or, set}
use Rattle.std.proofs.lemmas.List.Edits.{sets}
use Rattle.index.specs.Refusals.{full_count}
use Rattle.index.specs.Index.{Entry, codes_most, code_most, counts_past, named_in, entries_in, roomy, codes_put, counts_put}
use Rattle.index.specs.Adding.{new_entry}

-- the number, and the counts: one of them once more, where it can be
pub record CountsOnceMore (counts : List ℕ) (at r : ℕ) (counts' : List ℕ) : Type 0 where
  pub number : r ≡ elim (leb counts_past (suc (get_or counts at 0))) [ true ↦ full_count | false ↦ 0 ]
  pub counts_left : counts' ≡ elim (leb counts_past (suc (get_or counts at 0))) [ true ↦ counts | false ↦ set counts at (suc (get_or counts at 0)) ]

-- a new code at a place, before what stood from there on
abbrev pub inserted : List ℕ → ℕ → List Entry → List Entry
inserted c place es = take place es ++ (new_entry c ∷ drop place es)

-- what inserting asks, and what it leaves
pub record Insertable (c : List ℕ) (place named : ℕ) (codes counts : List ℕ) : Type 0 where
  pub short : length c ≤ code_most
  pub within : place ≤ named
  pub free : named < codes_most
  pub known : named ≡ named_in counts
  pub room : roomy codes counts ≡ true

pub record Inserts (c : List ℕ) (place : ℕ) (codes counts codes' counts' : List ℕ) : Type 0 where
  pub codes_left : codes' ≡ sets codes 0 (codes_put (inserted c place (entries_in codes counts)))
  pub counts_left : counts' ≡ sets counts 0 (counts_put (inserted c place (entries_in codes counts)))
