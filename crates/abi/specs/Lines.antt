-- What `sargaceu_line` (include/sargaceu.h) answers of the line at a place (rules P1 and P2).
-- Assumes nothing.
use Rattle.std.specs.Prelude.{true, false, List, [], ◌∷◌, ◌≡◌, ℕ, ltb, length}
use Rattle.form.specs.Numbers.{short_buffer}
use Rattle.line.specs.declared.finder.Found.{Found}
use Rattle.line.specs.declared.finder.Found.TheVariants.{Line, End, Fault}
use Rattle.line.specs.Finding.{next_of}
use Rattle.abi.specs.Putting.{put_all}

-- the number of what was found: 0 for a line and for the end, and a fault's own
unfoldable pub number_of : Found → ℕ
number_of (Line e n) = 0
number_of End = 0
number_of (Fault number place) = number

-- the first number of the answer: where a line's text stops, so where its CR is; the asked place at the end; where a fault is
unfoldable pub end_of : ℕ → Found → ℕ
end_of at (Line e n) = e
end_of at End = at
end_of at (Fault number place) = place

-- the number that comes back: 1 where two numbers do not fit the answer
unfoldable pub number_for : Found → List ℕ → ℕ
number_for found answer = elim (ltb (length answer) 2) [ true ↦ short_buffer | false ↦ number_of found ]

-- what was found at a place, told by its number and put into the answer, the next line's place behind it: the contract of `sargaceu_line`
pub record FoundLine (found : Found) (at : ℕ) (answer : List ℕ) (r : ℕ) (answer' : List ℕ) : Type 0 where
  pub number : r ≡ number_for found answer
  pub places : answer' ≡ put_all answer (end_of at found ∷ next_of at found ∷ [])
