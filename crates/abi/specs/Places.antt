-- What `sargaceu_row_place`, `sargaceu_row_at` and `sargaceu_position` (include/sargaceu.h) answer (rules E1 to E4).
-- Assumes nothing.
use Rattle.std.specs.Prelude.{List, [], ◌∷◌, ◌≡◌, ℕ}
use Rattle.source.specs.declared.row.RowPlace.{RowPlace}
use Rattle.source.specs.declared.row.LineRun.{LineRun}
use Rattle.source.specs.declared.position.Position.{Position}
use Rattle.abi.specs.Putting.{put_all}

-- a row's place: how many lines it takes comes back, and where they begin is put into the answer
pub record ToldPlace (place : RowPlace) (answer : List ℕ) (r : ℕ) (answer' : List ℕ) : Type 0 where
  pub told : r ≡ place.lines
  pub answers : answer' ≡ put_all answer (place.start ∷ [])

-- lines that follow one another: how many comes back, and the place behind them is put into the answer
pub record ToldRun (run : LineRun) (answer : List ℕ) (r : ℕ) (answer' : List ℕ) : Type 0 where
  pub told : r ≡ run.lines
  pub answers : answer' ≡ put_all answer (run.next ∷ [])

-- a position: its line comes back, and its column is put into the answer
pub record ToldPosition (position : Position) (answer : List ℕ) (r : ℕ) (answer' : List ℕ) : Type 0 where
  pub told : r ≡ position.line
  pub answers : answer' ≡ put_all answer (position.column ∷ [])
