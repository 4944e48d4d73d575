-- Pieces of a text, put one behind the other into an output.
-- Assumes nothing.
use Rattle.std.specs.Prelude.{List, ◌≡◌, ℕ, ◌+◌, ◌*◌, ◌≤◌, ◌<◌, length, get_or}
use Rattle.std.proofs.lemmas.List.Edits.{sets}
use Rattle.listing.specs.declared.put.Pen.{Pen}
use Rattle.table.specs.Rows.{segment_row_size, owner_in, first_in, count_in}

-- a piece stands at a place of the output, and the next place is reached
pub record Put (output : List ℕ) (at : ℕ) (piece output' : List ℕ) (next : ℕ) : Type 0 where
  pub stored : output' ≡ sets output at piece
  pub reached : next ≡ at + length piece

-- the same of a piece of so many bytes at most
pub record PutWithin (most : ℕ) (output : List ℕ) (at : ℕ) (piece output' : List ℕ) (next : ℕ) : Type 0 where
  pub put : Put output at piece output' next
  pub few : next ≤ at + most

-- a pen put a piece of so many bytes at most, and is still at the same output
pub record Wrote (most : ℕ) (pen : Pen) (piece : List ℕ) (pen' : Pen) : Type 0 where
  pub same_reference : pen'.output.ghost_name ≡ pen.output.ghost_name
  pub within : PutWithin most pen.output.now pen.at piece pen'.output.now pen'.at

-- the least number of six digits
abbrev pub six_digits : ℕ
six_digits = 100000

-- a number has five digits at most, and the output has room for it and a comma behind a place
pub record NumberReady (n : ℕ) (output : List ℕ) (at : ℕ) : Type 0 where
  pub few : n < six_digits
  pub room : at + 6 ≤ length output

-- row i is a row, its numbers have five digits at most, and the output has room for so many bytes behind a place
pub record RowReady (rows : List ℕ) (i : ℕ) (output : List ℕ) (at most : ℕ) : Type 0 where
  pub rows-there : (i + 1) * segment_row_size ≤ length rows
  pub number : i + 1 < six_digits
  pub owner : owner_in rows i < six_digits
  pub first : first_in rows i < six_digits
  pub count : count_in rows i < six_digits
  pub room : at + most ≤ length output

-- the same of so many rows
pub record RowsReady (rows : List ℕ) (count : ℕ) (output : List ℕ) (at most : ℕ) : Type 0 where
  pub rows-there : count * segment_row_size ≤ length rows
  pub number : count < six_digits
  pub numbers : (k : ℕ) → k < count * segment_row_size → get_or rows k 0 < six_digits
  pub room : at + most ≤ length output
