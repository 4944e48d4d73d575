-- Parts of what is lent: which bytes of which slice a function hands back.
-- Assumes nothing.
use Rattle.std.specs.Prelude.{List, ℕ, ◌+◌, take, drop}
use Rattle.std.specs.Borrow.{Bor}

-- bytes that lie in memory: the block, where in it they begin, and the bytes themselves
pub record Part : Type 0 where
  pub block : ℕ
  pub offset : ℕ
  pub bytes : List ℕ

-- all the bytes that a reference lends
abbrev pub whole_of : Bor (List ℕ) → Part
whole_of s = record { block = s.ref_ptr.0; offset = s.ref_ptr.1; bytes = s.now }

-- n of them from the place a on, counted from 0
abbrev pub part_of : Bor (List ℕ) → ℕ → ℕ → Part
part_of s a n = record { block = s.ref_ptr.0; offset = a + s.ref_ptr.1; bytes = take n (drop a s.now) }
