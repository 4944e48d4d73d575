-- What the contracts of this crate say of how many bytes came.
use Rattle.std.specs.Prelude.{◌≡◌, ℕ, ◌≤◌, List, length, take, Result, Ok, Err}
use Rattle.input.specs.declared.Fault.{Fault}

-- n bytes of a buffer lie within it, and are n bytes: the second follows from the first, and spares a caller's `&buffer[..n]` a proof
abbrev pub IsPrefixLen : ℕ → List ℕ → Type 0
IsPrefixLen n xs = (n ≤ length xs) × (n ≡ length (take n xs))

-- how many bytes came, also where a read failed
abbrev pub came_in : Result ℕ Fault → ℕ
came_in (Ok bytes) = bytes
came_in (Err fault) = fault.bytes
