-- What is known of a slice of bytes, as a fact of the list.
-- Assumes nothing.
use mathlib.Core.List.{List}
use Prim.Native.Nat.{ℕ, ◌<◌}
use native.Mathlib.Omega.{arith}
use lib.ListN.{get_or}
use mir.Syntax.{w8}
use mir.Val.{Fits}
use Rattle.laws.specs.Every.{All}
use Rattle.laws.proofs.Every.{all_of}

-- each element is a byte
abbrev pub Bytes : List ℕ → Type 0
Bytes s = All (λ (b : ℕ). b < 256) s

pub bytes-known : (s : List ℕ) → ((i : ℕ) → Fits w8 (get_or s i 0)) → Bytes s
bytes-known s h = all_of s 0 (λ i within. omega (arith, h i))
