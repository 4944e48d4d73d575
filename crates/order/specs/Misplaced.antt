-- What the place of refusal 10 means (rule N1), in words of derivations alone.
-- Assumes nothing.
use Rattle.std.specs.Prelude.{List, ◌⊎◌, ◌≡◌, ℕ, suc, ◌≤◌, ◌<◌, length, take}
use Rattle.order.specs.Grammar.{Derives, Begins}
use Rattle.order.specs.Contexts.{grammar}

-- the first p kinds of w may stand where they stand, and no more than these: either there is a kind after them and it may not
-- stand there, or they are all of w and w is not whole
pub record FirstMisplaced (c : ℕ) (w : List ℕ) (p : ℕ) : Type 0 where
  pub within : p ≤ length w
  pub begun : Begins (grammar c) (take p w)
  pub stopped : ((p ≡ length w) × (Derives (grammar c) w → ⊥)) ⊎ ((p < length w) × (Begins (grammar c) (take (suc p) w) → ⊥))
