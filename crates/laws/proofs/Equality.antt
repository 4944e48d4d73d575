-- Equations in general.
-- Assumes nothing.
use mathlib.Core.Path.{◌≡◌, sym, ◌∙◌}

-- a contract that is an equation determines its answer: two answers that satisfy it are equal
pub only_one {ℓ} : {A : Type ℓ} {r s x : A} → r ≡ x → s ≡ x → r ≡ s
only_one p q = p ∙ sym q
