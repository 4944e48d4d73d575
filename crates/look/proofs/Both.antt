-- The value of an `&&`, by the test that comes first.
-- Assumes nothing.
use mathlib.Core.Bool.{Bool, true, false, ◌&&◌}
use mathlib.Core.Path.{◌≡◌, sym, ◌∙◌}

pub goes_on : {a b v : Bool} → a ≡ true → v ≡ b → v ≡ (a && b)
goes_on e k = k ∙ sym (rw e)

pub stops : {a v : Bool} (b : Bool) → a ≡ false → v ≡ a → v ≡ (a && b)
stops b e k = k ∙ e ∙ sym (rw e)
