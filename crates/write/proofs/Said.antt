-- What an answer of no, or of yes, says of the test that it answers.
-- Assumes nothing.
use mathlib.Core.Bool.{Bool, true, false}
use mathlib.Core.Path.{◌≡◌, sym, ◌∙◌}

pub answered_no : {r b : Bool} → r ≡ b → r ≡ false → b ≡ false
answered_no e h = sym e ∙ h

pub answered_yes : {r b : Bool} → r ≡ b → r ≡ true → b ≡ true
answered_yes e h = sym e ∙ h
