-- What `sargaceu_screen` (include/sargaceu.h) answers (rules R4 and R5).
-- Assumes nothing.
use Rattle.std.specs.Prelude.{true, false, List, [], ◌∷◌, ◌≡◌, ℕ, ltb, length}
use Rattle.form.specs.declared.limits.Limits.{Limits}
use Rattle.form.specs.Numbers.{short_buffer}
use Rattle.order.specs.Owners.{level}
use Rattle.table.specs.Lent.{Lent}
use Rattle.screen.specs.declared.Verdict.{Verdict}
use Rattle.screen.specs.Verdicts.{refused_with, screened}
use Rattle.abi.specs.Putting.{put_all}

-- the verdict on a table within limits; 1, whatever the table is, where a number does not fit the answer
unfoldable pub screen_outcome : Limits → Lent → (answer : List ℕ) → Verdict
screen_outcome L table answer = elim (ltb (length answer) 1) [ true ↦ refused_with short_buffer | false ↦ screened L level table ]

-- a verdict, told by its number, with the place put into the answer
pub record TellsVerdict (v : Verdict) (answer : List ℕ) (r : ℕ) (answer' : List ℕ) : Type 0 where
  pub number : r ≡ v.number
  pub answers : answer' ≡ put_all answer (v.place ∷ [])

-- the contract of `sargaceu_screen`
abbrev pub ScreenedInto : Limits → Lent → (answer : List ℕ) → ℕ → (answer' : List ℕ) → Type 0
ScreenedInto L table answer r answer' = TellsVerdict (screen_outcome L table answer) answer r answer'
