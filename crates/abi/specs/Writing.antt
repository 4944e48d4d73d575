-- What `sargaceu_write` (include/sargaceu.h) answers (rules N1 to N3, W3), and what it leaves in the output.
-- Assumes nothing.
use Rattle.std.specs.Prelude.{true, false, List, [], ◌∷◌, ◌≡◌, ℕ, ltb, length}
use Rattle.form.specs.declared.limits.Limits.{Limits}
use Rattle.form.specs.Numbers.{short_buffer}
use Rattle.order.specs.Owners.{level}
use Rattle.table.specs.Lent.{Lent}
use Rattle.write.specs.Writing.{Writing, refuses, writing}
use Rattle.write.specs.Answer.{answer, output_after}
use Rattle.abi.specs.Putting.{put_all}

-- the outcome of writing a table within limits; 1, whatever table and output are, where three numbers do not fit the answer
unfoldable pub write_outcome : Limits → Lent → (output numbers : List ℕ) → Writing
write_outcome L table output numbers =
    elim (ltb (length numbers) 3) [
      | true ↦ refuses short_buffer
      | false ↦ writing L level table (length output)
    ]

-- what goes into the answer: the place, and how many bytes and lines were written (W3)
unfoldable pub write_numbers : Writing → List ℕ
write_numbers w = (answer w).place ∷ (answer w).bytes ∷ (answer w).lines ∷ []

-- an outcome, told by its number, and put into the answer and the output
pub record TellsWriting (w : Writing) (output numbers : List ℕ) (r : ℕ) (output' numbers' : List ℕ) : Type 0 where
  pub number : r ≡ (answer w).number
  pub answers : numbers' ≡ put_all numbers (write_numbers w)
  pub message : output' ≡ output_after output w

-- the contract of `sargaceu_write`
abbrev pub WroteInto : Limits → Lent → (output numbers : List ℕ) → ℕ → (output' numbers' : List ℕ) → Type 0
WroteInto L table output numbers r output' numbers' = TellsWriting (write_outcome L table output numbers) output numbers r output' numbers'
