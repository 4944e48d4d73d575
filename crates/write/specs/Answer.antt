-- What comes back from writing (rules N1 to N3, W3): number, place, bytes and lines, and what the output holds then.
-- Assumes nothing.
use Rattle.std.specs.Prelude.{List, ◌≡◌, ℕ, length}
use Rattle.std.proofs.lemmas.List.Edits.{sets}
use Rattle.form.specs.declared.limits.Limits.{Limits}
use Rattle.write.specs.declared.Written.{Written}
use Rattle.table.specs.Lent.{Lent}
use Rattle.write.specs.Writing.{Writing, refuses, writes, writing}

-- the four numbers of an answer; on a refusal all but the first are 0 (N3)
unfoldable pub answer : Writing → Written
answer (refuses number) = record { number = number; place = 0; bytes = 0; lines = 0 }
answer (writes bytes lines) = record { number = 0; place = 0; bytes = length bytes; lines = lines }

-- the message at the front of the output (W3); on a refusal the output is as it was (N3)
unfoldable pub output_after : List ℕ → Writing → List ℕ
output_after output (refuses number) = output
output_after output (writes bytes lines) = sets output 0 bytes

-- an outcome of writing, answered and put into the output
pub record GivesWriting (w : Writing) (output : List ℕ) (r : Written) (output' : List ℕ) : Type 0 where
  pub answers : r ≡ answer w
  pub message : output' ≡ output_after output w

-- the contract of the writer: what comes back and the output are those of the outcome that the rules give (N1 to N3, W1 to W4)
abbrev pub WroteAs : Limits → (ℕ → ℕ → ℕ) → Lent → (output : List ℕ) → Written → (output' : List ℕ) → Type 0
WroteAs L levels table output r output' = GivesWriting (writing L levels table (length output)) output r output'

-- the bytes that are written for a lent table into an output of the stated size; 0 where it is refused
unfoldable pub written_size : Limits → (ℕ → ℕ → ℕ) → Lent → ℕ
written_size L levels l = (answer (writing L levels l L.bytes)).bytes
