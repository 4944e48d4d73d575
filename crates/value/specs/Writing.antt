-- Writing a value (rules D4 and D5): what is refused, what is written, and what the output holds then.
-- Assumes nothing.
use Rattle.std.specs.Prelude.{Bool, true, false, ◌&&◌, List, ◌≡◌, ℕ, ◌+◌, ◌^◌, leb, ltb, ℤ, nat_abs, length}
use Rattle.std.proofs.lemmas.List.Edits.{sets}
use Rattle.value.specs.declared.writing.ValueWritten.{ValueWritten}
use Rattle.value.specs.Refusals.{out_of_range, narrow_output}
use Rattle.value.specs.inner.Shortening.{shortest_text}

-- whether a whole number has so many digits at most, its sign aside, and no more decimals than that (D5); that some text reads to it exactly then is a law
unfoldable pub in_range : (most : ℕ) → ℤ → ℕ → Bool
in_range most whole decimals = ltb (nat_abs whole) (10 ^ most) && leb decimals most

-- bytes of the longest text that is written: a sign, a point and the digits
abbrev pub longest_text : ℕ → ℕ
longest_text most = most + 2

-- the outcome of writing a value: refused with a number, or the text
pub data Spelling : Type 0 where
  refuses_value : (number : ℕ) → Spelling
  spells : (text : List ℕ) → Spelling

-- the value is tested first, for 22, and then the output, for 23 (D5)
unfoldable pub spelling : (most : ℕ) → ℤ → ℕ → (output : ℕ) → Spelling
spelling most whole decimals output =
    elim (in_range most whole decimals) [
      | true ↦
          elim (ltb output (longest_text most)) [
            | true ↦ refuses_value narrow_output
            | false ↦ spells (shortest_text most whole decimals)
          ]
      | false ↦ refuses_value out_of_range
    ]

-- what comes back: the number, and the bytes of the text
unfoldable pub spelling_told : Spelling → ValueWritten
spelling_told (refuses_value number) = record { number = number; bytes = 0 }
spelling_told (spells text) = record { number = 0; bytes = length text }

-- the text at the front of the output; on a refusal the output is as it was
unfoldable pub output_with : List ℕ → Spelling → List ℕ
output_with output (refuses_value number) = output
output_with output (spells text) = sets output 0 text

-- an outcome of writing, answered and put into the output
pub record GivesText (s : Spelling) (output : List ℕ) (r : ValueWritten) (output' : List ℕ) : Type 0 where
  pub answers : r ≡ spelling_told s
  pub text : output' ≡ output_with output s

-- the contract of the value writer
abbrev pub WroteValue : (most : ℕ) → ℤ → ℕ → (output : List ℕ) → ValueWritten → (output' : List ℕ) → Type 0
WroteValue most whole decimals output r output' = GivesText (spelling most whole decimals (length output)) output r output'
