-- How the code's answer tells what a text says, its sign and its digits apart.
-- Assumes nothing.
use Rattle.std.specs.Prelude.{false, ℕ, Result, Ok, Err}
use Rattle.value.specs.declared.numeral.Said.{Said}
use Rattle.value.specs.declared.numeral.NotSaid.{NotSaid}
use Rattle.value.specs.declared.numeral.NotSaid.TheVariants.{NotANumber, ManyDigits}
use Rattle.value.specs.Refusals.{not_a_number, many_digits}
use Rattle.value.specs.Numerals.{Numeral}

-- the number of a refusal
abbrev pub reason : NotSaid → ℕ
reason NotANumber = not_a_number
reason ManyDigits = many_digits

-- what the code's answer tells
unfoldable pub told : Result Said NotSaid → Numeral
told (Ok said) = record { number = 0; negative = said.negative; magnitude = said.magnitude; decimals = said.decimals }
told (Err why) = record { number = reason why; negative = false; magnitude = 0; decimals = 0 }
