-- A worked example of an order's numbers: a message, and the answers for its order by rule D6.
-- Assumes nothing.
use Rattle.std.specs.Prelude.{List, [], ◌∷◌, ℕ, ℤ, pos, negsuc}
use Rattle.laws.specs.Texts.{bytes}
use Rattle.form.specs.Forms.{small_form}
use Rattle.order.specs.Owners.{level}
use Rattle.table.specs.Reading.{stated, reading}
use Rattle.table.specs.Lent.{Lent}
use Rattle.tested.specs.inner.Lending.{lent_by}
use Rattle.value.specs.declared.reading.Value.{Value}

-- an ORU with two orders, in rows 3 and 14. Under the first, in this order: a number; a text that is none; a result of type ST; a value of two subfields; no
-- value at all; a comment; a number below 0; a value that was sent empty; one of 16 digits; a type with a second subfield, of which leaf 10.3 is the first
unfoldable pub sent : List ℕ
sent =
    bytes
    "H|~^\\&|||LAB||ORU\rP|1\rOBR|1\rOBX|1|NM|GLY||1.2\rOBX|2|NM|GLY||<5\rOBX|3|ST|GLY||7\rOBX|4|NM|GLY||1~2\rOBX|5|NM|GLY\rC|1\rOBX|6|NM|GLY||-.52\rOBX|7|NM|GLY||\rOBX|8|NM|GLY||0000000000000001\rOBX|9|NM~X|GLY||3\rOBR|2\rOBX|1|NM|GLY||40\rL|1\r"

-- the table that it reads to
unfoldable pub sent_table : Lent
sent_table = lent_by (reading small_form level (stated small_form) sent)

-- a number, and that there is none: no number at all, or one of too many digits
abbrev pub number : ℤ → ℕ → Value
number whole decimals = record { number = 0; whole = whole; decimals = decimals }

abbrev pub none : ℕ → Value
none why = record { number = why; whole = pos 0; decimals = 0 }

-- the answers of its two orders: no row of the type NM is skipped, and no other is taken
unfoldable pub first_order : List Value
first_order = number (pos 12) 1 ∷ none 20 ∷ none 20 ∷ none 20 ∷ number (negsuc 51) 2 ∷ none 20 ∷ none 21 ∷ number (pos 3) 0 ∷ []

unfoldable pub second_order : List Value
second_order = number (pos 40) 0 ∷ []
