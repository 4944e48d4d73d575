-- Worked examples of verdicts (R1 to R5), as one list: a message by its lines, and what is said of it.
-- Assumes nothing.
use Rattle.std.specs.Prelude.{List, [], ◌∷◌, ◌++◌, map, ℕ}
use Prim.Native.String.{String}
use Rattle.laws.specs.Lists.{concat}
use Rattle.laws.specs.Texts.{bytes}
use Rattle.form.specs.Forms.{small_form}
use Rattle.order.specs.Owners.{level}
use Rattle.table.specs.Reading.{stated, reading}
use Rattle.table.specs.Lent.{Lent}
use Rattle.tested.specs.inner.Lending.{lent_by}

-- the table of a message of lines, each ended by CR
unfoldable pub filed_lines : List String → Lent
filed_lines lines = lent_by (reading small_form level (stated small_form) (concat (map (λ (line : String). bytes line ++ (13 ∷ [])) lines)))

-- lines as a report, an ORU, and as an ORM
unfoldable pub as_report : List String → List String
as_report lines = "H|~^\\&|||LAB||ORU" ∷ (lines ++ ("L|1" ∷ []))

unfoldable pub as_orders : List String → List String
as_orders lines = "H|~^\\&|||LAB||ORM" ∷ (lines ++ ("L|1" ∷ []))

-- a patient with all fields, one with an empty 8.6.1, one without 8.11.5; an order; the first two pseudo-analyses, and the last two
abbrev pub patient_line : String
patient_line = "P|1||||A~B|C||||~~~~75001||06"

abbrev pub nameless_line : String
nameless_line = "P|1||||~B|C||||~~~~75001||06"

abbrev pub placeless_line : String
placeless_line = "P|1||||A~B|C||||||06"

abbrev pub order_line : String
order_line = "OBR|1||~D||||20230430"

abbrev pub pays_line : String
pays_line = "OBX|1|CE|PAYS||F"

abbrev pub typor_line : String
typor_line = "OBX|2|CE|TYPOR||I"

abbrev pub last_lines : List String
last_lines = "OBX|3|CE|PROSS||U" ∷ "OBX|4|ST|FINGE||9" ∷ []

-- a patient with all that is asked for, and one result more
abbrev pub sound_lines : List String
sound_lines = patient_line ∷ order_line ∷ pays_line ∷ typor_line ∷ last_lines

abbrev pub with_result : String → List String
with_result result = sound_lines ++ (result ∷ [])

-- another value of TYPOR
abbrev pub with_residence : String → List String
with_residence typor = patient_line ∷ order_line ∷ pays_line ∷ typor ∷ last_lines

-- two patients with a PAYS each, and no TYPOR; one with two of them; one with two and one with none
abbrev pub pays_each : List String
pays_each = patient_line ∷ order_line ∷ pays_line ∷ patient_line ∷ order_line ∷ pays_line ∷ []

abbrev pub two_pays : List String
two_pays = patient_line ∷ order_line ∷ pays_line ∷ pays_line ∷ []

abbrev pub two_and_none : List String
two_and_none = patient_line ∷ order_line ∷ pays_line ∷ pays_line ∷ patient_line ∷ order_line ∷ typor_line ∷ []

-- PAYS under a second order, and no PROSS
abbrev pub under_second_order : List String
under_second_order = patient_line ∷ order_line ∷ typor_line ∷ order_line ∷ pays_line ∷ []

-- an empty 8.6.1; a patient without 8.11.5, and behind it one with an empty 8.6.1, whose rule is lower
abbrev pub empty_name : List String
empty_name = nameless_line ∷ order_line ∷ pays_line ∷ []

abbrev pub lower_later : List String
lower_later = placeless_line ∷ order_line ∷ pays_line ∷ nameless_line ∷ order_line ∷ pays_line ∷ []

-- an example: the lines of a report, and the number and the place of its verdict
pub record ScreenedLines : Type 0 where
  pub lines : List String
  pub number : ℕ
  pub place : ℕ

abbrev pub expects : (number place : ℕ) → List String → ScreenedLines
expects number place lines = record { lines = lines; number = number; place = place }

unfoldable pub verdict_examples : List ScreenedLines
verdict_examples =
    expects 0 0 sound_lines
    ∷ expects 40 2 pays_each
    ∷ expects 39 2 two_pays
    ∷ expects 39 2 two_and_none
    ∷ expects 41 2 under_second_order
    ∷ expects 31 2 empty_name
    ∷ expects 31 5 lower_later
    -- a value of TYPOR that is another letter, or empty
    ∷ expects 43 5 (with_residence "OBX|2|CE|TYPOR||X")
    ∷ expects 43 5 (with_residence "OBX|2|CE|TYPOR||")
    -- a result by LOINC, which 10.4.6 tells, with another letter than the four
    ∷ expects 45 8 (with_result "OBX|5|CE|G~x~L~1~y~LN||Q")
    ∷ []
