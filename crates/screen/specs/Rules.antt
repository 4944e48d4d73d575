-- What a screening report must keep (rules R1 to R3), as data: eight fields, four codes, three sets of values. A rule's number is its place among
-- them.
-- Assumes nothing.
use Rattle.std.specs.Prelude.{List, [], ◌∷◌, ◌++◌, map, ℕ}
use Rattle.laws.specs.Texts.{bytes}
use Rattle.look.specs.Looking.{header_kind, patient_kind, order_kind}
use Rattle.screen.specs.declared.wanted.Field.{Field}

-- the results that a rule of values is about: those with a code; or those of a type whose code is of a system
pub data About : Type 0 where
  with_code : (code : List ℕ) → About
  in_system : (type system : List ℕ) → About

-- a rule: each segment of a kind has a text in a field (R1); each patient has exactly one result with a code (R2); each result that the rule is
-- about has one of these letters for its value (R3)
pub data Rule : Type 0 where
  wants : Field → Rule
  once : (code : List ℕ) → Rule
  takes : About → (letters : List ℕ) → Rule

-- a field by the kind of its segments and its name there (S5)
abbrev pub wanted_in : (kind field subfield : ℕ) → Field
wanted_in kind field subfield = record { kind = kind; field = field; subfield = subfield }

-- the fields that have a text (R1)
unfoldable pub wanted_fields : List Field
wanted_fields =
    wanted_in patient_kind 6 1  -- 8.6.1, the name in use
    ∷ wanted_in patient_kind 6 2  -- 8.6.2, the first name
    ∷ wanted_in patient_kind 7 1  -- 8.7, the birth name
    ∷ wanted_in patient_kind 13 1  -- 8.13, the telephone
    ∷ wanted_in patient_kind 11 5  -- 8.11.5, the postal code
    ∷ wanted_in order_kind 4 2  -- 9.4.2, the laboratory's number of the order
    ∷ wanted_in order_kind 8 1  -- 9.8, when the sample was taken
    ∷ wanted_in header_kind 5 1  -- 7.5.1, the laboratory
    ∷ []

-- the codes of the pseudo-analyses (R2): country, kind of residence, profession, place of the laboratory
unfoldable pub codes : List (List ℕ)
codes = map bytes ("PAYS" ∷ "TYPOR" ∷ "PROSS" ∷ "FINGE" ∷ [])

-- the sets of values (R3)
unfoldable pub value_rules : List Rule
value_rules =
    takes (with_code (bytes "TYPOR")) (bytes "IHECAU")
    ∷ takes (with_code (bytes "PROSS")) (bytes "ONU")
    ∷ takes (in_system (bytes "CE") (bytes "LN")) (bytes "PNIX")
    ∷ []

-- all rules, in the order of their numbers
unfoldable pub rules : List Rule
rules = map wants wanted_fields ++ (map once codes ++ value_rules)
