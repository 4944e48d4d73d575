-- Lines and their faults (rules L1 to L4 and L6; P1 and P2): the walk over a message, byte by byte.
-- Assumes nothing.
use Rattle.std.specs.Prelude.{true, false, List, [], ◌∷◌, ◌++◌, ℕ, suc, leb, ltb, eqb, length}
use Rattle.form.specs.declared.limits.Limits.{Limits}
use Rattle.form.specs.Numbers.{control_byte, long_line, open_line}

-- what a walk over a message gives (P1): a line and what follows it, the end, or a fault with its number and its place
pub data Lines : Type 0 where
  end : Lines
  fault : (number place : ℕ) → Lines
  line : List ℕ → Lines → Lines

-- the byte that ends a line (L1)
abbrev pub CR : ℕ
CR = 13

-- bytes below this are control bytes, the others text
abbrev pub space : ℕ
space = 32

-- `inside`: in a line that has `text` so far, `at` bytes into the message. A CR gives the line (L1); the message's end is fault 6, another
--   control byte fault 4, and a byte of text that finds the line full fault 5 (L6).
-- `between`: behind a CR, where control bytes are skipped until text begins the next line (L2).
unfoldable mutual
  pub inside : Limits → ℕ → List ℕ → List ℕ → Lines
  inside L at text [] = fault open_line at
  inside L at text (b ∷ s) =
      elim (eqb b CR) [
        | true ↦ line text (between L (suc at) s)
        | false ↦
            elim (ltb b space) [
              | true ↦ fault control_byte at
              | false ↦ elim (leb L.line (length text)) [ true ↦ fault long_line at | false ↦ inside L (suc at) (text ++ (b ∷ [])) s ]
            ]
      ]

  pub between : Limits → ℕ → List ℕ → Lines
  between L at [] = end
  between L at (b ∷ s) = elim (ltb b space) [ true ↦ between L (suc at) s | false ↦ inside L (suc at) (b ∷ []) s ]

-- the lines of a message that begins at the place `at`: no bytes are the end, and a first control byte is fault 4 (P2)
unfoldable pub walk_from : Limits → ℕ → List ℕ → Lines
walk_from L at [] = end
walk_from L at (b ∷ s) = elim (ltb b space) [ true ↦ fault control_byte at | false ↦ inside L (suc at) (b ∷ []) s ]

-- the lines of a message
unfoldable pub walk : Limits → List ℕ → Lines
walk L message = walk_from L 0 message

-- the texts of the lines that a walk gives
unfoldable pub texts : Lines → List (List ℕ)
texts end = []
texts (fault n p) = []
texts (line t ls) = t ∷ texts ls

-- the fault that a walk ends in, as number and place: 0 and 0 where it ends in none (L6)
unfoldable pub fault_number : Lines → ℕ
fault_number end = 0
fault_number (fault n p) = n
fault_number (line t ls) = fault_number ls

unfoldable pub fault_place : Lines → ℕ
fault_place end = 0
fault_place (fault n p) = p
fault_place (line t ls) = fault_place ls
