-- Finding the line that begins at a place of a message (rules L1 to L4 and L6; P1 and P2).
-- Assumes nothing.
use Rattle.std.specs.Prelude.{true, false, List, [], ◌∷◌, ℕ, suc, ◌+◌, ◌-◌, leb, ltb, eqb, drop}
use Rattle.std.specs.Borrow.{Bor}
use Rattle.laws.specs.Parts.{Part, part_of}
use Rattle.form.specs.declared.limits.Limits.{Limits}
use Rattle.form.specs.Numbers.{control_byte, long_line, open_line}
use Rattle.line.specs.Lines.{CR, space}
use Rattle.line.specs.declared.finder.Found.{Found}
use Rattle.line.specs.declared.finder.Found.TheVariants.{Line, End, Fault}

-- how many bytes of 32 or more a list begins with
unfoldable pub text_run : List ℕ → ℕ
text_run [] = 0
text_run (b ∷ s) = elim (ltb b space) [ true ↦ 0 | false ↦ suc (text_run s) ]

-- how many control bytes it begins with
unfoldable pub low_run : List ℕ → ℕ
low_run [] = 0
low_run (b ∷ s) = elim (ltb b space) [ true ↦ suc (low_run s) | false ↦ 0 ]

-- what ends a line's text at the place `at`: its CR, behind which control bytes are skipped (L2); the message's end; another control byte (L6)
unfoldable pub text_ended : ℕ → List ℕ → Found
text_ended at [] = Fault open_line at
text_ended at (b ∷ s) = elim (eqb b CR) [ true ↦ Line at (suc at + low_run s) | false ↦ Fault control_byte at ]

-- what stands at the place `at`, from which on the message is this list and a line has so many bytes at most (L3, L6, P2)
unfoldable pub found_from : ℕ → ℕ → List ℕ → Found
found_from most at [] = End
found_from most at (b ∷ s) =
    elim (ltb b space) [
      | true ↦ Fault control_byte at
      | false ↦
          elim (leb (text_run (b ∷ s)) most) [
            | true ↦ text_ended (at + text_run (b ∷ s)) (drop (text_run (b ∷ s)) (b ∷ s))
            | false ↦ Fault long_line (at + most)
          ]
    ]

-- what stands at a place of a message: a line, the end, or a fault (P1)
abbrev pub found_at : Limits → List ℕ → ℕ → Found
found_at L message at = found_from L.line at (drop at message)

-- the part of a lent message that a line found at `at` is, without its CR (P1); at the end or a fault the empty part at its start
unfoldable pub part_found : Bor (List ℕ) → ℕ → Found → Part
part_found message at (Line e n) = part_of message at (e - at)
part_found message at End = part_of message 0 0
part_found message at (Fault n p) = part_of message 0 0

-- the part that is the line at a place
abbrev pub part_at : Limits → Bor (List ℕ) → ℕ → Part
part_at L message at = part_found message at (found_at L message.now at)

-- the place of the next line; an end or a fault is given again for ever, so that there the place stays (P1)
unfoldable pub next_of : ℕ → Found → ℕ
next_of at (Line e n) = n
next_of at End = at
next_of at (Fault n p) = at
