-- Writing byte by byte (W1): a model of cutting that antt computes. The code puts a text in parts, as much as a line has room for, and gives
-- the same. CR between two segments closes a line; a byte that finds its line full goes into the next, after CR, `A` and field separator.
-- Assumes nothing.
use Rattle.std.specs.Prelude.{true, false, List, [], ◌∷◌, ◌≡◌, ℕ, ◌+◌, ◌-◌, ◌≤◌, eqb, length, set}
use Rattle.std.proofs.lemmas.List.Edits.{sets}
use Rattle.laws.specs.Every.{All}
use Rattle.form.specs.declared.limits.Limits.{Limits}
use Rattle.line.specs.Lines.{CR}
use Rattle.line.specs.Joining.{letter_a}
use Rattle.write.specs.declared.lines.Going.{Going}

-- the output and how far it is written
pub record Stand : Type 0 where
  pub output : List ℕ
  pub going : Going

abbrev pub stand : List ℕ → Going → Stand
stand output going = record { output = output; going = going }

-- a byte in the line begun, which has room for it
unfoldable pub placed : Stand → ℕ → Stand
placed s b =
    stand (set s.output s.going.out b)
    (record { out = s.going.out + 1; room = s.going.room - 1; lines = s.going.lines })

-- a text in the line begun, which has room for it
unfoldable pub filled : Stand → List ℕ → Stand
filled s x =
    stand (sets s.output s.going.out x)
    (record { out = s.going.out + length x; room = s.going.room - length x; lines = s.going.lines })

-- the line begun, and with it the segment, is closed
unfoldable pub segment_closed : Limits → Stand → Stand
segment_closed L s =
    stand (set s.output s.going.out CR) (record { out = s.going.out + 1; room = L.line; lines = s.going.lines + 1 })

-- the line begun is closed, and the segment goes on in an addendum
unfoldable pub broken : Limits → ℕ → Stand → Stand
broken L f s =
    stand (sets s.output s.going.out (CR ∷ letter_a ∷ f ∷ []))
    (record { out = s.going.out + 3; room = L.more; lines = s.going.lines + 1 })

-- a line that has room for one more byte of the segment
unfoldable pub line_opened : Limits → ℕ → Stand → Stand
line_opened L f s = elim (eqb s.going.room 0) [ true ↦ broken L f s | false ↦ s ]

-- one byte more: CR closes the segment
unfoldable pub put_byte : Limits → ℕ → Stand → ℕ → Stand
put_byte L f s b = elim (eqb b CR) [ true ↦ segment_closed L s | false ↦ placed (line_opened L f s) b ]

-- bytes more, one after the other
unfoldable pub puts : Limits → ℕ → Stand → List ℕ → Stand
puts L f s [] = s
puts L f s (b ∷ x) = puts L f (put_byte L f s b) x

-- what putting bytes asks: the output holds what they give; each line has a byte at least, its CR
pub record Fits (L : Limits) (f : ℕ) (s : Stand) (x : List ℕ) : Type 0 where
  pub holds : (puts L f s x).going.out ≤ length s.output
  pub lines : s.going.lines ≤ s.going.out

-- no byte of a text is CR
abbrev pub InSegment : List ℕ → Type 0
InSegment x = All (λ (b : ℕ). eqb b CR ≡ false) x
