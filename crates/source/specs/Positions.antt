-- Line and column of an offset, as an editor shows them (rule E4).
-- Assumes nothing.
use Rattle.std.specs.Prelude.{Bool, true, false, ◌&&◌, List, [], ◌∷◌, ℕ, suc, ltb, eqb, take}
use Rattle.laws.specs.Lists.{count}
use Rattle.line.specs.Lines.{CR, space}
use Rattle.source.specs.declared.position.Position.{Position}

-- how many CRs some bytes have
unfoldable pub line_ends : List ℕ → ℕ
line_ends s = count (eqb CR) s

-- how many bytes have come since the last CR, where n have come before these
unfoldable pub bytes_since : ℕ → List ℕ → ℕ
bytes_since n [] = n
bytes_since n (b ∷ s) = elim (eqb CR b) [ true ↦ bytes_since 0 s | false ↦ bytes_since (suc n) s ]

-- the position behind some bytes: one line more than their CRs, one column more than the bytes since the last of these
unfoldable pub position_behind : List ℕ → Position
position_behind s = record { line = suc (line_ends s); column = suc (bytes_since 0 s) }

-- the position of an offset (E4); an offset past the message's end counts as that end
unfoldable pub position_of : List ℕ → ℕ → Position
position_of message offset = position_behind (take offset message)

-- how many CRs of some bytes end no line: each of them stands right behind another control byte (L2). `low` says whether one stands right before
-- these bytes.
unfoldable pub blank_ends : Bool → List ℕ → ℕ
blank_ends low [] = 0
blank_ends low (b ∷ s) = elim (low && eqb CR b) [ true ↦ suc (blank_ends (ltb b space) s) | false ↦ blank_ends (ltb b space) s ]

-- how many blank lines a message has before a place
abbrev pub blank_before : List ℕ → ℕ → ℕ
blank_before message at = blank_ends false (take at message)
