-- Segments that can be filed and turned back: what the rules of lines and header (L1, H1) say of the segments of a message that
-- keeps to them.
-- Assumes nothing.
use Rattle.std.specs.Prelude.{List, [], ◌∷◌, ◌≡◌, ℕ, take, get_or}
use Rattle.laws.specs.Every.{All}
use Rattle.form.specs.declared.separators.Separators.{Separators}
use Rattle.line.specs.Lines.{CR}
use Rattle.table.specs.inner.Flat.{Without}

-- the seven bytes that a message with these separators begins with (H1)
unfoldable pub header_bytes : Separators → List ℕ
header_bytes ps =
    72 ∷ ps.field ∷ ps.subfield ∷ ps.repeater ∷ ps.escape ∷ ps.subsubfield ∷ ps.field ∷ []

-- the first segment begins with the header of its separators, and no segment contains CR
pub record Filed (ps : Separators) (segments : List (List ℕ)) : Type 0 where
  pub header : take 7 (get_or segments 0 []) ≡ header_bytes ps
  pub lines : All (Without CR) segments
