-- Writing segments as lines (rules W1 and W2).
-- Assumes nothing.
use Rattle.std.specs.Prelude.{List, [], ◌∷◌, ◌++◌, map, ℕ, zero, suc, pred, length, take, drop}
use Rattle.laws.specs.Lists.{concat}
use Rattle.form.specs.declared.limits.Limits.{Limits}
use Rattle.form.specs.Limits.{line_count}
use Rattle.line.specs.Lines.{CR}
use Rattle.line.specs.Joining.{letter_a}

-- n pieces of a text: of k bytes each, as long as so many are left (W1)
unfoldable pub pieces : ℕ → ℕ → List ℕ → List (List ℕ)
pieces k zero s = []
pieces k (suc n) s = take k s ∷ pieces k n (drop k s)

-- pieces as addenda: each behind `A` and the field separator (A1)
unfoldable pub addenda : ℕ → List (List ℕ) → List (List ℕ)
addenda separator ts = map (λ (t : List ℕ). letter_a ∷ separator ∷ t) ts

-- the lines of one segment (W1): what fits its first, and the rest in as many addenda as W2 counts
unfoldable pub cut : Limits → ℕ → List ℕ → List (List ℕ)
cut L separator s =
    take L.line s ∷ addenda separator (pieces L.more (pred (line_count L (length s))) (drop L.line s))

-- the lines of all segments
unfoldable pub cuts : Limits → ℕ → List (List ℕ) → List (List ℕ)
cuts L separator segments = concat (map (cut L separator) segments)

-- lines as bytes, each closed by its CR
unfoldable pub unlines : List (List ℕ) → List ℕ
unlines [] = []
unlines (l ∷ ls) = l ++ CR ∷ unlines ls
