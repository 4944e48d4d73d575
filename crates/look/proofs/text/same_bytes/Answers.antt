-- `look::text::same_bytes` meets its contract: `==` of two slices compares all their bytes.
-- Assumes nothing.
use mathlib.Core.Path.{◌∙◌}
use Rattle.laws.proofs.Slices.{same_by_eq}
use Rattle.look.proofs.text.same_bytes.Goals as goal

pub returns : goal.returns
returns c = c.eq.ensures ∙ same_by_eq _ _
