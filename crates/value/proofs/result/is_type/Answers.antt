-- `value::result::is_type` meets its contract: the bytes of NM.
-- Assumes nothing.
use mathlib.Core.Path.{ap, ◌∙◌}
use Rattle.laws.specs.Lists.{same}
use Rattle.laws.specs.Texts.{bytes}
use Rattle.laws.proofs.Slices.{same_by_eq}
use Rattle.value.specs.Results.{numeric_type}
use Rattle.value.proofs.result.is_type.Goals as goal

pub returns : goal.returns
unfolding numeric_type bytes
returns c = c.eq.ensures ∙ same_by_eq _ _ ∙ ap (same c.args.text.now) c.as_slice.ensures
