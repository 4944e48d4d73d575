-- `value::reading::read_value` meets its contract: what the text says, with its sign put on.
-- Assumes nothing.
use mathlib.Core.Path.{ap, ◌∙◌}
use Rattle.value.specs.Values.{with_sign, value_of}
use Rattle.value.proofs.SignedValues.{said_small}
use Rattle.value.proofs.reading.read_value.Goals as goal

pub value_said-requires : goal.value_said-requires
value_said-requires c = said_small c.args.text.now c.read_numeral.ensures

pub returns : goal.returns
unfolding value_of
returns c = c.value_said.ensures ∙ ap with_sign c.read_numeral.ensures
