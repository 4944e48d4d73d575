-- `value::sign::signed` meets its contract: a magnitude below the half has its number with either sign.
-- Assumes nothing.
use Rattle.value.proofs.Signs.{negated_fits, signed_minus, signed_plain}
use Rattle.value.proofs.sign.signed.Goals as goal

pub overflow_sub-result : goal.overflow_sub-result
overflow_sub-result c = negated_fits c.args.magnitude c.requires

pub returns-then-negative : goal.returns-then-negative
returns-then-negative c = signed_minus c.args.magnitude c.requires c.if-negative.true

pub returns-else-negative : goal.returns-else-negative
returns-else-negative c = signed_plain c.args.magnitude c.requires c.if-negative.false
