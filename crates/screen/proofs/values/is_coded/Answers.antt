-- `screen::values::is_coded` meets its contract: the type, and then the system of the code in either of its places.
-- Assumes nothing.
use Rattle.laws.specs.Texts.{bytes}
use Rattle.screen.specs.Meeting.{is_about}
use Rattle.screen.proofs.ValueRules.{other_type, first_system, second_system}
use Rattle.screen.proofs.values.is_coded.Goals as goal

pub returns-then-leaf_says-2 : goal.returns-then-leaf_says-2
unfolding is_about bytes
returns-then-leaf_says-2 c =
    first_system _ _ _ c.leaf_says.ensures c.if-leaf_says.true c.leaf_says-then-leaf_says.ensures c.if-leaf_says-2.true

pub returns-else-leaf_says-2 : goal.returns-else-leaf_says-2
unfolding is_about bytes
returns-else-leaf_says-2 c =
    second_system _ _ _ c.leaf_says.ensures c.if-leaf_says.true c.leaf_says-then-leaf_says.ensures c.if-leaf_says-2.false c.leaf_says-else-leaf_says-2.ensures

pub returns-else-leaf_says : goal.returns-else-leaf_says
unfolding is_about bytes
returns-else-leaf_says c = other_type _ _ c.leaf_says.ensures c.if-leaf_says.false
