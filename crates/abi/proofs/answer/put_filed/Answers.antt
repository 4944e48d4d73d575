-- `abi::answer::put_filed` meets its contract: place and card, number by number.
-- Assumes nothing.
use mathlib.Core.Path.{refl}
use Rattle.abi.specs.Cards.{card_numbers}
use Rattle.abi.proofs.answer.put_filed.Goals as goal

pub returns : goal.returns
unfolding card_numbers
returns c = (refl, c.put_numbers.ensures)
