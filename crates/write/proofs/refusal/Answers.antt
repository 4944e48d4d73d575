-- `write::refusal` meets its contract.
-- Assumes nothing.
use mathlib.Core.Path.{refl}
use Rattle.write.specs.Answer.{answer}
use Rattle.write.proofs.refusal.Goals as goal

pub returns : goal.returns
unfolding answer
returns c = refl
