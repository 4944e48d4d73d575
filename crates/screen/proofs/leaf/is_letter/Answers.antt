-- `screen::leaf::is_letter` meets its contract: the length, and then the byte.
-- Assumes nothing.
use mathlib.Core.Path.{◌∙◌}
use native.Mathlib.Omega.{arith}
use Rattle.laws.proofs.Slices.{among_by_any}
use Rattle.screen.proofs.Letters.{no_letter, one_letter}
use Rattle.screen.proofs.leaf.is_letter.Goals as goal

pub returns-in-len1 : goal.returns-in-len1
returns-in-len1 c = c.contains.ensures.value ∙ among_by_any _ _ ∙ one_letter c.args.letters.now c.args.text.now (omega arith)

pub returns-in_default : goal.returns-in_default
returns-in_default c = no_letter c.args.letters.now c.args.text.now (λ e. omega (arith, e))

pub returns-in_default-2 : goal.returns-in_default-2
returns-in_default-2 c = no_letter c.args.letters.now c.args.text.now (λ e. omega (arith, e))
