-- `screen::codes::code_of` meets its contract: the codes are tried in turn.
-- Assumes nothing.
use mathlib.Core.Path.{sym, ◌∙◌}
use native.Mathlib.Omega.{arith}
use Rattle.laws.specs.Texts.{bytes}
use Rattle.screen.specs.Rules.{codes}
use Rattle.screen.proofs.RowCodes.{CodesTried, tried-none, other-code, this_code, no_code}
use Rattle.screen.proofs.codes.code_of.Goals as goal
use Rattle.screen.proofs.codes.code_of.Goals.{Else-same_bytes, Else-same_bytes-2, Else-same_bytes-3, Else-same_bytes-4}

-- behind each test one code more was tried
one-tried : (c : Else-same_bytes) → CodesTried c.args.text.now 1
unfolding codes bytes
one-tried c = other-code _ (tried-none _) (omega arith) (sym c.same_bytes.ensures ∙ c.if-same_bytes.false)

two_tried : (c : Else-same_bytes-2) → CodesTried c.args.text.now 2
unfolding codes bytes
two_tried c = other-code _ (one-tried (goal.at.Else-same_bytes-2 c).Else-same_bytes) (omega arith) (sym c.same_bytes-else-same_bytes.ensures ∙ c.if-same_bytes-2.false)

three-tried : (c : Else-same_bytes-3) → CodesTried c.args.text.now 3
unfolding codes bytes
three-tried c = other-code _ (two_tried (goal.at.Else-same_bytes-3 c).Else-same_bytes-2) (omega arith) (sym c.same_bytes-else-same_bytes-2.ensures ∙ c.if-same_bytes-3.false)

all-tried : (c : Else-same_bytes-4) → CodesTried c.args.text.now 4
unfolding codes bytes
all-tried c = other-code _ (three-tried (goal.at.Else-same_bytes-4 c).Else-same_bytes-3) (omega arith) (sym c.same_bytes-else-same_bytes-3.ensures ∙ c.if-same_bytes-4.false)

pub returns-then-same_bytes : goal.returns-then-same_bytes
unfolding codes bytes
returns-then-same_bytes c = this_code _ (tried-none _) (omega arith) (sym c.same_bytes.ensures ∙ c.if-same_bytes.true)

pub returns-then-same_bytes-2 : goal.returns-then-same_bytes-2
unfolding codes bytes
returns-then-same_bytes-2 c = this_code _ (one-tried (goal.at.returns-then-same_bytes-2 c).Else-same_bytes) (omega arith) (sym c.same_bytes-else-same_bytes.ensures ∙ c.if-same_bytes-2.true)

pub returns-then-same_bytes-3 : goal.returns-then-same_bytes-3
unfolding codes bytes
returns-then-same_bytes-3 c = this_code _ (two_tried (goal.at.returns-then-same_bytes-3 c).Else-same_bytes-2) (omega arith) (sym c.same_bytes-else-same_bytes-2.ensures ∙ c.if-same_bytes-3.true)

pub returns-then-same_bytes-4 : goal.returns-then-same_bytes-4
unfolding codes bytes
returns-then-same_bytes-4 c = this_code _ (three-tried (goal.at.returns-then-same_bytes-4 c).Else-same_bytes-3) (omega arith) (sym c.same_bytes-else-same_bytes-3.ensures ∙ c.if-same_bytes-4.true)

pub returns-else-same_bytes-4 : goal.returns-else-same_bytes-4
returns-else-same_bytes-4 c = no_code _ (all-tried (goal.at.returns-else-same_bytes-4 c).Else-same_bytes-4)
