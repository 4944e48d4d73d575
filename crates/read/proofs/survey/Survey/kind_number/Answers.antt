-- `Survey::kind_number` meets its contract: the first segment is an H, and the letters gathered tell any other's kind.
-- Assumes nothing.
use mathlib.Core.Path.{sym, ◌∙◌}
use Rattle.read.proofs.Seeing.{kind-first, kind-later}
use Rattle.read.proofs.survey.Survey.kind_number.Goals as goal

pub returns-then-self-eq1 : goal.returns-then-self-eq1
returns-then-self-eq1 c = sym (kind-first c.args.self c.if-self-eq1.true)

pub returns : goal.returns
returns c = c.of.ensures ∙ sym (kind-later c.args.self c.if-self-eq1.false)
