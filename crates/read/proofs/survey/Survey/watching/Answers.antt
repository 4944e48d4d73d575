-- `Survey::watching` meets its contract: only the first segment begins the watcher.
-- Assumes nothing.
use mathlib.Core.Path.{sym, ap, ◌∙◌}
use Rattle.order.specs.Watcher.{begun}
use Rattle.read.proofs.Seeing.{watching-first, watching-later}
use Rattle.read.proofs.survey.Survey.watching.Goals as goal

pub returns-then-self-eq1 : goal.returns-then-self-eq1
returns-then-self-eq1 c =
    c.begin.ensures
    ∙ ap begun c.context_number.ensures
    ∙ sym (watching-first c.args.self c.if-self-eq1.true)

pub returns-else-self-eq1 : goal.returns-else-self-eq1
returns-else-self-eq1 c = sym (watching-later c.args.self c.if-self-eq1.false)
