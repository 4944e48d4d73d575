-- `Survey::context_number` meets its contract: nothing has come of field 7, or its letters tell the context.
-- Assumes nothing.
use mathlib.Core.Path.{sym, ap, ◌∙◌}
use Rattle.form.specs.Names.{context_of}
use Rattle.read.proofs.Naming.{no_context_text, gathered-nothing, gathered-name}
use Rattle.read.proofs.survey.Survey.context_number.Goals as goal

pub returns-then-self-gt1 : goal.returns-then-self-gt1
returns-then-self-gt1 c = sym (ap context_of (gathered-nothing c.args.self.name c.if-self-gt1.true) ∙ no_context_text)

pub returns : goal.returns
returns c = c.of.ensures ∙ sym (ap context_of (gathered-name c.args.self.name c.if-self-gt1.false))
