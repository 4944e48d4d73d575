-- `LargeForm::lines` meets its contract: the large form's limits are lawful.
-- Assumes nothing.
use mathlib.Core.Path.{◌∙◌, ap}
use Rattle.form.specs.Limits.{lines_under}
use Rattle.form.specs.declared.limits.Limits.{Limits}
use Rattle.form.proofs.forms.LargeForm.lines.Goals as goal

pub returns : goal.returns
unfolding lines_under
returns c = c.lines.ensures ∙ ap (λ (L : Limits). lines_under L c.args.bytes) c.limits.ensures
