-- `Form::limits` meets its contract: each form has its own limits.
-- Assumes nothing.
use borrow.Author.Rules.{rules}
use Rattle.form.specs.Forms.{limits_of}
use Rattle.form.proofs.forms.Form.limits.Goals as goal

pub returns-in-Small : goal.returns-in-Small
unfolding limits_of
returns-in-Small c = search rules

pub returns-in-Large : goal.returns-in-Large
unfolding limits_of
returns-in-Large c = search rules
