-- `read::read` meets its contract: the limits of the form (T6, T8), and as many bytes for kinds as it has segments.
-- Assumes nothing.
use mathlib.Core.Path.{sym, ap}
use Rattle.form.specs.declared.forms.Form.{Form}
use Rattle.form.specs.Forms.{limits_of}
use Rattle.read.proofs.Answering.{form_reads}
use Rattle.read.proofs.read.Goals as goal

pub read_by-requires : goal.read_by-requires
unfolding limits_of
read_by-requires c = form_reads c.args.form c.limits-limits.ensures (ap (λ (f : Form). (limits_of f).segments) (sym c.in-Small.is))

pub read_by-requires-in-Large : goal.read_by-requires-in-Large
unfolding limits_of
read_by-requires-in-Large c = form_reads c.args.form c.limits-limits.ensures (ap (λ (f : Form). (limits_of f).segments) (sym c.in-Large.is))
