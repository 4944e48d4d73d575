-- `indexed::read_indexed` meets its contract: the limits of the form (T6, T8), with room for the kinds and the starts of as many segments as it has.
-- Assumes nothing.
use mathlib.Core.Path.{sym, ap}
use Rattle.form.specs.declared.forms.Form.{Form}
use Rattle.form.specs.Forms.{limits_of}
use Rattle.read.proofs.Answering.{form_reads}
use Rattle.read.proofs.indexed.read_indexed.Goals as goal

pub index_by-requires : goal.index_by-requires
unfolding limits_of
index_by-requires c = form_reads c.args.form c.limits-limits.ensures (ap (λ (f : Form). (limits_of f).segments) (sym c.in-Small.is))

pub index_by-requires-in-Large : goal.index_by-requires-in-Large
unfolding limits_of
index_by-requires-in-Large c = form_reads c.args.form c.limits-limits.ensures (ap (λ (f : Form). (limits_of f).segments) (sym c.in-Large.is))
