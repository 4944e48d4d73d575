-- `abi::forms::form_of` meets its contract: one number names the large form.
-- Assumes nothing.
use borrow.Author.Tests.{eq-eqb, ne_eqb}
use Rattle.abi.specs.FormNumbers.{form_numbered}
use Rattle.abi.proofs.forms.form_of.Goals as goal

pub returns-then-number-eq-LARGE : goal.returns-then-number-eq-LARGE
unfolding form_numbered
returns-then-number-eq-LARGE c = rw (eq-eqb c.args.number 1 c.if-number-eq-LARGE.true, form_numbered)

pub returns : goal.returns
unfolding form_numbered
returns c = rw (ne_eqb c.args.number 1 c.if-number-eq-LARGE.false, form_numbered)
