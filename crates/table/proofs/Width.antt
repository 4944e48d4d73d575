-- The limits of both forms (T6, T8) fit the rows.
-- Assumes nothing.
use native.Mathlib.Omega.{arith}
use Rattle.form.specs.declared.forms.Form.{Form}
use Rattle.form.specs.declared.forms.Form.TheVariants.{Small, Large}
use Rattle.form.specs.Forms.{limits_of}
use Rattle.form.proofs.TwoForms.{form_lawful}
use Rattle.table.specs.inner.Fitting.{FitsRows}

pub form_fits : (f : Form) → FitsRows (limits_of f)
unfolding limits_of
form_fits Small = record { lawful = form_lawful Small; segments = omega arith; leaves = omega arith; bytes = omega arith }
form_fits Large = record { lawful = form_lawful Large; segments = omega arith; leaves = omega arith; bytes = omega arith }
