-- The two forms (rules T6 and T8): their limits are lawful, and no form allows less than the small one.
-- Assumes nothing.
use mathlib.Core.Path.{refl}
use native.Mathlib.Omega.{arith}
use lib.Dec.{lit≤}
use Rattle.form.specs.Limits.{Lawful, NoLess}
use Rattle.form.specs.Forms.{small_form, limits_of}
use Rattle.form.specs.declared.forms.Form.{Form}
use Rattle.form.specs.declared.forms.Form.TheVariants.{Small, Large}

pub form_lawful : (f : Form) → Lawful (limits_of f)
unfolding limits_of
form_lawful Small = record { addendum = refl; header = lit≤ tt }
form_lawful Large = record { addendum = refl; header = lit≤ tt }

pub small_least : (f : Form) → NoLess small_form (limits_of f)
unfolding limits_of
small_least Small = record { line = refl; more = refl; segments = omega arith; leaves = omega arith; bytes = omega arith }
small_least Large = record { line = refl; more = refl; segments = omega arith; leaves = omega arith; bytes = omega arith }
