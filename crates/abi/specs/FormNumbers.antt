-- The form that a number names where a form goes in as a number (include/sargaceu.h), and its limits (rules T6 and T8): 1 is the large form, every
-- other number the small one.
-- Assumes nothing.
use Rattle.std.specs.Prelude.{true, false, ℕ, eqb}
use Rattle.form.specs.declared.limits.Limits.{Limits}
use Rattle.form.specs.declared.forms.Form.{Form}
use Rattle.form.specs.declared.forms.Form.TheVariants.{Small, Large}
use Rattle.form.specs.Forms.{limits_of}

unfoldable pub form_numbered : ℕ → Form
form_numbered n = elim (eqb n 1) [ true ↦ Large | false ↦ Small ]

abbrev pub limits_numbered : ℕ → Limits
limits_numbered n = limits_of (form_numbered n)
