-- The two forms (rules T6 and T8) and their limits. `line` counts the bytes of a line's text, `more` those that an
-- addendum carries: these two are the same in both.
-- Assumes nothing.
use Rattle.form.specs.declared.limits.Limits.{Limits}
use Rattle.form.specs.declared.forms.Form.{Form}
use Rattle.form.specs.declared.forms.Form.TheVariants.{Small, Large}

abbrev pub small_form : Limits
small_form = record { line = 219; more = 217; segments = 256; leaves = 2048; bytes = 16384 }

abbrev pub large_form : Limits
large_form = record { line = 219; more = 217; segments = 4096; leaves = 65536; bytes = 1048576 }

-- the limits of a form
unfoldable pub limits_of : Form → Limits
limits_of Small = small_form
limits_of Large = large_form
