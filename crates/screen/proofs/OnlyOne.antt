-- The contract of `screen` has one answer: two that satisfy it, of the same table, are equal. Nothing that is lent changes.
-- Assumes nothing.
use mathlib.Core.Path.{◌≡◌}
use Rattle.laws.proofs.Equality.{only_one}
use Rattle.form.specs.Forms.{small_form}
use Rattle.order.specs.Owners.{level}
use Rattle.table.specs.Lent.{Lent}
use Rattle.screen.specs.declared.Verdict.{Verdict}
use Rattle.screen.specs.Verdicts.{screened}

pub screen : (t : Lent) (v w : Verdict) → v ≡ screened small_form level t → w ≡ screened small_form level t → v ≡ w
screen t v w e q = only_one e q
