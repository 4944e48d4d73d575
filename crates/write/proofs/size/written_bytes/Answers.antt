-- `write::size::written_bytes` meets its contract: its owners are those in force, and 0 stands for none.
-- Assumes nothing.
use mathlib.Core.Path.{ap, ◌∙◌}
use Prim.Native.Nat.{ℕ}
use Rattle.std.specs.Prelude.{Option, unwrap_or}
use Rattle.form.specs.Forms.{limits_of}
use Rattle.form.proofs.TwoForms.{form_lawful}
use Rattle.order.specs.Owners.{level}
use Rattle.table.specs.Lent.{lent}
use Rattle.write.specs.inner.EitherOwners.{levels_by}
use Rattle.write.proofs.Sizes.{size-written}
use Rattle.write.proofs.size.written_bytes.Goals as goal

pub returns : goal.returns
unfolding levels_by
returns c =
    c.unwrap_or.ensures
    ∙ ap (λ (o : Option ℕ). unwrap_or o 0) c.bytes_by.ensures
    ∙ size-written (limits_of c.args.form) level (lent c.args.card c.args.segments.now c.args.leaves.now c.args.text.now) (form_lawful c.args.form)
