-- `write::test::is_table` meets its contract: some message reads to a table exactly where bytes are counted for one.
-- Assumes nothing.
use mathlib.Core.Path.{ap, ◌∙◌}
use Prim.Native.Nat.{ℕ}
use Rattle.std.specs.Prelude.{Option, is_some}
use Rattle.form.specs.Forms.{limits_of}
use Rattle.order.specs.Owners.{level}
use Rattle.table.specs.Lent.{lent}
use Rattle.write.specs.inner.EitherOwners.{levels_by}
use Rattle.write.proofs.Sizes.{lent_size_decides}
use Rattle.write.proofs.test.is_table.Goals as goal

pub returns : goal.returns
unfolding levels_by
returns c =
    c.is_some.ensures
    ∙ ap (λ (o : Option ℕ). is_some o) c.bytes_by.ensures
    ∙ lent_size_decides (limits_of c.args.form) level (lent c.args.card c.args.segments.now c.args.leaves.now c.args.text.now)
