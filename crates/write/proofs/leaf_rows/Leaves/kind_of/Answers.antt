-- `write::leaf_rows::Leaves::kind_of` meets its contract. The text of the leaf of field 1 names the kind.
-- Assumes nothing.
use native.Mathlib.Omega.{arith}
use mathlib.Core.Path.{sym, ap, ◌∙◌}
use Prim.Native.Nat.{◌<◌}
use Rattle.form.specs.Names.{kind_names, kind_of}
use Rattle.table.specs.inner.BySegment.{kind_among}
use Rattle.write.specs.inner.Tests.{known}
use Rattle.write.proofs.Known.{known_none}
use Rattle.write.proofs.LaidRows.{in_text_fits}
use Rattle.write.proofs.Groups.{field_missing, field_found}
use Rattle.write.proofs.leaf_rows.Leaves.kind_of.Goals as goal

pub returns-in_err-leaf : goal.returns-in_err-leaf
unfolding kind_among
returns-in_err-leaf c =
    c.from_residual.ensures ∙ known_none (field_missing c.alone.ensures kind_names c.args.self.text.now c.in_err-leaf.was)

pub text_of-requires : goal.text_of-requires
text_of-requires c =
    let leaves = c.requires.leaves in
    let here = (c.alone.ensures.within c.in_ok-leaf.leaf c.in_ok-leaf.was).1 in
    let less : c.in_ok-leaf.leaf < c.args.self.count = omega (arith, here, leaves.to) in
    record { row = omega (arith, less, leaves.in_text.sized); within = in_text_fits leaves.in_text c.in_ok-leaf.leaf less }

pub returns : goal.returns
unfolding kind_among kind_of
returns c =
    c.known.ensures
    ∙ ap known
    (c.named.ensures ∙ ap kind_of c.text_of.ensures ∙ sym (field_found c.alone.ensures kind_names c.args.self.text.now c.in_ok-leaf.was))
