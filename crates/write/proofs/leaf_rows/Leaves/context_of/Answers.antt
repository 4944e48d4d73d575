-- `write::leaf_rows::Leaves::context_of` meets its contract. The text of the first segment's leaf of field 7 names the context.
-- Assumes nothing.
use native.Mathlib.Omega.{arith}
use mathlib.Core.Path.{sym, ap, ◌∙◌}
use Prim.Native.Nat.{◌<◌}
use Rattle.form.specs.Names.{context_names, context_of}
use Rattle.write.specs.inner.Tests.{known}
use Rattle.write.proofs.Known.{known_none}
use Rattle.write.proofs.LaidRows.{in_text_fits}
use Rattle.write.proofs.Groups.{field_missing, field_found, context-first}
use Rattle.write.proofs.leaf_rows.Leaves.context_of.Goals as goal

pub returns-in_err-leaf : goal.returns-in_err-leaf
returns-in_err-leaf c =
    c.from_residual.ensures
    ∙ known_none
    (sym (context-first c.args.self.rows.now c.args.self.text.now c.requires.ends) ∙ field_missing c.field_leaf.ensures context_names c.args.self.text.now c.in_err-leaf.was)

pub text_of-requires : goal.text_of-requires
text_of-requires c =
    let here = (c.field_leaf.ensures.within c.in_ok-leaf.leaf c.in_ok-leaf.was).1 in
    let less : c.in_ok-leaf.leaf < c.args.self.count = omega (arith, here, c.requires.ends.to) in
    record { row = omega (arith, less, c.requires.in_text.sized); within = in_text_fits c.requires.in_text c.in_ok-leaf.leaf less }

pub returns : goal.returns
unfolding context_of
returns c =
    c.known.ensures
    ∙ ap known
    (c.named.ensures
    ∙ ap context_of c.text_of.ensures
    ∙ sym (field_found c.field_leaf.ensures context_names c.args.self.text.now c.in_ok-leaf.was)
    ∙ context-first c.args.self.rows.now c.args.self.text.now c.requires.ends)
