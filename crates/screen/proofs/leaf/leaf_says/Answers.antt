-- `screen::leaf::leaf_says` meets its contract: by the text of the leaf.
-- Assumes nothing.
use mathlib.Core.List.{List}
use mathlib.Core.Path.{ap, ◌∙◌}
use Prim.Native.Nat.{ℕ}
use Rattle.laws.specs.Lists.{same}
use Rattle.table.specs.Lent.{lent}
use Rattle.screen.proofs.LeafTexts.{leaf-says}
use Rattle.screen.proofs.leaf.leaf_says.Goals as goal

pub returns : goal.returns
returns c =
    c.same_bytes.ensures ∙ ap (λ (s : List ℕ). same s c.args.wanted.now) c.leaf_text.ensures
    ∙ leaf-says (lent c.args.card c.args.segments.now c.args.leaves.now c.args.text.now) c.args.row c.args.field c.args.subfield c.args.wanted.now c.requires.some
