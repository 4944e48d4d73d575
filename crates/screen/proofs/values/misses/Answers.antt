-- `screen::values::misses` meets its contract: by the text of the value.
-- Assumes nothing.
use mathlib.Core.Bool.{not}
use mathlib.Core.Path.{ap, ◌∙◌}
use Rattle.table.specs.Lent.{lent}
use Rattle.screen.specs.Meeting.{is_letter}
use Rattle.screen.proofs.LeafTexts.{leaf_letter}
use Rattle.screen.proofs.values.misses.Goals as goal

pub returns : goal.returns
returns c =
    ap not
    (c.is_letter.ensures ∙ ap (is_letter c.args.letters.now) c.leaf_text.ensures
    ∙ leaf_letter (lent c.args.card c.args.segments.now c.args.leaves.now c.args.text.now) c.args.row 6 1 c.args.letters.now)
