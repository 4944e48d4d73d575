-- `read::codes::plain_end` meets its contract: what is left of the text ends where all of it ends.
-- Assumes nothing.
use mathlib.Core.Path.{sym, ap, ◌∙◌}
use Prim.Native.Nat.{ℕ}
use lib.ListN.{get_or}
use Rattle.read.proofs.SkippedFields.{plain_on, plain_done}
use Rattle.read.proofs.codes.plain_end.Goals as goal

pub loop-at-preserved : goal.loop-at-preserved
loop-at-preserved c = plain_on c.loop-at.invariant (ap (λ (k : ℕ). get_or c.args.class.now k 0) (sym c.index.ensures.0) ∙ c.loop-at-test.true)

pub returns : goal.returns
returns c =
    plain_done c.loop-at.invariant
    (λ z. c.loop-at-test.false (ap (λ (k : ℕ). get_or c.args.class.now k 0) c.index.ensures.0 ∙ z))
