-- `read::codes::keep` meets its contract.
-- Assumes nothing.
use mathlib.Core.Path.{sym}
use Rattle.read.proofs.TakenLines.{kept_in, kept_out}
use Rattle.read.proofs.codes.keep.Goals as goal

pub returns-then-at-lt-CODE : goal.returns-then-at-lt-CODE
returns-then-at-lt-CODE c = sym (kept_in _ _ _ c.if-at-lt-CODE.true)

pub returns-else-at-lt-CODE : goal.returns-else-at-lt-CODE
returns-else-at-lt-CODE c = sym (kept_out _ _ _ c.if-at-lt-CODE.false)
