-- `Survey::closed` meets its contract: the kind that the packed name stands for is noted and judged, and told to the watcher.
-- Assumes nothing.
use mathlib.Core.Path.{ap, ◌∙◌}
use Prim.Native.Nat.{ℕ, ◌-◌}
use lib.ListN.{set}
use Rattle.order.specs.inner.Telling.{follows_by}
use Rattle.read.proofs.Seeing.{closed_as}
use Rattle.read.proofs.survey.Survey.closed.Goals as goal

pub returns : goal.returns
returns c = (
  closed_as c.args.self (follows_by c.args.followers.now) c.kind_number-kind.ensures c.watching.ensures c.tell_by-told.ensures c.first_of.ensures
      c.first_of-2.ensures,
  c.note.ensures ∙ ap (λ (k : ℕ). set c.args.kinds.now (c.args.self.segments - 1) k) c.kind_number-kind.ensures,
)
