-- `Watcher::next_kinds` meets its contract: after a kind that the context has it is what the watcher says to each kind, and else nothing comes.
-- Assumes nothing.
use mathlib.Core.Path.{sym, ◌∙◌}
use Rattle.order.proofs.NextKinds.{told-next, none-next}
use Rattle.order.proofs.watcher.Watcher.next_kinds.Goals as goal

pub returns-then-not-has_last : goal.returns-then-not-has_last
returns-then-not-has_last c = none-next c.args.self (sym c.has_last.ensures ∙ c.if-not-has_last.true)

pub returns : goal.returns
returns c =
    let w = c.args.self in
    c.kinds_told.ensures ∙ told-next w (sym c.has_last.ensures ∙ c.if-not-has_last.false)
