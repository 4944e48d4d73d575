-- `Watcher::tell` meets its contract: the table is the one that the grammar gives.
-- Assumes nothing.
use mathlib.Core.Path.{◌∙◌}
use Rattle.order.proofs.Watching.{by_this_table}
use Rattle.order.proofs.watcher.Watcher.tell.Goals as goal

pub returns : goal.returns
returns c =
    let at-args = c.args in
    let at_table = c.table-followers in
    c.tell_by.ensures ∙ by_this_table at_table.result at_table.ensures at-args.self at-args.kind
