-- `Watcher::tell_by` meets its contract: it says yes where the kind may come, and changes only then.
-- Assumes nothing.
use mathlib.Core.Path.{sym, ap, ◌∙◌}
use Rattle.order.specs.inner.Telling.{follows_by}
use Rattle.order.specs.declared.watcher.Watcher.{Watcher}
use Rattle.order.specs.declared.watcher.Told.{Told}
use mathlib.Core.Bool.{true}
use Rattle.order.proofs.Allowing.{says-yes, says_no}
use Rattle.order.proofs.watcher.Watcher.tell_by.Goals as goal

pub returns-then-may_come : goal.returns-then-may_come
returns-then-may_come c =
    let at-args = c.args in
    let at-may-come = c.may_come in
    let at-if1 = c.if-may_come in
    let a = at-args in
    ap {B = Told} (λ (w : Watcher). record { watcher = w; yes = true }) c.after-watcher.ensures
    ∙ sym (says-yes a.self a.kind (follows_by a.followers.now) (sym at-may-come.ensures ∙ at-if1.true))

pub returns : goal.returns
returns c =
    let at-args = c.args in
    let at-may-come = c.may_come in
    let at-if1 = c.if-may_come in
    let a = at-args in
    sym (says_no a.self a.kind (follows_by a.followers.now) (sym at-may-come.ensures ∙ at-if1.false))
