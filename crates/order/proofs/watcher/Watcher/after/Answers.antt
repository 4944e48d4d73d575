-- `Watcher::after` meets its contract.
-- Assumes nothing.
use mathlib.Core.Path.{sym}
use Rattle.order.proofs.Allowing.{took_C, took_other}
use Rattle.order.proofs.watcher.Watcher.after.Goals as goal

pub returns-then-kind-eq-C : goal.returns-then-kind-eq-C
returns-then-kind-eq-C c =
    let at-args = c.args in
    let at-if1 = c.if-kind-eq-C in
    sym (took_C at-args.self at-args.kind at-if1.true)

pub returns : goal.returns
returns c =
    let at-args = c.args in
    let at-if1 = c.if-kind-eq-C in
    sym (took_other at-args.self at-args.kind at-if1.false)
