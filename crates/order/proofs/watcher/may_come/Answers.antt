-- `order::watcher::may_come` meets its contract: each return is one case of `allows`.
-- Assumes nothing.
use mathlib.Core.Path.{sym, ◌∙◌}
use Rattle.order.specs.inner.Telling.{follows_by}
use Rattle.order.proofs.Allowing.{context-below, context_above, allows_C, allows-other}
use Rattle.order.proofs.Seven.{context-within}
use Rattle.order.proofs.watcher.may_come.Goals as goal

pub returns-then-context-lt1 : goal.returns-then-context-lt1
returns-then-context-lt1 c =
    let at-args = c.args in
    let at-if1 = c.if-context-lt1 in
    let a = at-args in sym (context-below (follows_by a.followers.now) a.context a.last a.kind at-if1.true)

pub returns-then-context-gt-FAC : goal.returns-then-context-gt-FAC
returns-then-context-gt-FAC c =
    let at-args = c.args in
    let at-if2 = c.if-context-gt-FAC in
    let a = at-args in sym (context_above (follows_by a.followers.now) a.context a.last a.kind at-if2.true)

pub returns-then-kind-eq-C : goal.returns-then-kind-eq-C
returns-then-kind-eq-C c =
    let at-args = c.args in
    let at-if1 = c.if-context-lt1 in
    let at-if2 = c.if-context-gt-FAC in
    let at-if3 = c.if-kind-eq-C in
    let a = at-args in
    c.may_have_c.ensures
    ∙ sym (allows_C (follows_by a.followers.now) a.context a.last a.kind (context-within a.context at-if1.false at-if2.false) at-if3.true)

pub returns : goal.returns
returns c =
    let at-args = c.args in
    let at-if1 = c.if-context-lt1 in
    let at-if2 = c.if-context-gt-FAC in
    let at-if3 = c.if-kind-eq-C in
    let a = at-args in
    c.may_be_next.ensures
    ∙ sym (allows-other (follows_by a.followers.now) a.context a.last a.kind (context-within a.context at-if1.false at-if2.false) at-if3.false)
