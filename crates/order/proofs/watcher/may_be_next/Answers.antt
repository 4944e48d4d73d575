-- `order::watcher::may_be_next` meets its contract: each return is one case of `allows_next`.
-- Assumes nothing.
use mathlib.Core.Path.{sym, ◌∙◌}
use native.Mathlib.Omega.{arith}
use Rattle.order.specs.inner.Telling.{follows_by}
use Rattle.order.proofs.Allowing.{first_is_H, last_above, kind-below, kind_above, kind-within}
use Rattle.order.proofs.watcher.may_be_next.Goals as goal

pub returns-then-last-eq0 : goal.returns-then-last-eq0
returns-then-last-eq0 c =
    let at-args = c.args in
    let at-if1 = c.if-last-eq0 in
    let a = at-args in sym (first_is_H (follows_by a.followers.now) a.context a.last a.kind at-if1.true)

pub returns-then-last-gt-L : goal.returns-then-last-gt-L
returns-then-last-gt-L c =
    let at-args = c.args in
    let at-if1 = c.if-last-eq0 in
    let at-if2 = c.if-last-gt-L in
    let a = at-args in sym (last_above (follows_by a.followers.now) a.context a.last a.kind at-if1.false at-if2.true)

pub returns-then-kind-lt1 : goal.returns-then-kind-lt1
returns-then-kind-lt1 c =
    let at-args = c.args in
    let at-if1 = c.if-last-eq0 in
    let at-if3 = c.if-kind-lt1 in
    let a = at-args in sym (kind-below (follows_by a.followers.now) a.context a.last a.kind at-if1.false at-if3.true)

pub returns-then-kind-gt-L : goal.returns-then-kind-gt-L
returns-then-kind-gt-L c =
    let at-args = c.args in
    let at-if1 = c.if-last-eq0 in
    let at-if4 = c.if-kind-gt-L in
    let a = at-args in sym (kind_above (follows_by a.followers.now) a.context a.last a.kind at-if1.false at-if4.true)

pub is_listed-requires : goal.is_listed-requires
is_listed-requires c = omega arith

pub returns : goal.returns
returns c =
    let at-args = c.args in
    let at-if1 = c.if-last-eq0 in
    let a = at-args in
    c.is_listed.ensures
    ∙ sym (kind-within (follows_by a.followers.now) a.context a.last a.kind (omega arith) at-if1.false)
