-- `order::levels::level_of` meets its contract: each return is one case of `level_in`.
-- Assumes nothing.
use mathlib.Core.Path.{sym}
use Rattle.order.proofs.LevelTable.{no_level_below, no_level_above, no_level_kind, level-there}
use Rattle.order.proofs.levels.level_of.Goals as goal

pub returns-then-context-lt1 : goal.returns-then-context-lt1
returns-then-context-lt1 c =
    let at-args = c.args in
    let at-if1 = c.if-context-lt1 in
    let a = at-args in sym (no_level_below a.levels.now a.context a.kind at-if1.true)

pub returns-then-context-gt-FAC : goal.returns-then-context-gt-FAC
returns-then-context-gt-FAC c =
    let at-args = c.args in
    let at-if2 = c.if-context-gt-FAC in
    let a = at-args in sym (no_level_above a.levels.now a.context a.kind at-if2.true)

pub returns-then-kind-gt-L : goal.returns-then-kind-gt-L
returns-then-kind-gt-L c =
    let at-args = c.args in
    let at-if3 = c.if-kind-gt-L in
    let a = at-args in sym (no_level_kind a.levels.now a.context a.kind at-if3.true)

pub returns : goal.returns
returns c =
    let at-args = c.args in
    let at-if1 = c.if-context-lt1 in
    let at-if2 = c.if-context-gt-FAC in
    let at-if3 = c.if-kind-gt-L in
    let a = at-args in sym (level-there a.levels.now a.context a.kind at-if1.false at-if2.false at-if3.false)
