-- `order::watcher::has_last` meets its contract: the table of levels has the level of each kind.
-- Assumes nothing.
use borrow.Author.Tests.{eq-eqb, ne_eqb}
use mathlib.Core.Bool.{Bool, ◌||◌, not}
use mathlib.Core.Path.{◌≡◌, sym, ap, ◌∙◌}
use Prim.Native.Nat.{ℕ}
use lib.Dec.{eqb}
use Rattle.order.specs.Owners.{level}
use Rattle.order.specs.inner.Telling.{has_last}
use Rattle.order.proofs.LevelTable.{levels_are}
use Rattle.order.proofs.watcher.has_last.Goals as goal

pub returns-then-last-eq0 : goal.returns-then-last-eq0
unfolding has_last
returns-then-last-eq0 c =
    let a = c.args in
    sym (ap (λ (b : Bool). b || not (eqb (level a.context a.last) 0)) (eq-eqb a.last 0 c.if-last-eq0.true))

pub returns : goal.returns
unfolding has_last
returns c =
    let at_table = c.table-levels in
    let a = c.args in
    let same : c.level_of.result ≡ level a.context a.last
    = c.level_of.ensures ∙ ap (λ (f : ℕ → ℕ → ℕ). f a.context a.last) (levels_are at_table.ensures) in
    ap (λ (n : ℕ). not (eqb n 0)) same
    ∙ sym (ap (λ (b : Bool). b || not (eqb (level a.context a.last) 0)) (ne_eqb a.last 0 c.if-last-eq0.false))
