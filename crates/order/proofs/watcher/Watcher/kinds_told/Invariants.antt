-- `Watcher::kinds_told` meets its contract. The loop's invariant: with the entries that are still to come, the array is the table of all of them.
-- The measure is how many are left.
-- Assumes nothing.
use mathlib.Core.Path.{◌≡◌}
use Prim.Native.Nat.{ℕ, ◌-◌, ◌≤◌}
use lib.Seq.{sets}
use Rattle.laws.specs.Tables.{values}
use Rattle.order.specs.inner.Telling.{tell_of, kinds_told}
use Rattle.order.specs.inner.Followers.{as_entry}
use Rattle.order.specs.declared.watcher.Watcher.{Watcher}
use Rattle.order.proofs.watcher.Watcher.kinds_told.Given as goal

-- what the entry of a kind says
abbrev pub entry : Watcher → ℕ → ℕ
entry w k = as_entry (tell_of w k).yes

abbrev pub invariant-loop-kind : goal.invariant-loop-kind
invariant-loop-kind l = (l.kind ≤ 13) × (sets l.next l.kind (values (entry l.self) l.kind (13 - l.kind)) ≡ kinds_told l.self)

abbrev pub decreases-loop-kind : goal.decreases-loop-kind
decreases-loop-kind l = 13 - l.kind
