-- `Watcher::kinds_told` meets its contract. The loop's invariant: with the entries that are still to come, the array is the table of all of them.
-- The measure is how many are left.
-- Assumes nothing.
use mathlib.Core.Path.{◌≡◌, refl, sym, ap, ◌∙◌}
use Prim.Native.Nat.{ℕ, ◌+◌, ◌-◌}
use native.Mathlib.Omega.{arith}
use lib.ListN.{set, replicate}
use lib.Seq.{sets}
use Rattle.laws.specs.Tables.{values}
use Rattle.order.specs.inner.Telling.{kinds_told}
use Rattle.order.specs.inner.Followers.{as_entry}
use Rattle.order.specs.declared.watcher.Told.{Told}
use Rattle.order.proofs.NextKinds.{entries_begin, entries_turn, entries-end}
use Rattle.order.proofs.Watching.{by_this_table}
use Rattle.order.proofs.watcher.Watcher.kinds_told.Invariants.{entry}
use Rattle.order.proofs.watcher.Watcher.kinds_told.Goals as goal

pub loop-kind-init : goal.loop-kind-init
unfolding kinds_told
loop-kind-init c = (omega arith, entries_begin (entry c.args.self) 13 (replicate 13 0) refl)

pub overflow_cast-kind : goal.overflow_cast-kind
overflow_cast-kind c = omega arith

pub overflow_add-kind : goal.overflow_add-kind
overflow_add-kind c = omega arith

pub loop-kind-smaller : goal.loop-kind-smaller
loop-kind-smaller c = omega arith

pub loop-kind-preserved : goal.loop-kind-preserved
loop-kind-preserved c =
    let at-tell-by = c.tell_by-told in
    let at-loop = c.loop-kind in
    let at_table = c.table-followers in
    let w = c.args.self in
    let said : c.entry_of.result ≡ entry w at-loop.kind
    = c.entry_of.ensures
    ∙ ap (λ (t : Told). as_entry t.yes) (at-tell-by.ensures ∙ by_this_table at_table.result at_table.ensures w at-loop.kind) in (
      omega arith,
      ap (λ (e : ℕ). sets (set at-loop.next at-loop.kind e) (at-loop.kind + 1) (values (entry w) (at-loop.kind + 1) (13 - (at-loop.kind + 1)))) said
          ∙ entries_turn (entry w) 13 at-loop.next at-loop.kind (omega arith)
          ∙ at-loop.invariant.1,
    )

pub returns : goal.returns
returns c =
    let at-loop = c.loop-kind in
    sym (entries-end (entry c.args.self) 13 at-loop.next at-loop.kind (omega arith)) ∙ at-loop.invariant.1
