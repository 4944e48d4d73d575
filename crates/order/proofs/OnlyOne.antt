-- Each public function's contract has one answer: two that satisfy it, at the same arguments, are equal, and so is all that is lent.
-- Assumes nothing.
use mathlib.Core.List.{List}
use mathlib.Core.Path.{◌≡◌}
use Prim.Native.Nat.{ℕ}
use Rattle.laws.proofs.Equality.{only_one}
use Rattle.order.specs.inner.Followers.{followers}
use Rattle.order.specs.inner.Levels.{level_table, former_level_table, level_in}
use Rattle.order.specs.inner.Owning.{no_rows, Owned}
use Rattle.order.specs.Watcher.{begun}
use Rattle.order.specs.inner.Telling.{follows_by, tell_by, tell_of}
use Rattle.order.specs.declared.watcher.Watcher.{Watcher}
use Rattle.order.specs.declared.watcher.Told.{Told}

pub followers-table : (r s : List ℕ) → r ≡ followers → s ≡ followers → r ≡ s
followers-table r s p q = only_one p q

pub levels-table : (r s : List ℕ) → r ≡ level_table → s ≡ level_table → r ≡ s
levels-table r s p q = only_one p q

pub former-levels-table : (r s : List ℕ) → r ≡ former_level_table → s ≡ former_level_table → r ≡ s
former-levels-table r s p q = only_one p q

pub level_of : (levels : List ℕ) (context kind r s : ℕ) → r ≡ level_in levels context kind → s ≡ level_in levels context kind → r ≡ s
level_of levels context kind r s p q = only_one p q

pub no_rows_lem : (r s : List ℕ) → r ≡ no_rows → s ≡ no_rows → r ≡ s
no_rows_lem r s p q = only_one p q

pub owner_of : (nearest : List ℕ) (row kind level : ℕ) (after after' : List ℕ) (r s : ℕ)
    → Owned nearest after row kind level r → Owned nearest after' row kind level s → (r ≡ s) × (after ≡ after')
owner_of nearest row kind level after after' r s p q = (only_one p.owner q.owner, only_one p.known q.known)

pub begin : (context : ℕ) (r s : Watcher) → r ≡ begun context → s ≡ begun context → r ≡ s
begin context r s p q = only_one p q

pub tell : (w : Watcher) (kind : ℕ) (r s : Told) → r ≡ tell_of w kind → s ≡ tell_of w kind → r ≡ s
tell w kind r s p q = only_one p q

pub tell_by_lem : (w : Watcher) (table : List ℕ) (kind : ℕ) (r s : Told) → r ≡ tell_by (follows_by table) w kind → s ≡ tell_by (follows_by table) w kind → r ≡ s
tell_by_lem w table kind r s p q = only_one p q
