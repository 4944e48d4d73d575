-- The order watcher (rules V1 to V3): how it begins, what it is after some kinds, which of them it said yes to, and which may come next.
-- Assumes nothing.
use Rattle.std.specs.Prelude.{true, false, List, [], ◌∷◌, ℕ}
use Rattle.laws.specs.Tables.{values}
use Rattle.order.specs.inner.Followers.{as_entry, follows}
use Rattle.order.specs.inner.Telling.{tell_of}
use Rattle.order.specs.declared.watcher.Watcher.{Watcher}

-- a watcher that was begun with a number and told nothing yet (V1)
abbrev pub begun : ℕ → Watcher
begun c = record { context = c; last = 0 }

-- the watcher after it was told kinds, one after the other
unfoldable pub watched : Watcher → List ℕ → Watcher
watched w [] = w
watched w (k ∷ ks) = watched (tell_of w k).watcher ks

-- those of the kinds told that it says yes to, in their order
unfoldable pub said : Watcher → List ℕ → List ℕ
said w [] = []
said w (k ∷ ks) = elim (tell_of w k).yes [ true ↦ k ∷ said (tell_of w k).watcher ks | false ↦ said (tell_of w k).watcher ks ]

-- which kinds may come next (V3) in a watcher's context after its last kind, or at the beginning where there is none yet, by number from 0 to 12: 1
-- where the grammar lets the kind come there, and else 0
unfoldable pub next_kinds : Watcher → List ℕ
next_kinds w = values (λ k. as_entry (follows w.context w.last k)) 0 13
