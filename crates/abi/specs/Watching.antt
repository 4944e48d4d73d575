-- What `sargaceu_watch` and `sargaceu_next_kinds` (include/sargaceu.h) answer (rules V1 to V3). The caller keeps the watcher.
-- Assumes nothing.
use Rattle.std.specs.Prelude.{Bool, ◌&&◌, List, [], ◌∷◌, ◌≡◌, ℕ, leb, length, get_or}
use Rattle.order.specs.declared.watcher.Watcher.{Watcher}
use Rattle.order.specs.Watcher.{next_kinds}
use Rattle.order.specs.inner.Telling.{tell_of}
use Rattle.abi.specs.Putting.{put_all}

-- the two bytes of a watcher: its context, and the last kind that it said yes to, C aside
unfoldable pub watcher_bytes : Watcher → List ℕ
watcher_bytes w = w.context ∷ w.last ∷ []

-- the watcher that two bytes are
unfoldable pub watcher_of : List ℕ → Watcher
watcher_of bytes = record { context = get_or bytes 0 0; last = get_or bytes 1 0 }

-- whether lent bytes, as a watcher, say yes to a kind; fewer than two are none and say no
unfoldable pub says_yes : List ℕ → ℕ → Bool
says_yes bytes kind = leb 2 (length bytes) && (tell_of (watcher_of bytes) kind).yes

-- what a watcher says, and the watcher after it: the contract of `sargaceu_watch`
pub record Watched (bytes : List ℕ) (kind : ℕ) (r : Bool) (bytes' : List ℕ) : Type 0 where
  pub verdict : r ≡ says_yes bytes kind
  pub watcher : bytes' ≡ put_all bytes (watcher_bytes (tell_of (watcher_of bytes) kind).watcher)

-- a watcher in a context whose last kind, C aside, is this one
abbrev pub watcher_after : ℕ → ℕ → Watcher
watcher_after context kind = record { context = context; last = kind }

-- which kinds may come next, put into the lent bytes, and whether they fit: the contract of `sargaceu_next_kinds`
pub record ToldNext (context kind : ℕ) (kinds : List ℕ) (r : Bool) (kinds' : List ℕ) : Type 0 where
  pub fits : r ≡ leb 13 (length kinds)
  pub next : kinds' ≡ put_all kinds (next_kinds (watcher_after context kind))
