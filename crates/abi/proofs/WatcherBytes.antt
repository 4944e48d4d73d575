-- A watcher that is two bytes.
-- Assumes nothing.
use mathlib.Core.Bool.{false}
use mathlib.Core.List.{List}
use mathlib.Core.Path.{◌≡◌, sym, ap, ◌∙◌}
use Prim.Native.Nat.{ℕ, ◌<◌, ◌≤◌}
use borrow.Author.Tests.{le-leb, lt-leb}
use lib.ListN.{length, get_or, set}
use Rattle.laws.proofs.Tests.{and_passed, and_fails_first}
use Rattle.order.specs.declared.watcher.Told.{Told}
use Rattle.order.specs.inner.Telling.{tell_of}
use Rattle.abi.specs.Watching.{watcher_bytes, watcher_of, says_yes, Watched}
use Rattle.abi.proofs.Puts.{put-short, put_whole}

module _ (bytes : List ℕ) (kind : ℕ) where
  pub watch_short : length bytes < 2 → Watched bytes kind false bytes
  unfolding says_yes watcher_bytes
  watch_short h =
      record {
        verdict = sym (and_fails_first (tell_of (watcher_of bytes) kind).yes (lt-leb 2 (length bytes) h));
        watcher = sym (put-short bytes (watcher_bytes (tell_of (watcher_of bytes) kind).watcher) h);
      }

  pub watch_told : 2 ≤ length bytes → (t : Told) → t ≡ tell_of (record { context = get_or bytes 0 0; last = get_or bytes 1 0 }) kind
      → Watched bytes kind t.yes (set (set bytes 0 t.watcher.context) 1 t.watcher.last)
  unfolding says_yes watcher_bytes watcher_of
  watch_told room t told =
      record {
        verdict = ap (λ (u : Told). u.yes) told ∙ sym (and_passed (tell_of (watcher_of bytes) kind).yes (le-leb 2 (length bytes) room));
        watcher =
            ap (λ (u : Told). set (set bytes 0 u.watcher.context) 1 u.watcher.last) told
            ∙ sym (put_whole bytes (watcher_bytes (tell_of (watcher_of bytes) kind).watcher) room);
      }
