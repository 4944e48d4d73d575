-- `abi::watching::sargaceu_watch` meets its contract: what the watcher of the two bytes says, and its bytes after that.
-- Assumes nothing.
use Rattle.abi.proofs.WatcherBytes.{watch_short, watch_told}
use Rattle.abi.proofs.watching.sargaceu_watch.Goals as goal

pub returns-then-watcher-lt-BYTES : goal.returns-then-watcher-lt-BYTES
returns-then-watcher-lt-BYTES c = watch_short c.args.watcher.now c.args.kind c.if-watcher-lt-BYTES.true

pub returns : goal.returns
returns c = watch_told c.args.watcher.now c.args.kind c.if-watcher-lt-BYTES.false c.tell-told.result c.tell-told.ensures
