-- `abi::watching::sargaceu_next_kinds` meets its contract: what the watcher's `next_kinds` answers, put into the lent bytes, whose length stays.
-- Assumes nothing.
use mathlib.Core.List.{List}
use mathlib.Core.Path.{ap, ◌∙◌}
use Prim.Native.Nat.{ℕ}
use lib.Dec.{leb}
use Rattle.abi.specs.Putting.{put_all}
use Rattle.abi.proofs.watching.sargaceu_next_kinds.Goals as goal

pub returns : goal.returns
returns c =
    let kinds = c.args.kinds.now in
    record {
      fits = ap (leb 13) c.put_bytes.auto.buffer;
      next = c.put_bytes.ensures ∙ ap {B = List ℕ} (λ (bytes : List ℕ). put_all kinds bytes) c.next_kinds-next.ensures;
    }
