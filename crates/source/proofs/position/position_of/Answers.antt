-- `source::position::position_of` meets its contract: the bytes before an offset tell its position.
-- Assumes nothing.
use mathlib.Core.Path.{ap, ◌∙◌}
use Prim.Native.Nat.{ℕ}
use lib.ListN.{take}
use Rattle.std.proofs.lemmas.List.{take_min}
use Rattle.source.specs.Positions.{position_behind, position_of}
use Rattle.source.proofs.position.position_of.Goals as goal

pub returns : goal.returns
unfolding position_of
returns c =
    c.position_behind.ensures
    ∙ ap position_behind (ap (λ (n : ℕ). take n c.args.message.now) c.min.ensures ∙ take_min c.args.offset c.args.message.now)
