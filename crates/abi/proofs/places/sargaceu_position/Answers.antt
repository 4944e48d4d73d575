-- `abi::places::sargaceu_position` meets its contract: what `position_of` answers, told and put.
-- Assumes nothing.
use mathlib.Core.List.{List, [], ◌∷◌}
use mathlib.Core.Path.{ap, ◌∙◌}
use Prim.Native.Nat.{ℕ}
use Rattle.source.specs.declared.position.Position.{Position}
use Rattle.abi.specs.Putting.{put_all}
use Rattle.abi.proofs.places.sargaceu_position.Goals as goal

pub returns : goal.returns
returns c =
    record {
      told = ap (λ (p : Position). p.line) c.position_of-found.ensures;
      answers =
          c.put_numbers.ensures
          ∙ ap {B = List ℕ} (λ (p : Position). put_all c.args.answer.now (p.column ∷ [])) c.position_of-found.ensures;
    }
