-- `abi::places::sargaceu_row_place` meets its contract: what `row_place` answers, told and put.
-- Assumes nothing.
use mathlib.Core.List.{List, [], ◌∷◌}
use mathlib.Core.Path.{ap, ◌∙◌}
use Prim.Native.Nat.{ℕ}
use Rattle.source.specs.declared.row.RowPlace.{RowPlace}
use Rattle.abi.specs.Putting.{put_all}
use Rattle.abi.proofs.places.sargaceu_row_place.Goals as goal

pub returns : goal.returns
returns c =
    record {
      told = ap (λ (p : RowPlace). p.lines) c.row_place-place.ensures;
      answers =
          c.put_numbers.ensures
          ∙ ap {B = List ℕ} (λ (p : RowPlace). put_all c.args.answer.now (p.start ∷ [])) c.row_place-place.ensures;
    }
