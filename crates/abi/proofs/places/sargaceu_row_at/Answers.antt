-- `abi::places::sargaceu_row_at` meets its contract: what `row_at` answers, told and put.
-- Assumes nothing.
use mathlib.Core.List.{List, [], ◌∷◌}
use mathlib.Core.Path.{ap, ◌∙◌}
use Prim.Native.Nat.{ℕ}
use Rattle.source.specs.declared.row.LineRun.{LineRun}
use Rattle.abi.specs.Putting.{put_all}
use Rattle.abi.proofs.places.sargaceu_row_at.Goals as goal

pub returns : goal.returns
returns c =
    record {
      told = ap (λ (p : LineRun). p.lines) c.row_at-run.ensures;
      answers =
          c.put_numbers.ensures
          ∙ ap {B = List ℕ} (λ (p : LineRun). put_all c.args.answer.now (p.next ∷ [])) c.row_at-run.ensures;
    }
