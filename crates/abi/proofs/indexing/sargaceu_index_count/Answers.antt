-- `abi::indexing::sargaceu_index_count` meets its contract: what the index says of the code, put into the answer.
-- Assumes nothing.
use mathlib.Core.List.{[], ◌∷◌}
use mathlib.Core.Path.{sym, ap, ◌∙◌}
use Prim.Native.Nat.{ℕ}
use Rattle.abi.specs.Putting.{put_all}
use Rattle.abi.proofs.IndexAnswers.{count-told, count_not_named, count_no_index}
use Rattle.abi.proofs.indexing.sargaceu_index_count.Goals as goal

pub returns-in-Times : goal.returns-in-Times
returns-in-Times c =
    let answer = c.args.answer.now in
    count-told answer c.in-Times.times (sym c.count_of.ensures ∙ c.in-Times.is)
    (c.put_numbers.ensures ∙ ap (λ (n : ℕ). put_all answer (n ∷ [])) c.wide.ensures.0)

pub returns-in-NotNamed : goal.returns-in-NotNamed
returns-in-NotNamed c = count_not_named c.args.answer.now (sym c.count_of.ensures ∙ c.in-NotNamed.is)

pub returns-in-NoIndex : goal.returns-in-NoIndex
returns-in-NoIndex c = count_no_index c.args.answer.now (sym c.count_of.ensures ∙ c.in-NoIndex.is)
