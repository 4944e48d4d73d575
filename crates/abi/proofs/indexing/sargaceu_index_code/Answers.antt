-- `abi::indexing::sargaceu_index_code` meets its contract: what the index says of its k-th code, put into the answer.
-- Assumes nothing.
use mathlib.Core.List.{[], ◌∷◌}
use mathlib.Core.Path.{sym, ap, ◌∙◌}
use Prim.Native.Nat.{ℕ}
use Rattle.abi.specs.Putting.{put_all}
use Rattle.abi.proofs.IndexAnswers.{code-told, code_not_named, code_no_index}
use Rattle.abi.proofs.indexing.sargaceu_index_code.Goals as goal

pub returns-in-At : goal.returns-in-At
returns-in-At c =
    let answer = c.args.answer.now in
    code-told answer c.in-At.start c.in-At.length c.in-At.times (sym c.code_numbered.ensures ∙ c.in-At.is)
    (c.put_numbers.ensures ∙ ap (λ (n : ℕ). put_all answer (c.in-At.start ∷ c.in-At.length ∷ n ∷ [])) c.wide.ensures.0)

pub returns-in-NotNamed : goal.returns-in-NotNamed
returns-in-NotNamed c = code_not_named c.args.answer.now (sym c.code_numbered.ensures ∙ c.in-NotNamed.is)

pub returns-in-NoIndex : goal.returns-in-NoIndex
returns-in-NoIndex c = code_no_index c.args.answer.now (sym c.code_numbered.ensures ∙ c.in-NoIndex.is)
