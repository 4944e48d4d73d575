-- `abi::indexing::sargaceu_index_codes` meets its contract: what the index says of its codes, put into the answer.
-- Assumes nothing.
use mathlib.Core.Path.{sym, ◌∙◌}
use Rattle.abi.proofs.IndexAnswers.{codes-told, codes_no_index}
use Rattle.abi.proofs.indexing.sargaceu_index_codes.Goals as goal

pub returns-in-Named : goal.returns-in-Named
returns-in-Named c =
    codes-told c.args.answer.now c.in-Named.named (sym c.named_codes.ensures ∙ c.in-Named.is)
    c.put_numbers.ensures

pub returns-in-NoIndex : goal.returns-in-NoIndex
returns-in-NoIndex c = codes_no_index c.args.answer.now (sym c.named_codes.ensures ∙ c.in-NoIndex.is)
