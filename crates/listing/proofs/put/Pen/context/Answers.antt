-- `listing::put::Pen::context` meets its contract: the names of contexts are short.
-- Assumes nothing.
use borrow.Author.Rules.{rules}
use Rattle.form.specs.Names.{context_names}
use Rattle.form.proofs.Names.{contexts_short}
use Rattle.listing.proofs.Names.{spelled-fits, spelled-put}
use Rattle.listing.proofs.put.Pen.context.Goals as goal

pub name-requires-2 : goal.name-requires-2
name-requires-2 c = search (rules, spelled-fits context_names contexts_short c.args.context c.name.ensures)

pub returns : goal.returns
returns c = spelled-put context_names contexts_short c.args.context c.name.ensures c.name-2.ensures
