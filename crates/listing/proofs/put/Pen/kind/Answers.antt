-- `listing::put::Pen::kind` meets its contract: the names of kinds are short.
-- Assumes nothing.
use borrow.Author.Rules.{rules}
use Rattle.form.specs.Names.{kind_names}
use Rattle.form.proofs.Names.{kinds-short}
use Rattle.listing.proofs.Names.{spelled-fits, spelled-put}
use Rattle.listing.proofs.put.Pen.kind.Goals as goal

pub name-requires-2 : goal.name-requires-2
name-requires-2 c = search (rules, spelled-fits kind_names kinds-short c.args.kind c.name.ensures)

pub returns : goal.returns
returns c = spelled-put kind_names kinds-short c.args.kind c.name.ensures c.name-2.ensures
