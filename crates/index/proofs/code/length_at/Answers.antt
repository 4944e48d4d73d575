-- `index::code::length_at` meets its contract: a byte is below 256. Assumes nothing.
use mathlib.Core.Path.{refl}
use borrow.Author.Rules.{rules}
use Rattle.index.proofs.code.length_at.Goals as goal

pub overflow_cast-result : goal.overflow_cast-result
overflow_cast-result c = search (rules, c.shared_slice_known-1.given c.args.at)

pub returns : goal.returns
returns c = (refl, (c.shared_slice_known-1.given c.args.at).fits)
