-- `Letters::of` meets its contract.
-- Assumes nothing.
use Rattle.form.proofs.letters.Letters.of.Goals as goal

pub returns : goal.returns
returns c = rw (c.letter.ensures, c.letter-2.ensures, c.letter-3.ensures)
