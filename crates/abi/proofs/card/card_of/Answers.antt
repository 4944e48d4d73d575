-- `abi::card::card_of` meets its contract: each return is one branch of `card_of`.
-- Assumes nothing.
use mathlib.Core.Path.{◌∙◌}
use Rattle.abi.proofs.CardNumbers.{too_few, no_separator, no_context, card-taken}
use Rattle.abi.proofs.card.card_of.Goals as goal

pub returns-then-card-lt-NUMBERS : goal.returns-then-card-lt-NUMBERS
returns-then-card-lt-NUMBERS c = c.no_card.ensures ∙ too_few c.args.card.now c.if-card-lt-NUMBERS.true

pub returns-then-card-gt-BYTE : goal.returns-then-card-gt-BYTE
returns-then-card-gt-BYTE c = c.no_card-then-card-gt-BYTE.ensures ∙ no_separator c.args.card.now c.if-card-gt-BYTE.true

pub returns-then-card-gt-BYTE-2 : goal.returns-then-card-gt-BYTE-2
returns-then-card-gt-BYTE-2 c = c.no_card-then-card-gt-BYTE-2.ensures ∙ no_context c.args.card.now c.if-card-gt-BYTE-2.true

pub returns : goal.returns
returns c = card-taken c.args.card.now c.if-card-lt-NUMBERS.false c.if-card-gt-BYTE.false c.if-card-gt-BYTE-2.false
