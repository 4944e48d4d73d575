-- Tables for worked examples: what reading a message files, as a caller lends it.
-- Assumes nothing.
use Rattle.std.specs.Prelude.{[], ◌-◌}
use Rattle.table.specs.Reading.{Outcome, refused, accepted}
use Rattle.table.specs.Lent.{Lent, lent}

-- what an outcome files, lent; a refusal files nothing
unfoldable pub lent_by : Outcome → Lent
lent_by (refused number place) = lent (record { separator = 0; context = 0; segments = 0; leaves = 0; text = 0 }) [] [] []
lent_by (accepted t) = lent t.card t.segment_rows t.leaf_rows t.text

-- a lent table with a card that counts one segment less; where a message reads to it, none reads to this
unfoldable pub cut_short : Lent → Lent
cut_short t =
    lent
    (record {
      separator = t.card.separator;
      context = t.card.context;
      segments = t.card.segments - 1;
      leaves = t.card.leaves;
      text = t.card.text;
    })
    t.segment_rows t.leaf_rows t.text
