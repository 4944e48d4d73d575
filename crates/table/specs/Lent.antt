-- A table as a caller lends it: a card and three buffers, whatever they hold (rules T5 to T7, W4).
-- Assumes nothing.
use Rattle.std.specs.Prelude.{Bool, ◌&&◌, List, ◌≡◌, ℕ, ◌*◌, leb, length, take}
use Rattle.form.specs.declared.limits.Limits.{Limits}
use Rattle.table.specs.declared.Card.{Card}
use Rattle.table.specs.Rows.{Table, segment_row_size, leaf_row_size}

-- the card and the buffers; and the same from its four parts
pub record Lent : Type 0 where
  pub card : Card
  pub segment_rows : List ℕ
  pub leaf_rows : List ℕ
  pub text : List ℕ

abbrev pub lent : Card → (segment_rows leaf_rows text : List ℕ) → Lent
lent card segment_rows leaf_rows text = record { card = card; segment_rows = segment_rows; leaf_rows = leaf_rows; text = text }

-- whether a card's counts keep to the limits (T6); whether its rows and its text fit buffers of these lengths
unfoldable pub within_limits : Limits → Card → Bool
within_limits L c = leb c.segments L.segments && leb c.leaves L.leaves && leb c.text L.bytes

unfoldable pub counts_fit : Card → (segment_rows leaf_rows text : ℕ) → Bool
counts_fit c segment_rows leaf_rows text =
    leb (c.segments * segment_row_size) segment_rows && leb (c.leaves * leaf_row_size) leaf_rows && leb c.text text

-- whether they fit the lent buffers
abbrev pub within_buffers : Lent → Bool
within_buffers l = counts_fit l.card (length l.segment_rows) (length l.leaf_rows) (length l.text)

-- the table that the card counts: entries past the counted ones do not belong to it (T7)
unfoldable pub counted : Lent → Table
counted l =
    record {
      card = l.card;
      segment_rows = take (l.card.segments * segment_row_size) l.segment_rows;
      leaf_rows = take (l.card.leaves * leaf_row_size) l.leaf_rows;
      text = take l.card.text l.text;
    }

-- two lent tables with one card, buffers of the same lengths, and the same counted entries
pub record SameCounted (l k : Lent) : Type 0 where
  pub segment_rows : length l.segment_rows ≡ length k.segment_rows
  pub leaf_rows : length l.leaf_rows ≡ length k.leaf_rows
  pub text : length l.text ≡ length k.text
  pub entries : counted l ≡ counted k
