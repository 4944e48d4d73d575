-- What each function of the table test and of the writing pass asks.
-- Assumes nothing.
use Rattle.std.specs.Prelude.{true, List, [], ◌∷◌, ◌≡◌, ℕ, ◌+◌, ◌*◌, ◌≤◌, ◌<◌, length}
use Rattle.form.specs.declared.limits.Limits.{Limits}
use Rattle.form.specs.declared.separators.Separators.{Separators}
use Rattle.form.specs.Limits.{Lawful}
use Rattle.form.specs.Header.{splitting}
use Rattle.line.specs.Lines.{CR}
use Rattle.order.specs.inner.Followers.{followers}
use Rattle.order.specs.inner.Levels.{LevelsBelow}
use Rattle.table.specs.declared.Card.{Card}
use Rattle.table.specs.Rows.{Table, segment_row_size, leaf_row_size, start_in, length_in, width}
use Rattle.table.specs.inner.Columns.{segment_in, field_in}
use Rattle.table.specs.inner.Fitting.{FitsRows}
use Rattle.write.specs.inner.RowByRow.{Sized}
use Rattle.write.specs.inner.Tests.{groups_in, InText, PlacesFollow, SegmentEnd, KindsStated, groups_stated, header_leaves_at}
use Rattle.write.specs.inner.Filling.{Stand, Fits, InSegment, line_opened}
use Rattle.write.specs.inner.Passing.{NextAfter, leading}
use Rattle.write.specs.inner.Message.{Tested}
use Rattle.write.specs.declared.lines.Going.{Going}

-- the test of a lent table: numbers that fit the rows, levels that the owners' test knows
pub record Testable (L : Limits) (levels : ℕ → ℕ → ℕ) : Type 0 where
  pub fits : FitsRows L
  pub low : LevelsBelow levels

-- a table whose rows and text are as many as the card counts, and few enough for a row's numbers
pub record NarrowTable (t : Table) : Type 0 where
  pub sized : Sized t
  pub segments : t.card.segments < width
  pub leaves : t.card.leaves < width
  pub text : t.card.text < width

-- the tests of the rows and the text
pub record RowsAsked (levels : ℕ → ℕ → ℕ) (t : Table) : Type 0 where
  pub narrow : NarrowTable t
  pub low : LevelsBelow levels

-- the test of the counted entries: the card's counts keep to the limits, too
pub record CountedTable (L : Limits) (levels : ℕ → ℕ → ℕ) (t : Table) : Type 0 where
  pub lawful : Lawful L
  pub rows : RowsAsked levels t
  pub segments : t.card.segments ≤ L.segments
  pub leaves : t.card.leaves ≤ L.leaves

-- leaf rows: one at least
pub record SomeRows (rows : List ℕ) (count : ℕ) : Type 0 where
  pub sized : length rows ≡ count * leaf_row_size
  pub some : 1 ≤ count

-- two places that stand in the rows, at these entries
pub record TwoPlaces (rows : List ℕ) (from to : ℕ) : Type 0 where
  pub former : from + 5 ≤ length rows
  pub latter : to + 5 ≤ length rows

-- leaf rows that are laid out, and the header's two are not all
pub record LaidOut (rows text : List ℕ) (count : ℕ) : Type 0 where
  pub in_text : InText rows text count
  pub three : 3 ≤ count
  pub next : PlacesFollow rows count

-- of which the first two are a header's
pub record Headed (rows text : List ℕ) (count : ℕ) : Type 0 where
  pub laid : LaidOut rows text count
  pub header : header_leaves_at rows text ≡ true

-- the second leaf is of four bytes, and these lie in the text
pub record FourWithin (rows text : List ℕ) : Type 0 where
  pub row : 2 * leaf_row_size ≤ length rows
  pub four : length_in rows 1 ≡ 4
  pub within : start_in rows 1 + 4 ≤ length text

-- places that follow each other, up to a leaf and on
pub record Following (rows : List ℕ) (count first : ℕ) : Type 0 where
  pub sized : length rows ≡ count * leaf_row_size
  pub to : first ≤ count
  pub next : PlacesFollow rows count

-- leaves up to some end, of which one is of a field
pub record FieldThere (rows : List ℕ) (field at end : ℕ) : Type 0 where
  pub long : end * leaf_row_size ≤ length rows
  pub within : at < end
  pub there : field_in rows at ≡ field

pub record UpTo (rows : List ℕ) (first end : ℕ) : Type 0 where
  pub long : end * leaf_row_size ≤ length rows
  pub within : first ≤ end

-- some leaves in a row
pub record Stretch (rows text : List ℕ) (count first end : ℕ) : Type 0 where
  pub in_text : InText rows text count
  pub from : first < end
  pub to : end ≤ count

-- the leaves of the first segment
pub record FirstSegment (rows text : List ℕ) (count end : ℕ) : Type 0 where
  pub in_text : InText rows text count
  pub ends : SegmentEnd rows count 0 end

-- a leaf whose text lies in the text area
pub record LeafThere (rows text : List ℕ) (leaf : ℕ) : Type 0 where
  pub row : (leaf + 1) * leaf_row_size ≤ length rows
  pub within : start_in rows leaf + length_in rows leaf ≤ length text

-- a segment row, and a kind that it may state
pub record RowThere (segments : List ℕ) (i kind : ℕ) : Type 0 where
  pub row : (i + 1) * segment_row_size ≤ length segments
  pub some : 1 ≤ kind

-- leaves of which the first is of field 1
pub record SegmentThere (rows text : List ℕ) (count first end : ℕ) : Type 0 where
  pub leaves : Stretch rows text count first end
  pub head : field_in rows first ≡ 1

-- some leaves under lawful limits
pub record LawfulStretch (L : Limits) (rows text : List ℕ) (count first end : ℕ) : Type 0 where
  pub lawful : Lawful L
  pub leaves : Stretch rows text count first end

-- segment rows, and leaves of which the first is of field 1
pub record Groupable (segments : List ℕ) (many : ℕ) (rows text : List ℕ) (count : ℕ) : Type 0 where
  pub sized : length segments ≡ many * segment_row_size
  pub in_text : InText rows text count
  pub next : PlacesFollow rows count
  pub head : field_in rows 0 ≡ 1

-- segment rows that state the segments of the leaves
pub record Grouped (L : Limits) (segments : List ℕ) (many : ℕ) (rows text : List ℕ) (count : ℕ) : Type 0 where
  pub lawful : Lawful L
  pub in_text : InText rows text count
  pub sized : length segments ≡ many * segment_row_size
  pub grouped : groups_stated segments 0 many 1 (groups_in rows text count) ≡ true

-- stated kinds, beside the table of followers, a table of levels, the leaves
pub record Orderable (table segments : List ℕ) (many : ℕ) : Type 0 where
  pub kinds : KindsStated segments many
  pub followers_are : table ≡ followers

pub record Ownable (levels : ℕ → ℕ → ℕ) (segments : List ℕ) (many : ℕ) : Type 0 where
  pub kinds : KindsStated segments many
  pub low : LevelsBelow levels

pub record KindsAndLeaves (segments : List ℕ) (many : ℕ) (rows text : List ℕ) (count : ℕ) : Type 0 where
  pub kinds : KindsStated segments many
  pub in_text : InText rows text count
  pub some : 0 < count
  pub grouped : groups_stated segments 0 many 1 (groups_in rows text count) ≡ true

-- a byte or a text into the line begun; the end of the line; the end of the line, and an addendum
pub record RoomForByte (going : Going) (output : List ℕ) : Type 0 where
  pub within : going.out < length output
  pub room : 1 ≤ going.room

pub record RoomForText (going : Going) (output text : List ℕ) : Type 0 where
  pub within : going.out + length text ≤ length output
  pub room : length text ≤ going.room

pub record RoomForEnd (going : Going) (output : List ℕ) (size : ℕ) : Type 0 where
  pub within : going.out + size ≤ length output
  pub lines : going.lines ≤ going.out

-- a line with room, opened where the line begun has none
pub record Opens (L : Limits) (f : ℕ) (s : Stand) : Type 0 where
  pub holds : (line_opened L f s).going.out ≤ length s.output
  pub lines : s.going.lines ≤ s.going.out

-- a byte of the segment
pub record ByteInside (L : Limits) (f : ℕ) (s : Stand) (b : ℕ) : Type 0 where
  pub lawful : Lawful L
  pub fits : Fits L f s (b ∷ [])
  pub inside : b ≡ CR → ⊥

-- a text, as bytes of the segment
pub record TextInside (L : Limits) (f : ℕ) (s : Stand) (text : List ℕ) : Type 0 where
  pub lawful : Lawful L
  pub inside : InSegment text
  pub fits : Fits L f s text

-- a leaf and the next one, in one segment or not
pub record NextThere (rows : List ℕ) (row : ℕ) : Type 0 where
  pub long : (row + 2) * leaf_row_size ≤ length rows
  pub next : NextAfter rows row

pub record NextInside (rows : List ℕ) (row : ℕ) : Type 0 where
  pub row_there : NextThere rows row
  pub same : segment_in rows row ≡ segment_in rows (row + 1)

-- the separator between them
pub record SeparatorFits (L : Limits) (ps : Separators) (s : Stand) (rows : List ℕ) (row : ℕ) : Type 0 where
  pub lawful : Lawful L
  pub splits : InSegment (splitting ps)
  pub row_there : NextThere rows row
  pub fits : Fits L ps.field s (leading ps rows row ∷ [])

-- the message of a table that passed the test
pub record MessageFits (L : Limits) (card : Card) (rows text output : List ℕ) : Type 0 where
  pub lawful : Lawful L
  pub tested : Tested L card rows text
  pub roomy : L.bytes ≤ length output
