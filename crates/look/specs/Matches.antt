-- What the lookups' answers mean (rules F1 to F4): the first counted row that fits, and none where none does.
-- Assumes nothing.
use Rattle.std.specs.Prelude.{Bool, true, false, List, ◌≡◌, ℕ, zero, suc, ◌≤◌, ◌<◌, take, drop}
use Rattle.std.specs.Borrow.{Bor}
use Rattle.laws.specs.Parts.{Part, whole_of, part_of}
use Rattle.table.specs.declared.Card.{Card}
use Rattle.table.specs.Lent.{Lent, lent, within_buffers}
use Rattle.table.specs.Rows.{start_in, length_in}
use Rattle.look.specs.declared.leaf.Place.{Place}
use Rattle.look.specs.declared.leaf.Sought.{Sought}
use Rattle.look.specs.declared.leaf.Sought.TheVariants.{At, Empty, NotThere}
use Rattle.look.specs.Looking.{leaf_fits, named_fits, segments_fit, has_kind_and_owner, order_at, order_place}
use Rattle.look.specs.inner.Searching.{sought_in}

-- i is the first of the numbers from `from` on and below `to` at which a test holds; it holds at none of them
pub record FirstFit (test : ℕ → Bool) (from to i : ℕ) : Type 0 where
  pub later : from ≤ i
  pub within : i < to
  pub fits : test i ≡ true
  pub first : (j : ℕ) → from ≤ j → j < i → test j ≡ false

abbrev pub NoFit : (test : ℕ → Bool) (from to : ℕ) → Type 0
NoFit test from to = (j : ℕ) → from ≤ j → j < to → test j ≡ false

-- what a lookup answers that goes by the first counted leaf row that passes a test: its start and length, or found empty where its length is 0;
-- not there where no counted row passes, or a count is past its buffer
abbrev pub FindsBy : (ℕ → Bool) → Lent → Sought → Type 0
FindsBy test t (At start n) =
    (within_buffers t ≡ true)
    × ((i : ℕ) × FirstFit test 0 t.card.leaves i × (start ≡ start_in t.leaf_rows i) × (n ≡ length_in t.leaf_rows i) × (1 ≤ n))
FindsBy test t Empty = (within_buffers t ≡ true) × ((i : ℕ) × FirstFit test 0 t.card.leaves i × (length_in t.leaf_rows i ≡ 0))
FindsBy test t NotThere = within_buffers t ≡ true → NoFit test 0 t.card.leaves

-- the leaf lookup (F1): the first row at the place and within the counted text
abbrev pub Finds : Lent → Place → Sought → Type 0
Finds t p r = FindsBy (leaf_fits t p) t r

-- the lookup within a segment (F4): the first such row among those that the place's segment row names
abbrev pub FindsInSegment : Lent → Place → Sought → Type 0
FindsInSegment t p r = FindsBy (named_fits t p) t r

-- the row finder (F2), rows counted from 1: the first row after the given one; or there is none, or the rows are fewer than are counted
abbrev pub FindsRow : (rows : List ℕ) (count after kind owner : ℕ) → ℕ → Type 0
FindsRow rows count after kind owner (suc i) = (segments_fit rows count ≡ true) × FirstFit (has_kind_and_owner rows kind owner) after count i
FindsRow rows count after kind owner zero = segments_fit rows count ≡ true → NoFit (has_kind_and_owner rows kind owner) after count

-- two rows are orders whose leaves 9.4.2 are there and not empty, with the same text (F3)
pub record SameOrders (t : Lent) (row : ℕ) (u : Lent) (other : ℕ) : Type 0 where
  pub first : order_at t row ≡ true
  pub second : order_at u other ≡ true
  pub start : ℕ
  pub size : ℕ
  pub found : Finds t (order_place row) (At start size)
  pub start-other : ℕ
  pub size-other : ℕ
  pub found-other : Finds u (order_place other) (At start-other size-other)
  pub same : take size (drop start t.text) ≡ take size-other (drop start-other u.text)

-- what is handed back of a lent text area and a lent substitute (F1): the part that was found, an empty one where it was found empty, or the
-- whole substitute
unfoldable pub sought_part : (text substitute : Bor (List ℕ)) → Sought → Part
sought_part text substitute (At start n) = part_of text start n
sought_part text substitute Empty = part_of text 0 0
sought_part text substitute NotThere = whole_of substitute

-- the part that goes with the leaf lookup's answer (F1)
abbrev pub looked_up : Card → (segment_rows leaf_rows : List ℕ) → (text : Bor (List ℕ)) → Place → (substitute : Bor (List ℕ)) → Part
looked_up card segment_rows leaf_rows text p substitute = sought_part text substitute (sought_in (lent card segment_rows leaf_rows text.now) p)
