-- What a table must be so that some message reads to it (W4), said of its card, its rows and its text alone (rules S1 to S4, T1 to T6, C1 to
-- C3, O2, O3). No segment is turned back to bytes: each condition is one of a row, of a row and its neighbour, or of a count along the rows.
-- Assumes nothing.
use Rattle.std.specs.Prelude.{true, List, [], ◌∷◌, map, ◌≡◌, ℕ, ◌≤◌, length, drop}
use Rattle.laws.specs.Every.{All}
use Rattle.laws.specs.Lists.{sum_of}
use Rattle.form.specs.declared.limits.Limits.{Limits}
use Rattle.form.specs.Header.{all_allowed, different, five, splitting}
use Rattle.line.specs.Lines.{CR, space}
use Rattle.order.specs.inner.Place.{misplaced}
use Rattle.order.specs.Owners.{owners}
use Rattle.table.specs.Leaves.{Leaf}
use Rattle.table.specs.inner.Flat.{leaf}
use Rattle.table.specs.Rows.{Table, segment_rows_of, leaf_rows_from, text_of}
use Rattle.table.specs.inner.Back.{leaf_at, leaves_of, separators_in}
use Rattle.table.specs.inner.Sound.{Sound}
use Rattle.table.specs.inner.BySegment.{by_segment, kind_among, context_among, written_bytes}

-- the leaves of each segment of a table, and the segments' kinds
unfoldable pub groups_of : Table → List (List Leaf)
groups_of t = by_segment (leaves_of t)

unfoldable pub kinds_among : Table → List ℕ
kinds_among t = map kind_among (groups_of t)

-- the header's two leaves (S4)
pub record HeaderRows (t : Table) : Type 0 where
  -- the five separators keep the header rule (H2)
  pub allowed : all_allowed (five (separators_in t)) ≡ true
  pub distinct : different (five (separators_in t)) ≡ true
  -- the leaf of field 1 is `H`, that of field 2 has four bytes
  pub first : leaf_at t.leaf_rows t.text 0 ≡ leaf (1 ∷ 1 ∷ 1 ∷ 1 ∷ 1 ∷ []) (72 ∷ [])
  pub second : (leaf_at t.leaf_rows t.text 1).place ≡ 1 ∷ 2 ∷ 1 ∷ 1 ∷ 1 ∷ []
  pub four : length (leaf_at t.leaf_rows t.text 1).text ≡ 4

-- the place of the third leaf: field 3, right behind the header (S4)
abbrev pub third_place : List ℕ
third_place = 1 ∷ 3 ∷ 1 ∷ 1 ∷ 1 ∷ []

-- every kind is known (S1), field 7 of the first segment names the card's context (C1), and the kinds stand where it allows them (C2, C3)
pub record KindRows (t : Table) : Type 0 where
  pub known : All (λ (k : ℕ). k ≡ 0 → ⊥) (kinds_among t)
  pub context : t.card.context ≡ context_among (groups_of t)
  pub named : t.card.context ≡ 0 → ⊥
  pub ordered : misplaced t.card.context (kinds_among t) ≡ 0

-- segments, leaves and the bytes that would be written keep to the limits (T6, W4)
pub record FewRows (L : Limits) (t : Table) : Type 0 where
  pub segments : t.card.segments ≤ L.segments
  pub leaves : t.card.leaves ≤ L.leaves
  pub bytes : sum_of (written_bytes L) (groups_of t) ≤ L.bytes

pub record Local (L : Limits) (levels : ℕ → ℕ → ℕ) (t : Table) : Type 0 where
  pub header : HeaderRows t
  -- from the third leaf on each stands where one separator leads from the leaf before it (S2), and no text has a separator in it
  pub others : Sound (CR ∷ splitting (separators_in t)) third_place (drop 2 (leaves_of t))
  -- the rows are those of the leaves, and the text area is their texts, one right behind the other (T3, T4)
  pub leaf_rows : t.leaf_rows ≡ leaf_rows_from 0 (leaves_of t)
  pub text : t.text ≡ text_of (leaves_of t)
  -- no control byte stands in a text (L1)
  pub bytes : All (λ (b : ℕ). space ≤ b) t.text
  pub kinds : KindRows t
  -- each segment row states what its segment is and where its leaves stand (T2), and the owner of its kind (O2, O3)
  pub segment_rows :
      t.segment_rows ≡ segment_rows_of (kinds_among t) (owners (levels t.card.context) (kinds_among t)) (groups_of t)
  -- the card counts segments and text bytes (T5); its count of leaves says how many leaf rows were looked at
  pub segment_count : t.card.segments ≡ length (groups_of t)
  pub text_count : t.card.text ≡ length t.text
  pub few : FewRows L t
