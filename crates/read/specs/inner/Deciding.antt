-- Deciding, the tests 1 to 11 (N2): what it comes to, which outcome that stands for, and what filling may then count on.
-- Assumes nothing.
use Rattle.std.specs.Prelude.{Bool, true, false, List, ◌≡◌, ℕ, ◌+◌, ◌≤◌, Result, Ok, Err, ltb, eqb, length, replicate}
use Rattle.form.specs.declared.limits.Limits.{Limits}
use Rattle.form.specs.declared.separators.Separators.{Separators}
use Rattle.form.specs.declared.separators.Header.TheVariants.{Sound}
use Rattle.form.specs.Header.{header_of}
use Rattle.form.specs.Numbers.{many_segments, unknown_kind, no_context, misplaced_kind, many_leaves}
use Rattle.order.specs.inner.Levels.{level_in, LevelsBelow}
use Rattle.table.specs.Rows.{all_leaves, table_of}
use Rattle.table.specs.inner.Fitting.{FitsRows}
use Rattle.table.specs.Reading.{Outcome, refused, accepted}
use Rattle.table.specs.declared.Card.{Card}
use Rattle.read.specs.declared.Answer.{Answer}
use Rattle.read.specs.declared.decide.Decision.{Decision}
use Rattle.read.specs.declared.refused.Refused.{Refused}
use Rattle.read.specs.declared.survey.Survey.{Survey}
use Rattle.read.specs.Answering.{no_card}
use Rattle.read.specs.inner.Filling.{Fillable, Prepared}
use Rattle.read.specs.inner.Noting.{Started}
use Rattle.read.specs.Sound.{segments_in}
use Rattle.read.specs.inner.Surveying.{place_seen}

-- a decision that refuses, by its number and its place
abbrev pub refused_at : ℕ → ℕ → Result Decision Refused
refused_at number place = Err (record { number = number; place = place })

-- one that accepts, by what was seen
abbrev pub accepted_by : Separators → Survey → Decision
accepted_by ps s =
    record {
      separators = ps;
      context = s.watcher.context;
      segments = s.segments;
      leaves = s.separators + s.segments + 2;
    }

-- a test that refuses with a number at the place 0; one that refuses at a place, where that is not 0
unfoldable pub decide_if : Bool → ℕ → Result Decision Refused → Result Decision Refused
decide_if true number else = refused_at number 0
decide_if false number else = else

unfoldable pub decide_at : ℕ → ℕ → Result Decision Refused → Result Decision Refused
decide_at place number else = elim (eqb place 0) [ true ↦ else | false ↦ refused_at number place ]

-- tests 7 to 11, by what was seen
unfoldable pub decision_of : Limits → Separators → Survey → Result Decision Refused
decision_of L ps s =
    decide_if (ltb L.segments s.segments) many_segments
    (decide_at s.unknown unknown_kind
    (decide_if (eqb s.watcher.context 0) no_context
    (decide_at (place_seen s) misplaced_kind
    (decide_if (ltb L.leaves (s.separators + s.segments + 2)) many_leaves (Ok (accepted_by ps s))))))

-- the outcome that a decision on a message stands for, by any levels
abbrev pub decided : Limits → List ℕ → Result Decision Refused → (ℕ → ℕ → ℕ) → Outcome
decided L message (Ok d) levels = accepted (table_of levels d.separators (segments_in L d.separators message))
decided L message (Err r) levels = refused r.number r.place

-- what a decision that accepts a message says: it can be filled, has so many segments and leaves, and where they begin is noted
pub record Accepts (L : Limits) (message class kinds starts : List ℕ) (d : Decision) : Type 0 where
  pub fillable : Fillable L class kinds d.separators d.context message
  pub segments : d.segments ≡ length (segments_in L d.separators message)
  pub leaves : d.leaves ≡ length (all_leaves d.separators (segments_in L d.separators message))
  pub begun : Started L d.separators message d.segments starts

-- what filing asks: such a message, levels below the number above all levels, and buffers of the stated sizes
pub record Fileable
    (L : Limits) (class kinds levels : List ℕ) (d : Decision) (message text segment_rows leaf_rows : List ℕ)
    : Type 0 where
  pub prepared : Prepared L class kinds levels d.separators d.context message text segment_rows leaf_rows
  pub segments : d.segments ≡ length (segments_in L d.separators message)
  pub leaves : d.leaves ≡ length (all_leaves d.separators (segments_in L d.separators message))

-- the card of such a message, once it is filled in with so many bytes of text
abbrev pub card_by : Decision → ℕ → Card
card_by d bytes = record { separator = d.separators.field; context = d.context; segments = d.segments; leaves = d.leaves; text = bytes }

-- the answer that gives what reading comes to: a card, or a refusal with a card that is all zero (N3)
abbrev pub answered : Result Card Refused → Answer
answered (Ok card) = record { number = 0; place = 0; card = card }
answered (Err r) = record { number = r.number; place = r.place; card = no_card }

-- the contract of deciding: the outcome, whose number and place a refusal has, and where it accepts, what it says
pub record DecidesAs (L : Limits) (message class kinds starts : List ℕ) (outcome : (ℕ → ℕ → ℕ) → Outcome) (r : Result Decision Refused) : Type 0 where
  pub stands : (levels : ℕ → ℕ → ℕ) → outcome levels ≡ decided L message r levels
  pub accepts : (d : Decision) → r ≡ Ok d → Accepts L message class kinds starts d

-- what deciding asks: limits that fit the rows, a class table of zeros, and room to note the kinds
pub record Decidable (L : Limits) (class kinds : List ℕ) : Type 0 where
  pub fits : FitsRows L
  pub clear : class ≡ replicate 256 0
  pub notes : L.segments ≤ length kinds

-- the same once tests 1 to 3 are passed
pub record HeaderPassed (L : Limits) (ps : Separators) (message class kinds : List ℕ) : Type 0 where
  pub asked : Decidable L class kinds
  pub header : header_of message ≡ Sound ps
  pub bytes : length message ≤ L.bytes

-- what reading asks: limits that fit the rows, levels below the number above all levels, and a place to note each kind, with none beside: so
-- no reading clears the kinds of a larger form
pub record ReadsWithin (L : Limits) (levels kinds : List ℕ) : Type 0 where
  pub fits : FitsRows L
  pub below : LevelsBelow (level_in levels)
  pub notes : length kinds ≡ L.segments

-- what reading in a form asks: the limits of one, and room for as many kinds as it has segments, with none beside: so no reading clears the
-- kinds of a larger form
pub record FormRead (L : Limits) (segments : ℕ) : Type 0 where
  pub fits : FitsRows L
  pub notes : segments ≡ L.segments
