-- What the first pass comes to (by which the tests 4 to 11 are made): a line's fault, or what is known of the joined segments.
-- Assumes nothing.
use Rattle.std.specs.Prelude.{true, false, List, ◌≡◌, ℕ, ◌+◌, Result, Ok, Err, eqb, length}
use Rattle.form.specs.declared.limits.Limits.{Limits}
use Rattle.form.specs.declared.separators.Separators.{Separators}
use Rattle.form.specs.declared.separators.Header.TheVariants.{Sound}
use Rattle.form.specs.Header.{header_of}
use Rattle.form.specs.Limits.{Lawful}
use Rattle.line.specs.Lines.{walk, texts, fault_number, fault_place}
use Rattle.line.specs.Joining.{joined}
use Rattle.order.specs.inner.Followers.{followers}
use Rattle.order.specs.inner.Place.{misplaced}
use Rattle.table.specs.Rows.{kinds_of, context_in, all_leaves}
use Rattle.table.specs.Reading.{first_unknown}
use Rattle.read.specs.declared.refused.Refused.{Refused}
use Rattle.read.specs.declared.survey.Survey.{Survey}
use Rattle.table.specs.inner.Classes.{class_table}
use Rattle.read.specs.inner.Noting.{Noted, Started}

-- what the first pass may count on
pub record Ready (L : Limits) (ps : Separators) (class followerTable message : List ℕ) : Type 0 where
  pub lawful : Lawful L
  pub header : header_of message ≡ Sound ps
  pub classes : class ≡ class_table ps
  pub table : followerTable ≡ followers

-- the place of refusal 10 by what was seen: the first kind that may not stand there, or one past the end where the last is no L
unfoldable pub place_seen : Survey → ℕ
place_seen s =
    elim (eqb s.misplaced 0) [
      | true ↦ elim (eqb s.watcher.last 11) [ true ↦ 0 | false ↦ s.segments + 1 ]
      | false ↦ s.misplaced
    ]

-- all that tests 7 to 11 ask of the joined segments
pub record SegmentsKnown (ps : Separators) (joinedSegments : List (List ℕ)) (s : Survey) : Type 0 where
  pub count : s.segments ≡ length joinedSegments
  pub leaves : s.separators + s.segments + 2 ≡ length (all_leaves ps joinedSegments)
  pub unknown : s.unknown ≡ first_unknown (kinds_of ps joinedSegments)
  pub context : s.watcher.context ≡ context_in ps joinedSegments
  pub place : place_seen s ≡ misplaced (context_in ps joinedSegments) (kinds_of ps joinedSegments)

-- what the survey of a message is: its first fault, or what is known of its segments, with their kinds and their starts noted
abbrev pub SurveyOf : Limits → Separators → List ℕ → List ℕ → List ℕ → Result Survey Refused → Type 0
SurveyOf L ps message kinds starts (Ok s) =
    (fault_number (walk L message) ≡ 0)
    × SegmentsKnown ps (joined ps.field (texts (walk L message))) s
    × Noted ps (joined ps.field (texts (walk L message))) s.segments kinds
    × Started L ps message s.segments starts
SurveyOf L ps message kinds starts (Err r) =
    (r.number ≡ fault_number (walk L message)) × (r.number ≡ 0 → ⊥) × (r.place ≡ fault_place (walk L message))
