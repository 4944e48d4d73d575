-- A survey underway: what it knows of the segments that the lines so far have joined to, and what is left of the lines.
-- Assumes nothing.
use Rattle.std.specs.Prelude.{List, [], ◌∷◌, ◌++◌, ◌≡◌, ℕ, suc, ◌+◌, ◌-◌, ◌≤◌, ◌<◌, Result, Ok, Err, length, get_or, take, drop}
use Rattle.form.specs.declared.limits.Limits.{Limits}
use Rattle.form.specs.declared.separators.Separators.{Separators}
use Rattle.line.specs.Lines.{Lines, line, walk_from, walk, fault_number, fault_place}
use Rattle.line.specs.Finding.{text_run}
use Rattle.line.specs.inner.Left.{SameFault, Left, LeftAt}
use Rattle.order.specs.Watcher.{begun, watched}
use Rattle.order.specs.inner.Refusing.{first_no}
use Rattle.table.specs.Rows.{kinds_of, context_in, all_leaves}
use Rattle.table.specs.inner.Classes.{class_table}
use Rattle.table.specs.inner.Filed.{header_bytes}
use Rattle.table.specs.Reading.{first_unknown}
use Rattle.read.specs.declared.name.Name.{Name}
use Rattle.read.specs.declared.refused.Refused.{Refused}
use Rattle.read.specs.declared.survey.Survey.{Survey}
use Rattle.read.specs.declared.survey.Step.{Step}
use Rattle.read.specs.inner.Naming.{fresh, with_bytes}

-- what has been judged of closed segments: the first of unknown kind, the first that may not stand there, the watcher
pub record JudgedSoFar (ps : Separators) (segments : List (List ℕ)) (s : Survey) : Type 0 where
  pub unknown : s.unknown ≡ first_unknown (kinds_of ps segments)
  pub misplaced : s.misplaced ≡ first_no 1 (begun (context_in ps segments)) (kinds_of ps segments)
  pub watcher : s.watcher ≡ watched (begun (context_in ps segments)) (kinds_of ps segments)

-- the name gathered with the segments `done` closed and the open one having the text `last` so far: of the first segment the context, behind the
-- seven header bytes, of any other the kind
unfoldable pub name_so_far : Separators → List (List ℕ) → List ℕ → Name
name_so_far ps [] last = with_bytes ps.field (fresh 5) (drop 7 last)
name_so_far ps (s ∷ done) last = with_bytes ps.field (fresh 1) last

-- what is known then
pub record Seen (ps : Separators) (done : List (List ℕ)) (last : List ℕ) (s : Survey) : Type 0 where
  pub count : s.segments ≡ suc (length done)
  pub leaves : s.separators + s.segments + 2 ≡ length (all_leaves ps (done ++ last ∷ []))
  pub judged : JudgedSoFar ps done s
  pub name : s.name ≡ name_so_far ps done last
  pub header : take 7 (get_or (done ++ last ∷ []) 0 []) ≡ header_bytes ps
  pub no_letter : 72 ≡ ps.field → ⊥

-- the survey of the message m has come to the place `at`, where a line may begin
pub record Underway (L : Limits) (ps : Separators) (m : List ℕ) (at : ℕ) (s : Survey) : Type 0 where
  pub done : List (List ℕ)
  pub last : List ℕ
  pub seen : Seen ps done last s
  pub left : LeftAt L ps.field m done last at
  pub few-segments : s.segments ≤ at
  pub few_separators : s.separators ≤ at
  pub within : at ≤ length m

-- at `at` stands a line whose text from `from` on is joined to the open segment, and what stands before that is text
pub record LineBegun (L : Limits) (ps : Separators) (m : List ℕ) (at from : ℕ) (s : Survey) : Type 0 where
  pub done : List (List ℕ)
  pub last : List ℕ
  pub seen : Seen ps done last s
  pub joins :
      (k : ℕ) (ls : Lines)
      → walk_from L at (drop at m) ≡ line (take (from - at) (drop at m) ++ take k (drop from m)) ls
      → Left ps.field (walk L m) done (last ++ take k (drop from m)) ls
  pub fault : SameFault (walk L m) (walk_from L at (drop at m))
  pub few-segments : s.segments ≤ at + 1
  pub few_separators : s.separators ≤ from
  pub some : at < length m
  pub text : from - at ≤ text_run (drop at m)
  pub behind : at ≤ from
  pub within : from ≤ length m
  pub short : from ≤ at + L.line

-- what seeing that line asks
pub record Seeable (L : Limits) (ps : Separators) (class m : List ℕ) (at from : ℕ) (s : Survey) : Type 0 where
  pub one : 1 ≤ L.line
  pub classes : class ≡ class_table ps
  pub begun : LineBegun L ps m at from s

-- what the line at `at` comes to: the survey goes on at a later place, in the same segment, or its fault is the message's
abbrev pub StepOf : Limits → Separators → List ℕ → ℕ → ℕ → Result Step Refused → Type 0
StepOf L ps m segments at (Ok s) = (at < s.next) × Underway L ps m s.next s.seen × (s.seen.segments ≡ segments)
StepOf L ps m segments at (Err r) = (r.number ≡ fault_number (walk L m)) × (r.number ≡ 0 → ⊥) × (r.place ≡ fault_place (walk L m))
