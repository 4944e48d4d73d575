-- Where rows stand in a message's file (rules E1 to E4), and what may come where a segment may not stand (V3), as statements about `ReadAs` of the
-- reader, `place_of_row` of `row_place`, `position_of` of `position_of` and `next_kinds` of the watcher. The records behind them stand in
-- source/specs/Promises.antt.
-- Assumes nothing.
use Rattle.std.specs.Prelude.{false, List, [], ◌∷◌, ◌++◌, ◌↔◌, ◌≡◌, ℕ, suc, ◌-◌, ◌≤◌, ◌<◌, length, get_or, take}
use Rattle.form.specs.declared.limits.Limits.{Limits}
use Rattle.form.specs.declared.forms.Form.{Form}
use Rattle.form.specs.declared.separators.Separators.{Separators}
use Rattle.form.specs.Forms.{small_form, limits_of}
use Rattle.form.specs.Numbers.{unknown_kind, misplaced_kind}
use Rattle.order.specs.Grammar.{Begins}
use Rattle.order.specs.Contexts.{grammar}
use Rattle.order.specs.Owners.{level}
use Rattle.order.specs.Watcher.{begun, watched, next_kinds}
use Rattle.table.specs.Rows.{kinds_of, context_in}
use Rattle.table.specs.Reading.{room_of, short}
use Rattle.source.specs.Places.{row_places}
use Rattle.source.specs.Promises.{RowsStand, RowsShown}
use Rattle.read.specs.declared.Answer.{Answer}
use Rattle.read.specs.Answering.{ReadAs}
use Rattle.read.specs.Sound.{segments_in, SoundLines}

-- how many rows a message has: those of the lines before its first fault
abbrev pub row_count : List ℕ → ℕ
row_count message = length (row_places small_form message)

-- the kinds of the rows before a row
abbrev pub told_before : Limits → Separators → List ℕ → ℕ → List ℕ
told_before L ps message row = take (row - 1) (kinds_of ps (segments_in L ps message))

pub record InFile (f : Form) : Type 0 where
  -- accepted: there are as many rows as the table has, their places rise from 0 on, each row's lines joined are its segment, together they are all lines,
  -- and row number and line number agree up to a row exactly where no line before it is an addendum
  pub accepted-rows : (message : List ℕ) {text segments leaves text' segments' leaves' : List ℕ} {r : Answer}
      → ReadAs (limits_of f) level message text segments leaves r text' segments' leaves' → r.number ≡ 0
      → RowsStand small_form message × RowsShown small_form message × (row_count message ≡ r.card.segments)
  -- refused at a row: it is one of them, or for 10 the one that would come behind the last
  pub unknown-row : (message : List ℕ) {text segments leaves text' segments' leaves' : List ℕ} {r : Answer} {ps : Separators}
      → SoundLines (limits_of f) message ps → short (limits_of f) (room_of text segments leaves) ≡ false
      → ReadAs (limits_of f) level message text segments leaves r text' segments' leaves' → r.number ≡ unknown_kind
      → (1 ≤ r.place) × (r.place ≤ row_count message)
  pub misplaced-row : (message : List ℕ) {text segments leaves text' segments' leaves' : List ℕ} {r : Answer} {ps : Separators}
      → SoundLines (limits_of f) message ps → short (limits_of f) (room_of text segments leaves) ≡ false
      → ReadAs (limits_of f) level message text segments leaves r text' segments' leaves' → r.number ≡ misplaced_kind
      → (1 ≤ r.place) × (r.place ≤ suc (row_count message))
  -- the kinds that may come there are those of the watcher that was told the kinds before the row
  pub expected : (message : List ℕ) {text segments leaves text' segments' leaves' : List ℕ} {r : Answer} {ps : Separators}
      → SoundLines (limits_of f) message ps → short (limits_of f) (room_of text segments leaves) ≡ false
      → ReadAs (limits_of f) level message text segments leaves r text' segments' leaves' → r.number ≡ misplaced_kind
      → (kind : ℕ) → kind < 13
      → (get_or (next_kinds (watched (begun (context_in ps (segments_in (limits_of f) ps message))) (told_before (limits_of f) ps message r.place))) kind 0 ≡ 1)
      ↔ Begins (grammar (context_in ps (segments_in (limits_of f) ps message))) (told_before (limits_of f) ps message r.place ++ (kind ∷ []))
