-- What the reader gives for an outcome: a refusal with the buffers as they were, or the table that was filled in.
-- Assumes nothing.
use Rattle.std.proofs.Common.{Result, Ok, Err}
use mathlib.Core.List.{List}
use mathlib.Core.Path.{◌≡◌, refl, sym, ap, ◌∙◌, subst⁻¹, subst₂}
use Prim.Native.Nat.{ℕ}
use Rattle.form.specs.declared.limits.Limits.{Limits}
use Rattle.form.specs.declared.forms.Form.{Form}
use Rattle.form.specs.Forms.{limits_of}
use Rattle.order.specs.inner.Levels.{level_in, LevelsBelow}
use Rattle.table.specs.declared.Card.{Card}
use Rattle.table.specs.Rows.{Table, table_of}
use Rattle.table.specs.Reading.{room_of, Outcome, refused, accepted, reading}
use Rattle.table.specs.inner.Fitting.{FitsRows}
use Rattle.table.proofs.Accepting.{accepting}
use Rattle.table.proofs.Room.{roomy-text, roomy-segments, roomy-leaves}
use Rattle.table.proofs.Width.{form_fits}
use Rattle.read.specs.declared.Answer.{Answer}
use Rattle.read.specs.declared.decide.Decision.{Decision}
use Rattle.read.specs.Answering.{Gives, ReadAs, answer_of, text_put, segments_put, leaves_put}
use Rattle.read.specs.declared.refused.Refused.{Refused}
use Rattle.read.specs.inner.Deciding.{DecidesAs, FormRead, Fileable, card_by, answered, decided}
use Rattle.read.specs.inner.Filling.{table_in, Filled}

module _ {o : Outcome} {text segments leaves : List ℕ} where
  -- a refusal changes nothing
  pub gives_refusal : {number place : ℕ} {r : Answer} → o ≡ refused number place → r ≡ answer_of (refused number place)
      → Gives o text segments leaves r text segments leaves
  unfolding text_put segments_put leaves_put
  gives_refusal {number} {place} {r} e a =
      rw e (record { answer = a; text_area = refl; segment_rows = refl; leaf_rows = refl })

  -- a table that was filled in is given, with its card
  pub gives-table : {t : Table} {r : Answer} {text' segments' leaves' : List ℕ} {bytes : ℕ} → o ≡ accepted t
      → Filled t text segments leaves text' segments' leaves' bytes → r ≡ record { number = 0; place = 0; card = t.card }
      → Gives o text segments leaves r text' segments' leaves'
  unfolding answer_of text_put segments_put leaves_put
  gives-table e f a =
      rw e (record { answer = a; text_area = f.texts; segment_rows = f.segment_rows; leaf_rows = f.leaf_rows })

-- what filing gives, once the buffers are filled in: the table, with its card
module _ {L : Limits} {class kinds table : List ℕ} {d : Decision} {message text segments leaves : List ℕ}
    (w : Fileable L class kinds table d message text segments leaves) where
  card-filled : (bytes : ℕ) → bytes ≡ (table_in L table d.separators message).card.text
      → ◌≡◌ {A = Card}
      (record { separator = d.separators.field; context = d.context; segments = d.segments; leaves = d.leaves; text = bytes })
      (table_in L table d.separators message).card
  unfolding table_of
  card-filled bytes e =
      λ i. record { separator = d.separators.field; context = w.prepared.given.named i; segments = w.segments i; leaves = w.leaves i; text = e i }

  pub table-filed : {text' segments' leaves' : List ℕ} {bytes : ℕ}
      → Filled (table_in L table d.separators message) text segments leaves text' segments' leaves' bytes
      → {card : Card} → card ≡ card_by d bytes
      → Gives (accepted (table_in L table d.separators message)) text segments leaves (answered (Ok card)) text' segments' leaves'
  table-filed {bytes = bytes} f is =
      gives-table refl f (ap (λ (k : Card). answered (Ok k)) (is ∙ card-filled bytes f.counted))

-- what was decided, by a table of levels: a refusal answered, and what filing asks and gives where it accepts
module _ {L : Limits} {message class kinds starts : List ℕ} {r : Result Decision Refused} (text segments leaves : List ℕ)
    (w : DecidesAs L message class kinds starts (λ levels. reading L levels (room_of text segments leaves) message) r) (table : List ℕ) where
  pub refuses-reading : {e : Refused} → r ≡ Err e → reading L (level_in table) (room_of text segments leaves) message ≡ refused e.number e.place
  refuses-reading q = w.stands (level_in table) ∙ ap (λ (x : Result Decision Refused). decided L message x (level_in table)) q

  pub refusal_read : {e : Refused} → r ≡ Err e → ReadAs L (level_in table) message text segments leaves (answered (Err e)) text segments leaves
  unfolding answer_of
  refusal_read q = gives_refusal (refuses-reading q) refl

  module _ {d : Decision} (yes : r ≡ Ok d) where
    pub accepts-table : reading L (level_in table) (room_of text segments leaves) message ≡ accepted (table_in L table d.separators message)
    accepts-table = w.stands (level_in table) ∙ ap (λ (x : Result Decision Refused). decided L message x (level_in table)) yes

    pub accepted_fileable : LevelsBelow (level_in table) → Fileable L class kinds table d message text segments leaves
    accepted_fileable below =
        let room = room_of text segments leaves in
        let roomy = ((accepting L (level_in table) room message (table_in L table d.separators message)).0 accepts-table).roomy in
        let accepted = w.accepts d yes in
        record {
          prepared =
              record {
                given = accepted.fillable;
                below = below;
                text_room = roomy-text L room roomy;
                segment_room = roomy-segments L room roomy;
                leaf_room = roomy-leaves L room roomy;
              };
          segments = accepted.segments;
          leaves = accepted.leaves;
        }

    pub table-read : {a : Answer} {text' segments' leaves' : List ℕ}
        → Gives (accepted (table_in L table d.separators message)) text segments leaves a text' segments' leaves'
        → ReadAs L (level_in table) message text segments leaves a text' segments' leaves'
    table-read {a} {text'} {segments'} {leaves'} g =
        subst⁻¹ (λ (o : Outcome). Gives o text segments leaves a text' segments' leaves') accepts-table g

-- the contract under the same limits and levels, however these are written
pub read_same : {L L' : Limits} {levels levels' : ℕ → ℕ → ℕ} → L ≡ L' → levels ≡ levels' → (message : List ℕ) {text segments leaves : List ℕ} {r : Answer}
    {text' segments' leaves' : List ℕ} → ReadAs L levels message text segments leaves r text' segments' leaves'
    → ReadAs L' levels' message text segments leaves r text' segments' leaves'
read_same {L} {L'} {levels} {levels'} p q message {text} {segments} {leaves} {r} {text'} {segments'} {leaves'} h =
    subst₂
    (λ (M : Limits) (lv : ℕ → ℕ → ℕ). ReadAs M lv message text segments leaves r text' segments' leaves') p q h

-- the limits of a form, as reading asks them, with kinds for as many segments
pub form_reads : (f : Form) {L : Limits} → L ≡ limits_of f → {segments : ℕ} → segments ≡ (limits_of f).segments → FormRead L segments
form_reads f e notes =
    record { fits = subst⁻¹ FitsRows e (form_fits f); notes = notes ∙ ap (λ (M : Limits). M.segments) (sym e) }
