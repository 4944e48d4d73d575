-- What `sargaceu_read` (include/sargaceu.h) answers (rules N1 to N3), and what it leaves in the lent buffers.
-- Assumes nothing.
use Rattle.std.specs.Prelude.{true, false, List, ◌∷◌, ◌≡◌, ℕ, ltb, length}
use Rattle.std.proofs.lemmas.List.Edits.{sets}
use Rattle.form.specs.declared.limits.Limits.{Limits}
use Rattle.form.specs.Numbers.{short_buffer}
use Rattle.order.specs.Owners.{level}
use Rattle.table.specs.Reading.{room_of, Outcome, refused, reading}
use Rattle.read.specs.declared.Answer.{Answer}
use Rattle.read.specs.Answering.{answer_of, text_put, segments_put, leaves_put}
use Rattle.abi.specs.Cards.{card_numbers}
use Rattle.abi.specs.Putting.{put_all}

-- an outcome that is to be told into an answer: 1, whatever it is, where six numbers do not fit
unfoldable pub told_in : (answer : List ℕ) → Outcome → Outcome
told_in answer o = elim (ltb (length answer) 6) [ true ↦ refused short_buffer 0 | false ↦ o ]

-- what goes into the answer: the place, and behind it the five numbers of the card
abbrev pub filed_numbers : Answer → List ℕ
filed_numbers a = a.place ∷ card_numbers a.card

-- an outcome, told by its number, and put into the answer and the three buffers
pub record TellsOutcome (o : Outcome) (text segments leaves answer : List ℕ) (r : ℕ) (text' segments' leaves' answer' : List ℕ) : Type 0 where
  pub number : r ≡ (answer_of o).number
  pub numbers : answer' ≡ put_all answer (filed_numbers (answer_of o))
  pub text_area : text' ≡ sets text 0 (text_put o)
  pub segment_rows : segments' ≡ sets segments 0 (segments_put o)
  pub leaf_rows : leaves' ≡ sets leaves 0 (leaves_put o)

-- the contract of `sargaceu_read`
abbrev pub ReadInto : Limits → (message text segments leaves answer : List ℕ) → ℕ → (text' segments' leaves' answer' : List ℕ) → Type 0
ReadInto L message text segments leaves answer r text' segments' leaves' answer' =
    TellsOutcome (told_in answer (reading L level (room_of text segments leaves) message)) text segments leaves answer r text' segments' leaves' answer'
