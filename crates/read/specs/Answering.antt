-- What the reader answers, and what it leaves in the lent buffers (rules N1, N3 and T7).
-- Assumes nothing.
use Rattle.std.specs.Prelude.{List, [], ◌≡◌, ℕ}
use Rattle.std.proofs.lemmas.List.Edits.{sets}
use Rattle.form.specs.declared.limits.Limits.{Limits}
use Rattle.table.specs.declared.Card.{Card}
use Rattle.table.specs.Reading.{room_of, Outcome, refused, accepted, reading}
use Rattle.read.specs.declared.Answer.{Answer}

-- the card of a refused call (N3)
abbrev pub no_card : Card
no_card = record { separator = 0; context = 0; segments = 0; leaves = 0; text = 0 }

-- the number, the place and the card of an outcome
unfoldable pub answer_of : Outcome → Answer
answer_of (refused n p) = record { number = n; place = p; card = no_card }
answer_of (accepted t) = record { number = 0; place = 0; card = t.card }

-- what an outcome puts at the front of each buffer: nothing where it is refused (N3)
unfoldable pub text_put : Outcome → List ℕ
text_put (refused n p) = []
text_put (accepted t) = t.text

unfoldable pub segments_put : Outcome → List ℕ
segments_put (refused n p) = []
segments_put (accepted t) = t.segment_rows

unfoldable pub leaves_put : Outcome → List ℕ
leaves_put (refused n p) = []
leaves_put (accepted t) = t.leaf_rows

-- an outcome, answered and put into the buffers: entries past the counted ones are as they were (T7)
pub record Gives (o : Outcome) (text segments leaves : List ℕ) (r : Answer) (text' segments' leaves' : List ℕ) : Type 0 where
  pub answer : r ≡ answer_of o
  pub text_area : text' ≡ sets text 0 (text_put o)
  pub segment_rows : segments' ≡ sets segments 0 (segments_put o)
  pub leaf_rows : leaves' ≡ sets leaves 0 (leaves_put o)

-- the contract of the reader: the answer and the buffers are those of the message's outcome, for buffers of these lengths
abbrev pub ReadAs :
    Limits → (ℕ → ℕ → ℕ) → (message text segments leaves : List ℕ) → Answer → (text' segments' leaves' : List ℕ) → Type 0
ReadAs L levels message text segments leaves r text' segments' leaves' =
    Gives (reading L levels (room_of text segments leaves) message) text segments leaves r text' segments' leaves'
