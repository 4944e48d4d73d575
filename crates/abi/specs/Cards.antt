-- The card (rule T5) as the numbers that C lends and gets (include/sargaceu.h).
-- Assumes nothing.
use Rattle.std.specs.Prelude.{Bool, true, false, ◌&&◌, List, [], ◌∷◌, ℕ, leb, length, get_or}
use Rattle.table.specs.declared.Card.{Card}
use Rattle.read.specs.Answering.{no_card}

-- the five numbers of a card, in the order of T5
unfoldable pub card_numbers : Card → List ℕ
card_numbers c = c.separator ∷ c.context ∷ c.segments ∷ c.leaves ∷ c.text ∷ []

-- whether numbers are a card: five or more of them, and a separator and a context that are bytes
unfoldable pub is_card : List ℕ → Bool
is_card numbers = leb 5 (length numbers) && leb (get_or numbers 0 0) 255 && leb (get_or numbers 1 0) 255

-- the card that lent numbers are: the first five of them, or the card of zeros where they are no card
unfoldable pub card_of : List ℕ → Card
card_of numbers =
    elim (is_card numbers) [
      | true ↦
          record {
            separator = get_or numbers 0 0;
            context = get_or numbers 1 0;
            segments = get_or numbers 2 0;
            leaves = get_or numbers 3 0;
            text = get_or numbers 4 0;
          }
      | false ↦ no_card
    ]
