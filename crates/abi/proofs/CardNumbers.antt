-- Which card five numbers are.
-- Assumes nothing.
use mathlib.Core.Bool.{true, false, ◌&&◌}
use mathlib.Core.List.{List}
use mathlib.Core.Path.{◌≡◌}
use Prim.Native.Nat.{ℕ, ◌<◌, ◌≤◌}
use borrow.Author.Tests.{le-leb, lt-leb}
use lib.Dec.{leb}
use lib.ListN.{length, get_or}
use Rattle.laws.proofs.Tests.{and_both, and_fails_first, and_fails_second}
use Rattle.table.specs.declared.Card.{Card}
use Rattle.read.specs.Answering.{no_card}
use Rattle.abi.specs.Cards.{is_card, card_of}

module _ (numbers : List ℕ) where
  no_card_lem : is_card numbers ≡ false → no_card ≡ card_of numbers
  unfolding card_of
  no_card_lem e = rw (e, card_of)

  pub too_few : length numbers < 5 → no_card ≡ card_of numbers
  unfolding is_card
  too_few h = no_card_lem (and_fails_first _ (and_fails_first _ (lt-leb 5 (length numbers) h)))

  pub no_separator : 255 < get_or numbers 0 0 → no_card ≡ card_of numbers
  unfolding is_card
  no_separator h = no_card_lem (and_fails_first _ (and_fails_second (leb 5 (length numbers)) (lt-leb (get_or numbers 0 0) 255 h)))

  pub no_context : 255 < get_or numbers 1 0 → no_card ≡ card_of numbers
  unfolding is_card
  no_context h = no_card_lem (and_fails_second (leb 5 (length numbers) && leb (get_or numbers 0 0) 255) (lt-leb (get_or numbers 1 0) 255 h))

  is_card_lem : 5 ≤ length numbers → get_or numbers 0 0 ≤ 255 → get_or numbers 1 0 ≤ 255 → is_card numbers ≡ true
  unfolding is_card
  is_card_lem enough separator context =
      and_both (and_both (le-leb 5 (length numbers) enough) (le-leb (get_or numbers 0 0) 255 separator)) (le-leb (get_or numbers 1 0) 255 context)

  pub card-taken : 5 ≤ length numbers → get_or numbers 0 0 ≤ 255 → get_or numbers 1 0 ≤ 255
      → ◌≡◌ {A = Card}
      (record {
        separator = get_or numbers 0 0;
        context = get_or numbers 1 0;
        segments = get_or numbers 2 0;
        leaves = get_or numbers 3 0;
        text = get_or numbers 4 0;
      })
      (card_of numbers)
  unfolding card_of
  card-taken enough separator context = rw (is_card_lem enough separator context, card_of)
