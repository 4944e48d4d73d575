-- The numbers that `sargaceu_read` puts behind the place are taken for the very card that was read: a caller lends them on as they are.
-- Assumes nothing.
use mathlib.Core.List.{List, ◌++◌}
use mathlib.Core.Path.{◌≡◌, refl, sym, ap, ◌∙◌, subst⁻¹}
use Prim.Native.Nat.{ℕ, ◌≤◌}
use native.Mathlib.Nat.{le_trans}
use native.Mathlib.Omega.{arith}
use lib.Dec.{lit≤}
use lib.ListN.{length, drop}
use lib.Seq.{sets-eq}
use Rattle.form.specs.declared.limits.Limits.{Limits}
use Rattle.form.specs.declared.separators.Separators.{Separators}
use Rattle.form.proofs.HeaderRule.{sound-header}
use Rattle.form.proofs.Names.{context-within}
use Rattle.order.specs.Owners.{level}
use Rattle.table.specs.declared.Card.{Card}
use Rattle.table.specs.Leaves.{context_of_header}
use Rattle.table.specs.Rows.{Table, context_in, table_of}
use Rattle.table.specs.Reading.{room_of, Outcome, refused, accepted, Room, reading}
use Rattle.table.proofs.Accepting.{Accepted, accepting}
use Rattle.read.specs.Answering.{answer_of}
use Rattle.abi.specs.Cards.{card_numbers, card_of}
use Rattle.abi.specs.Putting.{put_all}
use Rattle.abi.specs.Reading.{filed_numbers, ReadInto}
use Rattle.abi.proofs.CardNumbers.{card-taken}
use Rattle.abi.proofs.Puts.{put_whole}
use Rattle.abi.proofs.ReadAnswers.{told-whole}

-- a card whose separator and context are bytes
abbrev pub ByteCard : Card → Type 0
ByteCard c = (c.separator ≤ 255) × (c.context ≤ 255)

-- its numbers, with any others after them, are taken as that card
pub numbers_back : (c : Card) (rest : List ℕ) → ByteCard c → card_of (card_numbers c ++ rest) ≡ c
unfolding card_numbers
numbers_back c rest bytes = sym (card-taken (card_numbers c ++ rest) (omega arith) bytes.0 bytes.1)

context_byte : (ps : Separators) (segments : List (List ℕ)) → context_in ps segments ≤ 255
unfolding context_in context_of_header
context_byte ps segments = le_trans (context-within _) (lit≤ tt)

table-bytes : (L : Limits) (levels : ℕ → ℕ → ℕ) (room : Room) (message : List ℕ) (t : Table) → Accepted L levels room message t → ByteCard t.card
unfolding table_of
table-bytes L levels room message t w =
    let sound = sound-header message w.separators w.header in
    subst⁻¹ (λ (u : Table). ByteCard u.card) w.segments.table ((omega (arith, sound.allowed.field.high), context_byte _ _))

-- the card of an outcome of reading has them
pub outcome_bytes : (L : Limits) (levels : ℕ → ℕ → ℕ) (room : Room) (message : List ℕ) (o : Outcome)
    → reading L levels room message ≡ o → ByteCard (answer_of o).card
unfolding answer_of
outcome_bytes L levels room message (refused n p) e = (lit≤ tt, lit≤ tt)
outcome_bytes L levels room message (accepted t) e = table-bytes L levels room message t ((accepting L levels room message t).0 e)

module _ (L : Limits) (message text segments leaves answer : List ℕ) (room : 6 ≤ length answer)
    {r : ℕ} {text' segments' leaves' answer' : List ℕ} (read : ReadInto L message text segments leaves answer r text' segments' leaves' answer') where
  pub card_back : card_of (drop 1 answer') ≡ (answer_of (reading L level (room_of text segments leaves) message)).card
  unfolding card_numbers
  card_back =
      let o = reading L level (room_of text segments leaves) message in
      let stored : answer' ≡ filed_numbers (answer_of o) ++ drop 6 answer =
      read.numbers
      ∙ ap (λ (p : Outcome). put_all answer (filed_numbers (answer_of p))) (told-whole answer o room)
      ∙ put_whole answer (filed_numbers (answer_of o)) room
      ∙ sets-eq (filed_numbers (answer_of o)) answer 0 room in
      ap (λ (l : List ℕ). card_of (drop 1 l)) stored
      ∙ numbers_back (answer_of o).card (drop 6 answer) (outcome_bytes L level (room_of text segments leaves) message o refl)
