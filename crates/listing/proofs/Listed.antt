-- What `list` answers, by cases: a short buffer, a refused message, an accepted one.
-- Assumes nothing.
use mathlib.Core.List.{List, [], ◌++◌}
use mathlib.Core.Path.{◌≡◌, sym, ap, ap₂, ◌∙◌, subst}
use Prim.Native.Nat.{ℕ, ◌+◌, ◌*◌, ◌≤◌, ◌<◌}
use native.Mathlib.Omega.{arith}
use lib.Dec.{lit≤}
use lib.ListN.{length, get_or}
use lib.Seq.{sets}
use borrow.Author.Tests.{lt-ltb, le-ltb}
use Rattle.form.specs.declared.limits.Limits.{Limits}
use Rattle.form.specs.Limits.{Lawful}
use Rattle.form.specs.Numbers.{short_buffer}
use Rattle.table.specs.declared.Card.{Card}
use Rattle.table.specs.Rows.{Table}
use Rattle.table.specs.Reading.{room_of, Outcome, refused, accepted, reading}
use Rattle.read.specs.declared.Answer.{Answer}
use Rattle.read.specs.Answering.{answer_of, text_put, segments_put, leaves_put, Gives, ReadAs}
use Rattle.read.proofs.OnlyOne.{reading-numbered}
use Rattle.read.proofs.Acceptance.{number-accepted}
use Rattle.table.specs.Lent.{lent}
use Rattle.write.specs.Answer.{written_size}
use Rattle.listing.specs.Listing.{listing, listing_size, listing_for, shown, Lists, ListedAs, answer_lines, count_lines, row_lines}
use Rattle.listing.specs.inner.Putting.{Put, PutWithin, six_digits, RowsReady}
use Rattle.listing.proofs.Putting.{put_as, put_then, put-length}
use Rattle.write.proofs.ReadTables.{table_left, few-segments, filed-within}
use Rattle.listing.proofs.Filed.{filed-size, filed-numbers, filed-rows}

-- a buffer that is short, or is not
module _ (L : Limits) (o : Outcome) (size : ℕ) where
  pub listed_short : size < listing_size L → listing_for L o size ≡ []
  unfolding listing_for
  listed_short h = rw (lt-ltb size (listing_size L) h, listing_for)

  shown-short : size < listing_size L → shown L o size ≡ refused short_buffer 0
  unfolding shown
  shown-short h = rw (lt-ltb size (listing_size L) h, shown)

  pub listed_roomy : listing_size L ≤ size → listing_for L o size ≡ listing L o
  unfolding listing_for
  listed_roomy h = rw (le-ltb size (listing_size L) h, listing_for)

  shown-roomy : listing_size L ≤ size → shown L o size ≡ o
  unfolding shown
  shown-roomy h = rw (le-ltb size (listing_size L) h, shown)

-- nothing is read and nothing listed
pub list_short : (L : Limits) (o : Outcome) (text segments leaves list : List ℕ) → length list < listing_size L
    → Lists L o text segments leaves list 0 text segments leaves list
unfolding text_put segments_put leaves_put
list_short L o text segments leaves list h =
    let none = listed_short L o (length list) h in
    let unread = shown-short L o (length list) h in
    record {
      bytes = sym (ap length none);
      listing = sym (ap (sets list 0) none);
      text_area = sym (ap (λ (v : Outcome). sets text 0 (text_put v)) unread);
      segment_rows = sym (ap (λ (v : Outcome). sets segments 0 (segments_put v)) unread);
      leaf_rows = sym (ap (λ (v : Outcome). sets leaves 0 (leaves_put v)) unread);
    }

-- what is put at the front is the listing of the outcome that the reader gave
listed_so : (L : Limits) (o : Outcome) {text segments leaves text' segments' leaves' list list' : List ℕ} {r : Answer} {next : ℕ}
    → listing_size L ≤ length list → Gives o text segments leaves r text' segments' leaves' → Put list 0 (listing L o) list' next
    → Lists L o text segments leaves list next text' segments' leaves' list'
listed_so L o {text} {segments} {leaves} {list = list} room given put =
    let all = listed_roomy L o (length list) room in
    let read = shown-roomy L o (length list) room in
    record {
      bytes = omega (arith, put.reached, ap length all);
      listing = put.stored ∙ sym (ap (sets list 0) all);
      text_area = given.text_area ∙ sym (ap (λ (v : Outcome). sets text 0 (text_put v)) read);
      segment_rows = given.segment_rows ∙ sym (ap (λ (v : Outcome). sets segments 0 (segments_put v)) read);
      leaf_rows = given.leaf_rows ∙ sym (ap (λ (v : Outcome). sets leaves 0 (leaves_put v)) read);
    }

-- a refused message: the first three lines
refused-lines : (L : Limits) (o : Outcome) {text segments leaves text' segments' leaves' : List ℕ} {r : Answer}
    → Gives o text segments leaves r text' segments' leaves' → (r.number ≡ 0 → ⊥) → answer_lines r.number r.place ≡ listing L o
unfolding listing answer_of
refused-lines L (refused n p) g h = ap₂ answer_lines (ap (λ (a : Answer). a.number) g.answer) (ap (λ (a : Answer). a.place) g.answer)
refused-lines L (accepted t) g h = absurd (h (ap (λ (a : Answer). a.number) g.answer))

module _ (L : Limits) (levels : ℕ → ℕ → ℕ) (message text segments leaves list : List ℕ) {text' segments' leaves' : List ℕ} {r : Answer}
    (read : ReadAs L levels message text segments leaves r text' segments' leaves') (room : listing_size L ≤ length list) where
  pub list_refused : (r.number ≡ 0 → ⊥) → {list' : List ℕ} {next : ℕ} → PutWithin 64 list 0 (answer_lines r.number r.place) list' next
      → ListedAs L levels message text segments leaves list next text' segments' leaves' list'
  list_refused h p =
      listed_so L (reading L levels (room_of text segments leaves) message) room read
      (put_as (refused-lines L (reading L levels (room_of text segments leaves) message) read h) p.put)

  module _ (lawful : Lawful L) (rows : L.segments < six_digits) (few : L.leaves + 1 < six_digits) (h : r.number ≡ 0) where
    found : (t : Table) × (reading L levels (room_of text segments leaves) message ≡ accepted t)
    found =
        (number-accepted (reading L levels (room_of text segments leaves) message) read
        (reading-numbered L levels (room_of text segments leaves) message)).0 h

    abbrev table : Table
    table = found.0

    given : Gives (accepted table) text segments leaves r text' segments' leaves'
    given = subst (λ (o : Outcome). Gives o text segments leaves r text' segments' leaves') found.1 read

    card_is : r.card ≡ table.card
    unfolding answer_of
    card_is = ap (λ (a : Answer). a.card) given.answer

    lent_is : lent r.card segments' leaves' text' ≡ table_left L lawful levels message text segments leaves table found.1
    unfolding text_put segments_put leaves_put
    lent_is =
        let card = card_is in
        let rows = given.segment_rows in
        let leaf-rows = given.leaf_rows in
        let area = given.text_area in
        let same
        : lent r.card segments' leaves' text'
        ≡ lent table.card (sets segments 0 table.segment_rows) (sets leaves 0 table.leaf_rows) (sets text 0 table.text) = cc in
        same

    lines_are : answer_lines r.number r.place
        ++ (count_lines r.card (written_size L levels (lent r.card segments' leaves' text')) ++ row_lines segments' r.card.segments)
        ≡ listing L (reading L levels (room_of text segments leaves) message)
    unfolding listing answer_of segments_put
    lines_are =
        ap₂ (λ (a b : List ℕ). a ++ b) (ap₂ answer_lines h (ap (λ (a : Answer). a.place) given.answer))
        (ap₂ (λ (a b : List ℕ). a ++ b)
        (ap₂ count_lines card_is
        (ap (written_size L levels) lent_is ∙ filed-size L lawful levels message text segments leaves table found.1))
        (ap₂ row_lines given.segment_rows (ap (λ (k : Card). k.segments) card_is)
        ∙ filed-rows L lawful levels message text segments leaves table found.1))
        ∙ sym (ap (listing L) found.1)

    -- what the lines of the table ask
    module _ {list₁ : List ℕ} {begun : ℕ} (first : PutWithin 64 list 0 (answer_lines r.number r.place) list₁ begun) where
      pub list_ready : RowsReady segments' r.card.segments list₁ begun (128 + r.card.segments * 32)
      unfolding listing_size segments_put
      list_ready =
          let count : r.card.segments ≡ table.card.segments = ap (λ (k : Card). k.segments) card_is in
          let counted = few-segments L lawful levels message text segments leaves table found.1 in
          let there = (filed-within L lawful levels message text segments leaves table found.1).segment_rows in
          let small = filed-numbers L lawful levels message text segments leaves table found.1 99999 (lit≤ tt) (omega arith) (omega arith) in
          record {
            rows-there = omega (arith, count, ap length given.segment_rows, there);
            number = omega (arith, count, counted);
            numbers = λ k less. omega (arith, small k (omega (arith, count, less)), ap (λ (s : List ℕ). get_or s k 0) given.segment_rows);
            room = omega (arith, count, counted, first.few, put-length first.put, room);
          }

      pub list_accepted : {list₂ : List ℕ} {next : ℕ}
          → Put list₁ begun
          (count_lines r.card (written_size L levels (lent r.card segments' leaves' text')) ++ row_lines segments' r.card.segments) list₂ next
          → ListedAs L levels message text segments leaves list next text' segments' leaves' list₂
      list_accepted p =
          listed_so L (reading L levels (room_of text segments leaves) message) room read (put_as lines_are (put_then first.put p))
