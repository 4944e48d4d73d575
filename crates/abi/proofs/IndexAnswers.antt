-- What the functions on the index answer: reading with an index where answer or tally is too short and where both have room, and what the planner asks.
-- Assumes nothing.
use mathlib.Core.Bool.{true, ◌||◌}
use mathlib.Core.List.{List, [], ◌∷◌}
use mathlib.Core.Logic.{⊎_elim}
use mathlib.Core.Path.{◌≡◌, refl, sym, ap, ◌∙◌, subst⁻¹, subst₂}
use Prim.Native.Nat.{ℕ, ◌<◌, ◌≤◌}
use native.Mathlib.Omega.{arith}
use borrow.Author.Tests.{lt-ltb, le-ltb}
use lib.Dec.{ltb}
use lib.ListN.{length, get_or, set}
use lib.Seq.{set-get_or}
use Rattle.laws.proofs.Cases.{less_or_not}
use Rattle.laws.proofs.Tests.{or_first, or_second, or_fails}
use Rattle.form.specs.declared.limits.Limits.{Limits}
use Rattle.form.specs.Numbers.{short_buffer}
use Rattle.order.specs.Owners.{level}
use Rattle.table.specs.Reading.{room_of}
use Rattle.index.specs.declared.asking.Codes.{Codes}
use Rattle.index.specs.declared.asking.Codes.TheVariants as C
use Rattle.index.specs.declared.asking.Count.{Count}
use Rattle.index.specs.declared.asking.Count.TheVariants as N
use Rattle.index.specs.declared.asking.Code.{Code}
use Rattle.index.specs.declared.asking.Code.TheVariants as K
use Rattle.index.specs.declared.tally.Tally.{Tally}
use Rattle.index.specs.Finding.{codes_number, count_number, code_number}
use Rattle.read.specs.declared.Answer.{Answer}
use Rattle.read.specs.declared.indexed.Indexed.{Indexed}
use Rattle.read.specs.Answering.{answer_of, text_put, segments_put, leaves_put}
use Rattle.read.specs.Counting.{Counting, turned, counting, as_outcome, tally_left, front_left, IndexedAs}
use Rattle.abi.specs.Cards.{card_numbers}
use Rattle.abi.specs.Putting.{put_all}
use Rattle.abi.specs.Reading.{filed_numbers}
use Rattle.abi.specs.Indexing.{
  tally_numbers,
  tally_of,
  counted_in,
  counted_numbers,
  TellsCounting,
  ReadIndexedInto,
  codes_answer,
  count_answer,
  code_answer,
  TellsAsked,
}
use Rattle.abi.proofs.Puts.{put-short, put_whole}

-- the numbers of a tally, put back, are as they were
pub tally_back : (numbers : List ℕ) → put_all numbers (tally_numbers (tally_of numbers)) ≡ numbers
unfolding tally_numbers tally_of
tally_back numbers =
    ⊎_elim
    (λ short. put-short numbers (tally_numbers (tally_of numbers)) short)
    (λ room.
    put_whole numbers (tally_numbers (tally_of numbers)) room
    ∙ ap (λ (l : List ℕ). set (set l 1 (get_or numbers 1 0)) 2 (get_or numbers 2 0)) (set-get_or numbers 0 0)
    ∙ ap (λ (l : List ℕ). set l 2 (get_or numbers 2 0)) (set-get_or numbers 1 0)
    ∙ set-get_or numbers 2 0)
    (less_or_not (length numbers) 3)

-- the numbers of a tally, stored one after the other
pub tally-put : (numbers : List ℕ) (t : Tally) → 3 ≤ length numbers
    → set (set (set numbers 0 t.messages) 1 t.segments) 2 t.results ≡ put_all numbers (tally_numbers t)
unfolding tally_numbers
tally-put numbers t room = sym (put_whole numbers (tally_numbers t) room)

module _ (tally answer : List ℕ) (o : Counting) where
  no_room : (ltb (length answer) 6 || ltb (length tally) 3) ≡ true → counted_in tally answer o ≡ turned short_buffer 0
  unfolding counted_in
  no_room e = rw (e, counted_in)

  pub room-counted : 6 ≤ length answer → 3 ≤ length tally → counted_in tally answer o ≡ o
  unfolding counted_in
  room-counted h k = rw (or_fails (le-ltb (length answer) 6 h) (le-ltb (length tally) 3 k), counted_in)

  pub answer-short : length answer < 6 → counted_in tally answer o ≡ turned short_buffer 0
  answer-short h = no_room (or_first (ltb (length tally) 3) (lt-ltb (length answer) 6 h))

  pub tally-short : length tally < 3 → counted_in tally answer o ≡ turned short_buffer 0
  tally-short h = no_room (or_second (ltb (length answer) 6) (lt-ltb (length tally) 3 h))

-- what is put into an answer where the tally is short, and where it is not
module _ (tally : List ℕ) (o : Counting) where
  pub nothing-told : length tally < 3 → counted_numbers tally o ≡ []
  unfolding counted_numbers
  nothing-told h = rw (lt-ltb (length tally) 3 h, counted_numbers)

  pub filed-told : 3 ≤ length tally → counted_numbers tally o ≡ filed_numbers (answer_of (as_outcome o))
  unfolding counted_numbers
  filed-told h = rw (le-ltb (length tally) 3 h, counted_numbers)

-- a message that is turned away: its number, and everything but the answer as it was
module _ {o : Counting} {number place : ℕ} (text segments leaves codes counts tally answer : List ℕ) {answer' : List ℕ} where
  pub turned-kept : o ≡ turned number place → answer' ≡ put_all answer (counted_numbers tally (turned number place))
      → TellsCounting o text segments leaves codes counts tally answer number text segments leaves codes counts tally answer'
  unfolding as_outcome tally_left front_left answer_of text_put segments_put leaves_put
  turned-kept is told =
      subst⁻¹
      (λ (p : Counting). TellsCounting p text segments leaves codes counts tally answer number text segments leaves codes counts tally answer') is
      (record {
        number = refl;
        numbers = told;
        text_area = refl;
        segment_rows = refl;
        leaf_rows = refl;
        codes_are = refl;
        counts_are = refl;
        tally_is = sym (tally_back tally);
      })

module _ (L : Limits) (message text segments leaves codes counts tally answer : List ℕ) where
  -- what would come of it, with room to tell it
  abbrev would_come : Counting
  would_come = counting L level (room_of text segments leaves) (record { codes = codes; counts = counts; tally = tally_of tally }) message

  -- a short answer, or a short tally: 1, and nothing is written
  abbrev Untouched : Type 0
  Untouched =
      ReadIndexedInto L message text segments leaves codes counts tally answer short_buffer text segments leaves codes counts tally answer

  short-numbers : length answer < 6 → put_all answer (counted_numbers tally (turned short_buffer 0)) ≡ answer
  unfolding card_numbers
  short-numbers h =
      ⊎_elim
      (λ few. ap (put_all answer) (nothing-told tally (turned short_buffer 0) few) ∙ put_whole answer [] (omega arith))
      (λ enough.
      ap (put_all answer) (filed-told tally (turned short_buffer 0) enough)
      ∙ put-short answer (filed_numbers (answer_of (as_outcome (turned short_buffer 0)))) h)
      (less_or_not (length tally) 3)

  pub indexed_short_answer : length answer < 6 → Untouched
  indexed_short_answer h =
      turned-kept text segments leaves codes counts tally answer (answer-short tally answer would_come h) (sym (short-numbers h))

  pub indexed_short_tally : length tally < 3 → Untouched
  indexed_short_tally h =
      turned-kept text segments leaves codes counts tally answer (tally-short tally answer would_come h)
      (sym (ap (put_all answer) (nothing-told tally (turned short_buffer 0) h) ∙ put_whole answer [] (omega arith)))

  -- both have room: what reading with the index leaves, told
  pub indexed_whole : 6 ≤ length answer → 3 ≤ length tally
      → {r : Indexed} {n : ℕ} {text' segments' leaves' codes' counts' tally' answer' : List ℕ}
      → IndexedAs L level (tally_of tally) message text segments leaves codes counts r text' segments' leaves' codes' counts'
      → tally' ≡ put_all tally (tally_numbers r.tally)
      → (n ≡ r.answer.number) × (answer' ≡ put_all answer (filed_numbers r.answer))
      → ReadIndexedInto L message text segments leaves codes counts tally answer n text' segments' leaves' codes' counts' tally' answer'
  indexed_whole h k {r} {n} {text'} {segments'} {leaves'} {codes'} {counts'} {tally'} {answer'} left kept filed =
      subst⁻¹
      (λ (o : Counting).
      TellsCounting o text segments leaves codes counts tally answer n text' segments' leaves' codes' counts' tally' answer')
      (room-counted tally answer would_come h k)
      (record {
        number = filed.0 ∙ ap (λ (a : Answer). a.number) left.given.answer;
        numbers =
            filed.1
            ∙ ap (λ (a : Answer). put_all answer (filed_numbers a)) left.given.answer
            ∙ sym (ap (put_all answer) (filed-told tally would_come k));
        text_area = left.given.text_area;
        segment_rows = left.given.segment_rows;
        leaf_rows = left.given.leaf_rows;
        codes_are = left.codes_are;
        counts_are = left.counts_are;
        tally_is = kept ∙ ap (λ (t : Tally). put_all tally (tally_numbers t)) left.tally_is;
      })

-- the contract of reading with an index under the same limits and from the same tally, however these are written
pub indexed_same : {L L' : Limits} {t t' : Tally} → L ≡ L' → t ≡ t' → (message : List ℕ) {text segments leaves codes counts : List ℕ} {r : Indexed}
    {text' segments' leaves' codes' counts' : List ℕ}
    → IndexedAs L level t message text segments leaves codes counts r text' segments' leaves' codes' counts'
    → IndexedAs L' level t' message text segments leaves codes counts r text' segments' leaves' codes' counts'
indexed_same {L} {L'} {t} {t'} p q message {text} {segments} {leaves} {codes} {counts} {r} {text'} {segments'} {leaves'} {codes'} {counts'} h =
    subst₂
    (λ (M : Limits) (u : Tally).
    IndexedAs M level u message text segments leaves codes counts r text' segments' leaves' codes' counts')
    p q h

-- what the planner asks, once it is known what the answer is
module _ (answer : List ℕ) {answer' : List ℕ} where
  pub codes-told : {a : Codes} (n : ℕ) → a ≡ C.Named n → answer' ≡ put_all answer (n ∷ [])
      → TellsAsked (codes_number a) (codes_answer a) answer 1 answer'
  unfolding codes_number codes_answer
  codes-told n is stored =
      subst⁻¹ (λ (b : Codes). TellsAsked (codes_number b) (codes_answer b) answer 1 answer') is (record { told = refl; answers = stored })

  pub count-told : {a : Count} (n : ℕ) → a ≡ N.Times n → answer' ≡ put_all answer (n ∷ [])
      → TellsAsked (count_number a) (count_answer a) answer 1 answer'
  unfolding count_number count_answer
  count-told n is stored =
      subst⁻¹ (λ (b : Count). TellsAsked (count_number b) (count_answer b) answer 1 answer') is (record { told = refl; answers = stored })

  pub code-told : {a : Code} (start n times : ℕ) → a ≡ K.At start n times → answer' ≡ put_all answer (start ∷ n ∷ times ∷ [])
      → TellsAsked (code_number a) (code_answer a) answer 1 answer'
  unfolding code_number code_answer
  code-told start n times is stored =
      subst⁻¹ (λ (b : Code). TellsAsked (code_number b) (code_answer b) answer 1 answer') is (record { told = refl; answers = stored })

-- nothing to tell: the answer is as it was
module _ (answer : List ℕ) where
  tells_nothing : (number : ℕ) → TellsAsked number [] answer number answer
  tells_nothing number = record { told = refl; answers = sym (put_whole answer [] (omega arith)) }

  pub codes_no_index : {a : Codes} → a ≡ C.NoIndex → TellsAsked (codes_number a) (codes_answer a) answer 53 answer
  unfolding codes_number codes_answer
  codes_no_index is = subst⁻¹ (λ (b : Codes). TellsAsked (codes_number b) (codes_answer b) answer 53 answer) is (tells_nothing 53)

  pub count_not_named : {a : Count} → a ≡ N.NotNamed → TellsAsked (count_number a) (count_answer a) answer 0 answer
  unfolding count_number count_answer
  count_not_named is = subst⁻¹ (λ (b : Count). TellsAsked (count_number b) (count_answer b) answer 0 answer) is (tells_nothing 0)

  pub count_no_index : {a : Count} → a ≡ N.NoIndex → TellsAsked (count_number a) (count_answer a) answer 53 answer
  unfolding count_number count_answer
  count_no_index is = subst⁻¹ (λ (b : Count). TellsAsked (count_number b) (count_answer b) answer 53 answer) is (tells_nothing 53)

  pub code_not_named : {a : Code} → a ≡ K.NotNamed → TellsAsked (code_number a) (code_answer a) answer 0 answer
  unfolding code_number code_answer
  code_not_named is = subst⁻¹ (λ (b : Code). TellsAsked (code_number b) (code_answer b) answer 0 answer) is (tells_nothing 0)

  pub code_no_index : {a : Code} → a ≡ K.NoIndex → TellsAsked (code_number a) (code_answer a) answer 53 answer
  unfolding code_number code_answer
  code_no_index is = subst⁻¹ (λ (b : Code). TellsAsked (code_number b) (code_answer b) answer 53 answer) is (tells_nothing 53)
