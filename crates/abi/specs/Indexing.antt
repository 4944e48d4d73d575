-- What the functions on the index by analysis code (include/sargaceu.h) answer (rules X1 to X5), and what they leave in the lent buffers.
-- Assumes nothing.
use Rattle.std.specs.Prelude.{true, false, ◌||◌, List, [], ◌∷◌, ◌≡◌, ℕ, ltb, length, get_or}
use Rattle.std.proofs.lemmas.List.Edits.{sets}
use Rattle.form.specs.declared.limits.Limits.{Limits}
use Rattle.form.specs.Numbers.{short_buffer}
use Rattle.order.specs.Owners.{level}
use Rattle.table.specs.Reading.{room_of}
use Rattle.index.specs.declared.asking.Codes.{Codes}
use Rattle.index.specs.declared.asking.Codes.TheVariants as C
use Rattle.index.specs.declared.asking.Count.{Count}
use Rattle.index.specs.declared.asking.Count.TheVariants as N
use Rattle.index.specs.declared.asking.Code.{Code}
use Rattle.index.specs.declared.asking.Code.TheVariants as K
use Rattle.index.specs.declared.tally.Tally.{Tally}
use Rattle.index.specs.Index.{codes_put, counts_put}
use Rattle.index.specs.Finding.{codes_asked, count_asked, code_asked, codes_number, count_number, code_number}
use Rattle.read.specs.Answering.{answer_of, text_put, segments_put, leaves_put}
use Rattle.read.specs.Counting.{Counting, turned, counting, as_outcome, tally_left, front_left}
use Rattle.abi.specs.Putting.{put_all}
use Rattle.abi.specs.Reading.{filed_numbers}

-- the three numbers of a tally, and the tally that lent numbers are
unfoldable pub tally_numbers : Tally → List ℕ
tally_numbers t = t.messages ∷ t.segments ∷ t.results ∷ []

unfoldable pub tally_of : List ℕ → Tally
tally_of numbers = record { messages = get_or numbers 0 0; segments = get_or numbers 1 0; results = get_or numbers 2 0 }

-- what comes of reading with an index, to be told into an answer and a tally: 1, whatever it is, where six numbers do not fit the one or three the other
unfoldable pub counted_in : (tally answer : List ℕ) → Counting → Counting
counted_in tally answer o = elim (ltb (length answer) 6 || ltb (length tally) 3) [ true ↦ turned short_buffer 0 | false ↦ o ]

-- what goes into the answer: the place, and behind it the five numbers of the card; no number at all where the tally is short
unfoldable pub counted_numbers : (tally : List ℕ) → Counting → List ℕ
counted_numbers tally o = elim (ltb (length tally) 3) [ true ↦ [] | false ↦ filed_numbers (answer_of (as_outcome o)) ]

-- what comes of it, told by its number, and put into the answer, the three buffers, the index and the tally
pub record TellsCounting (o : Counting) (text segments leaves codes counts tally answer : List ℕ) (r : ℕ)
    (text' segments' leaves' codes' counts' tally' answer' : List ℕ) : Type 0 where
  pub number : r ≡ (answer_of (as_outcome o)).number
  pub numbers : answer' ≡ put_all answer (counted_numbers tally o)
  pub text_area : text' ≡ sets text 0 (text_put (as_outcome o))
  pub segment_rows : segments' ≡ sets segments 0 (segments_put (as_outcome o))
  pub leaf_rows : leaves' ≡ sets leaves 0 (leaves_put (as_outcome o))
  pub codes_are : codes' ≡ front_left codes_put codes o
  pub counts_are : counts' ≡ front_left counts_put counts o
  pub tally_is : tally' ≡ put_all tally (tally_numbers (tally_left (tally_of tally) o))

-- what comes of reading a message, lent an index and a tally
abbrev pub indexed_outcome : Limits → (message text segments leaves codes counts tally answer : List ℕ) → Counting
indexed_outcome L message text segments leaves codes counts tally answer =
    counted_in tally answer
    (counting L level (room_of text segments leaves) (record { codes = codes; counts = counts; tally = tally_of tally }) message)

-- the contract of `sargaceu_read_indexed`
abbrev pub ReadIndexedInto : Limits → (message text segments leaves codes counts tally answer : List ℕ) → ℕ
    → (text' segments' leaves' codes' counts' tally' answer' : List ℕ) → Type 0
ReadIndexedInto L message text segments leaves codes counts tally answer r text' segments' leaves' codes' counts' tally' answer' =
    TellsCounting (indexed_outcome L message text segments leaves codes counts tally answer) text segments leaves codes counts tally answer r
    text' segments' leaves' codes' counts' tally' answer'

-- what goes into the answer: how many codes are named; how often a code was counted; where a code begins, its length, its count; or no number at all
unfoldable pub codes_answer : Codes → List ℕ
codes_answer (C.Named n) = n ∷ []
codes_answer C.NoIndex = []

unfoldable pub count_answer : Count → List ℕ
count_answer (N.Times n) = n ∷ []
count_answer N.NotNamed = []
count_answer N.NoIndex = []

unfoldable pub code_answer : Code → List ℕ
code_answer (K.At start n times) = start ∷ n ∷ times ∷ []
code_answer K.NotNamed = []
code_answer K.NoIndex = []

-- what was asked, told by its number and put into the answer
pub record TellsAsked (number : ℕ) (numbers answer : List ℕ) (r : ℕ) (answer' : List ℕ) : Type 0 where
  pub told : r ≡ number
  pub answers : answer' ≡ put_all answer numbers

-- the contracts of `sargaceu_index_codes`, `sargaceu_index_count` and `sargaceu_index_code`
abbrev pub AskedCodes : (codes counts answer : List ℕ) → ℕ → (answer' : List ℕ) → Type 0
AskedCodes codes counts answer r answer' =
    TellsAsked (codes_number (codes_asked codes counts)) (codes_answer (codes_asked codes counts)) answer r answer'

abbrev pub AskedCount : (codes counts code answer : List ℕ) → ℕ → (answer' : List ℕ) → Type 0
AskedCount codes counts code answer r answer' =
    TellsAsked (count_number (count_asked codes counts code)) (count_answer (count_asked codes counts code)) answer r answer'

abbrev pub AskedCode : (codes counts : List ℕ) → ℕ → (answer : List ℕ) → ℕ → (answer' : List ℕ) → Type 0
AskedCode codes counts k answer r answer' =
    TellsAsked (code_number (code_asked codes counts k)) (code_answer (code_asked codes counts k)) answer r answer'
