-- What stays as it was, for every function that meets the contracts of the functions on the index: all that was lent where answer or tally is short, all but
-- the answer where a message is refused, and the answer where there is nothing to tell. And what the contracts rule out.
-- Assumes nothing.
use mathlib.Core.List.{List, [], ◌∷◌}
use mathlib.Core.Path.{◌≡◌, sym, ap, ◌∙◌}
use Prim.Native.Nat.{ℕ, ◌<◌}
use native.Mathlib.Omega.{arith}
use lib.ListN.{length, get_or}
use Rattle.form.specs.declared.limits.Limits.{Limits}
use Rattle.table.specs.Rows.{Table}
use Rattle.index.specs.declared.asking.Codes.{Codes}
use Rattle.index.specs.declared.asking.Codes.TheVariants as C
use Rattle.index.specs.declared.asking.Count.{Count}
use Rattle.index.specs.declared.asking.Count.TheVariants as N
use Rattle.index.specs.declared.asking.Code.{Code}
use Rattle.index.specs.declared.asking.Code.TheVariants as K
use Rattle.index.specs.Index.{Entry}
use Rattle.index.specs.Finding.{codes_number, count_number, code_number}
use Rattle.read.specs.Answering.{answer_of, text_put, segments_put, leaves_put}
use Rattle.read.specs.Counting.{Counting, turned, counted, as_outcome, tally_left, front_left}
use Rattle.abi.specs.Putting.{put_all}
use Rattle.abi.specs.Indexing.{
  tally_numbers,
  TellsCounting,
  ReadIndexedInto,
  codes_answer,
  count_answer,
  code_answer,
  TellsAsked,
}
use Rattle.abi.proofs.Puts.{put-short, put_whole}
use Rattle.abi.proofs.IndexAnswers.{tally_back, indexed_short_answer, indexed_short_tally}
use Rattle.abi.proofs.OnlyOne as only

-- `sargaceu_read_indexed` with a short answer, or with a short tally: 1, and all that was lent is kept
module _ (L : Limits) (message text segments leaves codes counts tally answer : List ℕ) {r : ℕ} {text' segments' leaves' codes' counts' tally' answer' : List ℕ}
    (read : ReadIndexedInto L message text segments leaves codes counts tally answer r text' segments' leaves' codes' counts' tally' answer') where
  pub indexed_answer_kept : length answer < 6
      → (r ≡ 1) × (text' ≡ text) × (segments' ≡ segments) × (leaves' ≡ leaves) × (codes' ≡ codes) × (counts' ≡ counts) × (tally' ≡ tally) × (answer' ≡ answer)
  indexed_answer_kept h =
      only.read_indexed L message text segments leaves codes counts tally answer read
      (indexed_short_answer L message text segments leaves codes counts tally answer h)

  pub indexed_tally_kept : length tally < 3
      → (r ≡ 1) × (text' ≡ text) × (segments' ≡ segments) × (leaves' ≡ leaves) × (codes' ≡ codes) × (counts' ≡ counts) × (tally' ≡ tally) × (answer' ≡ answer)
  indexed_tally_kept h =
      only.read_indexed L message text segments leaves codes counts tally answer read
      (indexed_short_tally L message text segments leaves codes counts tally answer h)

-- any refusal of it: table, index and tally are kept
pub indexed_refusal_kept : (o : Counting) {text segments leaves codes counts tally answer : List ℕ} {r : ℕ}
    {text' segments' leaves' codes' counts' tally' answer' : List ℕ}
    → TellsCounting o text segments leaves codes counts tally answer r text' segments' leaves' codes' counts' tally' answer' → (r ≡ 0 → ⊥)
    → (text' ≡ text) × (segments' ≡ segments) × (leaves' ≡ leaves) × (codes' ≡ codes) × (counts' ≡ counts) × (tally' ≡ tally)
unfolding as_outcome tally_left front_left answer_of text_put segments_put leaves_put
indexed_refusal_kept (turned n p) {tally = tally} g h =
    (g.text_area, g.segment_rows, g.leaf_rows, g.codes_are, g.counts_are, g.tally_is ∙ tally_back tally)
indexed_refusal_kept (counted t es y) g h = absurd (h g.number)

-- the planner is told that there is no index, or no such code: the answer is kept
module _ {answer : List ℕ} {r : ℕ} {answer' : List ℕ} where
  kept_of : {number : ℕ} → TellsAsked number [] answer r answer' → answer' ≡ answer
  kept_of g = g.answers ∙ put_whole answer [] (omega arith)

  pub codes-none-kept : (a : Codes) → TellsAsked (codes_number a) (codes_answer a) answer r answer' → (r ≡ 1 → ⊥) → answer' ≡ answer
  unfolding codes_number codes_answer
  codes-none-kept (C.Named n) g h = absurd (h g.told)
  codes-none-kept C.NoIndex g h = kept_of g

  pub count-none-kept : (a : Count) → TellsAsked (count_number a) (count_answer a) answer r answer' → (r ≡ 1 → ⊥) → answer' ≡ answer
  unfolding count_number count_answer
  count-none-kept (N.Times n) g h = absurd (h g.told)
  count-none-kept N.NotNamed g h = kept_of g
  count-none-kept N.NoIndex g h = kept_of g

  pub code-none-kept : (a : Code) → TellsAsked (code_number a) (code_answer a) answer r answer' → (r ≡ 1 → ⊥) → answer' ≡ answer
  unfolding code_number code_answer
  code-none-kept (K.At start n times) g h = absurd (h g.told)
  code-none-kept K.NotNamed g h = kept_of g
  code-none-kept K.NoIndex g h = kept_of g

  -- it is kept as well where the numbers do not fit it, whatever was asked
  pub asked-short-kept : {number : ℕ} (numbers : List ℕ) → TellsAsked number numbers answer r answer' → length answer < length numbers → answer' ≡ answer
  asked-short-kept numbers g h = g.answers ∙ put-short answer numbers h

-- what comes back of a message of three segments and two results, which is the first of its tally
module _ (t : Table) (es : List Entry) {text segments leaves codes counts answer : List ℕ} {r : ℕ} {text' segments' leaves' codes' counts' tally' answer' : List ℕ}
    (tells : TellsCounting (counted t es (record { messages = 1; segments = 3; results = 2 })) text segments leaves codes counts (0 ∷ 0 ∷ 0 ∷ []) answer r
    text' segments' leaves' codes' counts' tally' answer') where
  pub tally_not_brought_up : tally' ≡ (0 ∷ 0 ∷ 0 ∷ []) → ⊥
  unfolding put_all tally_numbers tally_left
  tally_not_brought_up kept =
      let z : ◌≡◌ {A = ℕ} 1 0 = ap (λ (l : List ℕ). get_or l 0 0) (sym tells.tally_is ∙ kept) in
      omega arith

  pub results_for_segments : get_or tally' 1 0 ≡ 2 → ⊥
  unfolding put_all tally_numbers tally_left
  results_for_segments said =
      let z : ◌≡◌ {A = ℕ} 3 2 = ap (λ (l : List ℕ). get_or l 1 0) (sym tells.tally_is) ∙ said in
      omega arith

-- what comes back of a code of three bytes that was counted nine times
module _ {r : ℕ} {answer' : List ℕ} (tells : TellsAsked (code_number (K.At 24 3 9)) (code_answer (K.At 24 3 9)) (7 ∷ 7 ∷ 7 ∷ []) r answer') where
  pub count_for_length : get_or answer' 1 0 ≡ 9 → ⊥
  unfolding put_all code_answer
  count_for_length said =
      let z : ◌≡◌ {A = ℕ} 3 9 = ap (λ (l : List ℕ). get_or l 1 0) (sym tells.answers) ∙ said in
      omega arith

-- what comes back of a code that is not named: its count is not told as 0, it is not told at all
module _ {r : ℕ} {answer' : List ℕ} (tells : TellsAsked (count_number N.NotNamed) (count_answer N.NotNamed) (7 ∷ []) r answer') where
  pub counted_never : get_or answer' 0 0 ≡ 0 → ⊥
  unfolding put_all count_answer
  counted_never said =
      let z : ◌≡◌ {A = ℕ} 7 0 = ap (λ (l : List ℕ). get_or l 0 0) (sym tells.answers) ∙ said in
      omega arith
