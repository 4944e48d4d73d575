-- What comes of reading with an index, test by test (X3), and what its contract says then of the answer, the tally and the buffers.
-- Assumes nothing.
use mathlib.Core.Bool.{Bool, true, false, ◌||◌}
use mathlib.Core.List.{List, [], ◌∷◌}
use mathlib.Core.Path.{◌≡◌, refl, sym, ap, ◌∙◌, subst}
use Prim.Native.Nat.{ℕ, suc}
use native.Mathlib.Omega.{arith}
use lib.Dec.{eqb, ltb}
use lib.ListN.{length}
use lib.Seq.{sets}
use borrow.Author.Tests.{eq-eqb, ne_eqb, eqb-true, eqb-false, ltb-false}
use Rattle.laws.specs.Lists.{first_from}
use Rattle.laws.specs.Every.{All, none, also}
use Rattle.laws.proofs.Lists.{first_hit, first_miss}
use Rattle.laws.proofs.Tests.{Tested, passed, failed, tested}
use Rattle.laws.proofs.Cases.{at_least_one}
use Rattle.form.specs.declared.limits.Limits.{Limits}
use Rattle.form.specs.declared.separators.Header.{Header}
use Rattle.form.specs.declared.separators.Header.TheVariants.{Sound, Broken}
use Rattle.table.specs.Rows.{Table, table_of}
use Rattle.table.specs.Reading.{Room, Outcome, refused, accepted, reading}
use Rattle.table.proofs.Accepting.{accepting}
use Rattle.index.specs.declared.tally.Tally.{Tally}
use Rattle.index.specs.Refusals.{long_code, full_index, full_count, no_index_number}
use Rattle.index.specs.Index.{Entry, code_most, sound_index, codes_put, counts_put}
use Rattle.index.specs.Adding.{too_many, too_large}
use Rattle.index.specs.Tallying.{with_message, tally_too_large}
use Rattle.index.proofs.Sizes.{Fit}
use Rattle.read.specs.declared.Answer.{Answer}
use Rattle.read.specs.declared.indexed.Indexed.{Indexed}
use Rattle.read.specs.Answering.{no_card, answer_of, text_put, segments_put, leaves_put}
use Rattle.read.specs.Sound.{segments_in}
use Rattle.read.specs.Codes.{codes_in, codes_counted, first_long}
use Rattle.read.specs.Counting.{Counting, turned, counted, counted_or, counting_of, counting, as_outcome, tally_left, front_left, Leaves}
use Rattle.demands.specs.Counts.{segment_count, result_count, entries_with, tally_with}

-- the segments on the card of an accepted message are those of the message
pub table-segments : (L : Limits) (levels : ℕ → ℕ → ℕ) (room : Room) (message : List ℕ) (t : Table)
    → reading L levels room message ≡ accepted t → t.card.segments ≡ segment_count L message
unfolding segment_count table_of
table-segments L levels room message t e =
    let w = (accepting L levels room message t).0 e in
    ap (λ (u : Table). u.card.segments) w.segments.table
    ∙ sym (ap {B = ℕ} (λ (h : Header). elim h [ Sound ps ↦ length (segments_in L ps message) | Broken ↦ 0 ]) w.header)

-- where no code is too long, all that are counted fit
long-none_fit : (n : ℕ) (cs : List (List ℕ)) → first_from (λ (c : List ℕ). ltb code_most (length c)) (suc n) cs ≡ 0 → All Fit (codes_counted cs)
unfolding codes_counted
long-none_fit n [] h = none
long-none_fit n (c ∷ cs) h = go (tested (ltb code_most (length c))) (tested (eqb (length c) 0)) (long-none_fit (suc n) cs)
  where
    long : List ℕ → Bool
    long d = ltb code_most (length d)

    go : Tested (ltb code_most (length c)) → Tested (eqb (length c) 0) → (first_from long (suc (suc n)) cs ≡ 0 → All Fit (codes_counted cs))
        → All Fit (codes_counted (c ∷ cs))
    go (passed l) e ih = absurd (omega (arith, h, first_hit long (suc n) c cs l))
    go (failed l) (passed e) ih = rw (e, codes_counted) (ih (sym (first_miss long (suc n) c cs l) ∙ h))
    go (failed l) (failed e) ih =
        rw (e, codes_counted)
        (also (record { some = at_least_one (length c) (eqb-false (length c) 0 e); short = ltb-false code_most (length c) l })
        (ih (sym (first_miss long (suc n) c cs l) ∙ h)))

pub none-long_fit : (cs : List (List ℕ)) → first_long cs ≡ 0 → All Fit (codes_counted cs)
unfolding first_long
none-long_fit cs h = long-none_fit 0 cs h

module _ (L : Limits) (levels : ℕ → ℕ → ℕ) (room : Room) (tally : Tally) (message codes counts : List ℕ) where
  abbrev outcome : Counting
  outcome = counting L levels room (record { codes = codes; counts = counts; tally = tally }) message

  abbrev large : Bool
  large = too_large (entries_with L message codes counts) || tally_too_large (tally_with L message tally)

  -- what comes of it, with all that was asked on the way
  pub data Judging : Type 0 where
    by_index : sound_index codes counts ≡ false → outcome ≡ turned no_index_number 0 → Judging
    by_reader : (n p : ℕ) → sound_index codes counts ≡ true → reading L levels room message ≡ refused n p → outcome ≡ turned n p → Judging
    by_long : (t : Table) → sound_index codes counts ≡ true → reading L levels room message ≡ accepted t → (first_long (codes_in L message) ≡ 0 → ⊥)
        → outcome ≡ turned long_code (first_long (codes_in L message)) → Judging
    by_many : (t : Table) → sound_index codes counts ≡ true → reading L levels room message ≡ accepted t → first_long (codes_in L message) ≡ 0
        → too_many (entries_with L message codes counts) ≡ true → outcome ≡ turned full_index 0 → Judging
    by_large : (t : Table) → sound_index codes counts ≡ true → reading L levels room message ≡ accepted t → first_long (codes_in L message) ≡ 0
        → too_many (entries_with L message codes counts) ≡ false → large ≡ true → outcome ≡ turned full_count 0 → Judging
    counts_it : (t : Table) → sound_index codes counts ≡ true → reading L levels room message ≡ accepted t → first_long (codes_in L message) ≡ 0
        → too_many (entries_with L message codes counts) ≡ false → large ≡ false
        → outcome ≡ counted t (entries_with L message codes counts) (tally_with L message tally) → Judging

  module _ (sound : sound_index codes counts ≡ true) where
    of_outcome : (o : Outcome) → reading L levels room message ≡ o → outcome ≡ counting_of (codes_in L message) (record { codes = codes; counts = counts; tally = tally }) o
    unfolding counting
    of_outcome o h = rw (sound, h, counting)

    of_accepted : (t : Table) → reading L levels room message ≡ accepted t
        → outcome ≡ counted_or (codes_in L message) t (entries_with L message codes counts) (tally_with L message tally)
    unfolding counting_of
    of_accepted t h =
        of_outcome (accepted t) h
        ∙ ap (λ (n : ℕ). counted_or (codes_in L message) t (entries_with L message codes counts) (with_message tally n (result_count L message)))
        (table-segments L levels room message t h)

    module _ (t : Table) (reads : reading L levels room message ≡ accepted t) where
      pub outcome_long : (first_long (codes_in L message) ≡ 0 → ⊥) → outcome ≡ turned long_code (first_long (codes_in L message))
      unfolding counted_or
      outcome_long f = of_accepted t reads ∙ rw (ne_eqb (first_long (codes_in L message)) 0 f, counted_or)

      module _ (none-long : first_long (codes_in L message) ≡ 0) where
        pub outcome_many : too_many (entries_with L message codes counts) ≡ true → outcome ≡ turned full_index 0
        unfolding counted_or
        outcome_many m = of_accepted t reads ∙ rw (eq-eqb (first_long (codes_in L message)) 0 none-long, m, counted_or)

        module _ (few : too_many (entries_with L message codes counts) ≡ false) where
          pub outcome_past : large ≡ true → outcome ≡ turned full_count 0
          unfolding counted_or
          outcome_past l = of_accepted t reads ∙ rw (eq-eqb (first_long (codes_in L message)) 0 none-long, few, l, counted_or)

          pub outcome_held : large ≡ false → outcome ≡ counted t (entries_with L message codes counts) (tally_with L message tally)
          unfolding counted_or
          outcome_held l = of_accepted t reads ∙ rw (eq-eqb (first_long (codes_in L message)) 0 none-long, few, l, counted_or)

      judged-accepted : Judging
      judged-accepted = by (tested (eqb (first_long (codes_in L message)) 0)) (tested (too_many (entries_with L message codes counts))) (tested large)
        where
          by : Tested (eqb (first_long (codes_in L message)) 0) → Tested (too_many (entries_with L message codes counts)) → Tested large → Judging
          by (failed f) m l = let g = eqb-false (first_long (codes_in L message)) 0 f in by_long t sound reads g (outcome_long g)
          by (passed f) (passed m) l = let g = eqb-true (first_long (codes_in L message)) 0 f in by_many t sound reads g m (outcome_many g m)
          by (passed f) (failed m) (passed l) = let g = eqb-true (first_long (codes_in L message)) 0 f in by_large t sound reads g m l (outcome_past g m l)
          by (passed f) (failed m) (failed l) = let g = eqb-true (first_long (codes_in L message)) 0 f in counts_it t sound reads g m l (outcome_held g m l)

    judged-sound : (o : Outcome) → reading L levels room message ≡ o → Judging
    unfolding counting_of
    judged-sound (refused n p) h = by_reader n p sound h (of_outcome (refused n p) h)
    judged-sound (accepted t) h = judged-accepted t h

  pub outcome_unsound : sound_index codes counts ≡ false → outcome ≡ turned no_index_number 0
  unfolding counting
  outcome_unsound e = rw (e, counting)

  pub judging : Judging
  judging = by (tested (sound_index codes counts))
    where
      by : Tested (sound_index codes counts) → Judging
      by (passed e) = judged-sound e (reading L levels room message) refl
      by (failed e) = by_index e (outcome_unsound e)

-- what the contract says of a refusal, and of a message that is counted
module _ {o : Counting} {tally : Tally} {text segments leaves codes counts text' segments' leaves' codes' counts' : List ℕ} {r : Indexed}
    (w : Leaves o tally text segments leaves codes counts r text' segments' leaves' codes' counts') where
  pub record IsTurned (n p : ℕ) : Type 0 where
    pub number : r.answer.number ≡ n
    pub place : r.answer.place ≡ p
    pub unchanged : (text' ≡ text) × (segments' ≡ segments) × (leaves' ≡ leaves) × (codes' ≡ codes) × (counts' ≡ counts)
        × (r.tally ≡ tally) × (r.answer.card ≡ no_card)

  pub is_turned : (n p : ℕ) → o ≡ turned n p → IsTurned n p
  unfolding as_outcome tally_left front_left answer_of text_put segments_put leaves_put
  is_turned n p e =
      let v : Leaves (turned n p) tally text segments leaves codes counts r text' segments' leaves' codes' counts'
      = subst (λ (q : Counting). Leaves q tally text segments leaves codes counts r text' segments' leaves' codes' counts') e w in
      record {
        number = ap (λ (a : Answer). a.number) v.given.answer;
        place = ap (λ (a : Answer). a.place) v.given.answer;
        unchanged =
            (v.given.text_area, v.given.segment_rows, v.given.leaf_rows, v.codes_are, v.counts_are, v.tally_is, ap (λ (a : Answer). a.card) v.given.answer);
      }

  pub record IsCounted (t : Table) (es : List Entry) (after : Tally) : Type 0 where
    pub number : r.answer.number ≡ 0
    pub card : r.answer.card ≡ t.card
    pub tallied : r.tally ≡ after
    pub codes_put_in : codes' ≡ sets codes 0 (codes_put es)
    pub counts_put_in : counts' ≡ sets counts 0 (counts_put es)

  pub is_counted : (t : Table) (es : List Entry) (after : Tally) → o ≡ counted t es after → IsCounted t es after
  unfolding as_outcome tally_left front_left answer_of
  is_counted t es after e =
      let v : Leaves (counted t es after) tally text segments leaves codes counts r text' segments' leaves' codes' counts'
      = subst (λ (q : Counting). Leaves q tally text segments leaves codes counts r text' segments' leaves' codes' counts') e w in
      record {
        number = ap (λ (a : Answer). a.number) v.given.answer;
        card = ap (λ (a : Answer). a.card) v.given.answer;
        tallied = v.tally_is;
        codes_put_in = v.codes_are;
        counts_put_in = v.counts_are;
      }
