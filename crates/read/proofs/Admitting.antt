-- Counting a message that was accepted: the copy of the index is the index, and what counting the codes comes to is what is admitted.
-- Assumes nothing.
use mathlib.Core.Bool.{true, false}
use mathlib.Core.List.{List}
use mathlib.Core.Path.{◌≡◌, refl, sym, ap, ap₂, ◌∙◌}
use Prim.Native.Nat.{ℕ, suc, ◌+◌, ◌*◌, ◌≤◌, ◌<◌}
use native.Mathlib.Omega.{arith}
use Rattle.std.specs.Prelude.{Result, Ok, Err}
use lib.Dec.{eqb}
use lib.ListN.{length, take}
use lib.Seq.{sets}
use borrow.Author.Tests.{eqb-true}
use Rattle.laws.proofs.Tests.{Tested, passed, failed, tested, and_both, or_second, or_fails, never_both}
use Rattle.form.specs.declared.limits.Limits.{Limits}
use Rattle.table.specs.Rows.{Table}
use Rattle.index.specs.declared.tally.Tally.{Tally}
use Rattle.index.specs.declared.tally.Tallied.{Tallied}
use Rattle.index.specs.Refusals.{long_code, full_index, full_count}
use Rattle.index.specs.Index.{Entry, codes_most, place_size, named_in, entries_in, roomy, rises, sound_index, codes_put, counts_put}
use Rattle.index.specs.Adding.{added_all, too_many, too_large}
use Rattle.index.specs.Tallying.{with_message, tally_too_large, tallied}
use Rattle.index.proofs.Sizes.{Roomy, roomy_parts}
use Rattle.index.proofs.Entries.{length-entries, entries-sized, entries-put, roomy-put}
use Rattle.index.proofs.Putting.{put-codes, put-counts}
use Rattle.index.proofs.Halved.{sound-roomy, sound-rises}
use Rattle.read.specs.declared.refused.Refused.{Refused}
use Rattle.read.specs.declared.decide.Decision.{Decision}
use Rattle.read.specs.Codes.{codes_counted, first_long}
use Rattle.read.specs.Counting.{turned, counted, counted_or, front_left}
use Rattle.read.specs.inner.Census.{carried_in, census_number, CensusOf, uncounted, all_counted}
use Rattle.read.specs.inner.Admitting.{admission, admitted, AdmitsAs, Copyable, IndexCopied}

-- an index copied to the front of buffers of its size is the same index
pub record Copied (codes counts new_codes new_counts : List ℕ) : Type 0 where
  pub sound : sound_index new_codes new_counts ≡ true
  pub entries : entries_in new_codes new_counts ≡ entries_in codes counts

module _ {codes counts : List ℕ} (sound : sound_index codes counts ≡ true) where
  pub index_room : Roomy codes counts
  index_room = roomy_parts codes counts (sound-roomy codes counts sound)

  pub index_copyable : (empty-codes empty-counts : List ℕ) → codes_most * place_size ≤ length empty-codes → codes_most < length empty-counts
      → Copyable codes counts empty-codes empty-counts
  index_copyable empty-codes empty-counts codes-room counts-room =
      record {
        codes_there = omega (arith, index_room.few_named, index_room.codes_room);
        counts_there = omega (arith, index_room.few_named, index_room.counts_room);
        codes_fit = omega (arith, index_room.few_named);
        counts_fit = omega (arith, index_room.few_named);
      }

  pub index_copied : (empty-codes empty-counts : List ℕ) {new_codes new_counts : List ℕ} → codes_most * place_size ≤ length empty-codes
      → codes_most < length empty-counts → IndexCopied codes counts empty-codes empty-counts new_codes new_counts → Copied codes counts new_codes new_counts
  unfolding sound_index
  index_copied empty-codes empty-counts codes-room counts-room is =
      let es : List Entry = entries_in codes counts in
      let room = sound-roomy codes counts sound in
      let sized = entries-sized codes counts room in
      let few : length es ≤ codes_most = omega (arith, length-entries codes counts, index_room.few_named) in
      let c = is.codes_are ∙ ap (sets empty-codes 0) (sym (put-codes codes counts room)) in
      let n = is.counts_are ∙ ap (λ (k : ℕ). sets empty-counts 0 (take k counts)) (let one : named_in counts + 1 ≡ suc (named_in counts) = omega arith in one)
      ∙ ap (sets empty-counts 0) (sym (put-counts codes counts room)) in
      let put = entries-put es empty-codes empty-counts sized few codes-room counts-room in
      record {
        sound =
            ap₂ sound_index c n
            ∙ and_both (roomy-put es empty-codes empty-counts sized few codes-room counts-room) (ap rises put ∙ sound-rises codes counts sound);
        entries = ap₂ entries_in c n ∙ put;
      }

-- what is admitted, by the tests
module _ (cs : List (List ℕ)) (t : Table) (E : List Entry) (T : Tally) where
  -- a number of the census refuses, at its place
  pub census_turns : (census_number cs E ≡ 0 → ⊥) → counted_or cs t E T ≡ turned (census_number cs E) (first_long cs)
  unfolding census_number counted_or
  census_turns h = by (tested (eqb (first_long cs) 0)) (tested (too_many E)) (tested (too_large E))
    where
      by : Tested (eqb (first_long cs) 0) → Tested (too_many E) → Tested (too_large E) → counted_or cs t E T ≡ turned (census_number cs E) (first_long cs)
      by (failed l) m b = rw (l, counted_or, census_number) refl
      by (passed l) (passed m) b =
          rw (l, m, counted_or, census_number) (ap (turned full_index) (sym (eqb-true (first_long cs) 0 l)))
      by (passed l) (failed m) (passed b) =
          rw (l, m, b, counted_or, census_number) (ap (turned full_count) (sym (eqb-true (first_long cs) 0 l)))
      by (passed l) (failed m) (failed b) = absurd (h (rw (l, m, b, census_number)))

  module _ (none : census_number cs E ≡ 0) where
    -- no code is too long, and none finds no place or a full count
    data Passes : Type 0 where
      passes : eqb (first_long cs) 0 ≡ true → too_many E ≡ false → too_large E ≡ false → Passes

    all-passed : Passes
    unfolding census_number
    all-passed = by (tested (eqb (first_long cs) 0)) (tested (too_many E)) (tested (too_large E))
      where
        by : Tested (eqb (first_long cs) 0) → Tested (too_many E) → Tested (too_large E) → Passes
        by (failed l) m b = absurd (let z : long_code ≡ 0 = (sym (rw (l, census_number))) ∙ none in omega (arith, z))
        by (passed l) (passed m) b = absurd (let z : full_index ≡ 0 = (sym (rw (l, m, census_number))) ∙ none in omega (arith, z))
        by (passed l) (failed m) (passed b) = absurd (let z : full_count ≡ 0 = (sym (rw (l, m, b, census_number))) ∙ none in omega (arith, z))
        by (passed l) (failed m) (failed b) = passes l m b

    pub tally_turns : tally_too_large T ≡ true → counted_or cs t E T ≡ turned full_count 0
    unfolding counted_or
    tally_turns h = by all-passed
      where
        by : Passes → counted_or cs t E T ≡ turned full_count 0
        by (passes l m b) = rw (l, m, or_second (too_large E) h, counted_or)

    pub all-counted : tally_too_large T ≡ false → counted_or cs t E T ≡ counted t E T
    unfolding counted_or
    all-counted h = by all-passed
      where
        by : Passes → counted_or cs t E T ≡ counted t E T
        by (passes l m b) = rw (l, m, or_fails b h, counted_or)

-- the tally with the message, or as it was
module _ (t : Tally) (segments results : ℕ) {r : Tallied} (is : r ≡ tallied t segments results) where
  pub tally_full : r.fits ≡ false → tally_too_large (with_message t segments results) ≡ true
  unfolding tallied
  tally_full h = by (tested (tally_too_large (with_message t segments results)))
    where
      by : Tested (tally_too_large (with_message t segments results)) → tally_too_large (with_message t segments results) ≡ true
      by (passed e) = e
      by (failed e) =
          let fits : tallied t segments results ≡ record { fits = true; tally = with_message t segments results } = rw (e, tallied) in
          absurd (never_both (ap (λ (x : Tallied). x.fits) (is ∙ fits)) h)

  pub tally-fits : r.fits ≡ true → tally_too_large (with_message t segments results) ≡ false
  unfolding tallied
  tally-fits h = by (tested (tally_too_large (with_message t segments results)))
    where
      by : Tested (tally_too_large (with_message t segments results)) → tally_too_large (with_message t segments results) ≡ false
      by (passed e) =
          let full : tallied t segments results ≡ record { fits = false; tally = t } = rw (e, tallied) in
          absurd (never_both h (ap (λ (x : Tallied). x.fits) (is ∙ full)))
      by (failed e) = e

  pub tally_is_lem : r.fits ≡ true → r.tally ≡ with_message t segments results
  unfolding tallied
  tally_is_lem h =
      let fits : tallied t segments results ≡ record { fits = true; tally = with_message t segments results } = rw (tally-fits h, tallied) in
      ap (λ (x : Tallied). x.tally) (is ∙ fits)

-- what is admitted, as it is answered and left in the index
module _ (L : Limits) (d : Decision) (tally : Tally) (m codes counts : List ℕ) where
  abbrev E : List Entry
  E = added_all (codes_counted (carried_in L d.separators m)) (entries_in codes counts)

  abbrev T : Tally
  T = with_message tally d.segments (length (codes_counted (carried_in L d.separators m)))

  -- refused
  admits_turned : {number place : ℕ} → ((t : Table) → admission L d tally m codes counts t ≡ turned number place)
      → AdmitsAs L d tally m codes counts (Err (record { number = number; place = place })) codes counts
  unfolding admitted front_left
  admits_turned h =
      record {
        answer = λ t. sym (ap admitted (h t));
        codes_are = λ t. sym (ap (front_left codes_put codes) (h t));
        counts_are = λ t. sym (ap (front_left counts_put counts) (h t));
      }

  entries_copied : {X : Type 0} (f : List Entry → X) {new_codes new_counts : List ℕ} → Copied codes counts new_codes new_counts
      → f (added_all (codes_counted (carried_in L d.separators m)) (entries_in new_codes new_counts)) ≡ f E
  entries_copied f copy = ap (λ (es : List Entry). f (added_all (codes_counted (carried_in L d.separators m)) es)) copy.entries

  module _ {new_codes new_counts new-codes' new-counts' : List ℕ} (copy : Copied codes counts new_codes new_counts) where
    pub admits_none : {u : Refused} → CensusOf (carried_in L d.separators m) (entries_in new_codes new_counts) (Err u) new-codes' new-counts'
        → AdmitsAs L d tally m codes counts (Err u) codes counts
    admits_none (all_counted none is room entries) = cc
    admits_none {u} (uncounted some is) =
        let cs = carried_in L d.separators m in
        let number : census_number cs (added_all (codes_counted cs) (entries_in new_codes new_counts)) ≡ census_number cs E = entries_copied (census_number cs) copy in
        let same : u ≡ record { number = census_number cs (added_all (codes_counted cs) (entries_in new_codes new_counts)); place = first_long cs } = cc in
        admits_turned
        (λ t. census_turns cs t E T (λ z. some (number ∙ z))
        ∙ ap₂ turned (sym number ∙ sym (ap (λ (v : Refused). v.number) same)) (sym (ap (λ (v : Refused). v.place) same)))

    module _ {results : ℕ} (census : CensusOf (carried_in L d.separators m) (entries_in new_codes new_counts) (Ok results) new-codes' new-counts') where
      -- what is known of a message that is counted
      record Known : Type 0 where
        none : census_number (carried_in L d.separators m) E ≡ 0
        results_are : results ≡ length (codes_counted (carried_in L d.separators m))
        room : roomy new-codes' new-counts' ≡ true
        entries : entries_in new-codes' new-counts' ≡ E

      known : Known
      known = by census
        where
          by : CensusOf (carried_in L d.separators m) (entries_in new_codes new_counts) (Ok results) new-codes' new-counts' → Known
          by (uncounted some is) = cc
          by (all_counted none is room entries) =
              record {
                none = sym (entries_copied (census_number (carried_in L d.separators m)) copy) ∙ none;
                results_are = cc;
                room = room;
                entries = entries ∙ entries_copied (λ (es : List Entry). es) copy;
              }

      pub copied_back : sound_index codes counts ≡ true → Copyable new-codes' new-counts' codes counts
      copied_back sound =
          let new = roomy_parts new-codes' new-counts' known.room in
          let index = index_room sound in
          record {
            codes_there = omega (arith, new.few_named, new.codes_room);
            counts_there = omega (arith, new.few_named, new.counts_room);
            codes_fit = omega (arith, new.few_named, index.codes_room);
            counts_fit = omega (arith, new.few_named, index.counts_room);
          }

      module _ {tried : Tallied} (is : tried ≡ tallied tally d.segments results) where
        tried_is : tried ≡ tallied tally d.segments (length (codes_counted (carried_in L d.separators m)))
        tried_is = is ∙ ap (tallied tally d.segments) known.results_are

        pub admits_no_more : tried.fits ≡ false → AdmitsAs L d tally m codes counts (Err (record { number = full_count; place = 0 })) codes counts
        admits_no_more h =
            admits_turned (λ t. tally_turns (carried_in L d.separators m) t E T known.none (tally_full tally d.segments _ tried_is h))

        pub admits : tried.fits ≡ true → {codes' counts' : List ℕ} → IndexCopied new-codes' new-counts' codes counts codes' counts'
            → AdmitsAs L d tally m codes counts (Ok tried.tally) codes' counts'
        unfolding admitted front_left
        admits h {codes'} {counts'} copied =
            let o : (t : Table) → admission L d tally m codes counts t ≡ counted t E T
            = λ t. all-counted (carried_in L d.separators m) t E T known.none (tally-fits tally d.segments _ tried_is h) in
            let c : codes' ≡ sets codes 0 (codes_put E)
            = copied.codes_are ∙ ap (sets codes 0) (sym (put-codes new-codes' new-counts' known.room) ∙ ap codes_put known.entries) in
            let n : counts' ≡ sets counts 0 (counts_put E)
            = copied.counts_are
            ∙ ap (λ (k : ℕ). sets counts 0 (take k new-counts')) (let one : named_in new-counts' + 1 ≡ suc (named_in new-counts') = omega arith in one)
            ∙ ap (sets counts 0) (sym (put-counts new-codes' new-counts' known.room) ∙ ap counts_put known.entries) in
            record {
              answer = λ t. ap {B = Result Tally Refused} (λ (y : Tally). Ok y) (tally_is_lem tally d.segments _ tried_is h) ∙ sym (ap admitted (o t));
              codes_are = λ t. c ∙ sym (ap (front_left codes_put codes) (o t));
              counts_are = λ t. n ∙ sym (ap (front_left counts_put counts) (o t));
            }
