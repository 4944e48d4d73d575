-- What comes of adding a code, test by test: what the functions that change the buffers leave is what is asked of adding.
-- Assumes nothing.
use mathlib.Core.Bool.{true, false}
use mathlib.Core.List.{List, ◌∷◌, ◌++◌}
use mathlib.Core.Path.{◌≡◌, sym, ap, ◌∙◌, subst}
use Prim.Native.Nat.{ℕ, suc, ◌+◌, ◌<◌, ◌≤◌}
use native.Mathlib.Omega.{arith}
use borrow.Author.Tests.{le-leb, lt-leb, eq-eqb, ne_eqb}
use lib.Dec.{leb}
use lib.ListN.{length, get_or, take, drop, set}
use Rattle.laws.proofs.Tests.{Tested, passed, failed, tested}
use Rattle.index.specs.declared.finding.Found.{Found}
use Rattle.index.specs.Refusals.{long_code, full_index, full_count, no_index_number}
use Rattle.index.specs.Index.{Entry, codes_most, code_most, counts_past, named_in, entries_in, roomy, codes_put, counts_put}
use Rattle.index.specs.Adding.{nothing, one_more, declines, leaves, gives, addition_at, addition, addition_number, front_after, AddsAs}
use Rattle.index.specs.inner.Halving.{sought_among}
use Rattle.index.specs.inner.Changing.{CountsOnceMore, Inserts, inserted}
use Rattle.index.proofs.KeptHalf.{Within, sought_within}
use Rattle.index.proofs.Entries.{length-entries, entry-there}
use Rattle.index.proofs.Putting.{kept-codes, once-more-counts}

module _ (c codes counts : List ℕ) where
  -- the outcome, where it is known what adding comes to
  declined : {n : ℕ} → addition c codes counts ≡ declines n → AddsAs c codes counts n codes counts
  unfolding addition_number front_after
  declined e =
      record {
        number = sym (ap addition_number e);
        codes_left = sym (ap (front_after codes_put codes) e);
        counts_left = sym (ap (front_after counts_put counts) e);
      }

  given : {es : List Entry} → addition c codes counts ≡ gives es → {codes' counts' : List ℕ} → codes' ≡ front_after codes_put codes (gives es)
      → counts' ≡ front_after counts_put counts (gives es) → AddsAs c codes counts 0 codes' counts'
  unfolding addition_number
  given e f g =
      record {
        number = sym (ap addition_number e);
        codes_left = f ∙ sym (ap (front_after codes_put codes) e);
        counts_left = g ∙ sym (ap (front_after counts_put counts) e);
      }

  pub not_roomy_adds : roomy codes counts ≡ false → AddsAs c codes counts no_index_number codes counts
  unfolding addition
  not_roomy_adds e = declined (rw (e, addition))

  module _ (e : roomy codes counts ≡ true) where
    pub empty_adds : length c ≡ 0 → AddsAs c codes counts 0 codes counts
    unfolding addition addition_number front_after
    empty_adds z =
        let left : addition c codes counts ≡ leaves = rw (e, eq-eqb (length c) 0 z, addition) in
        record {
          number = sym (ap addition_number left);
          codes_left = sym (ap (front_after codes_put codes) left);
          counts_left = sym (ap (front_after counts_put counts) left);
        }

    module _ (some : length c ≡ 0 → ⊥) where
      pub long-adds : code_most < length c → AddsAs c codes counts long_code codes counts
      unfolding addition
      long-adds h = declined (rw (e, ne_eqb (length c) 0 some, lt-leb (length c) code_most h, addition))

      module _ (short : length c ≤ code_most) {f : Found} (found : f ≡ sought_among codes (named_in counts) c) where
        abbrev es : List Entry
        es = entries_in codes counts

        pub place-within : Within (named_in counts) f
        place-within = subst (Within (named_in counts)) (sym found) (sought_within codes (named_in counts) c)

        at_place : addition c codes counts ≡ addition_at c es f
        unfolding addition
        at_place = (rw (e, ne_eqb (length c) 0 some, le-leb (length c) code_most short, addition)) ∙ sym (ap (addition_at c es) found)

        -- not named: there is no place, or it is put there
        module _ (new : f.named ≡ false) where
          pub full_adds : named_in counts ≡ codes_most → AddsAs c codes counts full_index codes counts
          unfolding addition_at
          full_adds h =
              declined
              (at_place ∙ (rw (new, le-leb codes_most (length es) (omega (arith, h, length-entries codes counts)), addition_at)))

          pub inserted-adds : named_in counts < codes_most → {codes' counts' : List ℕ} → Inserts c f.at codes counts codes' counts'
              → AddsAs c codes counts 0 codes' counts'
          unfolding addition_at front_after
          inserted-adds h put =
              given {es = inserted c f.at es}
              (at_place ∙ (rw (new, lt-leb codes_most (length es) (omega (arith, h, length-entries codes counts)), addition_at)))
              put.codes_left put.counts_left

        -- named: its count is the last number, or goes one up
        module _ (known : f.named ≡ true) where
          abbrev count_now : ℕ
          count_now = get_or counts (suc f.at) 0

          abbrev more : List Entry
          more = take f.at es ++ (one_more (get_or es f.at nothing) ∷ drop (suc f.at) es)

          count-there : (get_or es f.at nothing).count ≡ count_now
          count-there = ap (λ (n : Entry). n.count) (entry-there codes counts f.at (place-within.entry known))

          at_count : addition_at c es f ≡ elim (leb counts_past (suc count_now)) [ true ↦ declines full_count | false ↦ gives more ]
          unfolding addition_at
          at_count =
              (rw (known, addition_at))
              ∙ ap (λ (n : ℕ). elim (leb counts_past (suc n)) [ true ↦ declines full_count | false ↦ gives more ]) count-there

          count-adds : {r : ℕ} {counts' : List ℕ} → CountsOnceMore counts (suc f.at) r counts' → AddsAs c codes counts r codes counts'
          unfolding front_after
          count-adds {r} {counts'} once = go (tested (leb counts_past (suc count_now)))
            where
              go : Tested (leb counts_past (suc count_now)) → AddsAs c codes counts r codes counts'
              go (passed t) =
                  let number : r ≡ full_count = once.number ∙ (rw t) in
                  let kept : counts' ≡ counts = once.counts_left ∙ (rw t) in
                  rw (number, kept) (declined (at_place ∙ at_count ∙ (rw t)))
              go (failed t) =
                  let number : r ≡ 0 = once.number ∙ (rw t) in
                  let one_up : counts' ≡ set counts (suc f.at) (suc count_now) = once.counts_left ∙ (rw t) in
                  rw number
                  (given {es = more} (at_place ∙ at_count ∙ (rw t))
                  (sym (kept-codes codes counts e f.at (place-within.entry known)))
                  (one_up ∙ sym (once-more-counts codes counts e f.at (place-within.entry known))))

          pub counted-adds : {r : ℕ} {counts' : List ℕ} → CountsOnceMore counts (f.at + 1) r counts' → AddsAs c codes counts r codes counts'
          counted-adds {r} {counts'} once =
              count-adds
              (subst (λ (n : ℕ). CountsOnceMore counts n r counts') (let q : f.at + 1 ≡ suc f.at = omega arith in q) once)
