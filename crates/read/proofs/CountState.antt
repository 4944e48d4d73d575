-- Counting codes one after the other in a copy of the index: where it stands, by the number so far, and one code more.
-- Assumes nothing.
use mathlib.Core.Bool.{Bool, true, false}
use mathlib.Core.List.{List}
use mathlib.Core.Path.{◌≡◌, sym, ap, ap₂, ◌∙◌, subst}
use Prim.Native.Nat.{ℕ, suc, ◌≤◌, ◌<◌}
use Rattle.std.specs.Prelude.{min, Option, None, Some}
use Rattle.std.specs.Option.{unwrap_or}
use native.Mathlib.Omega.{arith}
use lib.Dec.{leb}
use lib.ListN.{length}
use lib.Seq.{sets}
use borrow.Author.Tests.{eq-eqb, ne_eqb, lt-ltb, ltb-true, leb-true, leb-false}
use Rattle.laws.proofs.Tests.{Tested, passed, failed, tested, and_both}
use Rattle.index.specs.Refusals.{full_index, full_count}
use Rattle.index.specs.Index.{Entry, codes_most, counts_past, entries_in, roomy, sound_index, rises, names, count_of, codes_put, counts_put}
use Rattle.index.specs.Adding.{code_added, too_many, too_large, Addition, declines, gives, addition_of, addition_number, front_after, AddsAs}
use Rattle.index.proofs.Sizes.{Sized, Fit, Roomy, roomy_parts}
use Rattle.index.proofs.Entries.{length-entries, entries-sized, entries-put, roomy-put}
use Rattle.index.proofs.Added.{added-sized, added-rises, length-added}
use Rattle.index.proofs.Large.{large-added, small_new, small_named, large-named}
use Rattle.index.proofs.SamePlaces.{place_list, same_names, same_many, same-added, named-places}
use Rattle.index.proofs.AddedAll.{length_grows}
use Rattle.index.proofs.Halved.{sound-roomy, sound-rises, addition-sound}
use Rattle.read.specs.inner.Census.{lower_of}

-- the lower of two numbers, step by step
pub lower_first : (n : Option ℕ) {o : ℕ} → o ≡ 0 → lower_of n o ≡ n
unfolding lower_of
lower_first None {o} k = rw (eq-eqb o 0 k, lower_of)
lower_first (Some n) {o} k = rw (eq-eqb o 0 k, lower_of)

pub lower_second : {n : Option ℕ} {o : ℕ} → n ≡ None → (o ≡ 0 → ⊥) → lower_of n o ≡ Some o
unfolding lower_of
lower_second {o = o} h k = rw (h, ne_eqb o 0 k, lower_of)

pub lower_both : {n : Option ℕ} {m o : ℕ} → n ≡ Some m → (o ≡ 0 → ⊥) → lower_of n o ≡ Some (min m o)
unfolding lower_of
lower_both {o = o} h k = rw (h, ne_eqb o 0 k, lower_of)

lower_less : {n : Option ℕ} {m o k : ℕ} → n ≡ Some m → (o ≡ 0 → ⊥) → o ≡ k → o ≤ m → lower_of n o ≡ Some k
lower_less {m = m} {o = o} h z e l = lower_both h z ∙ ap {B = Option ℕ} (λ (i : ℕ). Some i) (let least : min m o ≡ o = omega (arith, l) in least ∙ e)

lower_not : {n : Option ℕ} {m o : ℕ} → n ≡ Some m → (o ≡ 0 → ⊥) → m ≤ o → lower_of n o ≡ Some m
lower_not {m = m} {o = o} h z l = lower_both h z ∙ ap {B = Option ℕ} (λ (i : ℕ). Some i) (let least : min m o ≡ m = omega (arith, l) in least)

pub lower_some : (n : Option ℕ) {o : ℕ} → (o ≡ 0 → ⊥) → lower_of n o ≡ Some (min (unwrap_or n o) o)
unfolding lower_of
lower_some None {o} k = rw (ne_eqb o 0 k, lower_of) (ap {B = Option ℕ} (λ (i : ℕ). Some i) (let least : o ≡ min o o = omega arith in least))
lower_some (Some n) {o} k = rw (ne_eqb o 0 k, lower_of)

-- what comes of adding a code to a sound index: its count is full, the index is full, or it has the code once more
data Tried (c codes counts : List ℕ) (r : ℕ) (codes' counts' : List ℕ) : Type 0 where
  full_count_lem : names (entries_in codes counts) c ≡ true → counts_past ≤ suc (count_of (entries_in codes counts) c) → r ≡ full_count
      → codes' ≡ codes → counts' ≡ counts → Tried c codes counts r codes' counts'
  full_index_lem : names (entries_in codes counts) c ≡ false → codes_most ≤ length (entries_in codes counts) → r ≡ full_index
      → codes' ≡ codes → counts' ≡ counts → Tried c codes counts r codes' counts'
  once_more : names (entries_in codes counts) c ≡ true → suc (count_of (entries_in codes counts) c) < counts_past → r ≡ 0
      → codes' ≡ sets codes 0 (codes_put (code_added c (entries_in codes counts))) → counts' ≡ sets counts 0 (counts_put (code_added c (entries_in codes counts)))
      → Tried c codes counts r codes' counts'
  new : names (entries_in codes counts) c ≡ false → length (entries_in codes counts) < codes_most → r ≡ 0
      → codes' ≡ sets codes 0 (codes_put (code_added c (entries_in codes counts))) → counts' ≡ sets counts 0 (counts_put (code_added c (entries_in codes counts)))
      → Tried c codes counts r codes' counts'

module _ (c codes counts : List ℕ) (sound : sound_index codes counts ≡ true) (fit : Fit c) {r : ℕ} {codes' counts' : List ℕ}
    (adds : AddsAs c codes counts r codes' counts') where
  abbrev es : List Entry
  es = entries_in codes counts

  -- where what comes of it is known, so are the number and the buffers
  number_is : {a : Addition} → addition_of c es ≡ a → r ≡ addition_number a
  number_is e = adds.number ∙ ap addition_number (addition-sound codes counts sound c fit ∙ e)

  codes_are_lem : {a : Addition} → addition_of c es ≡ a → codes' ≡ front_after codes_put codes a
  codes_are_lem e = adds.codes_left ∙ ap (front_after codes_put codes) (addition-sound codes counts sound c fit ∙ e)

  counts_are_lem : {a : Addition} → addition_of c es ≡ a → counts' ≡ front_after counts_put counts a
  counts_are_lem e = adds.counts_left ∙ ap (front_after counts_put counts) (addition-sound codes counts sound c fit ∙ e)

  tried : Tried c codes counts r codes' counts'
  unfolding addition_of addition_number front_after
  tried = by (tested (names es c)) (tested (leb counts_past (suc (count_of es c)))) (tested (leb codes_most (length es)))
    where
      by : Tested (names es c) → Tested (leb counts_past (suc (count_of es c))) → Tested (leb codes_most (length es)) → Tried c codes counts r codes' counts'
      by (passed n) (passed f) m =
          let e : addition_of c es ≡ declines full_count = rw (n, f, addition_of) in
          full_count_lem n (leb-true _ _ f) (number_is e) (codes_are_lem e) (counts_are_lem e)
      by (passed n) (failed f) m =
          let e : addition_of c es ≡ gives (code_added c es) = rw (n, f, addition_of) in
          once_more n (leb-false _ _ f) (number_is e) (codes_are_lem e) (counts_are_lem e)
      by (failed n) f (passed m) =
          let e : addition_of c es ≡ declines full_index = rw (n, m, addition_of) in
          full_index_lem n (leb-true _ _ m) (number_is e) (codes_are_lem e) (counts_are_lem e)
      by (failed n) f (failed m) =
          let e : addition_of c es ≡ gives (code_added c es) = rw (n, m, addition_of) in
          new n (leb-false _ _ m) (number_is e) (codes_are_lem e) (counts_are_lem e)

  -- entries with the code, put at the front, are what then stands there
  room : Roomy codes counts
  room = roomy_parts codes counts (sound-roomy codes counts sound)

  rise : rises es ≡ true
  rise = sound-rises codes counts sound

  sized : Sized (code_added c es)
  sized = added-sized c es fit (entries-sized codes counts (sound-roomy codes counts sound))

  module _ (few : length (code_added c es) ≤ codes_most) (codes-put : codes' ≡ sets codes 0 (codes_put (code_added c es)))
      (counts-put : counts' ≡ sets counts 0 (counts_put (code_added c es))) where
    put_entries : entries_in codes' counts' ≡ code_added c es
    put_entries = ap₂ entries_in codes-put counts-put ∙ entries-put (code_added c es) codes counts sized few room.codes_room room.counts_room

    put-sound : sound_index codes' counts' ≡ true
    unfolding sound_index
    put-sound =
        and_both (ap₂ roomy codes-put counts-put ∙ roomy-put (code_added c es) codes counts sized few room.codes_room room.counts_room)
        (ap rises put_entries ∙ added-rises c es fit rise)

  few-named : names es c ≡ true → length (code_added c es) ≤ codes_most
  few-named n =
      let same : length (code_added c es) ≡ length es = length-added c es rise ∙ ap {B = ℕ} (λ (t : Bool). elim t [ true ↦ length es | false ↦ suc (length es) ]) n in
      omega (arith, same, length-entries codes counts, room.few_named)

  few_new : names es c ≡ false → length es < codes_most → length (code_added c es) ≤ codes_most
  few_new n few =
      let more : length (code_added c es) ≡ suc (length es) = length-added c es rise ∙ ap {B = ℕ} (λ (t : Bool). elim t [ true ↦ length es | false ↦ suc (length es) ]) n in
      omega (arith, more)

-- the entries E that codes give, and what stands in the buffers, by the number so far: just those, with no count too large; the same places, and a
-- count too large (52); or entries that are too many (51)
pub data CountState (E : List Entry) (number : Option ℕ) (codes counts : List ℕ) : Type 0 where
  held : number ≡ None → entries_in codes counts ≡ E → too_large E ≡ false → CountState E number codes counts
  large : number ≡ Some full_count → place_list (entries_in codes counts) ≡ place_list E → too_large E ≡ true → CountState E number codes counts
  many : number ≡ Some full_index → too_many E ≡ true → CountState E number codes counts

-- one code more: the buffers stay an index, and the number is the lower one
pub record CountedOn (E : List Entry) (number : Option ℕ) (codes counts : List ℕ) : Type 0 where
  pub sound : sound_index codes counts ≡ true
  pub state : CountState E number codes counts

module _ (E : List Entry) (rise-E : rises E ≡ true) (n : Option ℕ) (c codes counts : List ℕ) (w : CountedOn E n codes counts) (fit : Fit c)
    {r : ℕ} {codes' counts' : List ℕ} (adds : AddsAs c codes counts r codes' counts') where
  abbrev there : List Entry
  there = entries_in codes counts

  sound-kept : codes' ≡ codes → counts' ≡ counts → sound_index codes' counts' ≡ true
  sound-kept e f = ap₂ sound_index e f ∙ w.sound

  -- more than there are places for
  many_new : names E c ≡ false → codes_most ≤ length E → too_many (code_added c E) ≡ true
  many_new u full =
      let more : length (code_added c E) ≡ suc (length E) = length-added c E rise-E ∙ ap {B = ℕ} (λ (t : Bool). elim t [ true ↦ length E | false ↦ suc (length E) ]) u in
      lt-ltb codes_most (length (code_added c E)) (omega (arith, more))

  many_still : too_many E ≡ true → too_many (code_added c E) ≡ true
  many_still h = lt-ltb codes_most (length (code_added c E)) (omega (arith, ltb-true codes_most (length E) h, length_grows c E))

  from-held : n ≡ None → there ≡ E → too_large E ≡ false → Tried c codes counts r codes' counts' → CountedOn (code_added c E) (lower_of n r) codes' counts'
  from-held z e small (full_count_lem u f k cs ns) =
      record {
        sound = sound-kept cs ns;
        state =
            large (lower_second z (λ y. omega (arith, k, y)) ∙ ap {B = Option ℕ} (λ (i : ℕ). Some i) k)
            (ap place_list (ap₂ entries_in cs ns ∙ e) ∙ sym (named-places c E rise-E (ap (λ (es : List Entry). names es c) (sym e) ∙ u)))
            (large-named c E rise-E (ap (λ (es : List Entry). names es c) (sym e) ∙ u) (subst (λ (es : List Entry). counts_past ≤ suc (count_of es c)) e f));
      }
  from-held z e small (full_index_lem u f k cs ns) =
      record {
        sound = sound-kept cs ns;
        state =
            many (lower_second z (λ y. omega (arith, k, y)) ∙ ap {B = Option ℕ} (λ (i : ℕ). Some i) k)
            (many_new (ap (λ (es : List Entry). names es c) (sym e) ∙ u) (subst (λ (es : List Entry). codes_most ≤ length es) e f));
      }
  from-held z e small (once_more u f k cs ns) =
      record {
        sound = put-sound c codes counts w.sound fit adds (few-named c codes counts w.sound fit adds u) cs ns;
        state =
            held (lower_first n k ∙ z)
            (put_entries c codes counts w.sound fit adds (few-named c codes counts w.sound fit adds u) cs ns ∙ ap (code_added c) e)
            (small_named c E rise-E (ap (λ (es : List Entry). names es c) (sym e) ∙ u) (subst (λ (es : List Entry). suc (count_of es c) < counts_past) e f) small);
      }
  from-held z e small (new u f k cs ns) =
      record {
        sound = put-sound c codes counts w.sound fit adds (few_new c codes counts w.sound fit adds u f) cs ns;
        state =
            held (lower_first n k ∙ z)
            (put_entries c codes counts w.sound fit adds (few_new c codes counts w.sound fit adds u f) cs ns ∙ ap (code_added c) e)
            (small_new c E (ap (λ (es : List Entry). names es c) (sym e) ∙ u) small);
      }

  from-large : n ≡ Some full_count → place_list there ≡ place_list E → too_large E ≡ true → Tried c codes counts r codes' counts'
      → CountedOn (code_added c E) (lower_of n r) codes' counts'
  from-large z e big (full_count_lem u f k cs ns) =
      record {
        sound = sound-kept cs ns;
        state =
            large (lower_not z (λ y. omega (arith, k, y)) (omega (arith, k)))
            (ap place_list (ap₂ entries_in cs ns) ∙ e ∙ sym (named-places c E rise-E (sym (same_names there E e c) ∙ u)))
            (large-added c E big);
      }
  from-large z e big (full_index_lem u f k cs ns) =
      record {
        sound = sound-kept cs ns;
        state =
            many (lower_less z (λ y. omega (arith, k, y)) k (omega (arith, k)))
            (many_new (sym (same_names there E e c) ∙ u) (omega (arith, f, same_many there E e)));
      }
  from-large z e big (once_more u f k cs ns) =
      record {
        sound = put-sound c codes counts w.sound fit adds (few-named c codes counts w.sound fit adds u) cs ns;
        state =
            large (lower_first n k ∙ z)
            (ap place_list (put_entries c codes counts w.sound fit adds (few-named c codes counts w.sound fit adds u) cs ns) ∙ same-added there E e c)
            (large-added c E big);
      }
  from-large z e big (new u f k cs ns) =
      record {
        sound = put-sound c codes counts w.sound fit adds (few_new c codes counts w.sound fit adds u f) cs ns;
        state =
            large (lower_first n k ∙ z)
            (ap place_list (put_entries c codes counts w.sound fit adds (few_new c codes counts w.sound fit adds u f) cs ns) ∙ same-added there E e c)
            (large-added c E big);
      }

  from_many : n ≡ Some full_index → too_many E ≡ true → Tried c codes counts r codes' counts' → CountedOn (code_added c E) (lower_of n r) codes' counts'
  from_many z h (full_count_lem u f k cs ns) =
      record {
        sound = sound-kept cs ns;
        state = many (lower_not z (λ y. omega (arith, k, y)) (omega (arith, k))) (many_still h);
      }
  from_many z h (full_index_lem u f k cs ns) =
      record {
        sound = sound-kept cs ns;
        state = many (lower_not z (λ y. omega (arith, k, y)) (omega (arith, k))) (many_still h);
      }
  from_many z h (once_more u f k cs ns) =
      record {
        sound = put-sound c codes counts w.sound fit adds (few-named c codes counts w.sound fit adds u) cs ns;
        state = many (lower_first n k ∙ z) (many_still h);
      }
  from_many z h (new u f k cs ns) =
      record {
        sound = put-sound c codes counts w.sound fit adds (few_new c codes counts w.sound fit adds u f) cs ns;
        state = many (lower_first n k ∙ z) (many_still h);
      }

  pub counted_on : CountedOn (code_added c E) (lower_of n r) codes' counts'
  counted_on = by w.state
    where
      by : CountState E n codes counts → CountedOn (code_added c E) (lower_of n r) codes' counts'
      by (held z e small) = from-held z e small (tried c codes counts w.sound fit adds)
      by (large z e big) = from-large z e big (tried c codes counts w.sound fit adds)
      by (many z h) = from_many z h (tried c codes counts w.sound fit adds)
