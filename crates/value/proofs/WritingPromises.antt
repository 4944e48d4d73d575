-- What is promised of writing a value (rules D4 and D5), for any count of digits from 1 on.
-- Assumes nothing.
use mathlib.Core.Bool.{true}
use mathlib.Core.List.{List}
use mathlib.Core.Logic.{◌↔◌}
use mathlib.Core.Path.{◌≡◌, refl, sym, ap, ◌∙◌, subst⁻¹}
use Prim.Native.Nat.{ℕ, ◌≤◌, ◌<◌, ◌^◌}
use native.Mathlib.Omega.{arith}
use borrow.Author.Tests.{ltb-true, ltb-false}
use lib.Dec.{ltb}
use lib.IntN.{ℤ, pos, nat_abs}
use lib.ListN.{length, get_or, take, drop}
use lib.Seq.{sets, length-sets}
use Rattle.laws.proofs.Stores.{front_taken, front_dropped}
use Rattle.laws.proofs.Tests.{Tested, passed, failed, tested, never_both}
use Rattle.value.specs.declared.writing.ValueWritten.{ValueWritten}
use Rattle.value.specs.Refusals.{out_of_range, narrow_output}
use Rattle.value.specs.Numerals.{minus}
use Rattle.value.specs.Values.{ReadsTo, Shortest}
use Rattle.value.specs.Writing.{in_range, longest_text, spelling_told, output_with, WroteValue}
use Rattle.value.specs.Promises.{WrittenValue}
use Rattle.value.specs.inner.Shortening.{shortest_text}
use Rattle.value.proofs.ShortestText.{range_few, range_decimals, range_both, shortest_exactly, range_exactly, text-fits}
use Rattle.value.proofs.MinusZero.{zero_no_minus}
use Rattle.value.proofs.ValuesWritten.{spelling-out, spelling-narrow, spelling-text}

module _ (most : ℕ) (one : 1 ≤ most) (whole : ℤ) (decimals : ℕ) where
  -- some text reads to the value
  abbrev HasText : Type 0
  HasText = (text : List ℕ) × ReadsTo most whole decimals text

  pub too_large : HasText ↔ ((nat_abs whole < 10 ^ most) × (decimals ≤ most))
  too_large = (
    λ some.
        let e = (range_exactly most one whole decimals).1 some in
        (range_few most whole decimals e, range_decimals most whole decimals e),
    λ both. (range_exactly most one whole decimals).0 (range_both most whole decimals both.0 both.1),
  )

  abbrev written : List ℕ
  written = shortest_text most whole decimals

  -- what a writing did, by the tests in their order
  data Did (output : List ℕ) (r : ValueWritten) (output' : List ℕ) : Type 0 where
    out : (HasText → ⊥) → r ≡ record { number = out_of_range; bytes = 0 } → output' ≡ output → Did output r output'
    narrow : HasText → length output < longest_text most → r ≡ record { number = narrow_output; bytes = 0 } → output' ≡ output → Did output r output'
    wrote : in_range most whole decimals ≡ true → longest_text most ≤ length output → r ≡ record { number = 0; bytes = length written }
        → output' ≡ sets output 0 written → Did output r output'

  did : {output output' : List ℕ} {r : ValueWritten} → WroteValue most whole decimals output r output' → Did output r output'
  unfolding spelling_told output_with
  did {output} {output'} {r} w = by (tested (in_range most whole decimals)) (tested (ltb (length output) (longest_text most)))
    where
      by : Tested (in_range most whole decimals) → Tested (ltb (length output) (longest_text most)) → Did output r output'
      by (failed e) any =
          let s = spelling-out most whole decimals (length output) e in
          out (λ some. never_both ((range_exactly most one whole decimals).1 some) e) (w.answers ∙ ap spelling_told s) (w.text ∙ ap (output_with output) s)
      by (passed e) (passed h) =
          let short = ltb-true (length output) (longest_text most) h in
          let s = spelling-narrow most whole decimals (length output) e short in
          narrow ((range_exactly most one whole decimals).0 e) short (w.answers ∙ ap spelling_told s) (w.text ∙ ap (output_with output) s)
      by (passed e) (failed h) =
          let room = ltb-false (length output) (longest_text most) h in
          let s = spelling-text most whole decimals (length output) e room in
          wrote e room (w.answers ∙ ap spelling_told s) (w.text ∙ ap (output_with output) s)

  module _ {output output' : List ℕ} {r : ValueWritten} (w : WroteValue most whole decimals output r output') where
    abbrev Does : Type 0
    Does = Did output r output'

    number-told : {number bytes : ℕ} → r ≡ record { number = number; bytes = bytes } → r.number ≡ number
    number-told e = ap (λ (v : ValueWritten). v.number) e

    bytes-told : {number bytes : ℕ} → r ≡ record { number = number; bytes = bytes } → r.bytes ≡ bytes
    bytes-told e = ap (λ (v : ValueWritten). v.bytes) e

    -- what was written is the shortest text of a value in range
    record Within : Type 0 where
      pub within : in_range most whole decimals ≡ true
      pub text : take r.bytes output' ≡ written
      pub bytes : r.bytes ≡ length written

    within_range : r.number ≡ 0 → Within
    within_range zero = by (did w)
      where
        by : Does → Within
        by (out never told kept) = absurd (omega (arith, zero, number-told told))
        by (narrow some short told kept) = absurd (omega (arith, zero, number-told told))
        by (wrote e room told stored) =
            let fits : length written ≤ length output = omega (arith, room, text-fits most one whole decimals e) in
            record {
              within = e;
              text =
                  ap (λ (n : ℕ). take n output') (bytes-told told)
                  ∙ ap (take (length written)) stored
                  ∙ front_taken output written (length written) refl fits;
              bytes = bytes-told told;
            }

    shortest_written : r.number ≡ 0 → Shortest most whole decimals (take r.bytes output')
    shortest_written zero =
        let v = within_range zero in
        (shortest_exactly most one whole decimals v.within (take r.bytes output')).1 v.text

    one_shortest : r.number ≡ 0 → (text : List ℕ) → Shortest most whole decimals text → text ≡ take r.bytes output'
    one_shortest zero text s =
        let v = within_range zero in
        (shortest_exactly most one whole decimals v.within text).0 s ∙ sym v.text

    bytes-written : r.number ≡ 0 → (length (take r.bytes output') ≡ r.bytes) × (r.bytes ≤ longest_text most)
    bytes-written zero =
        let v = within_range zero in
        (ap length v.text ∙ sym v.bytes, omega (arith, v.bytes, text-fits most one whole decimals v.within))

    zero_unsigned : r.number ≡ 0 → whole ≡ pos 0 → get_or (take r.bytes output') 0 0 ≡ minus → ⊥
    zero_unsigned zero none e =
        zero_no_minus most decimals
        (ap (λ (n : ℤ). get_or (shortest_text most n decimals) 0 0) (sym none) ∙ ap (λ (t : List ℕ). get_or t 0 0) (sym (within_range zero).text) ∙ e)

    no_text : (r.number ≡ out_of_range) ↔ ((text : List ℕ) → ReadsTo most whole decimals text → ⊥)
    no_text = by (did w)
      where
        by : Does → (r.number ≡ out_of_range) ↔ ((text : List ℕ) → ReadsTo most whole decimals text → ⊥)
        by (out never told kept) = (λ is-22 text reads. never (text, reads), λ none. number-told told)
        by (narrow some short told kept) = (λ is-22. absurd (omega (arith, is-22, number-told told)), λ none. absurd (none some.0 some.1))
        by (wrote e room told stored) =
            let some = (range_exactly most one whole decimals).0 e in
            (λ is-22. absurd (omega (arith, is-22, number-told told)), λ none. absurd (none some.0 some.1))

    short-output : (r.number ≡ narrow_output) ↔ (HasText × (length output < longest_text most))
    short-output = by (did w)
      where
        by : Does → (r.number ≡ narrow_output) ↔ (HasText × (length output < longest_text most))
        by (out never told kept) = (λ is-23. absurd (omega (arith, is-23, number-told told)), λ both. absurd (never both.0))
        by (narrow some short told kept) = (λ is-23. (some, short), λ both. number-told told)
        by (wrote e room told stored) = (λ is-23. absurd (omega (arith, is-23, number-told told)), λ both. absurd (omega (arith, room, both.1)))

    other-number : (r.number ≡ out_of_range → ⊥) → (r.number ≡ narrow_output → ⊥) → r.number ≡ 0
    other-number no-22 no-23 = by (did w)
      where
        by : Does → r.number ≡ 0
        by (out never told kept) = absurd (no-22 (number-told told))
        by (narrow some short told kept) = absurd (no-23 (number-told told))
        by (wrote e room told stored) = number-told told

    output-length : length output' ≡ length output
    output-length = by (did w)
      where
        by : Does → length output' ≡ length output
        by (out never told kept) = ap length kept
        by (narrow some short told kept) = ap length kept
        by (wrote e room told stored) = ap length stored ∙ length-sets output 0 written

    past_the_text : drop r.bytes output' ≡ drop r.bytes output
    past_the_text = by (did w)
      where
        by : Does → drop r.bytes output' ≡ drop r.bytes output
        by (out never told kept) = ap (drop r.bytes) kept
        by (narrow some short told kept) = ap (drop r.bytes) kept
        by (wrote e room told stored) =
            let fits : length written ≤ length output = omega (arith, room, text-fits most one whole decimals e) in
            subst⁻¹ (λ (n : ℕ). drop n output' ≡ drop n output) (bytes-told told)
            (ap (drop (length written)) stored ∙ front_dropped output written (length written) refl fits)

    refused-value : (r.number ≡ 0 → ⊥) → (output' ≡ output) × (r.bytes ≡ 0)
    refused-value not-0 = by (did w)
      where
        by : Does → (output' ≡ output) × (r.bytes ≡ 0)
        by (out never told kept) = (kept, bytes-told told)
        by (narrow some short told kept) = (kept, bytes-told told)
        by (wrote e room told stored) = absurd (not-0 (number-told told))

    pub written-value : WrittenValue most whole decimals output r output'
    written-value =
        record {
          shortest_written = shortest_written;
          one_shortest = one_shortest;
          bytes-written = bytes-written;
          zero_unsigned = zero_unsigned;
          no_text = no_text;
          short-output = short-output;
          other-number = other-number;
          output-length = output-length;
          past_the_text = past_the_text;
          refused-value = refused-value;
        }
