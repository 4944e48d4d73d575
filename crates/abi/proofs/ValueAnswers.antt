-- What the three functions on numeric results answer: where the answer is too short, and where it has room.
-- Assumes nothing.
use mathlib.Core.List.{List, [], ◌∷◌}
use mathlib.Core.Path.{◌≡◌, refl, sym, ap, ◌∙◌, subst⁻¹}
use Prim.Native.Nat.{ℕ, ◌<◌, ◌≤◌}
use borrow.Author.Tests.{lt-ltb, le-ltb}
use lib.IntN.{ℤ, pos}
use lib.ListN.{length}
use lib.Seq.{sets}
use Rattle.form.specs.declared.limits.Limits.{Limits}
use Rattle.form.specs.Numbers.{short_buffer}
use Rattle.order.specs.Owners.{level}
use Rattle.table.specs.Lent.{Lent}
use Rattle.value.specs.declared.reading.Value.{Value}
use Rattle.value.specs.declared.results.ValuesRead.{ValuesRead}
use Rattle.value.specs.declared.writing.ValueWritten.{ValueWritten}
use Rattle.value.specs.Numerals.{most_digits, says_none}
use Rattle.value.specs.Values.{signed_of, with_sign, value_of}
use Rattle.value.specs.Writing.{Spelling, refuses_value, spelling, spelling_told, output_with, WroteValue}
use Rattle.value.specs.Results.{Results, refuses_values, results, results_told, numbers_after, wholes_after, decimals_after, ReadValues}
use Rattle.abi.specs.Putting.{put_all}
use Rattle.abi.specs.Values.{
  value_outcome,
  TellsValue,
  ReadValueInto,
  spelling_outcome,
  TellsSpelling,
  WroteValueInto,
  results_outcome,
  TellsResults,
  ReadValuesInto,
}
use Rattle.abi.proofs.Puts.{put-short, put_whole}

-- one value
module _ (text : List ℕ) (answer : List ℤ) where
  pub value-short_outcome : length answer < 2 → value_outcome text answer ≡ with_sign (says_none short_buffer)
  unfolding value_outcome
  value-short_outcome h = rw (lt-ltb (length answer) 2 h, value_outcome)

  pub value-whole_outcome : 2 ≤ length answer → value_outcome text answer ≡ value_of most_digits text
  unfolding value_outcome
  value-whole_outcome h = rw (le-ltb (length answer) 2 h, value_outcome)

  pub value-short : length answer < 2 → ReadValueInto text answer short_buffer answer
  unfolding signed_of
  value-short h =
      subst⁻¹ (λ (v : Value). TellsValue v answer short_buffer answer) (value-short_outcome h)
      (record { number = refl; answers = sym (put-short answer (pos 0 ∷ pos 0 ∷ []) h) })

  pub value-whole : 2 ≤ length answer → {v : Value} → v ≡ value_of most_digits text → {answer' : List ℤ}
      → answer' ≡ sets answer 0 (v.whole ∷ pos v.decimals ∷ []) → ReadValueInto text answer v.number answer'
  value-whole h {v} e {answer'} stored =
      subst⁻¹ (λ (u : Value). TellsValue u answer v.number answer') (value-whole_outcome h ∙ sym e)
      (record { number = refl; answers = stored ∙ sym (put_whole answer (v.whole ∷ pos v.decimals ∷ []) h) })

-- writing a value
module _ (whole : ℤ) (decimals : ℕ) (output answer : List ℕ) where
  pub spelling-short_outcome : length answer < 1 → spelling_outcome whole decimals output answer ≡ refuses_value short_buffer
  unfolding spelling_outcome
  spelling-short_outcome h = rw (lt-ltb (length answer) 1 h, spelling_outcome)

  pub spelling-whole_outcome : 1 ≤ length answer → spelling_outcome whole decimals output answer ≡ spelling most_digits whole decimals (length output)
  unfolding spelling_outcome
  spelling-whole_outcome h = rw (le-ltb (length answer) 1 h, spelling_outcome)

  pub spelling-short : length answer < 1 → WroteValueInto whole decimals output answer short_buffer output answer
  unfolding spelling_told output_with
  spelling-short h =
      subst⁻¹ (λ (s : Spelling). TellsSpelling s output answer short_buffer output answer) (spelling-short_outcome h)
      (record { number = refl; answers = sym (put-short answer (0 ∷ []) h); text = refl })

  pub spelling-whole : 1 ≤ length answer → {r : ValueWritten} {output' answer' : List ℕ} → WroteValue most_digits whole decimals output r output'
      → answer' ≡ put_all answer (r.bytes ∷ []) → WroteValueInto whole decimals output answer r.number output' answer'
  spelling-whole h {r} {output'} {answer'} wrote stored =
      subst⁻¹ (λ (s : Spelling). TellsSpelling s output answer r.number output' answer') (spelling-whole_outcome h)
      (record {
        number = ap (λ (w : ValueWritten). w.number) wrote.answers;
        answers = stored ∙ ap (λ (w : ValueWritten). put_all answer (w.bytes ∷ [])) wrote.answers;
        text = wrote.text;
      })

-- the values of an order
module _ (L : Limits) (t : Lent) (order : ℕ) (numbers : List ℕ) (wholes : List ℤ) (decimals answer : List ℕ) where
  pub results-short_outcome : length answer < 2 → results_outcome L t order numbers wholes decimals answer ≡ refuses_values short_buffer
  unfolding results_outcome
  results-short_outcome h = rw (lt-ltb (length answer) 2 h, results_outcome)

  pub results-whole_outcome : 2 ≤ length answer → results_outcome L t order numbers wholes decimals answer
      ≡ results L level most_digits t order (length numbers) (length wholes) (length decimals)
  unfolding results_outcome
  results-whole_outcome h = rw (le-ltb (length answer) 2 h, results_outcome)

  pub results-short : length answer < 2 → ReadValuesInto L t order numbers wholes decimals answer short_buffer numbers wholes decimals answer
  unfolding results_told numbers_after wholes_after decimals_after
  results-short h =
      subst⁻¹ (λ (w : Results). TellsResults w numbers wholes decimals answer short_buffer numbers wholes decimals answer) (results-short_outcome h)
      (record { number = refl; answers = sym (put-short answer (0 ∷ 0 ∷ []) h); numbers-put = refl; wholes_put = refl; decimals-put = refl })

  pub results-whole : 2 ≤ length answer → {r : ValuesRead} {numbers' : List ℕ} {wholes' : List ℤ} {decimals' answer' : List ℕ}
      → ReadValues L level most_digits t order numbers wholes decimals r numbers' wholes' decimals'
      → answer' ≡ put_all answer (r.place ∷ r.count ∷ [])
      → ReadValuesInto L t order numbers wholes decimals answer r.number numbers' wholes' decimals' answer'
  results-whole h {r} {numbers'} {wholes'} {decimals'} {answer'} read stored =
      subst⁻¹ (λ (w : Results). TellsResults w numbers wholes decimals answer r.number numbers' wholes' decimals' answer') (results-whole_outcome h)
      (record {
        number = ap (λ (v : ValuesRead). v.number) read.answers;
        answers = stored ∙ ap (λ (v : ValuesRead). put_all answer (v.place ∷ v.count ∷ [])) read.answers;
        numbers-put = read.numbers-put;
        wholes_put = read.wholes_put;
        decimals-put = read.decimals-put;
      })
