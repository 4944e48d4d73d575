-- What stays as it was, for every function that meets the contracts of the three functions on numeric results: all that was lent where the answer is
-- short, and all but the answer where a value or an order is refused. And what the contracts rule out.
-- Assumes nothing.
use mathlib.Core.List.{List, [], ◌∷◌}
use mathlib.Core.Path.{◌≡◌, sym, ap, ◌∙◌}
use Prim.Native.Nat.{ℕ, ◌<◌}
use native.Mathlib.Omega.{arith}
use lib.IntN.{ℤ, pos, negsuc}
use lib.ListN.{length, get_or}
use Rattle.form.specs.declared.limits.Limits.{Limits}
use Rattle.table.specs.Lent.{Lent}
use Rattle.value.specs.Writing.{Spelling, refuses_value, spells, spelling_told, output_with}
use Rattle.value.specs.Results.{Results, refuses_values, gives, results_told, numbers_after, wholes_after, decimals_after}
use Rattle.abi.specs.Putting.{put_all}
use Rattle.abi.specs.Values.{TellsValue, ReadValueInto, TellsSpelling, WroteValueInto, TellsResults, ReadValuesInto}
use Rattle.abi.proofs.ValueAnswers.{value-short, spelling-short, results-short}
use Rattle.abi.proofs.OnlyOne as only

-- an answer that is short: 1, and everything is kept
pub value-short-kept : (text : List ℕ) (answer : List ℤ) {r : ℕ} {answer' : List ℤ} → ReadValueInto text answer r answer' → length answer < 2
    → (r ≡ 1) × (answer' ≡ answer)
value-short-kept text answer read h = only.read-value text answer read (value-short text answer h)

pub text-short-kept : (whole : ℤ) (decimals : ℕ) (output answer : List ℕ) {r : ℕ} {output' answer' : List ℕ}
    → WroteValueInto whole decimals output answer r output' answer' → length answer < 1 → (r ≡ 1) × (output' ≡ output) × (answer' ≡ answer)
text-short-kept whole decimals output answer wrote h =
    only.write_value whole decimals output answer wrote (spelling-short whole decimals output answer h)

pub order-short-kept : (L : Limits) (t : Lent) (order : ℕ) (numbers : List ℕ) (wholes : List ℤ) (decimals answer : List ℕ) {r : ℕ}
    {numbers' : List ℕ} {wholes' : List ℤ} {decimals' answer' : List ℕ}
    → ReadValuesInto L t order numbers wholes decimals answer r numbers' wholes' decimals' answer' → length answer < 2
    → (r ≡ 1) × (numbers' ≡ numbers) × (wholes' ≡ wholes) × (decimals' ≡ decimals) × (answer' ≡ answer)
order-short-kept L t order numbers wholes decimals answer read h =
    only.order-values L t order numbers wholes decimals answer read (results-short L t order numbers wholes decimals answer h)

-- any other refusal: the output, or the three buffers, are kept, and the answer gets zeros
pub text_refusal_kept : (s : Spelling) {output answer : List ℕ} {r : ℕ} {output' answer' : List ℕ} → TellsSpelling s output answer r output' answer'
    → (r ≡ 0 → ⊥) → (output' ≡ output) × (answer' ≡ put_all answer (0 ∷ []))
unfolding spelling_told output_with
text_refusal_kept (refuses_value n) g h = (g.text, g.answers)
text_refusal_kept (spells text) g h = absurd (h g.number)

pub order_refusal_kept : (w : Results) {numbers : List ℕ} {wholes : List ℤ} {decimals answer : List ℕ} {r : ℕ}
    {numbers' : List ℕ} {wholes' : List ℤ} {decimals' answer' : List ℕ}
    → TellsResults w numbers wholes decimals answer r numbers' wholes' decimals' answer' → (r ≡ 0 → ⊥)
    → (numbers' ≡ numbers) × (wholes' ≡ wholes) × (decimals' ≡ decimals) × (answer' ≡ put_all answer (0 ∷ 0 ∷ []))
unfolding results_told numbers_after wholes_after decimals_after
order_refusal_kept (refuses_values n) g h = (g.numbers-put, g.wholes_put, g.decimals-put, g.answers)
order_refusal_kept (gives values) g h = absurd (h g.number)

-- a value that is told by the other part first, or without its sign, is not what the contract says
module _ {answer' : List ℤ} {r : ℕ} (tells : TellsValue (record { number = 0; whole = negsuc 51; decimals = 2 }) (pos 7 ∷ pos 7 ∷ []) r answer') where
  pub decimals-first : get_or answer' 0 (pos 0) ≡ pos 2 → ⊥
  unfolding put_all
  decimals-first h =
      let z : ◌≡◌ {A = ℤ} (negsuc 51) (pos 2) = ap (λ (l : List ℤ). get_or l 0 (pos 0)) (sym tells.answers) ∙ h in
      let q : ◌≡◌ {A = ℕ} 0 1 = cc in
      omega arith

  pub sign_lost : get_or answer' 0 (pos 0) ≡ pos 52 → ⊥
  unfolding put_all
  sign_lost h =
      let z : ◌≡◌ {A = ℤ} (negsuc 51) (pos 52) = ap (λ (l : List ℤ). get_or l 0 (pos 0)) (sym tells.answers) ∙ h in
      let q : ◌≡◌ {A = ℕ} 0 1 = cc in
      omega arith
