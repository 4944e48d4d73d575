-- The text of a number as it is put: digits with a point stored from behind, the sign in front, and room for both.
-- Assumes nothing.
use mathlib.Core.Bool.{Bool}
use mathlib.Core.List.{List, [], ◌∷◌, ◌++◌}
use mathlib.Core.Path.{◌≡◌, refl, sym, ap, ◌∙◌}
use Prim.Native.Nat.{ℕ, zero, suc, ◌+◌, ◌-◌, ◌≤◌}
use native.Mathlib.Omega.{arith}
use lib.ListN.{length, set, length-append}
use lib.Seq.{sets, length-sets}
use Rattle.laws.proofs.Stores.{sets_behind, sets_in_front}
use Rattle.value.specs.Numerals.{point}
use Rattle.value.specs.inner.Digits.{tenths, last_digits}
use Rattle.value.specs.inner.Shortening.{digits_for, sign_text, pointed, digit_text, text_for, Spellable, PutText}
use Rattle.value.proofs.DigitsBack.{last-length, count_most}
use Rattle.value.proofs.ShortestText.{sign-one_byte}
use Rattle.value.proofs.WrittenDigits.{written-decimals, written-least}

-- the decimals, the point in front of them, and in front of that the digits of what is left
pub pointed-stored : (digits decimals magnitude at : ℕ) (output : List ℕ) {one rest two three : _}
    → one ≡ sets output (at + (digits - decimals) + 1) (last_digits decimals magnitude)
    → rest ≡ tenths decimals magnitude
    → two ≡ set one (at + (digits - decimals)) point
    → three ≡ sets two at (last_digits (digits - decimals) rest)
    → three ≡ sets output at (pointed digits decimals magnitude)
unfolding pointed
pointed-stored digits decimals magnitude at output {one} {rest} {two} {three} first left second last =
    let whole = last_digits (digits - decimals) (tenths decimals magnitude) in
    let place : at + (digits - decimals) ≡ at + length whole = omega (arith, last-length (digits - decimals) (tenths decimals magnitude)) in
    last
    ∙ (λ i. sets (second i) at (last_digits (digits - decimals) (left i)))
    ∙ (λ i. sets (set (first i) (at + (digits - decimals)) point) at whole)
    ∙ ap (λ (l : List ℕ). sets l at whole) (sets_in_front output (at + (digits - decimals)) (point ∷ []) (last_digits decimals magnitude))
    ∙ ap (λ (n : ℕ). sets (sets output n (point ∷ last_digits decimals magnitude)) at whole) place
    ∙ sets_in_front output at whole (point ∷ last_digits decimals magnitude)

-- as many bytes as digits, and the point where there are decimals
length-pointed : (digits decimals magnitude : ℕ) → decimals ≤ digits → length (pointed digits decimals magnitude) ≡ digits + 1
unfolding pointed
length-pointed digits decimals magnitude h =
    omega (
      arith,
      h,
      length-append (last_digits (digits - decimals) (tenths decimals magnitude)) (point ∷ last_digits decimals magnitude),
      last-length (digits - decimals) (tenths decimals magnitude),
      last-length decimals magnitude,
    )

-- without decimals, and with them
digit_text_plain : (digits decimals magnitude : ℕ) → decimals ≡ 0 → digit_text digits decimals magnitude ≡ last_digits digits magnitude
unfolding digit_text
digit_text_plain digits zero magnitude e = refl
digit_text_plain digits (suc d) magnitude e = absurd (omega (arith, e))

digit_text_pointed : (digits decimals magnitude : ℕ) → (decimals ≡ 0 → ⊥) → digit_text digits decimals magnitude ≡ pointed digits decimals magnitude
unfolding digit_text
digit_text_pointed digits zero magnitude n = absurd (n refl)
digit_text_pointed digits (suc d) magnitude n = refl

module _ (most : ℕ) (one : 1 ≤ most) (negative : Bool) (magnitude decimals : ℕ) (output : List ℕ) (w : Spellable most magnitude decimals output)
    {digits : ℕ} (counted : digits ≡ digits_for most magnitude decimals) where
  pub digits_fit : digits ≤ most
  digits_fit = omega (arith, counted, written-least most magnitude decimals most (count_most most magnitude) w.decimals-few one)

  pub decimals_fit : decimals ≤ digits
  decimals_fit = omega (arith, counted, written-decimals most magnitude decimals)

  -- behind the sign
  module _ {start : ℕ} {signed : List ℕ} (sign : PutText (sign_text negative) output start signed) where
    pub sign-short : start ≤ 1
    sign-short = omega (arith, sign.bytes, sign-one_byte negative)

    pub room-left : start + digits + 1 ≤ length signed
    room-left =
        omega (arith, sign-short, digits_fit, w.room, ap length sign.stored, length-sets output 0 (sign_text negative))

    whole-text : {output' : List ℕ} {r : ℕ} → output' ≡ sets signed start (digit_text digits decimals magnitude)
        → r ≡ start + length (digit_text digits decimals magnitude) → PutText (text_for most negative magnitude decimals) output r output'
    unfolding text_for
    whole-text stored count =
        let e : digit_text digits decimals magnitude ≡ digit_text (digits_for most magnitude decimals) decimals magnitude =
        ap (λ (n : ℕ). digit_text n decimals magnitude) counted in
        record {
          bytes =
              omega (
                arith,
                count,
                sign.bytes,
                ap length e,
                length-append (sign_text negative) (digit_text (digits_for most magnitude decimals) decimals magnitude),
              );
          stored =
              stored
              ∙ ap (λ (l : List ℕ). sets l start (digit_text digits decimals magnitude)) sign.stored
              ∙ sets_behind output (sign_text negative) (digit_text digits decimals magnitude) start sign.bytes
              ∙ ap (λ (t : List ℕ). sets output 0 (sign_text negative ++ t)) e;
        }

    pub plain-put : decimals ≡ 0 → {output' : List ℕ} → output' ≡ sets signed start (last_digits digits magnitude)
        → PutText (text_for most negative magnitude decimals) output (start + digits) output'
    plain-put e stored =
        let text = digit_text_plain digits decimals magnitude e in
        whole-text (stored ∙ ap (sets signed start) (sym text)) (omega (arith, ap length text, last-length digits magnitude))

    pub pointed-put : (decimals ≡ 0 → ⊥) → {output' : List ℕ} → output' ≡ sets signed start (pointed digits decimals magnitude)
        → PutText (text_for most negative magnitude decimals) output (start + digits + 1) output'
    pointed-put n stored =
        let text = digit_text_pointed digits decimals magnitude n in
        whole-text (stored ∙ ap (sets signed start) (sym text)) (omega (arith, ap length text, length-pointed digits decimals magnitude decimals_fit))
