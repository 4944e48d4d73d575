-- The parts of a text between its points: how digits split, which parts are those of a number, and what these say.
-- Assumes nothing.
use mathlib.Core.Bool.{Bool, true, false, ◌&&◌}
use mathlib.Core.List.{List, [], ◌∷◌, ◌++◌}
use mathlib.Core.Logic.{◌⊎◌, inl, inr}
use mathlib.Core.Path.{◌≡◌, refl, sym, ap, ◌∙◌}
use Prim.Native.Nat.{ℕ, ◌+◌, ◌^◌, ◌≤◌, ◌<◌}
use native.Mathlib.Nat.{le_trans, one-le-pow, zero-lt-suc}
use native.Mathlib.Omega.{arith}
use lib.Dec.{ltb}
use lib.ListN.{length, get_or, drop, length-append}
use borrow.Author.Tests.{lt-ltb, le-ltb, eq-eqb, ne_eqb}
use Rattle.laws.specs.Lists.{concat}
use Rattle.laws.specs.Every.{none, also}
use Rattle.laws.proofs.Cases.{less_or_not, equal_or_not}
use Rattle.laws.proofs.Parts.{left_cons}
use Rattle.laws.proofs.Tests.{Tested, passed, failed, tested, never_both, and_first, and_second, and_passed, and_fails_first, and_fails_second}
use Rattle.table.specs.Leaves.{split}
use Rattle.table.specs.inner.Flat.{Without}
use Rattle.table.proofs.Splitting.{first_part, other_parts, split_parts, split_without, split-joined, split-begun, first_more}
use Rattle.value.specs.Refusals.{not_a_number, many_digits}
use Rattle.value.specs.Numerals.{Numeral, point, all_digits, unsigned_text, is_negative, are_number, made_by, says_none, said_by, numeral_of}
use Rattle.value.specs.inner.Runs.{digit_run, judged_digits}
use Rattle.value.proofs.DigitTexts.{
  digit_no_point,
  digits_append,
  digits_broken,
  digits_first,
  digits_none,
  digits_others,
  made-below,
  power_within,
  run_digits,
  run-ended,
  run_then_rest,
}

-- digits hold no point: they are one part, and before a point the first part
pub digits_without : (s : List ℕ) → all_digits s ≡ true → Without point s
digits_without [] h = none
digits_without (b ∷ s) h = also (digit_no_point b (digits_first b s h)) (digits_without s (digits_others b s h))

pub split_digits : (s : List ℕ) → all_digits s ≡ true → split point s ≡ s ∷ []
split_digits s h = split_without point (digits_without s h)

pub split-pointed : (s r : List ℕ) → all_digits s ≡ true → split point (s ++ point ∷ r) ≡ s ∷ split point r
split-pointed s r h = split-joined point r (digits_without s h)

-- a byte behind digits that is no point belongs to their part
pub split-broken : (s : List ℕ) (b : ℕ) (r : List ℕ) → all_digits s ≡ true → (b ≡ point → ⊥)
    → split point (s ++ b ∷ r) ≡ (s ++ b ∷ first_part point r) ∷ other_parts point (b ∷ r)
split-broken s b r h other =
    split-begun point (b ∷ r) (digits_without s h)
    ∙ ap {B = List (List ℕ)} (λ (t : List ℕ). (s ++ t) ∷ other_parts point (b ∷ r)) (first_more point b r (ne_eqb b point other))

-- the parts of a number: what one part or two ask, and what no parts of a number hold
pub one_part : (s : List ℕ) → all_digits s ≡ true → are_number (s ∷ []) ≡ ltb 0 (length s)
unfolding are_number
one_part s h = and_passed (ltb 0 (length s)) h

pub two_parts : (s t : List ℕ) → all_digits s ≡ true → all_digits t ≡ true → are_number (s ∷ t ∷ []) ≡ ltb 0 (length t)
unfolding are_number
two_parts s t h k = rw (h, k)

pub first_part_broken : (s : List ℕ) (parts : List (List ℕ)) → all_digits s ≡ false → are_number (s ∷ parts) ≡ false
unfolding are_number
first_part_broken s [] h = rw h
first_part_broken s (t ∷ []) h = rw h
first_part_broken s (t ∷ u ∷ parts) h = refl

pub second_part_broken : (s t : List ℕ) (parts : List (List ℕ)) → all_digits t ≡ false → are_number (s ∷ t ∷ parts) ≡ false
unfolding are_number
second_part_broken s t [] h = and_fails_first (ltb 0 (length t)) (and_fails_second (all_digits s) h)
second_part_broken s t (u ∷ parts) h = refl

pub three_parts : (s t u : List ℕ) (parts : List (List ℕ)) → are_number (s ∷ t ∷ u ∷ parts) ≡ false
unfolding are_number
three_parts s t u parts = refl

-- behind a point, digits that end before the end make no number: another point ends them, or a byte that is no digit
pub behind-stopped : (s rest : List ℕ) → length (digit_run rest) < length rest → are_number (s ∷ split point rest) ≡ false
behind-stopped s rest short = go (equal_or_not (get_or rest (length (digit_run rest)) 0) point)
  where
    later : List ℕ
    later = drop (length (digit_run rest) + 1) rest

    broken : rest ≡ digit_run rest ++ get_or rest (length (digit_run rest)) 0 ∷ later
    broken = run_then_rest rest ∙ ap (λ (t : List ℕ). digit_run rest ++ t) (left_cons rest (length (digit_run rest)) 0 short)

    go : (get_or rest (length (digit_run rest)) 0 ≡ point) ⊎ (get_or rest (length (digit_run rest)) 0 ≡ point → ⊥) → are_number (s ∷ split point rest) ≡ false
    go (inl e) =
        ap {B = Bool} (λ (ps : List (List ℕ)). are_number (s ∷ ps))
        (ap (split point) (broken ∙ ap (λ (b : ℕ). digit_run rest ++ b ∷ later) e)
        ∙ split-pointed (digit_run rest) later (run_digits rest)
        ∙ ap {B = List (List ℕ)} (λ (ps : List (List ℕ)). digit_run rest ∷ ps) (split_parts point later))
        ∙ three_parts s (digit_run rest) (first_part point later) (other_parts point later)
    go (inr e) =
        ap {B = Bool} (λ (ps : List (List ℕ)). are_number (s ∷ ps))
        (ap (split point) broken ∙ split-broken (digit_run rest) (get_or rest (length (digit_run rest)) 0) later (run_digits rest) e)
        ∙ second_part_broken s (digit_run rest ++ get_or rest (length (digit_run rest)) 0 ∷ first_part point later)
        (other_parts point (get_or rest (length (digit_run rest)) 0 ∷ later))
        (digits_broken (digit_run rest) (get_or rest (length (digit_run rest)) 0) (first_part point later) (run-ended rest short))

-- what parts say: that they are no number, that they have too many digits, or the number
module _ (most : ℕ) (negative : Bool) (parts : List (List ℕ)) where
  pub said-none : are_number parts ≡ false → said_by most negative parts ≡ says_none not_a_number
  unfolding said_by
  said-none h = rw (h, said_by)

  pub said_many : are_number parts ≡ true → most < length (concat parts) → said_by most negative parts ≡ says_none many_digits
  unfolding said_by
  said_many h k = rw (h, lt-ltb most (length (concat parts)) k, said_by)

  pub said-number : are_number parts ≡ true → length (concat parts) ≤ most
      → said_by most negative parts ≡ record { number = 0; negative = negative; magnitude = made_by 0 (concat parts); decimals = length (get_or parts 1 []) }
  unfolding said_by
  said-number h k = rw (h, le-ltb most (length (concat parts)) k, said_by)

-- what digits are judged to say
module _ (most : ℕ) (negative : Bool) (digits last magnitude decimals : ℕ) where
  pub judged-none : last ≡ 0 → judged_digits most negative digits last magnitude decimals ≡ says_none not_a_number
  unfolding judged_digits
  judged-none h = rw (eq-eqb last 0 h, judged_digits)

  pub judged_many : (last ≡ 0 → ⊥) → most < digits → judged_digits most negative digits last magnitude decimals ≡ says_none many_digits
  unfolding judged_digits
  judged_many h k = rw (ne_eqb last 0 h, lt-ltb most digits k, judged_digits)

  pub judged-number : (last ≡ 0 → ⊥) → digits ≤ most
      → judged_digits most negative digits last magnitude decimals
      ≡ record { number = 0; negative = negative; magnitude = magnitude; decimals = decimals }
  unfolding judged_digits
  judged-number h k = rw (ne_eqb last 0 h, le-ltb most digits k, judged_digits)

-- parts say what their digits are judged to say; the number matters only where there are not too many of them
pub said-judged : (most : ℕ) (negative : Bool) (parts : List (List ℕ)) (digits last magnitude : ℕ)
    → are_number parts ≡ ltb 0 last → length (concat parts) ≡ digits → (digits ≤ most → magnitude ≡ made_by 0 (concat parts))
    → said_by most negative parts ≡ judged_digits most negative digits last magnitude (length (get_or parts 1 []))
said-judged most negative parts digits last magnitude number count made = go (equal_or_not last 0) (less_or_not most digits)
  where
    go : (last ≡ 0) ⊎ (last ≡ 0 → ⊥) → (most < digits) ⊎ (digits ≤ most)
        → said_by most negative parts ≡ judged_digits most negative digits last magnitude (length (get_or parts 1 []))
    go (inl h) k =
        said-none most negative parts (number ∙ le-ltb 0 last (omega arith))
        ∙ sym (judged-none most negative digits last magnitude (length (get_or parts 1 [])) h)
    go (inr h) (inl k) =
        said_many most negative parts (number ∙ lt-ltb 0 last (omega arith)) (omega arith)
        ∙ sym (judged_many most negative digits last magnitude (length (get_or parts 1 [])) h k)
    go (inr h) (inr k) =
        said-number most negative parts (number ∙ lt-ltb 0 last (omega arith)) (omega arith)
        ∙ ap {B = Numeral} (λ (m : ℕ). record { number = 0; negative = negative; magnitude = m; decimals = length (get_or parts 1 []) }) (sym (made k))
        ∙ sym (judged-number most negative digits last magnitude (length (get_or parts 1 [])) h k)

-- the digits of parts that are a number, and those behind the point among them
pub number_digits : (parts : List (List ℕ)) → are_number parts ≡ true → all_digits (concat parts) ≡ true
unfolding are_number concat
number_digits [] h = digits_none
number_digits (s ∷ []) h = digits_append s [] (and_first (all_digits s) (ltb 0 (length s)) h) digits_none
number_digits (s ∷ t ∷ []) h =
    let both : (all_digits s && all_digits t) ≡ true = and_first (all_digits s && all_digits t) (ltb 0 (length t)) h in
    digits_append s (t ++ []) (and_first (all_digits s) (all_digits t) both) (digits_append t [] (and_second (all_digits s) (all_digits t) both) digits_none)
number_digits (s ∷ t ∷ u ∷ parts) h = absurd (never_both h refl)

pub decimals-among : (parts : List (List ℕ)) → length (get_or parts 1 []) ≤ length (concat parts)
unfolding concat
decimals-among [] = omega arith
decimals-among (s ∷ []) = omega arith
decimals-among (s ∷ t ∷ parts) = omega (arith, length-append s (t ++ concat parts), length-append t (concat parts))

-- what any text says is a number of so many digits at most, with so many decimals at most
pub record Small (most : ℕ) (n : Numeral) : Type 0 where
  pub few : n.magnitude < 10 ^ most
  pub decimals-few : n.decimals ≤ most

pub none_small : (most : ℕ) {number : ℕ} → Small most (says_none number)
none_small most = record { few = one-le-pow most 10 (zero-lt-suc 9); decimals-few = omega arith }

said_small : (most : ℕ) (negative : Bool) (parts : List (List ℕ)) → Small most (said_by most negative parts)
said_small most negative parts = go (tested (are_number parts)) (less_or_not most (length (concat parts)))
  where
    go : Tested (are_number parts) → (most < length (concat parts)) ⊎ (length (concat parts) ≤ most) → Small most (said_by most negative parts)
    go (failed h) k = rw (said-none most negative parts h) (none_small most)
    go (passed h) (inl k) = rw (said_many most negative parts h k) (none_small most)
    go (passed h) (inr k) =
        rw (said-number most negative parts h k) (
        record {
          few = le_trans (made-below 0 0 (concat parts) (number_digits parts h) (omega arith)) (power_within (0 + length (concat parts)) most (omega arith));
          decimals-few = omega (arith, k, decimals-among parts);
        }
        )

pub numeral_small : (most : ℕ) (text : List ℕ) → Small most (numeral_of most text)
unfolding numeral_of
numeral_small most text = said_small most (is_negative text) (split point (unsigned_text text))
