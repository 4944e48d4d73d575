-- The shape of a number's text: a sign or none, digits, and where there are decimals a point and they. Whatever a text is split into, that its
-- parts are those of a number says exactly this.
-- Assumes nothing.
use mathlib.Core.Bool.{Bool, true, false}
use mathlib.Core.List.{List, [], ◌∷◌, ◌++◌, append-nil}
use mathlib.Core.Logic.{◌⊎◌, inl, inr, ◌↔◌}
use mathlib.Core.Path.{◌≡◌, refl, sym, ap, ap₂, ◌∙◌}
use Prim.Native.Nat.{ℕ, ◌+◌, ◌≤◌, ◌<◌}
use native.Mathlib.Omega.{arith}
use lib.Dec.{eqb}
use lib.ListN.{length, get_or, drop}
use borrow.Author.Tests.{ltb-true, lt-ltb, eqb-true, ne_eqb}
use Rattle.laws.specs.Lists.{concat}
use Rattle.laws.proofs.Cases.{equal_or_not}
use Rattle.laws.proofs.Parts.{left_cons}
use Rattle.laws.proofs.Tests.{Tested, passed, failed, tested, never_both, or_first, or_second, or_fails}
use Rattle.table.specs.Leaves.{split}
use Rattle.table.proofs.Splitting.{first_part, other_parts}
use Rattle.value.specs.Numerals.{plus, minus, point, all_digits, unsigned_text, is_negative, are_number, SignIs, no_sign, a_plus, a_minus, behind_point, NumberText}
use Rattle.value.specs.inner.Runs.{digit_run}
use Rattle.value.proofs.DigitTexts.{
  digit_no_plus,
  digit_no_minus,
  digits_first,
  digits_none,
  digits_broken,
  run_digits,
  run_then_rest,
  run-within,
  run-whole,
  run-ended,
}
use Rattle.value.proofs.NumberParts.{split_digits, split-pointed, split-broken, one_part, two_parts, first_part_broken, behind-stopped}
use Rattle.value.proofs.TextsSaid.{unsigned_sign, unsigned_none}

-- what follows the whole digits: nothing, or a point and the decimals
pub behind-none : behind_point [] ≡ []
unfolding behind_point
behind-none = refl

pub behind-some : (s : List ℕ) → 1 ≤ length s → behind_point s ≡ point ∷ s
unfolding behind_point
behind-some [] h = absurd (omega arith)
behind-some (b ∷ s) h = refl

-- a number's text without its sign: digits before the point and behind it, one at least
pub record BareNumber (u : List ℕ) : Type 0 where
  pub whole : List ℕ
  pub decimals : List ℕ
  pub whole_digits : all_digits whole ≡ true
  pub decimal_digits : all_digits decimals ≡ true
  pub some_digit : 1 ≤ length whole + length decimals
  pub shape : u ≡ whole ++ behind_point decimals

-- what it splits into: parts of a number, with those digits and those decimals
pub record BareParts (whole decimals : List ℕ) : Type 0 where
  pub number : are_number (split point (whole ++ behind_point decimals)) ≡ true
  pub joined : concat (split point (whole ++ behind_point decimals)) ≡ whole ++ decimals
  pub second : get_or (split point (whole ++ behind_point decimals)) 1 [] ≡ decimals

pub bare_parts : (whole decimals : List ℕ) → all_digits whole ≡ true → all_digits decimals ≡ true → 1 ≤ length whole + length decimals
    → BareParts whole decimals
unfolding behind_point concat
bare_parts whole [] w d some =
    let parts : split point (whole ++ []) ≡ whole ∷ [] = ap (split point) (append-nil whole) ∙ split_digits whole w in
    record {
      number = rw parts (one_part whole w ∙ lt-ltb 0 (length whole) (omega arith));
      joined = rw parts;
      second = rw parts;
    }
bare_parts whole (b ∷ s) w d some =
    let parts : split point (whole ++ point ∷ b ∷ s) ≡ whole ∷ (b ∷ s) ∷ [] =
    split-pointed whole (b ∷ s) w ∙ ap {B = List (List ℕ)} (λ (ps : List (List ℕ)). whole ∷ ps) (split_digits (b ∷ s) d) in
    record {
      number = rw parts (two_parts whole (b ∷ s) w d ∙ lt-ltb 0 (length (b ∷ s)) (omega arith));
      joined = rw parts (ap (λ (t : List ℕ). whole ++ (b ∷ t)) (append-nil s));
      second = rw parts;
    }

pub bare_number : {u : List ℕ} → BareNumber u → are_number (split point u) ≡ true
bare_number n = rw n.shape (bare_parts n.whole n.decimals n.whole_digits n.decimal_digits n.some_digit).number

-- no other text splits so: its digits go to the end, or to the one point with digits from there to the end
pub number_bare : (u : List ℕ) → are_number (split point u) ≡ true → BareNumber u
number_bare u number = go (equal_or_not (length (digit_run u)) (length u))
  where
    stop : ℕ
    stop = get_or u (length (digit_run u)) 0

    rest : List ℕ
    rest = drop (length (digit_run u) + 1) u

    broken : length (digit_run u) < length u → u ≡ digit_run u ++ stop ∷ rest
    broken h = run_then_rest u ∙ ap (λ (t : List ℕ). digit_run u ++ t) (left_cons u (length (digit_run u)) 0 h)

    two : stop ≡ point → length (digit_run u) < length u → split point u ≡ digit_run u ∷ split point rest
    two e h = ap (split point) (broken h ∙ ap (λ (b : ℕ). digit_run u ++ b ∷ rest) e) ∙ split-pointed (digit_run u) rest (run_digits u)

    behind : stop ≡ point → length (digit_run u) < length u → (length (digit_run rest) ≡ length rest) ⊎ (length (digit_run rest) ≡ length rest → ⊥) → BareNumber u
    behind e h (inl ends) =
        let digits : all_digits rest ≡ true = rw (run-whole rest ends) (run_digits rest) in
        let some : 1 ≤ length rest =
        ltb-true 0 (length rest)
        (sym (two_parts (digit_run u) rest (run_digits u) digits)
        ∙ sym (ap {B = Bool} (λ (ps : List (List ℕ)). are_number (digit_run u ∷ ps)) (split_digits rest digits)) ∙ sym (ap are_number (two e h)) ∙ number) in
        record {
          whole = digit_run u;
          decimals = rest;
          whole_digits = run_digits u;
          decimal_digits = digits;
          some_digit = omega arith;
          shape = broken h ∙ ap (λ (b : ℕ). digit_run u ++ b ∷ rest) e ∙ ap (λ (t : List ℕ). digit_run u ++ t) (sym (behind-some rest some));
        }
    behind e h (inr short) =
        absurd (never_both number (ap are_number (two e h) ∙ behind-stopped (digit_run u) rest (omega (arith, short, run-within rest))))

    stopped : length (digit_run u) < length u → (stop ≡ point) ⊎ (stop ≡ point → ⊥) → BareNumber u
    stopped h (inl e) = behind e h (equal_or_not (length (digit_run rest)) (length rest))
    stopped h (inr other) =
        absurd (never_both number
        (ap are_number (ap (split point) (broken h) ∙ split-broken (digit_run u) stop rest (run_digits u) other)
        ∙ first_part_broken (digit_run u ++ stop ∷ first_part point rest) (other_parts point (stop ∷ rest))
        (digits_broken (digit_run u) stop (first_part point rest) (run-ended u h))))

    go : (length (digit_run u) ≡ length u) ⊎ (length (digit_run u) ≡ length u → ⊥) → BareNumber u
    go (inl ends) =
        let digits : all_digits u ≡ true = rw (run-whole u ends) (run_digits u) in
        record {
          whole = u;
          decimals = [];
          whole_digits = digits;
          decimal_digits = digits_none;
          some_digit = omega (arith, ltb-true 0 (length u) (sym (one_part u digits) ∙ sym (ap are_number (split_digits u digits)) ∙ number));
          shape = sym (ap (λ (t : List ℕ). u ++ t) behind-none ∙ append-nil u);
        }
    go (inr short) = stopped (omega (arith, short, run-within u)) (equal_or_not stop point)

-- it begins with a digit or a point, so with no sign
pub bare_unsigned : (whole decimals : List ℕ) → all_digits whole ≡ true → 1 ≤ length whole + length decimals
    → (eqb (get_or (whole ++ behind_point decimals) 0 0) plus ≡ false) × (eqb (get_or (whole ++ behind_point decimals) 0 0) minus ≡ false)
unfolding behind_point
bare_unsigned [] [] w some = absurd (omega arith)
bare_unsigned [] (b ∷ s) w some = (refl, refl)
bare_unsigned (b ∷ s) d w some = (digit_no_plus b (digits_first b s w), digit_no_minus b (digits_first b s w))

-- a text is its sign and what stands behind it
pub record Parted (text : List ℕ) : Type 0 where
  pub sign : List ℕ
  pub is : SignIs sign (is_negative text)
  pub text_is : text ≡ sign ++ unsigned_text text

pub parted : (text : List ℕ) → Parted text
unfolding unsigned_text is_negative
parted [] = record { sign = []; is = no_sign; text_is = refl }
parted (b ∷ s) = go (tested (eqb b plus)) (tested (eqb b minus))
  where
    go : Tested (eqb b plus) → Tested (eqb b minus) → Parted (b ∷ s)
    go (passed p) m =
        let e : b ≡ plus = eqb-true b plus p in
        let other : eqb b minus ≡ false = ne_eqb b minus (λ k. omega arith) in
        record {
          sign = plus ∷ [];
          is = rw other a_plus;
          text_is = ap₂ (λ (c : ℕ) (t : List ℕ). c ∷ t) e (sym (unsigned_sign b s (or_first (eqb b minus) p)));
        }
    go (failed p) (passed m) =
        record {
          sign = minus ∷ [];
          is = rw m a_minus;
          text_is = ap₂ (λ (c : ℕ) (t : List ℕ). c ∷ t) (eqb-true b minus m) (sym (unsigned_sign b s (or_second (eqb b plus) m)));
        }
    go (failed p) (failed m) = record { sign = []; is = rw m no_sign; text_is = sym (unsigned_none b s (or_fails p m)) }

-- and a sign before a number without one comes off again
unsigned_bare : (u : List ℕ) → eqb (get_or u 0 0) plus ≡ false → eqb (get_or u 0 0) minus ≡ false → (unsigned_text u ≡ u) × (is_negative u ≡ false)
unfolding unsigned_text is_negative
unsigned_bare [] p m = (refl, m)
unsigned_bare (b ∷ s) p m = (unsigned_none b s (or_fails p m), m)

pub signed_apart : {sign : List ℕ} {negative : Bool} (u : List ℕ) → SignIs sign negative → eqb (get_or u 0 0) plus ≡ false → eqb (get_or u 0 0) minus ≡ false
    → (unsigned_text (sign ++ u) ≡ u) × (is_negative (sign ++ u) ≡ negative)
unfolding unsigned_text is_negative
signed_apart u no_sign p m = unsigned_bare u p m
signed_apart u a_plus p m = (refl, refl)
signed_apart u a_minus p m = (refl, refl)

-- a sign before a number without one: what comes off, and whether it is a minus
pub bare_apart : {sign : List ℕ} {negative : Bool} {u : List ℕ} → SignIs sign negative → BareNumber u
    → (unsigned_text (sign ++ u) ≡ u) × (is_negative (sign ++ u) ≡ negative)
bare_apart {u = u} is n =
    let none = bare_unsigned n.whole n.decimals n.whole_digits n.some_digit in
    signed_apart u is (rw n.shape none.0) (rw n.shape none.1)

-- so that the parts of a text are those of a number says that it has the shape of one (D1)
pub bare_of : {text : List ℕ} (t : NumberText text) → BareNumber (t.whole ++ behind_point t.decimals)
bare_of t =
    record {
      whole = t.whole;
      decimals = t.decimals;
      whole_digits = t.whole_digits;
      decimal_digits = t.decimal_digits;
      some_digit = t.some_digit;
      shape = refl;
    }

abbrev pub shaped : (text : List ℕ) → are_number (split point (unsigned_text text)) ≡ true → NumberText text
shaped text h =
    let n = number_bare (unsigned_text text) h in
    let p = parted text in
    record {
      sign = p.sign;
      negative = is_negative text;
      sign_is = p.is;
      whole = n.whole;
      decimals = n.decimals;
      whole_digits = n.whole_digits;
      decimal_digits = n.decimal_digits;
      some_digit = n.some_digit;
      shape = p.text_is ∙ ap (λ (t : List ℕ). p.sign ++ t) n.shape;
    }

pub number_exactly : (text : List ℕ) → (are_number (split point (unsigned_text text)) ≡ true) ↔ NumberText text
number_exactly text = (shaped text, split_so)
  where
    split_so : NumberText text → are_number (split point (unsigned_text text)) ≡ true
    split_so t =
        let bare = bare_of t in
        ap (λ (s : List ℕ). are_number (split point s)) (ap unsigned_text t.shape ∙ (bare_apart t.sign_is bare).0) ∙ bare_number bare
