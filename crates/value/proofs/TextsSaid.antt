-- What a text says behind its sign, told by the digits that it begins with, the byte that ends them
-- and the digits behind that: each way out of `read_numeral` is a law here.
-- Assumes nothing.
use mathlib.Core.Bool.{Bool, true, false, ◌||◌}
use mathlib.Core.List.{List, [], ◌∷◌, ◌++◌, append-nil}
use mathlib.Core.Path.{◌≡◌, refl, sym, ap, ap₂, ◌∙◌}
use Prim.Native.Nat.{ℕ, ◌+◌, ◌-◌, ◌≤◌, ◌<◌}
use native.Mathlib.Omega.{arith}
use lib.Dec.{eqb}
use lib.ListN.{length, get_or, take, drop, length-append, length-drop}
use lib.Seq.{get_or-drop, take-length}
use borrow.Author.Tests.{eq-eqb, ne_eqb}
use Rattle.laws.proofs.Parts.{left_cons}
use Rattle.laws.proofs.Tests.{or_first, or_second, or_fails}
use Rattle.laws.specs.Lists.{concat}
use Rattle.table.specs.Leaves.{split}
use Rattle.table.proofs.Splitting.{first_part, other_parts}
use Rattle.value.specs.Refusals.{not_a_number}
use Rattle.value.specs.Numerals.{Numeral, plus, minus, point, is_digit, all_digits, unsigned_text, is_negative, made_by, says_none, said_by, numeral_of}
use Rattle.value.specs.inner.Runs.{digit_run, with_digits, run_of, judged_digits}
use Rattle.value.proofs.DigitTexts.{digits_append, digits_broken, run_digits, run-ended, run_then_rest, run-whole, run-within, with_append, with_made}
use Rattle.value.proofs.NumberParts.{behind-stopped, first_part_broken, one_part, said-judged, said-none, split-broken, split_digits, split-pointed, two_parts}

-- what stands behind the sign of a text
module _ (b : ℕ) (s : List ℕ) where
  pub unsigned_sign : (eqb b plus || eqb b minus) ≡ true → unsigned_text (b ∷ s) ≡ s
  unfolding unsigned_text
  unsigned_sign h = rw (h, unsigned_text)

  pub unsigned_none : (eqb b plus || eqb b minus) ≡ false → unsigned_text (b ∷ s) ≡ b ∷ s
  unfolding unsigned_text
  unsigned_none h = rw (h, unsigned_text)

-- a part to the end, as the code takes it, and how it begins
abbrev pub part_from : ℕ → List ℕ → List ℕ
part_from n s = take (length s - n) (drop n s)

pub part_from_is : (n : ℕ) (s : List ℕ) → part_from n s ≡ drop n s
part_from_is n s = ap (λ (k : ℕ). take k (drop n s)) (sym (length-drop n s)) ∙ take-length (drop n s)

pub part_begins : (n : ℕ) (s : List ℕ) {b : ℕ} → 1 ≤ length (part_from n s) → get_or (part_from n s) 0 0 ≡ b → drop n s ≡ b ∷ part_from 1 (part_from n s)
part_begins n s {b} h e =
    sym (part_from_is n s)
    ∙ left_cons (part_from n s) 0 0 h
    ∙ ap₂ {C = List ℕ} (λ (a : ℕ) (r : List ℕ). a ∷ r) e (sym (part_from_is 1 (part_from n s)))

pub part_empty : (n : ℕ) (s : List ℕ) → length (part_from n s) < 1 → drop n s ≡ []
part_empty n s h = sym (part_from_is n s) ∙ none (part_from n s) h
  where
    none : (r : List ℕ) → length r < 1 → r ≡ []
    none [] l = refl
    none (b ∷ r) l = absurd (omega (arith, l))

-- what stands behind the sign, by the first byte
pub behind_plus : (text : List ℕ) → get_or text 0 0 ≡ plus → part_from 1 text ≡ unsigned_text text
behind_plus [] e = absurd (omega (arith, e))
behind_plus (b ∷ s) e = part_from_is 1 (b ∷ s) ∙ sym (unsigned_sign b s (or_first (eqb b minus) (eq-eqb b plus e)))

pub behind_minus : (text : List ℕ) → get_or text 0 0 ≡ minus → part_from 1 text ≡ unsigned_text text
behind_minus [] e = absurd (omega (arith, e))
behind_minus (b ∷ s) e = part_from_is 1 (b ∷ s) ∙ sym (unsigned_sign b s (or_second (eqb b plus) (eq-eqb b minus e)))

pub no_sign : (text : List ℕ) → (get_or text 0 0 ≡ plus → ⊥) → (get_or text 0 0 ≡ minus → ⊥) → text ≡ unsigned_text text
unfolding unsigned_text
no_sign [] p m = refl
no_sign (b ∷ s) p m = sym (unsigned_none b s (or_fails (ne_eqb b plus p) (ne_eqb b minus m)))

pub no_byte : (text : List ℕ) → length text < 1 → text ≡ unsigned_text text
unfolding unsigned_text
no_byte [] h = refl
no_byte (b ∷ s) h = absurd (omega (arith, h))

-- what a text says, by its sign, what stands behind it and the digits that this begins with
module _ (most : ℕ) (text : List ℕ) {negative : Bool} (signed : negative ≡ is_negative text) {bare : List ℕ} (behind_sign : bare ≡ unsigned_text text)
    {run : ℕ × ℕ} (first : run ≡ run_of most bare 0) where
  said_behind : (parts : List (List ℕ)) → split point bare ≡ parts → said_by most negative parts ≡ numeral_of most text
  unfolding numeral_of
  said_behind parts e =
      ap₂ (λ (n : Bool) (ps : List (List ℕ)). said_by most n ps) signed (sym e ∙ ap (split point) behind_sign)

  count_is : run.0 ≡ length (digit_run bare)
  unfolding run_of
  count_is = ap (λ (r : ℕ × ℕ). r.0) first

  made_is : run.1 ≡ with_digits most 0 (digit_run bare)
  unfolding run_of
  made_is = ap (λ (r : ℕ × ℕ). r.1) first

  pub count_within : run.0 ≤ length bare
  count_within = omega (arith, count_is, run-within bare)

  -- digits to the end
  pub said_whole : drop run.0 bare ≡ [] → {n : Numeral} → n ≡ judged_digits most negative run.0 run.0 run.1 0 → n ≡ numeral_of most text
  unfolding concat
  said_whole e {n} is =
      let digits = digit_run bare in
      is
      ∙ (λ i. judged_digits most negative (count_is i) (count_is i) (made_is i) 0)
      ∙ sym (said-judged most negative (digits ∷ []) (length digits) (length digits) (with_digits most 0 digits) (one_part digits (run_digits bare))
      (ap length (append-nil digits))
      (λ few. with_made most 0 0 digits (run_digits bare) (omega arith) (omega arith) ∙ ap (made_by 0) (sym (append-nil digits))))
      ∙ said_behind (digits ∷ [])
      (ap (split point) (run-whole bare (omega (arith, count_is, count_within, length-drop run.0 bare, ap length e))) ∙ split_digits digits (run_digits bare))

  -- digits that end before the end
  module _ {b : ℕ} {rest : List ℕ} (more : drop run.0 bare ≡ b ∷ rest) where
    bare_is : bare ≡ digit_run bare ++ b ∷ rest
    bare_is = run_then_rest bare ∙ ap (λ (t : List ℕ). digit_run bare ++ t) (ap (λ (k : ℕ). drop k bare) (sym count_is) ∙ more)

    ended : is_digit b ≡ false
    ended =
        ap is_digit (ap (λ (s : List ℕ). get_or s 0 0) (sym more) ∙ get_or-drop run.0 bare 0 0 ∙ ap (λ (k : ℕ). get_or bare k 0) (omega (arith, count_is)))
        ∙ run-ended bare (omega (arith, ap length bare_is, length-append (digit_run bare) (b ∷ rest)))

    -- before anything but a point
    pub said_stopped : (b ≡ point → ⊥) → says_none not_a_number ≡ numeral_of most text
    said_stopped other =
        sym (said-none most negative _ (first_part_broken (digit_run bare ++ b ∷ first_part point rest) (other_parts point (b ∷ rest)) (digits_broken (digit_run bare) b (first_part point rest) ended)))
        ∙ said_behind _ (ap (split point) bare_is ∙ split-broken (digit_run bare) b rest (run_digits bare) other)

  -- before a point: the parts are they and those of what stands behind it
  module _ {rest : List ℕ} (pointed : drop run.0 bare ≡ point ∷ rest) {all : ℕ × ℕ} (second : all ≡ run_of most rest run.1) where
    parts_pointed : split point bare ≡ digit_run bare ∷ split point rest
    parts_pointed = ap (split point) (bare_is pointed) ∙ split-pointed (digit_run bare) rest (run_digits bare)

    behind_is : all.0 ≡ length (digit_run rest)
    unfolding run_of
    behind_is = ap (λ (r : ℕ × ℕ). r.0) second

    all_made : all.1 ≡ with_digits most (with_digits most 0 (digit_run bare)) (digit_run rest)
    unfolding run_of
    all_made = ap (λ (r : ℕ × ℕ). r.1) second ∙ ap (λ (m : ℕ). with_digits most m (digit_run rest)) made_is

    -- digits to the end behind the point
    pub said_pointed : all.0 ≡ length rest → {n : Numeral} → n ≡ judged_digits most negative (run.0 + all.0) all.0 all.1 all.0 → n ≡ numeral_of most text
    unfolding concat
    said_pointed ends {n} is =
        let whole = digit_run bare in
        let behind = digit_run rest in
        let whole_digits : all_digits whole ≡ true = run_digits bare in
        let behind_digits : all_digits behind ≡ true = run_digits rest in
        let joined : whole ++ (behind ++ []) ≡ whole ++ behind = ap (λ (t : List ℕ). whole ++ t) (append-nil behind) in
        is
        ∙ (λ i. judged_digits most negative (count_is i + behind_is i) (behind_is i) (all_made i) (behind_is i))
        ∙ sym (said-judged most negative (whole ∷ behind ∷ []) (length whole + length behind) (length behind)
        (with_digits most (with_digits most 0 whole) behind)
        (two_parts whole behind whole_digits behind_digits)
        (ap length joined ∙ length-append whole behind)
        (λ few.
        sym (with_append most 0 whole behind)
        ∙ with_made most 0 0 (whole ++ behind) (digits_append whole behind whole_digits behind_digits) (omega arith) (omega (arith, length-append whole behind))
        ∙ ap (made_by 0) (sym joined)))
        ∙ said_behind (whole ∷ behind ∷ [])
        (parts_pointed
        ∙ ap {B = List (List ℕ)} (λ (ps : List (List ℕ)). whole ∷ ps)
        (ap (split point) (run-whole rest (omega (arith, ends, behind_is))) ∙ split_digits behind behind_digits))

    -- digits that end before the end
    pub said_pointed_stopped : (all.0 ≡ length rest → ⊥) → says_none not_a_number ≡ numeral_of most text
    said_pointed_stopped stopped =
        sym (said-none most negative (digit_run bare ∷ split point rest)
        (behind-stopped (digit_run bare) rest (omega (arith, (λ (e : length (digit_run rest) ≡ length rest). stopped (behind_is ∙ e)), run-within rest))))
        ∙ said_behind (digit_run bare ∷ split point rest) parts_pointed
