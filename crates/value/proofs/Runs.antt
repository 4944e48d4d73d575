-- Reading a number as the code goes over its text: the digits in a row.
-- Assumes nothing.
use mathlib.Core.Bool.{true, false}
use mathlib.Core.List.{List, [], ◌∷◌}
use mathlib.Core.Path.{◌≡◌, sym, ap, ap₂, ◌∙◌}
use Prim.Native.Nat.{ℕ, ◌+◌, ◌≤◌, ◌<◌}
use native.Mathlib.Omega.{arith}
use lib.ListN.{length, get_or, drop}
use lib.Seq.{drop-length}
use Rattle.laws.proofs.Parts.{left_cons}
use Rattle.value.specs.Numerals.{is_digit}
use Rattle.value.specs.inner.Runs.{digit_run, with_digit, with_digits, run_of}
use Rattle.value.proofs.DigitTexts.{run_none, run_more, run_stop}

-- what a loop over digits in a row gives whose turn at `end` is next
abbrev pub run_on : (most : ℕ) → List ℕ → (end magnitude : ℕ) → ℕ × ℕ
run_on most text end magnitude = (end + length (digit_run (drop end text)), with_digits most magnitude (digit_run (drop end text)))

-- such a loop: the digits from here on give the whole run
pub record Running (most : ℕ) (text : List ℕ) (before end magnitude : ℕ) : Type 0 where
  pub rest : run_on most text end magnitude ≡ run_of most text before

pub running_begins : (most : ℕ) (text : List ℕ) (before : ℕ) → Running most text before 0 before
unfolding run_of
running_begins most text before = record { rest = ap (λ (n : ℕ). (n, with_digits most before (digit_run text))) (omega arith) }

module _ {most : ℕ} {text : List ℕ} {before end magnitude : ℕ} (r : Running most text before end magnitude) where
  stops : digit_run (drop end text) ≡ [] → (end, magnitude) ≡ run_of most text before
  unfolding with_digits
  stops e =
      ap₂ (λ (n m : ℕ). (n, m)) (omega (arith, ap length e)) (sym (ap (with_digits most magnitude) e)) ∙ r.rest

  pub running_stops : end < length text → is_digit (get_or text end 0) ≡ false → (end, magnitude) ≡ run_of most text before
  running_stops h e = stops (ap digit_run (left_cons text end 0 h) ∙ run_stop (get_or text end 0) (drop (end + 1) text) e)

  pub running_ends : length text ≤ end → end ≤ length text → (length text, magnitude) ≡ run_of most text before
  running_ends h k =
      let e : end ≡ length text = omega (arith, h, k) in
      ap (λ (n : ℕ). (n, magnitude)) (sym e) ∙ stops (ap (λ (n : ℕ). digit_run (drop n text)) e ∙ ap digit_run (drop-length text) ∙ run_none)

  pub running_on : end < length text → is_digit (get_or text end 0) ≡ true → {m : ℕ} → m ≡ with_digit most magnitude (get_or text end 0)
      → Running most text before (end + 1) m
  unfolding with_digits
  running_on h e {m} q =
      let one : digit_run (drop end text) ≡ get_or text end 0 ∷ digit_run (drop (end + 1) text) =
      ap digit_run (left_cons text end 0 h) ∙ run_more (get_or text end 0) (drop (end + 1) text) e in
      record {
        rest =
            ap₂ (λ (n k : ℕ). (n, k)) (omega (arith, ap length one))
            (ap (λ (k : ℕ). with_digits most k (digit_run (drop (end + 1) text))) q ∙ sym (ap (with_digits most magnitude) one))
            ∙ r.rest;
      }
