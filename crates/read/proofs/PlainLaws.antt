-- How far text, a line and its separators reach, by class: step equations, turns of a loop, and that a line is its text, a separator and the rest.
-- Assumes nothing.
use mathlib.Core.List.{List, [], ◌∷◌, ◌++◌}
use mathlib.Core.Path.{◌≡◌, refl, sym, ap, ◌∙◌}
use Prim.Native.Nat.{ℕ, suc, ◌+◌, ◌<◌}
use native.Mathlib.Numerals.{add-one}
use native.Mathlib.Omega.{arith}
use lib.Dec.{eqb}
use lib.ListN.{length, take, drop, get_or, length-drop}
use lib.Seq.{drop-cons, drop-drop, get_or-drop, take-add, length-take-le}
use borrow.Author.Tests.{eqb-true, eqb-false, eq-eqb, ne_eqb}
use Rattle.laws.proofs.Tests.{Tested, passed, failed, tested}
use Rattle.read.specs.inner.Scanning.{run, marks, plain_run}

-- the text, and the line, from the byte i on
abbrev pub plain_text : List ℕ → List ℕ → ℕ → List ℕ
plain_text class message i = take (plain_run class (drop i message)) (drop i message)

abbrev pub line_from : List ℕ → List ℕ → ℕ → List ℕ
line_from class message i = take (run class (drop i message)) (drop i message)

-- a byte of a class: text, a separator, the end
module _ (class : List ℕ) (b : ℕ) (s : List ℕ) where
  pub plain-text : get_or class b 0 ≡ 0 → plain_run class (b ∷ s) ≡ suc (plain_run class s)
  unfolding plain_run
  plain-text h = rw (eq-eqb (get_or class b 0) 0 h, plain_run)

  pub plain-none : (get_or class b 0 ≡ 0 → ⊥) → plain_run class (b ∷ s) ≡ 0
  unfolding plain_run
  plain-none h = rw (ne_eqb (get_or class b 0) 0 h, plain_run)

  pub run_more : (get_or class b 0 ≡ 5 → ⊥) → run class (b ∷ s) ≡ suc (run class s)
  unfolding run
  run_more h = rw (ne_eqb (get_or class b 0) 5 h, run)

  pub run-ended : get_or class b 0 ≡ 5 → run class (b ∷ s) ≡ 0
  unfolding run
  run-ended h = rw (eq-eqb (get_or class b 0) 5 h, run)

  pub marks-text : get_or class b 0 ≡ 0 → marks class (b ∷ s) ≡ marks class s
  unfolding marks
  marks-text h = rw (ne_eqb (get_or class b 0) 5 (λ e. omega arith), eq-eqb (get_or class b 0) 0 h, marks)

  pub marks-more : (get_or class b 0 ≡ 5 → ⊥) → (get_or class b 0 ≡ 0 → ⊥) → marks class (b ∷ s) ≡ suc (marks class s)
  unfolding marks
  marks-more h k = rw (ne_eqb (get_or class b 0) 5 h, ne_eqb (get_or class b 0) 0 k, marks)

  pub marks-ended : get_or class b 0 ≡ 5 → marks class (b ∷ s) ≡ 0
  unfolding marks
  marks-ended h = rw (eq-eqb (get_or class b 0) 5 h, marks)

-- the same at the byte i of a message, as a loop turns
module _ (class message : List ℕ) (i : ℕ) (within : i < length message) where
  turn {ℓ} : {A : Type ℓ} (f : List ℕ → A) → f (drop i message) ≡ f (get_or message i 0 ∷ drop (i + 1) message)
  turn f = ap f (drop-cons message i 0 within ∙ ap (λ (n : ℕ). get_or message i 0 ∷ drop n message) (sym (add-one i)))

  pub plain_turn : get_or class (get_or message i 0) 0 ≡ 0 → plain_run class (drop i message) ≡ suc (plain_run class (drop (i + 1) message))
  plain_turn h = turn (plain_run class) ∙ plain-text class (get_or message i 0) (drop (i + 1) message) h

  pub plain_stop : (get_or class (get_or message i 0) 0 ≡ 0 → ⊥) → plain_run class (drop i message) ≡ 0
  plain_stop h = turn (plain_run class) ∙ plain-none class (get_or message i 0) (drop (i + 1) message) h

  pub run_turn : (get_or class (get_or message i 0) 0 ≡ 5 → ⊥) → run class (drop i message) ≡ suc (run class (drop (i + 1) message))
  run_turn h = turn (run class) ∙ run_more class (get_or message i 0) (drop (i + 1) message) h

  pub run_stop : get_or class (get_or message i 0) 0 ≡ 5 → run class (drop i message) ≡ 0
  run_stop h = turn (run class) ∙ run-ended class (get_or message i 0) (drop (i + 1) message) h

  pub marks_turn : (get_or class (get_or message i 0) 0 ≡ 5 → ⊥) → (get_or class (get_or message i 0) 0 ≡ 0 → ⊥)
      → marks class (drop i message) ≡ suc (marks class (drop (i + 1) message))
  marks_turn h k = turn (marks class) ∙ marks-more class (get_or message i 0) (drop (i + 1) message) h k

  pub marks_stop : get_or class (get_or message i 0) 0 ≡ 5 → marks class (drop i message) ≡ 0
  marks_stop h = turn (marks class) ∙ marks-ended class (get_or message i 0) (drop (i + 1) message) h

  -- the text from here on begins with this byte; the line's bytes do where it is no end
  pub text_turn : get_or class (get_or message i 0) 0 ≡ 0
      → plain_text class message i ≡ get_or message i 0 ∷ plain_text class message (i + 1)
  text_turn h =
      ap (λ (n : ℕ). take n (drop i message)) (plain_turn h)
      ∙ turn (take (suc (plain_run class (drop (i + 1) message))))

  pub line_turn : (get_or class (get_or message i 0) 0 ≡ 5 → ⊥)
      → line_from class message i ≡ get_or message i 0 ∷ line_from class message (i + 1)
  line_turn h =
      ap (λ (n : ℕ). take n (drop i message)) (run_turn h)
      ∙ turn (take (suc (run class (drop (i + 1) message))))

-- a line is its first text and the line from there on
module _ (class : List ℕ) where
  run_past : (s : List ℕ) → run class s ≡ plain_run class s + run class (drop (plain_run class s) s)
  unfolding run plain_run
  run_past [] = refl
  run_past (b ∷ s) = go (tested (eqb (get_or class b 0) 0)) (run_past s)
    where
      go : Tested (eqb (get_or class b 0) 0) → run class s ≡ plain_run class s + run class (drop (plain_run class s) s)
          → run class (b ∷ s) ≡ plain_run class (b ∷ s) + run class (drop (plain_run class (b ∷ s)) (b ∷ s))
      go (passed h) ih =
          let text : get_or class b 0 ≡ 0 = eqb-true (get_or class b 0) 0 h in
          rw (run_more class b s (λ e. omega arith), plain-text class b s text) (omega arith)
      go (failed h) ih = rw (plain-none class b s (eqb-false (get_or class b 0) 0 h)) (omega arith)

  marks_past : (s : List ℕ) → marks class s ≡ marks class (drop (plain_run class s) s)
  unfolding marks plain_run
  marks_past [] = refl
  marks_past (b ∷ s) = go (tested (eqb (get_or class b 0) 0)) (marks_past s)
    where
      go : Tested (eqb (get_or class b 0) 0) → marks class s ≡ marks class (drop (plain_run class s) s)
          → marks class (b ∷ s) ≡ marks class (drop (plain_run class (b ∷ s)) (b ∷ s))
      go (passed h) ih =
          let text : get_or class b 0 ≡ 0 = eqb-true (get_or class b 0) 0 h in
          rw (marks-text class b s text, plain-text class b s text) ih
      go (failed h) ih = rw (plain-none class b s (eqb-false (get_or class b 0) 0 h)) refl

  -- the byte that the text stops at is none
  past_text : (s : List ℕ) → plain_run class s < length s → get_or class (get_or s (plain_run class s) 0) 0 ≡ 0 → ⊥
  unfolding plain_run
  past_text [] = λ h e. omega arith
  past_text (b ∷ s) = go (tested (eqb (get_or class b 0) 0)) (past_text s)
    where
      go : Tested (eqb (get_or class b 0) 0) → (plain_run class s < length s → get_or class (get_or s (plain_run class s) 0) 0 ≡ 0 → ⊥)
          → plain_run class (b ∷ s) < suc (length s) → get_or class (get_or (b ∷ s) (plain_run class (b ∷ s)) 0) 0 ≡ 0 → ⊥
      go (passed h) ih =
          let text : get_or class b 0 ≡ 0 = eqb-true (get_or class b 0) 0 h in
          rw (plain-text class b s text) (λ less e. ih (omega arith) e)
      go (failed h) ih =
          let other : get_or class b 0 ≡ 0 → ⊥ = eqb-false (get_or class b 0) 0 h in
          rw (plain-none class b s other) (λ less e. other e)

-- the same from the byte i of a message on, with the place where its text stops
module _ (class message : List ℕ) (i stop : ℕ) (stops : stop ≡ i + plain_run class (drop i message)) where
  there : drop (plain_run class (drop i message)) (drop i message) ≡ drop stop message
  there = drop-drop (plain_run class (drop i message)) i message ∙ ap (λ (n : ℕ). drop n message) (sym stops)

  pub run-split : run class (drop i message) ≡ plain_run class (drop i message) + run class (drop stop message)
  run-split =
      run_past class (drop i message)
      ∙ ap (λ (s : List ℕ). plain_run class (drop i message) + run class s) there

  pub marks-split : marks class (drop i message) ≡ marks class (drop stop message)
  marks-split = marks_past class (drop i message) ∙ ap (marks class) there

  pub line-split : line_from class message i ≡ plain_text class message i ++ line_from class message stop
  line-split =
      ap (λ (n : ℕ). take n (drop i message)) run-split
      ∙ take-add (plain_run class (drop i message)) (run class (drop stop message)) (drop i message)
      ∙ ap (λ (s : List ℕ). plain_text class message i ++ take (run class (drop stop message)) s) there

  pub length-text : stop < length message → length (plain_text class message i) ≡ plain_run class (drop i message)
  length-text h = length-take-le (plain_run class (drop i message)) (drop i message) (omega (arith, length-drop i message))

  pub no_text : stop < length message → get_or class (get_or message stop 0) 0 ≡ 0 → ⊥
  no_text h e =
      past_text class (drop i message) (omega (arith, length-drop i message))
      (ap (λ (b : ℕ). get_or class b 0)
      (get_or-drop i message (plain_run class (drop i message)) 0 ∙ ap (λ (n : ℕ). get_or message n 0) (sym stops))
      ∙ e)
