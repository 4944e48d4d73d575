-- The codes of the pseudo-analyses (R2): which of them a text is, and which one a row has. No two are the same, so a row has a code exactly where that
-- is the one it is found to have.
-- Assumes nothing.
use mathlib.Core.Bool.{Bool, true, false}
use mathlib.Core.List.{List}
use mathlib.Core.Path.{◌≡◌, refl, sym, ap, ◌∙◌}
use Prim.Native.Nat.{ℕ, zero, suc, ◌+◌, ◌<◌}
use native.Mathlib.Omega.{arith}
use borrow.Author.Tests.{eq-eqb, ne_eqb}
use lib.Dec.{eqb}
use lib.ListN.{take, drop}
use Rattle.laws.specs.Lists.{same}
use Rattle.laws.specs.Tables.{passing}
use Rattle.laws.specs.Texts.{bytes}
use Rattle.laws.proofs.Lists.{same_equal}
use Rattle.laws.proofs.Passing.{Passing, passing_begins, passing_on, passing-found, passing-done, found_first}
use Rattle.laws.proofs.Tests.{Tested, passed, failed, tested, never_both}
use Rattle.table.specs.Lent.{Lent}
use Rattle.table.specs.Rows.{kind_in}
use Rattle.look.specs.declared.leaf.Sought.{Sought}
use Rattle.look.specs.declared.leaf.Sought.TheVariants.{At, Empty, NotThere}
use Rattle.look.specs.Looking.{result_kind, says_text, text_found}
use Rattle.screen.specs.Rules.{codes}
use Rattle.screen.specs.Meeting.{has_code, sought_of}
use Rattle.screen.specs.inner.Rows.{text_in}
use Rattle.screen.specs.inner.Counting.{code_count, code_named, first_code, code_of, code_in}

-- which code a text is: the codes are tried in turn
module _ (text : List ℕ) where
  abbrev pub is_named : ℕ → Bool
  is_named k = same text (code_named k)

  abbrev pub CodesTried : ℕ → Type 0
  CodesTried k = Passing is_named 0 code_count k

  pub tried-none : CodesTried 0
  tried-none = passing_begins is_named 0 code_count (omega arith)

  module _ {k : ℕ} (w : CodesTried k) (h : k < code_count) where
    pub other-code : same text (code_named k) ≡ false → CodesTried (k + 1)
    other-code e = passing_on is_named w h e

    pub this_code : same text (code_named k) ≡ true → k ≡ code_of text
    unfolding code_of
    this_code e = passing-found is_named w h e

  pub no_code : CodesTried code_count → code_count ≡ code_of text
  unfolding code_of
  no_code w = passing-done is_named w (omega arith)

-- each code is found to be itself
own_code : (k : ℕ) → k < code_count → code_of (code_named k) ≡ k
unfolding code_of passing same codes bytes
own_code zero h = refl
own_code (suc zero) h = refl
own_code (suc (suc zero)) h = refl
own_code (suc (suc (suc zero))) h = refl
own_code (suc (suc (suc (suc k)))) h = absurd (omega (arith, h))

-- what a code is found to be passes the test for it
found-code : (test : ℕ → Bool) (k : ℕ) → k < code_count → first_code test ≡ k → test k ≡ true
found-code test k h e =
    ap test (sym e) ∙ (found_first test 0 code_count (first_code test) (omega arith) refl (λ q. omega (arith, q, e, h))).passes

pub same_code : (text : List ℕ) (k : ℕ) → k < code_count → same text (code_named k) ≡ eqb (code_of text) k
unfolding code_of
same_code text k h = by (tested (same text (code_named k)))
  where
    by : Tested (same text (code_named k)) → same text (code_named k) ≡ eqb (code_of text) k
    by (passed e) = e ∙ sym (eq-eqb (code_of text) k (ap code_of (same_equal text (code_named k) e) ∙ own_code k h))
    by (failed e) = e ∙ sym (ne_eqb (code_of text) k (λ q. never_both (found-code (λ j. same text (code_named j)) k h q) e))

-- the same of what was sought
sought_code : (text : List ℕ) (s : Sought) (k : ℕ) → k < code_count
    → says_text text (code_named k) s ≡ eqb (first_code (λ j. says_text text (code_named j) s)) k
unfolding says_text code_of passing
sought_code text (At start n) k h = same_code (take n (drop start text)) k h
sought_code text Empty k h = sym (ne_eqb code_count k (λ q. omega (arith, q, h)))
sought_code text NotThere k h = sym (ne_eqb code_count k (λ q. omega (arith, q, h)))

-- the same by the text that was found
found-text : (text : List ℕ) (s : Sought) → code_of (text_found text s) ≡ first_code (λ k. says_text text (code_named k) s)
unfolding code_of text_found says_text passing same codes bytes
found-text text (At start n) = refl
found-text text Empty = refl
found-text text NotThere = refl

-- the code of a row
module _ (t : Lent) (i : ℕ) where
  pub no_result : (kind_in t.segment_rows i ≡ result_kind → ⊥) → code_count ≡ code_in t i
  unfolding code_in
  no_result n = rw (ne_eqb (kind_in t.segment_rows i) result_kind n, code_in)

  module _ (kind : kind_in t.segment_rows i ≡ result_kind) where
    abbrev sought : Sought
    sought = sought_of t i 4 1

    by_sought : {s : Sought} → s ≡ sought → first_code (λ k. says_text t.text (code_named k) s) ≡ code_in t i
    unfolding code_in
    by_sought e =
        ap (λ (s : Sought). first_code (λ k. says_text t.text (code_named k) s)) e
        ∙ sym (rw (eq-eqb (kind_in t.segment_rows i) result_kind kind, code_in))

    pub code-text : code_of (text_in t i 4 1) ≡ code_in t i
    code-text = found-text t.text sought ∙ by_sought refl

    -- it has a code exactly where that is the one it is found to have
    pub row-code : (k : ℕ) → k < code_count → has_code t (code_named k) i ≡ eqb (code_in t i) k
    row-code k h = sought_code t.text sought k h ∙ ap (λ (n : ℕ). eqb n k) (by_sought refl)
