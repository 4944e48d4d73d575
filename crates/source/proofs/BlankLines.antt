-- Lines and blank lines (rules L2 and E4): of the CRs before a line each ends a line or stands right behind another control byte.
-- Assumes nothing.
use mathlib.Core.Bool.{Bool, true, false, ◌&&◌}
use mathlib.Core.List.{List, [], ◌∷◌, ◌++◌}
use mathlib.Core.Logic.{◌⊎◌, inl, inr, ⊎_elim}
use mathlib.Core.Path.{◌≡◌, refl, sym, ap, ◌∙◌, subst}
use Prim.Native.Nat.{ℕ, zero, suc, ◌+◌, ◌≤◌, ◌<◌}
use native.Mathlib.Omega.{arith}
use lib.Dec.{ltb, eqb}
use lib.ListN.{length, take, drop}
use lib.Seq.{take-add}
use borrow.Author.Tests.{ne_eqb, lt-ltb, le-ltb}
use Rattle.laws.specs.Lists.{count}
use Rattle.laws.proofs.Cases.{equal_or_not, less_or_not}
use Rattle.laws.proofs.Tests.{and_fails_second}
use Rattle.laws.proofs.Lists.{count-append}
use Rattle.form.specs.declared.limits.Limits.{Limits}
use Rattle.line.specs.Lines.{CR, space}
use Rattle.line.specs.Finding.{text_run, low_run, found_at}
use Rattle.line.specs.declared.finder.Found.{Found}
use Rattle.line.specs.declared.finder.Found.TheVariants.{Line, End, Fault}
use Rattle.line.proofs.Runs.{text_run_nil, text_run-more, text_run_stop, low_run_nil, low_run-more, low_run_stop}
use Rattle.line.proofs.Finding.{found_cases, text_ended_cases}
use Rattle.source.specs.Places.{lines_from, place_ahead}
use Rattle.source.specs.Positions.{line_ends, blank_ends, blank_before}
use Rattle.source.proofs.Positions.{ends-CR, ends-other}
use Rattle.source.proofs.Going.{lines-line, onward-line, Stands, nothing, carrying, beginning, stands}

-- what a byte adds to the blank lines: text and a first CR nothing, a CR behind a control byte one
module _ (s : List ℕ) where
  blank_text : (low : Bool) (b : ℕ) → space ≤ b → blank_ends low (b ∷ s) ≡ blank_ends false s
  unfolding blank_ends
  blank_text low b h = rw (and_fails_second low (ne_eqb CR b (λ e. let z : ⊥ = omega (arith, e, h) in z)), le-ltb b space h, blank_ends)

  blank_first : blank_ends false (CR ∷ s) ≡ blank_ends true s
  unfolding blank_ends
  blank_first = refl

  blank_CR : blank_ends true (CR ∷ s) ≡ suc (blank_ends true s)
  unfolding blank_ends
  blank_CR = refl

  blank_control : (b : ℕ) → b < space → (b ≡ CR → ⊥) → blank_ends true (b ∷ s) ≡ blank_ends true s
  unfolding blank_ends
  blank_control b h o = rw (ne_eqb CR b (λ e. o (sym e)), lt-ltb b space h, blank_ends)

-- whether a control byte stands right behind some bytes
unfoldable low_after : Bool → List ℕ → Bool
low_after low [] = low
low_after low (b ∷ s) = low_after (ltb b space) s

blank_append : (low : Bool) (s t : List ℕ) → blank_ends low (s ++ t) ≡ blank_ends low s + blank_ends (low_after low s) t
unfolding blank_ends low_after
blank_append low [] t = let e : blank_ends low t ≡ 0 + blank_ends low t = omega arith in e
blank_append low (b ∷ s) t = by (low && eqb CR b) (blank_append (ltb b space) s t)
  where
    by : (v : Bool) → blank_ends (ltb b space) (s ++ t) ≡ blank_ends (ltb b space) s + blank_ends (low_after (ltb b space) s) t
        → ◌≡◌ {A = ℕ} (elim v [ true ↦ suc (blank_ends (ltb b space) (s ++ t)) | false ↦ blank_ends (ltb b space) (s ++ t) ])
        (elim v [ true ↦ suc (blank_ends (ltb b space) s) | false ↦ blank_ends (ltb b space) s ] + blank_ends (low_after (ltb b space) s) t)
    by true ih = omega (arith, ih)
    by false ih = ih

ends-append : (s t : List ℕ) → line_ends (s ++ t) ≡ line_ends s + line_ends t
unfolding line_ends
ends-append s t = count-append (eqb CR) s t

-- a run of text has no CR, and none behind it is blank
text-ends : (s r : List ℕ) → line_ends (take (text_run s) s ++ r) ≡ line_ends r
text-ends [] r = ap (λ (n : ℕ). line_ends (take n [] ++ r)) text_run_nil
text-ends (b ∷ s) r = ⊎_elim low (text (text-ends s r)) (less_or_not b space)
  where
    low : b < space → line_ends (take (text_run (b ∷ s)) (b ∷ s) ++ r) ≡ line_ends r
    low h = ap (λ (n : ℕ). line_ends (take n (b ∷ s) ++ r)) (text_run_stop b s h)

    text : line_ends (take (text_run s) s ++ r) ≡ line_ends r → space ≤ b → line_ends (take (text_run (b ∷ s)) (b ∷ s) ++ r) ≡ line_ends r
    text ih h =
        ap (λ (n : ℕ). line_ends (take n (b ∷ s) ++ r)) (text_run-more b s h)
        ∙ ends-other b (take (text_run s) s ++ r) (λ e. let z : ⊥ = omega (arith, e, h) in z)
        ∙ ih

text_blank : (low : Bool) (s r : List ℕ) → (low ≡ false) ⊎ (1 ≤ text_run s) → blank_ends low (take (text_run s) s ++ r) ≡ blank_ends false r
text_blank low [] r (inl e) = ap (λ (n : ℕ). blank_ends low (take n [] ++ r)) text_run_nil ∙ ap (λ (v : Bool). blank_ends v r) e
text_blank low [] r (inr h) = absurd (omega (arith, h, text_run_nil))
text_blank low (b ∷ s) r some = ⊎_elim (is_low some) (text (text_blank false s r (inl refl))) (less_or_not b space)
  where
    is_low : (low ≡ false) ⊎ (1 ≤ text_run (b ∷ s)) → b < space → blank_ends low (take (text_run (b ∷ s)) (b ∷ s) ++ r) ≡ blank_ends false r
    is_low (inl e) h = ap (λ (n : ℕ). blank_ends low (take n (b ∷ s) ++ r)) (text_run_stop b s h) ∙ ap (λ (v : Bool). blank_ends v r) e
    is_low (inr some) h = absurd (omega (arith, some, text_run_stop b s h))

    text : blank_ends false (take (text_run s) s ++ r) ≡ blank_ends false r → space ≤ b → blank_ends low (take (text_run (b ∷ s)) (b ∷ s) ++ r) ≡ blank_ends false r
    text ih h =
        ap (λ (n : ℕ). blank_ends low (take n (b ∷ s) ++ r)) (text_run-more b s h)
        ∙ blank_text (take (text_run s) s ++ r) low b h
        ∙ ih

-- each CR in a run of control bytes behind a CR is blank
low_blank : (s : List ℕ) → blank_ends true (take (low_run s) s) ≡ line_ends (take (low_run s) s)
unfolding blank_ends line_ends count
low_blank [] = ap (λ (n : ℕ). blank_ends true (take n [])) low_run_nil ∙ sym (ap (λ (n : ℕ). line_ends (take n [])) low_run_nil)
low_blank (b ∷ s) = ⊎_elim (low (low_blank s)) text (less_or_not b space)
  where
    text : space ≤ b → blank_ends true (take (low_run (b ∷ s)) (b ∷ s)) ≡ line_ends (take (low_run (b ∷ s)) (b ∷ s))
    text h = ap (λ (n : ℕ). blank_ends true (take n (b ∷ s))) (low_run_stop b s h) ∙ sym (ap (λ (n : ℕ). line_ends (take n (b ∷ s))) (low_run_stop b s h))

    one_more : blank_ends true (take (low_run s) s) ≡ line_ends (take (low_run s) s) → b < space → (b ≡ CR) ⊎ (b ≡ CR → ⊥) → blank_ends true (b ∷ take (low_run s) s) ≡ line_ends (b ∷ take (low_run s) s)
    one_more ih h (inl e) =
        ap (λ (c : ℕ). blank_ends true (c ∷ take (low_run s) s)) e
        ∙ blank_CR (take (low_run s) s)
        ∙ ap suc ih
        ∙ sym (ap (λ (c : ℕ). line_ends (c ∷ take (low_run s) s)) e ∙ ends-CR (take (low_run s) s))
    one_more ih h (inr o) = blank_control (take (low_run s) s) b h o ∙ ih ∙ sym (ends-other b (take (low_run s) s) o)

    low : blank_ends true (take (low_run s) s) ≡ line_ends (take (low_run s) s) → b < space
        → blank_ends true (take (low_run (b ∷ s)) (b ∷ s)) ≡ line_ends (take (low_run (b ∷ s)) (b ∷ s))
    low ih h =
        ap (λ (n : ℕ). blank_ends true (take n (b ∷ s))) (low_run-more b s h)
        ∙ one_more ih h (equal_or_not b CR)
        ∙ sym (ap (λ (n : ℕ). line_ends (take n (b ∷ s))) (low_run-more b s h))

-- a line with what is skipped behind it: one CR more than there are blank ones
line-ends : (low : Bool) (s r : List ℕ) → 1 ≤ text_run s
    → line_ends (take (text_run s) s ++ CR ∷ take (low_run r) r) ≡ suc (blank_ends low (take (text_run s) s ++ CR ∷ take (low_run r) r))
line-ends low s r some =
    text-ends s (CR ∷ take (low_run r) r)
    ∙ ends-CR (take (low_run r) r)
    ∙ ap suc (sym (low_blank r) ∙ sym (blank_first (take (low_run r) r)) ∙ sym (text_blank low s (CR ∷ take (low_run r) r) (inr some)))

module _ (L : Limits) (some : 1 ≤ L.line) (m : List ℕ) where
  -- a line that is found at a place: its text, its CR, and what is skipped
  record LineShape (at n : ℕ) : Type 0 where
    rest : List ℕ
    text : 1 ≤ text_run (drop at m)
    ended : drop (text_run (drop at m)) (drop at m) ≡ CR ∷ rest
    next : n ≡ at + (text_run (drop at m) + suc (low_run rest))

  abbrev Shaped : ℕ → Found → Type 0
  Shaped at (Line e n) = LineShape at n
  Shaped at End = Unit
  Shaped at (Fault k p) = Unit

  shaped : (at : ℕ) → Shaped at (found_at L m at)
  shaped at =
      found_cases (Shaped at) L.line at (drop at m)
      (λ e. tt)
      (λ b r e low. tt)
      (λ long over. tt)
      (λ text fits.
      text_ended_cases (Shaped at) (at + text_run (drop at m)) (drop (text_run (drop at m)) (drop at m))
      (λ e. tt)
      (λ b r e o. tt)
      (λ r e. record { rest = r; text = text; ended = e; next = omega arith }))

  -- from one line to the next there is one CR more than there are blank ones
  line_step : (at e n : ℕ) → found_at L m at ≡ Line e n → line_ends (take n m) + blank_before m at ≡ suc (line_ends (take at m) + blank_before m n)
  line_step at e n h =
      let shape : LineShape at n = subst (Shaped at) h (shaped at) in
      let s = drop at m in
      let part = take (text_run s) s ++ CR ∷ take (low_run shape.rest) shape.rest in
      let low = low_after false (take at m) in
      let here : take (text_run s + suc (low_run shape.rest)) s ≡ part
      = take-add (text_run s) (suc (low_run shape.rest)) s ∙ ap (λ (t : List ℕ). take (text_run s) s ++ take (suc (low_run shape.rest)) t) shape.ended in
      let whole : take n m ≡ take at m ++ part
      = ap (λ (k : ℕ). take k m) shape.next
      ∙ take-add at (text_run s + suc (low_run shape.rest)) m
      ∙ ap (λ (t : List ℕ). take at m ++ t) here in
      let ends = ap line_ends whole ∙ ends-append (take at m) part in
      let blanks = ap (blank_ends false) whole ∙ blank_append false (take at m) part in
      omega (arith, ends, blanks, line-ends low s shape.rest shape.text)

  -- after k lines there are k CRs more
  pub lines_step : (k at : ℕ) → k ≤ length (lines_from L m at)
      → line_ends (take (place_ahead L m at k) m) + blank_before m at ≡ k + (line_ends (take at m) + blank_before m (place_ahead L m at k))
  unfolding place_ahead
  lines_step zero at h = omega arith
  lines_step (suc k) at h = by (stands L some m 0 at) (λ n. lines_step k n)
    where
      by_line : (e n : ℕ) → found_at L m at ≡ Line e n
          → (k ≤ length (lines_from L m n) → line_ends (take (place_ahead L m n k) m) + blank_before m n ≡ k + (line_ends (take n m) + blank_before m (place_ahead L m n k)))
          → line_ends (take (place_ahead L m at (suc k)) m) + blank_before m at ≡ suc k + (line_ends (take at m) + blank_before m (place_ahead L m at (suc k)))
      by_line e n q ih =
          let same = onward-line L some m at e n k q in
          omega (
            arith,
            ap (λ (p : ℕ). line_ends (take p m)) same,
            ap (blank_before m) same,
            ih (omega (arith, h, ap length (lines-line L some m at e n q))),
            line_step at e n q,
          )

      by : Stands L some m 0 at
          → ((n : ℕ) → k ≤ length (lines_from L m n)
          → line_ends (take (place_ahead L m n k) m) + blank_before m n ≡ k + (line_ends (take n m) + blank_before m (place_ahead L m n k)))
          → line_ends (take (place_ahead L m at (suc k)) m) + blank_before m at ≡ suc k + (line_ends (take at m) + blank_before m (place_ahead L m at (suc k)))
      by (nothing e b) ih = absurd (omega (arith, h, ap length e))
      by (carrying e n q t b) ih = by_line e n q (ih n)
      by (beginning e n q t b) ih = by_line e n q (ih n)
