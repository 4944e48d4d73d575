-- Handing out: what is found at a place is the next step of the walk from there, and where its places lie.
-- Assumes nothing.
use mathlib.Core.Path.{◌≡◌, sym, ap, ap₂, ◌∙◌, subst}
use mathlib.Core.Logic.{⊎_elim}
use mathlib.Core.List.{List, [], ◌∷◌, ◌++◌, append_assoc, append-nil}
use Prim.Native.Nat.{ℕ, suc, ◌+◌, ◌-◌, ◌≤◌, ◌<◌}
use native.Mathlib.Omega.{arith}
use lib.ListN.{length, take, drop, length-append, length-drop}
use lib.Seq.{drop-drop}
use Rattle.laws.proofs.Cases.{less_or_not}
use Rattle.form.specs.declared.limits.Limits.{Limits}
use Rattle.form.specs.Numbers.{long_line}
use Rattle.line.specs.Lines.{fault, line, CR, space, inside, between, walk_from}
use Rattle.line.specs.Finding.{text_run, low_run, found_at}
use Rattle.line.specs.inner.Ending.{handed_out}
use Rattle.line.specs.declared.finder.Found.{Found}
use Rattle.line.specs.declared.finder.Found.TheVariants.{Line, End, Fault}
use Rattle.line.proofs.Steps.{inside_nil, inside_cr, inside_control, inside-long, inside-more, between_nil, between-low, between-text, walk_from_nil, walk_from-low, walk_from-text}
use Rattle.line.proofs.Runs.{text_run_nil, text_run-more, text_run_stop, low_run_nil, low_run-more, low_run_stop, text_run-length, low_run-length, text_run-inside, text_run-next}
use Rattle.line.proofs.Finding.{text_ended_cases, found_cases}

-- runs of a walk

module _ (L : Limits) where
  -- a run of text that fits is taken into the line
  pub inside-run :
      (at : ℕ) (t s : List ℕ)
      → length t + text_run s ≤ L.line
      → inside L at t s ≡ inside L (at + text_run s) (t ++ take (text_run s) s) (drop (text_run s) s)
  inside-run at t [] fits =
      rw text_run_nil (ap₂ (λ (p : ℕ) (u : List ℕ). inside L p u []) (omega arith) (sym (append-nil t)))
  inside-run at t (b ∷ s) fits =
      ⊎_elim
      (λ (l : b < space).
      rw (text_run_stop b s l) (ap₂ (λ (p : ℕ) (u : List ℕ). inside L p u (b ∷ s)) (omega arith) (sym (append-nil t))))
      (λ (h : space ≤ b).
      let e : text_run (b ∷ s) ≡ suc (text_run s) = text_run-more b s h in
      rw e
      (inside-more L at t b s h (omega arith)
      ∙ inside-run (suc at) (t ++ (b ∷ [])) s (omega (arith, length-append t (b ∷ [])))
      ∙ ap₂ (λ (p : ℕ) (u : List ℕ). inside L p u (drop (text_run s) s)) (omega arith) (append_assoc t (b ∷ []) (take (text_run s) s))))
      (less_or_not b space)

  -- one that does not fit ends in the fault 5 at the first byte too many
  pub inside-run-long :
      (at : ℕ) (t s : List ℕ)
      → length t ≤ L.line
      → L.line < length t + text_run s
      → inside L at t s ≡ fault long_line (at + (L.line - length t))
  inside-run-long at t [] room long = absurd (omega (arith, text_run_nil))
  inside-run-long at t (b ∷ s) room long =
      ⊎_elim
      (λ (l : b < space). absurd (omega (arith, text_run_stop b s l)))
      (λ (h : space ≤ b).
      ⊎_elim
      (λ (g : length t < L.line).
      inside-more L at t b s h g
      ∙ inside-run-long (suc at) (t ++ (b ∷ [])) s (omega (arith, length-append t (b ∷ []))) (omega (arith, length-append t (b ∷ []), text_run-more b s h))
      ∙ ap (fault long_line) (omega (arith, length-append t (b ∷ []))))
      (λ (g : L.line ≤ length t). inside-long L at t b s h g ∙ ap (fault long_line) (omega arith))
      (less_or_not (length t) L.line))
      (less_or_not b space)

  -- after a CR the walk goes on behind the bytes below 32
  pub between_run : (at : ℕ) (s : List ℕ) → between L at s ≡ walk_from L (at + low_run s) (drop (low_run s) s)
  between_run at [] = rw low_run_nil (between_nil L at ∙ sym (walk_from_nil L (at + 0)))
  between_run at (b ∷ s) =
      ⊎_elim
      (λ (l : b < space).
      rw (low_run-more b s l)
      (between-low L at b s l ∙ between_run (suc at) s ∙ ap (λ (p : ℕ). walk_from L p (drop (low_run s) s)) (omega arith)))
      (λ (h : space ≤ b).
      rw (low_run_stop b s h)
      (between-text L at b s h ∙ sym (walk_from-text L at b s h) ∙ ap (λ (p : ℕ). walk_from L p (b ∷ s)) (omega arith)))
      (less_or_not b space)

  pub walk_from-run :
      (at : ℕ) (s : List ℕ)
      → 1 ≤ text_run s
      → text_run s ≤ L.line
      → walk_from L at s ≡ inside L (at + text_run s) (take (text_run s) s) (drop (text_run s) s)
  walk_from-run at [] some fits = absurd (omega (arith, text_run_nil))
  walk_from-run at (b ∷ s) some fits =
      let h : space ≤ b = text_run-inside (b ∷ s) 0 some in
      let e : text_run (b ∷ s) ≡ suc (text_run s) = text_run-more b s h in
      rw e
      (walk_from-text L at b s h
      ∙ inside-run (suc at) (b ∷ []) s (omega arith)
      ∙ ap (λ (p : ℕ). inside L p (b ∷ take (text_run s) s) (drop (text_run s) s)) (omega arith))

  pub walk_from-run-long : (at : ℕ) (s : List ℕ) → 1 ≤ L.line → 1 ≤ text_run s → L.line < text_run s → walk_from L at s ≡ fault long_line (at + L.line)
  walk_from-run-long at [] one some long = absurd (omega (arith, text_run_nil))
  walk_from-run-long at (b ∷ s) one some long =
      let h : space ≤ b = text_run-inside (b ∷ s) 0 some in
      walk_from-text L at b s h
      ∙ inside-run-long (suc at) (b ∷ []) s one (omega (arith, text_run-more b s h))
      ∙ ap (fault long_line) (omega arith)

-- where what is found at a place of a message of so many bytes lies
abbrev pub Within : ℕ → ℕ → Found → Type 0
Within at bytes (Line e n) = (at < e) × (e < n) × (n ≤ bytes)
Within at bytes End = Unit
Within at bytes (Fault k p) = (at ≤ p) × (p ≤ bytes)

-- a list that goes on after k elements with a and r: what follows a
after : (k : ℕ) (s : List ℕ) (a : ℕ) (r : List ℕ) → drop k s ≡ a ∷ r → r ≡ drop (k + 1) s
after k s a r e = sym (ap (drop 1) e) ∙ drop-drop 1 k s

module _ (m : List ℕ) (at : ℕ) where
  -- what is left of the message, and the text that it begins with
  abbrev s : List ℕ
  s = drop at m

  abbrev n : ℕ
  n = text_run s

  -- what is left behind a line's CR and the bytes below 32
  left : (r : List ℕ) → drop n s ≡ CR ∷ r → drop (low_run r) r ≡ drop (suc (at + n) + low_run r) m
  left r e =
      let place : at + (n + 1) + low_run r ≡ suc (at + n) + low_run r = omega arith in
      ap (drop (low_run r)) (after n s CR r e ∙ drop-drop (n + 1) at m)
      ∙ drop-drop (low_run r) (at + (n + 1)) m
      ∙ ap (λ (k : ℕ). drop k m) place

  -- What is found at a place is the walk from there: its end, its fault, or its first line and the walk from the next place.
  pub walk_from-found : (L : Limits) → 1 ≤ L.line → walk_from L at (drop at m) ≡ handed_out L m at (found_at L m at)
  unfolding handed_out
  walk_from-found L one =
      found_cases (λ (f : Found). walk_from L at s ≡ handed_out L m at f) L.line at s
      (λ e. ap (walk_from L at) e ∙ walk_from_nil L at)
      (λ b r e low. ap (walk_from L at) e ∙ walk_from-low L at b r low)
      (λ some long. walk_from-run-long L at s one some long)
      (λ some fits.
      text_ended_cases (λ (f : Found). walk_from L at s ≡ handed_out L m at f) (at + n) (drop n s)
      (λ e. walk_from-run L at s some fits ∙ ap (inside L (at + n) (take n s)) e ∙ inside_nil L (at + n) (take n s))
      (λ b r e other.
      walk_from-run L at s some fits
      ∙ ap (inside L (at + n) (take n s)) e
      ∙ inside_control L (at + n) (take n s) b r other (text_run-next s b r e))
      (λ r e.
      let whole : n ≡ at + n - at = omega arith in
      walk_from-run L at s some fits
      ∙ ap (inside L (at + n) (take n s)) e
      ∙ inside_cr L (at + n) (take n s) r
      ∙ ap₂ line (ap (λ (k : ℕ). take k s) whole) (between_run L (suc (at + n)) r ∙ ap (walk_from L (suc (at + n) + low_run r)) (left r e))))

  -- A line lies behind its place, its CR before the next place, and all of it in the message; a fault lies there or at the message's end.
  pub found_within : (L : Limits) → Within at (length m) (found_at L m at)
  found_within L =
      found_cases (Within at (length m)) L.line at s
      (λ e. tt)
      (λ b r e low. omega (arith, ap length e, length-drop at m))
      (λ some long. omega (arith, text_run-length s, length-drop at m))
      (λ some fits.
      text_ended_cases (Within at (length m)) (at + n) (drop n s)
      (λ e. omega (arith, text_run-length s, length-drop at m))
      (λ b r e other. omega (arith, text_run-length s, length-drop at m))
      (λ r e. omega (arith, low_run-length r, ap length e, length-drop n s, length-drop at m)))

-- where a line that was found lies
pub line-within : (L : Limits) (m : List ℕ) (at e n : ℕ) → found_at L m at ≡ Line e n → (at < e) × (e < n) × (n ≤ length m)
line-within L m at e n h = subst (Within at (length m)) h (found_within m at L)

-- The contract of `line_at` leaves one answer for each message and place.
pub one_answer : (L : Limits) (m : List ℕ) (at : ℕ) (r r' : Found) → r ≡ found_at L m at → r' ≡ found_at L m at → r ≡ r'
one_answer L m at r r' e e' = e ∙ sym e'
