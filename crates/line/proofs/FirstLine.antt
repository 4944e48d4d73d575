-- The first line of a message: text that it begins with, and that fits a line, stands on that line whole.
-- Assumes nothing.
use mathlib.Core.Path.{◌≡◌, sym, ap, ◌∙◌, subst}
use mathlib.Core.List.{List, [], ◌∷◌, ◌++◌, append_assoc, append-nil}
use Prim.Native.Nat.{ℕ, suc, ◌+◌, ◌≤◌}
use native.Mathlib.Omega.{arith}
use lib.ListN.{length}
use Rattle.laws.specs.Every.{also}
use Rattle.form.specs.declared.limits.Limits.{Limits}
use Rattle.line.specs.Lines.{Lines, inside, between, walk, texts, fault_number}
use Rattle.line.specs.inner.Sound.{Text}
use Rattle.line.proofs.Steps.{inside_nil, inside_both, walk_from-text}
use Rattle.line.proofs.Walking.{inside-run}

-- lines of which the first begins with a text
abbrev pub FirstBegins : List ℕ → List (List ℕ) → Type 0
FirstBegins t ls = (rest : List ℕ) × (others : List (List ℕ)) × (ls ≡ (t ++ rest) ∷ others)

module _ (L : Limits) where
  -- where no fault is found, the line begun is given, and more may have come to it
  pub inside-begins : (at : ℕ) (t s : List ℕ) → fault_number (inside L at t s) ≡ 0 → FirstBegins t (texts (inside L at t s))
  unfolding texts fault_number
  inside-begins at t [] = rw (inside_nil L at t) (λ e. absurd (omega arith))
  inside-begins at t (b ∷ s) =
      inside_both L (λ (x y : Lines). fault_number x ≡ 0 → FirstBegins t (texts x)) at at b s s t
      (λ e. ([], texts (between L (suc at) s), ap (λ (r : List ℕ). r ∷ texts (between L (suc at) s)) (sym (append-nil t))))
      (λ n h e. absurd (omega arith))
      (λ text room e. longer (inside-begins (suc at) (t ++ (b ∷ [])) s e))
    where
      longer : {ls : List (List ℕ)} → FirstBegins (t ++ (b ∷ [])) ls → FirstBegins t ls
      longer w = (b ∷ w.0, w.1, w.2 ∙ ap (λ (r : List ℕ). r ∷ w.1) (append_assoc t (b ∷ []) w.0))

  -- so a message's first line begins with it
  pub walk_begins : (u s : List ℕ) → 1 ≤ length u → length u ≤ L.line → Text u → fault_number (walk L (u ++ s)) ≡ 0
      → FirstBegins u (texts (walk L (u ++ s)))
  unfolding walk
  walk_begins [] s some fits text = absurd (omega arith)
  walk_begins (b ∷ u) s some fits (also byte text) =
      subst (λ (ls : Lines). fault_number ls ≡ 0 → FirstBegins (b ∷ u) (texts ls))
      (sym (walk_from-text L 0 b (u ++ s) byte ∙ inside-run L 1 (b ∷ []) u s text (omega arith)))
      (inside-begins (1 + length u) (b ∷ u) s)
