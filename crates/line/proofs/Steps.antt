-- The walk's step equations, one for each branch of `inside`, `between` and `walk_from`.
-- Assumes nothing.
use mathlib.Core.Path.{◌≡◌, refl, sym, subst₂}
use mathlib.Core.Logic.{◌⊎◌, inl, inr, ⊎_elim}
use mathlib.Core.List.{List, [], ◌∷◌, ◌++◌}
use Prim.Native.Nat.{ℕ, suc, ◌≤◌, ◌<◌}
use native.Mathlib.Omega.{arith}
use lib.Dec.{lit≤}
use lib.ListN.{length}
use borrow.Author.Tests.{lt-ltb, le-ltb, le-leb, lt-leb, ne_eqb}
use Rattle.laws.proofs.Cases.{less_or_not, equal_or_not}
use Rattle.form.specs.declared.limits.Limits.{Limits}
use Rattle.form.specs.Numbers.{control_byte, long_line, open_line}
use Rattle.line.specs.Lines.{Lines, end, fault, line, CR, space, inside, between, walk_from}

module _ (L : Limits) (at : ℕ) where
  pub inside_nil : (t : List ℕ) → inside L at t [] ≡ fault open_line at
  unfolding inside
  inside_nil t = refl

  pub inside_cr : (t s : List ℕ) → inside L at t (CR ∷ s) ≡ line t (between L (suc at) s)
  unfolding inside
  inside_cr t s = refl

  pub inside_control : (t : List ℕ) (b : ℕ) (s : List ℕ) → (b ≡ CR → ⊥) → b < space → inside L at t (b ∷ s) ≡ fault control_byte at
  unfolding inside
  inside_control t b s other low = rw (ne_eqb b CR other, lt-ltb b space low, inside)

  pub inside-long : (t : List ℕ) (b : ℕ) (s : List ℕ) → space ≤ b → L.line ≤ length t → inside L at t (b ∷ s) ≡ fault long_line at
  unfolding inside
  inside-long t b s text full =
      rw (ne_eqb b CR (λ (e : b ≡ CR). omega arith), le-ltb b space text, le-leb L.line (length t) full, inside)

  pub inside-more : (t : List ℕ) (b : ℕ) (s : List ℕ) → space ≤ b → length t < L.line → inside L at t (b ∷ s) ≡ inside L (suc at) (t ++ (b ∷ [])) s
  unfolding inside
  inside-more t b s text room =
      rw (ne_eqb b CR (λ (e : b ≡ CR). omega arith), le-ltb b space text, lt-leb L.line (length t) room, inside)

  pub between_nil : between L at [] ≡ end
  unfolding between
  between_nil = refl

  pub between-low : (b : ℕ) (s : List ℕ) → b < space → between L at (b ∷ s) ≡ between L (suc at) s
  unfolding between
  between-low b s low = rw (lt-ltb b space low, between)

  pub between-text : (b : ℕ) (s : List ℕ) → space ≤ b → between L at (b ∷ s) ≡ inside L (suc at) (b ∷ []) s
  unfolding between
  between-text b s text = rw (le-ltb b space text, between)

  pub walk_from_nil : walk_from L at [] ≡ end
  unfolding walk_from
  walk_from_nil = refl

  pub walk_from-low : (b : ℕ) (s : List ℕ) → b < space → walk_from L at (b ∷ s) ≡ fault control_byte at
  unfolding walk_from
  walk_from-low b s low = rw (lt-ltb b space low, walk_from)

  pub walk_from-text : (b : ℕ) (s : List ℕ) → space ≤ b → walk_from L at (b ∷ s) ≡ inside L (suc at) (b ∷ []) s
  unfolding walk_from
  walk_from-text b s text = rw (le-ltb b space text, walk_from)

-- a byte ends a line, has no place in one, or is text
pub byte_cases : (b : ℕ) → (b ≡ CR) ⊎ (((b ≡ CR → ⊥) × (b < space)) ⊎ (space ≤ b))
byte_cases b =
    ⊎_elim
    (λ (e : b ≡ CR). inl e)
    (λ (o : b ≡ CR → ⊥). ⊎_elim (λ (l : b < space). inr (inl (o, l))) (λ (t : space ≤ b). inr (inr t)) (less_or_not b space))
    (equal_or_not b CR)

-- Two walks over the same byte go the same way. So what relates their lines, their faults and what they do next relates them; and what
-- holds of one walk is such a relation that says nothing of the other.
module _ (L : Limits) (R : Lines → Lines → Type 0) (at at' : ℕ) (b : ℕ) (s s' : List ℕ) where
  pub inside_both :
      (t : List ℕ)
      → R (line t (between L (suc at) s)) (line t (between L (suc at') s'))
      → ((n : ℕ) → 1 ≤ n → R (fault n at) (fault n at'))
      → (space ≤ b → length t < L.line → R (inside L (suc at) (t ++ (b ∷ [])) s) (inside L (suc at') (t ++ (b ∷ [])) s'))
      → R (inside L at t (b ∷ s)) (inside L at' t (b ∷ s'))
  inside_both t closes faults goes =
      ⊎_elim
      (λ (e : b ≡ CR). rw (e, inside_cr L at t s, inside_cr L at' t s') closes)
      (⊎_elim
      (λ (h : (b ≡ CR → ⊥) × (b < space)).
      subst₂ R (sym (inside_control L at t b s h.0 h.1)) (sym (inside_control L at' t b s' h.0 h.1)) (faults control_byte (lit≤ tt)))
      (λ (h : space ≤ b).
      ⊎_elim
      (λ (room : length t < L.line).
      subst₂ R (sym (inside-more L at t b s h room)) (sym (inside-more L at' t b s' h room)) (goes h room))
      (λ (full : L.line ≤ length t).
      subst₂ R (sym (inside-long L at t b s h full)) (sym (inside-long L at' t b s' h full)) (faults long_line (lit≤ tt)))
      (less_or_not (length t) L.line)))
      (byte_cases b)

  pub between_both :
      R (between L (suc at) s) (between L (suc at') s')
      → (space ≤ b → R (inside L (suc at) (b ∷ []) s) (inside L (suc at') (b ∷ []) s'))
      → R (between L at (b ∷ s)) (between L at' (b ∷ s'))
  between_both stays goes =
      ⊎_elim
      (λ (h : b < space). subst₂ R (sym (between-low L at b s h)) (sym (between-low L at' b s' h)) stays)
      (λ (h : space ≤ b). subst₂ R (sym (between-text L at b s h)) (sym (between-text L at' b s' h)) (goes h))
      (less_or_not b space)

  pub walk_from_both :
      ((n : ℕ) → 1 ≤ n → R (fault n at) (fault n at'))
      → (space ≤ b → R (inside L (suc at) (b ∷ []) s) (inside L (suc at') (b ∷ []) s'))
      → R (walk_from L at (b ∷ s)) (walk_from L at' (b ∷ s'))
  walk_from_both faults goes =
      ⊎_elim
      (λ (h : b < space). subst₂ R (sym (walk_from-low L at b s h)) (sym (walk_from-low L at' b s' h)) (faults control_byte (lit≤ tt)))
      (λ (h : space ≤ b). subst₂ R (sym (walk_from-text L at b s h)) (sym (walk_from-text L at' b s' h)) (goes h))
      (less_or_not b space)
