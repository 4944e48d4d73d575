-- Comparing two lists of numbers: the turns of a loop that compares them element by element.
-- Assumes nothing.
use mathlib.Core.Bool.{Bool, true, false, ◌&&◌}
use mathlib.Core.List.{List}
use mathlib.Core.Path.{◌≡◌, refl, sym, ap, ap₂, ◌∙◌}
use Prim.Native.Nat.{ℕ, ◌+◌, ◌<◌, ◌≤◌}
use native.Mathlib.Omega.{arith}
use borrow.Author.Tests.{eq-eqb, ne_eqb}
use lib.Dec.{eqb}
use lib.ListN.{length, get_or, drop, drop_of_length-le}
use Rattle.laws.specs.Lists.{same}
use Rattle.laws.proofs.Lists.{different-same}
use Rattle.laws.proofs.Parts.{left_cons}

-- before the turn at i: what is left of both is the same exactly where they are
pub record Comparing (s t : List ℕ) (i : ℕ) : Type 0 where
  pub rest : same (drop i s) (drop i t) ≡ same s t

pub compare_begins : (s t : List ℕ) → Comparing s t 0
compare_begins s t = record { rest = refl }

pub lengths_differ : (s t : List ℕ) → (length s ≡ length t → ⊥) → false ≡ same s t
lengths_differ s t n = sym (different-same {s = s} {t = t} (λ e. n (ap length e)))

module _ (s t : List ℕ) (i : ℕ) (c : Comparing s t i) (alike : length s ≡ length t) where
  turn : i < length s → (eqb (get_or s i 0) (get_or t i 0) && same (drop (i + 1) s) (drop (i + 1) t)) ≡ same s t
  unfolding same
  turn h = sym (ap₂ (λ (a b : List ℕ). same a b) (left_cons s i 0 h) (left_cons t i 0 (omega arith))) ∙ c.rest

  pub compare_equal : i < length s → get_or s i 0 ≡ get_or t i 0 → Comparing s t (i + 1)
  compare_equal h e = record {
    rest = sym (ap (λ (b : Bool). b && same (drop (i + 1) s) (drop (i + 1) t)) (eq-eqb (get_or s i 0) (get_or t i 0) e)) ∙ turn h;
  }

  pub compare_differ : i < length s → (get_or s i 0 ≡ get_or t i 0 → ⊥) → false ≡ same s t
  compare_differ h n =
      sym (ap (λ (b : Bool). b && same (drop (i + 1) s) (drop (i + 1) t)) (ne_eqb (get_or s i 0) (get_or t i 0) n)) ∙ turn h

  pub compare_done : length s ≤ i → true ≡ same s t
  unfolding same
  compare_done h =
      sym (ap₂ (λ (a b : List ℕ). same a b) (drop_of_length-le s h) (drop_of_length-le t (let l : length t ≤ i = omega arith in l))) ∙ c.rest
