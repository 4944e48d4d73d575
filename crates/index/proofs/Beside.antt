-- A code beside the one at a place: the turns of the loop that compares them byte by byte.
-- Assumes nothing.
use mathlib.Core.Bool.{true, false}
use mathlib.Core.List.{List, [], ◌∷◌}
use mathlib.Core.Path.{◌≡◌, sym, ap, ap₂, ◌∙◌}
use Prim.Native.Nat.{ℕ, suc, ◌+◌, ◌-◌, ◌<◌, ◌≤◌}
use native.Mathlib.Omega.{arith}
use borrow.Author.Tests.{lt-ltb, le-ltb}
use lib.Dec.{ltb}
use lib.ListN.{length, get_or, drop, drop_of_length-le}
use Rattle.laws.proofs.Parts.{left_cons}
use Rattle.index.specs.declared.code.Compared.{Compared}
use Rattle.index.specs.declared.code.Compared.TheVariants.{Before, Same, After}
use Rattle.index.specs.inner.Comparing.{compared}

-- before the turn at k: what is left of both stands to each other as they do
pub record Beside (codes : List ℕ) (at : ℕ) (code : List ℕ) (n k : ℕ) : Type 0 where
  pub within : k ≤ length code
  pub short : k ≤ n
  pub rest : compared (drop k code) (n - k) (drop (at + (k + 1)) codes) ≡ compared code (get_or codes at 0) (drop (at + 1) codes)

pub beside_begins : (codes : List ℕ) (at : ℕ) (code : List ℕ) (n : ℕ) → n ≡ get_or codes at 0 → Beside codes at code n 0
beside_begins codes at code n e =
    record {
      within = omega arith;
      short = omega arith;
      rest = ap (λ (m : ℕ). compared code m (drop (at + 1) codes)) (let all : n - 0 ≡ get_or codes at 0 = omega (arith, e) in all);
    }

module _ {codes : List ℕ} {at : ℕ} {code : List ℕ} {n k : ℕ} (u : Beside codes at code n k) where
  abbrev whole : Compared
  whole = compared code (get_or codes at 0) (drop (at + 1) codes)

  -- with what is known of the three parts
  by_parts : (c : List ℕ) (m : ℕ) → drop k code ≡ c → n - k ≡ m → compared c m (drop (at + (k + 1)) codes) ≡ whole
  by_parts c m e f = sym (ap₂ (λ (d : List ℕ) (j : ℕ). compared d j (drop (at + (k + 1)) codes)) e f) ∙ u.rest

  -- the place's code ends first, or the code does, or both do
  pub beside_shorter : k < length code → k ≡ n → After ≡ whole
  unfolding compared
  beside_shorter h e = by_parts (get_or code k 0 ∷ drop (k + 1) code) 0 (left_cons code k 0 h) (omega arith)

  pub beside_same : length code ≤ k → k ≡ n → Same ≡ whole
  unfolding compared
  beside_same h e = by_parts [] 0 (drop_of_length-le code h) (omega arith)

  pub beside_longer : length code ≤ k → (k ≡ n → ⊥) → Before ≡ whole
  unfolding compared
  beside_longer h e = by_parts [] (suc (n - (k + 1))) (drop_of_length-le code h) (omega (arith, e, u.short))

  module _ (room : at + length code < length codes) (h : k < length code) (more : k ≡ n → ⊥) where
    abbrev here : ℕ
    here = get_or code k 0

    abbrev there : ℕ
    there = get_or codes (at + (k + 1)) 0

    turn :
        ◌≡◌ {A = Compared}
        (elim (ltb here there) [
          | true ↦ Before
          | false ↦ elim (ltb there here) [ true ↦ After | false ↦ compared (drop (k + 1) code) (n - (k + 1)) (drop (at + (k + 1) + 1) codes) ]
        ])
        whole
    unfolding compared
    turn =
        sym
        (ap (λ (s : List ℕ). compared (here ∷ drop (k + 1) code) (suc (n - (k + 1))) s) (left_cons codes (at + (k + 1)) 0 (omega arith)))
        ∙ by_parts (here ∷ drop (k + 1) code) (suc (n - (k + 1))) (left_cons code k 0 h) (omega (arith, more, u.short))

    pub beside_less : here < there → Before ≡ whole
    beside_less l = rw (lt-ltb here there l) at turn

    pub beside_greater : (here ≡ there → ⊥) → there ≤ here → After ≡ whole
    beside_greater d l = rw (le-ltb here there l, lt-ltb there here (omega (arith, d, l))) at turn

    pub beside_alike : here ≡ there → Beside codes at code n (k + 1)
    beside_alike e =
        record {
          within = omega arith;
          short = omega (arith, more, u.short);
          rest =
              ap (λ (i : ℕ). compared (drop (k + 1) code) (n - (k + 1)) (drop i codes))
              (let i : at + (k + 1 + 1) ≡ at + (k + 1) + 1 = omega arith in i)
              ∙ (rw (le-ltb here there (omega (arith, e)), le-ltb there here (omega (arith, e))) at turn);
        }
