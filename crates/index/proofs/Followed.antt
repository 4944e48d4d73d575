-- Whether the code at a place may stand there, and the turns of the loop that asks it of each place but the first.
-- Assumes nothing.
use mathlib.Core.Bool.{Bool, true, false, ◌&&◌}
use mathlib.Core.List.{List}
use mathlib.Core.Path.{◌≡◌, refl, sym, ap, ◌∙◌}
use Prim.Native.Nat.{ℕ, zero, suc, ◌+◌, ◌-◌, ◌*◌, ◌<◌, ◌≤◌}
use native.Mathlib.Omega.{arith}
use borrow.Author.Tests.{le-leb, lt-leb, leb-true}
use lib.Dec.{leb}
use lib.ListN.{get_or, drop}
use Rattle.laws.proofs.Cases.{at_least_one}
use Rattle.laws.proofs.Tests.{and_second}
use Rattle.index.specs.declared.code.Compared.{Compared}
use Rattle.index.specs.Index.{code_most, place_size}
use Rattle.index.specs.inner.Comparing.{compared}
use Rattle.index.specs.inner.Rising.{is_length, is_behind, code_from, follows_at, rises_from, all_rise}

-- a length by its two tests
module _ (n : ℕ) where
  pub no_length : n ≡ 0 → false ≡ is_length n
  unfolding is_length
  no_length e = rw (lt-leb 1 n (omega (arith, e)))

  pub length_decides : (n ≡ 0 → ⊥) → leb n code_most ≡ is_length n
  unfolding is_length
  length_decides some = rw (le-leb 1 n (at_least_one n some))

  pub length-short : is_length n ≡ true → n ≤ code_most
  unfolding is_length
  length-short e = leb-true n code_most (and_second (leb 1 n) (leb n code_most) e)

-- one place: without a code's length it may not stand, with one the code before it decides
module _ (codes : List ℕ) (at : ℕ) where
  pub no_code_there : false ≡ is_length (get_or codes (at + place_size) 0) → false ≡ follows_at codes at
  unfolding follows_at
  no_code_there e =
      ap (λ (b : Bool). b && is_behind (compared (code_from codes (at + place_size)) (get_or codes at 0) (drop (at + 1) codes))) e

  pub code-there_decides : true ≡ is_length (get_or codes (at + place_size) 0) → {r : Compared}
      → r ≡ compared (code_from codes (at + place_size)) (get_or codes at 0) (drop (at + 1) codes)
      → is_behind r ≡ follows_at codes at
  unfolding follows_at
  code-there_decides e {r} given =
      ap is_behind given
      ∙ ap (λ (b : Bool). b && is_behind (compared (code_from codes (at + place_size)) (get_or codes at 0) (drop (at + 1) codes))) e

-- the loop: so many places are left, up to the last one; what is left rises exactly where all do
pub record StillRising (codes : List ℕ) (n at : ℕ) : Type 0 where
  pub left : ℕ
  pub upto : at + left * place_size ≡ n * place_size
  pub rest : rises_from codes at left ≡ rises_from codes 0 n

pub rising-begins : (codes : List ℕ) (n : ℕ) → StillRising codes n 0
rising-begins codes n = record { left = n; upto = omega arith; rest = refl }

module _ {codes : List ℕ} {n at : ℕ} (u : StillRising codes n at) where
  -- a place is left below the last one
  some_left : at < n * place_size → (u.left ≡ 0 → ⊥)
  some_left h e = omega (arith, h, u.upto, e)

  turn : (h : at < n * place_size) → (follows_at codes at && rises_from codes (at + place_size) (u.left - 1)) ≡ rises_from codes 0 n
  unfolding rises_from
  turn h =
      sym (ap (rises_from codes at) (let e : u.left ≡ suc (u.left - 1) = omega (arith, at_least_one u.left (some_left h)) in e))
      ∙ u.rest

  pub rising-room : at < n * place_size → at + place_size ≤ n * place_size
  rising-room h = omega (arith, u.upto, at_least_one u.left (some_left h))

  pub rising-next : at < n * place_size → true ≡ follows_at codes at → StillRising codes n (at + place_size)
  rising-next h e =
      record {
        left = u.left - 1;
        upto = omega (arith, u.upto, at_least_one u.left (some_left h));
        rest = ap (λ (b : Bool). b && rises_from codes (at + place_size) (u.left - 1)) e ∙ turn h;
      }

  pub rising-fails : at < n * place_size → false ≡ follows_at codes at → false ≡ rises_from codes 0 n
  rising-fails h e = ap (λ (b : Bool). b && rises_from codes (at + place_size) (u.left - 1)) e ∙ turn h

  pub rising-done : n * place_size ≤ at → true ≡ rises_from codes 0 n
  unfolding rises_from
  rising-done h =
      sym (ap (rises_from codes at) (let e : u.left ≡ 0 = omega (arith, u.upto, h) in e)) ∙ u.rest

-- all places: none is named, the first has no code, or those behind it decide
module _ (codes : List ℕ) where
  pub none_rise : (n : ℕ) → n ≡ 0 → true ≡ all_rise codes n
  unfolding all_rise
  none_rise n e = sym (ap (all_rise codes) e)

  pub first-fails : (n : ℕ) → (n ≡ 0 → ⊥) → false ≡ is_length (get_or codes 0 0) → false ≡ all_rise codes n
  unfolding all_rise
  first-fails zero some e = absurd (some refl)
  first-fails (suc n) some e = ap (λ (b : Bool). b && rises_from codes 0 n) e

  pub first-rises : (n : ℕ) → (n ≡ 0 → ⊥) → true ≡ is_length (get_or codes 0 0) → rises_from codes 0 (n - 1) ≡ all_rise codes n
  unfolding all_rise
  first-rises zero some e = absurd (some refl)
  first-rises (suc n) some e =
      ap (rises_from codes 0) (let q : suc n - 1 ≡ n = omega arith in q) ∙ ap (λ (b : Bool). b && rises_from codes 0 n) e
