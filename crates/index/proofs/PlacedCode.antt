-- Putting a code at its place: what is left of it, put from here on, gives what all of it gives.
-- Assumes nothing.
use mathlib.Core.List.{List, ◌∷◌, ◌++◌}
use mathlib.Core.Logic.{◌⊎◌, inl, inr}
use mathlib.Core.Path.{◌≡◌, refl, sym, ap, ◌∙◌}
use Prim.Native.Nat.{ℕ, ◌+◌, ◌-◌, ◌<◌, ◌≤◌}
use native.Mathlib.Omega.{arith}
use native.Mathlib.Numerals.{add-one}
use lib.ListN.{length, get_or, set, drop, replicate, length-set, length-append, length-replicate, get_or-replicate, drop_of_length-le}
use lib.ListN.{get_or-append, get_or-eq_default}
use lib.Seq.{sets, get_or-append-add}
use Rattle.laws.proofs.Cases.{less_or_not}
use Rattle.laws.proofs.Parts.{left_cons}
use Rattle.laws.proofs.Stores.{sets_first}
use Rattle.index.specs.Index.{code_most, place_size}
use Rattle.index.specs.Adding.{place_of_code}

module _ (c : List ℕ) (short : length c ≤ code_most) where
  pub length-placed : length (place_of_code c) ≡ place_size
  unfolding place_of_code
  length-placed =
      omega (arith, length-append c (replicate (code_most - length c) 0), length-replicate {A = ℕ} (code_most - length c) 0, short)

  -- behind its length stand its bytes, and zeros
  pub placed_byte : (k : ℕ) → k < code_most → get_or (place_of_code c) (k + 1) 0 ≡ get_or c k 0
  unfolding place_of_code
  placed_byte k h = ap (λ (n : ℕ). get_or (place_of_code c) n 0) (add-one k) ∙ go (less_or_not k (length c))
    where
      go : (k < length c) ⊎ (length c ≤ k) → get_or (c ++ replicate (code_most - length c) 0) k 0 ≡ get_or c k 0
      go (inl l) = get_or-append c (replicate (code_most - length c) 0) 0 k l
      go (inr l) =
          ap (λ (n : ℕ). get_or (c ++ replicate (code_most - length c) 0) n 0) (let e : k ≡ length c + (k - length c) = omega arith in e)
          ∙ get_or-append-add c (replicate (code_most - length c) 0) (k - length c) 0
          ∙ get_or-replicate (code_most - length c) (k - length c) 0 0 (omega arith)
          ∙ sym (get_or-eq_default c 0 l)

-- before the turn at k, where `codes` has the length at the place
pub record Placing (c codes : List ℕ) (at : ℕ) (stands : List ℕ) (k : ℕ) : Type 0 where
  pub within : k ≤ code_most
  pub long : length stands ≡ length codes
  pub rest : sets stands (at + (k + 1)) (drop (k + 1) (place_of_code c)) ≡ sets codes (at + 1) (drop 1 (place_of_code c))

pub placing_begins : (c codes : List ℕ) (at : ℕ) → Placing c codes at codes 0
placing_begins c codes at = record { within = omega arith; long = refl; rest = refl }

-- the length, and the rest behind it
placed-whole : (c codes : List ℕ) (at : ℕ) → sets (set codes at (length c)) (at + 1) (drop 1 (place_of_code c)) ≡ sets codes at (place_of_code c)
unfolding place_of_code
placed-whole c codes at = sym (sets_first codes at (length c) (c ++ replicate (code_most - length c) 0))

module _ {c codes : List ℕ} {at : ℕ} {stands : List ℕ} {k : ℕ} (u : Placing c codes at stands k) (short : length c ≤ code_most) where
  pub placing_next : k < code_most → {b : ℕ} → b ≡ get_or c k 0 → Placing c codes at (set stands (at + (k + 1)) b) (k + 1)
  placing_next h {b} e =
      record {
        within = omega arith;
        long = simp length-set u.long;
        rest =
            ap (λ (n : ℕ). sets (set stands (at + (k + 1)) b) n (drop (k + 1 + 1) (place_of_code c)))
            (let i : at + (k + 1 + 1) ≡ at + (k + 1) + 1 = omega arith in i)
            ∙ sym (sets_first stands (at + (k + 1)) b (drop (k + 1 + 1) (place_of_code c)))
            ∙ ap (λ (n : ℕ). sets stands (at + (k + 1)) (n ∷ drop (k + 1 + 1) (place_of_code c))) (e ∙ sym (placed_byte c short k h))
            ∙ ap (λ (s : List ℕ). sets stands (at + (k + 1)) s)
            (sym (left_cons (place_of_code c) (k + 1) 0 (omega (arith, length-placed c short))))
            ∙ u.rest;
      }

  placed-behind : code_most ≤ k → stands ≡ sets codes (at + 1) (drop 1 (place_of_code c))
  placed-behind h =
      sym
      (ap (λ (s : List ℕ). sets stands (at + (k + 1)) s)
      (drop_of_length-le (place_of_code c) {i = k + 1} (let past : length (place_of_code c) ≤ k + 1 = omega (arith, length-placed c short) in past)))
      ∙ u.rest

pub placing_done : {c : List ℕ} (codes : List ℕ) {at : ℕ} {stands : List ℕ} {k : ℕ} → Placing c (set codes at (length c)) at stands k
    → length c ≤ code_most → code_most ≤ k → stands ≡ sets codes at (place_of_code c)
placing_done {c} codes {at} u short h = placed-behind u short h ∙ placed-whole c codes at
