-- Putting all entries of a list at the front of a buffer: what is left of them, put from here on, gives what all of them give.
-- Assumes nothing.
use mathlib.Core.List.{List, [], ◌∷◌, ◌++◌}
use mathlib.Core.Path.{◌≡◌, refl, sym, ap, ◌∙◌}
use Prim.Native.Nat.{ℕ, ◌+◌, ◌<◌, ◌≤◌}
use native.Mathlib.Omega.{arith}
use lib.ListN.{length, get_or, set, take, drop, length-set}
use lib.Seq.{sets, drop-length, length-take-le}
use Rattle.laws.proofs.Slices.{front_copied}
use Rattle.laws.proofs.Parts.{left_cons}
use Rattle.laws.proofs.Stores.{sets_first}

pub record Putting (buffer entries stands : List ℕ) (at : ℕ) : Type 0 where
  pub within : at ≤ length entries
  pub long : length stands ≡ length buffer
  pub rest : sets stands at (drop at entries) ≡ sets buffer 0 entries

pub putting_begins : (buffer entries : List ℕ) → Putting buffer entries buffer 0
putting_begins buffer entries = record { within = omega arith; long = refl; rest = refl }

module _ {buffer entries stands : List ℕ} {at : ℕ} (u : Putting buffer entries stands at) where
  pub putting_next : at < length entries → {e : ℕ} → e ≡ get_or entries at 0 → Putting buffer entries (set stands at e) (at + 1)
  putting_next h {e} same =
      record {
        within = omega arith;
        long = simp length-set u.long;
        rest =
            sym (sets_first stands at e (drop (at + 1) entries))
            ∙ ap (λ (n : ℕ). sets stands at (n ∷ drop (at + 1) entries)) same
            ∙ ap (λ (s : List ℕ). sets stands at s) (sym (left_cons entries at 0 h))
            ∙ u.rest;
      }

  pub putting_done : length entries ≤ at → stands ≡ sets buffer 0 entries
  putting_done past =
      let all : at ≡ length entries = omega (arith, u.within) in
      let none : drop at entries ≡ [] = rw all (drop-length entries) in
      sym (ap (λ (s : List ℕ). sets stands at s) none) ∙ u.rest

-- the first n entries of a list, copied to the front of a buffer
pub front_taken : (entries buffer : List ℕ) (n : ℕ) → n ≤ length entries → n ≤ length buffer → take n entries ++ drop n buffer ≡ sets buffer 0 (take n entries)
front_taken entries buffer n there room =
    let many = length-take-le n entries there in
    ap (λ (k : ℕ). take n entries ++ drop k buffer) (sym many) ∙ front_copied buffer (take n entries) (omega (arith, many))
