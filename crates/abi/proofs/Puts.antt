-- Numbers put at the front of a buffer: all of them, or none where it is too short.
-- Assumes nothing.
use mathlib.Core.List.{List, []}
use mathlib.Core.Path.{◌≡◌, refl, sym, ap, ◌∙◌}
use Prim.Native.Nat.{ℕ, ◌+◌, ◌<◌, ◌≤◌}
use native.Mathlib.Omega.{arith}
use borrow.Author.Tests.{lt-ltb, le-ltb}
use lib.ListN.{length, get_or, set, drop, length-set}
use lib.Seq.{sets, drop-length}
use Rattle.laws.proofs.Parts.{left_cons}
use Rattle.laws.proofs.Stores.{sets_first}
use Rattle.abi.specs.Putting.{put_all}

module _ {A : Type 0} (buffer numbers : List A) where
  pub put-short : length buffer < length numbers → put_all buffer numbers ≡ buffer
  unfolding put_all
  put-short h = rw (lt-ltb (length buffer) (length numbers) h, put_all)

  pub put_whole : length numbers ≤ length buffer → put_all buffer numbers ≡ sets buffer 0 numbers
  unfolding put_all
  put_whole h = rw (le-ltb (length buffer) (length numbers) h, put_all)

-- the loop that puts them: the numbers from `at` on, put into the buffer as it stands, give what all of them give
pub record Underway (buffer numbers stands : List ℕ) (at : ℕ) : Type 0 where
  pub within : at ≤ length numbers
  pub long : length stands ≡ length buffer
  pub rest : sets stands at (drop at numbers) ≡ sets buffer 0 numbers

pub put-begins : (buffer numbers : List ℕ) → Underway buffer numbers buffer 0
put-begins buffer numbers = record { within = omega arith; long = refl; rest = refl }

module _ {buffer numbers stands : List ℕ} {at : ℕ} (u : Underway buffer numbers stands at) where
  pub put_next : at < length numbers → Underway buffer numbers (set stands at (get_or numbers at 0)) (at + 1)
  put_next h =
      record {
        within = omega arith;
        long = simp length-set u.long;
        rest =
            sym (sets_first stands at (get_or numbers at 0) (drop (at + 1) numbers))
            ∙ ap (λ (s : List ℕ). sets stands at s) (sym (left_cons numbers at 0 h))
            ∙ u.rest;
      }

  pub put-done : length numbers ≤ at → length numbers ≤ length buffer → stands ≡ put_all buffer numbers
  put-done past fits =
      let all : at ≡ length numbers = omega (arith, u.within) in
      let none : drop at numbers ≡ [] = rw all (drop-length numbers) in
      sym (ap (λ (s : List ℕ). sets stands at s) none) ∙ u.rest ∙ sym (put_whole buffer numbers fits)
