-- How a caller of `sargaceu_line` tells the message's end (P1) from a line: 0, with the asked place for the next one, is the end and
-- nothing else, since a line has at least one byte.
-- Assumes nothing.
use mathlib.Core.List.{List, [], ◌∷◌}
use mathlib.Core.Path.{◌≡◌, refl, sym, ap, ◌∙◌}
use Prim.Native.Nat.{ℕ, ◌+◌, ◌≤◌}
use native.Mathlib.Omega.{arith}
use borrow.Author.Tests.{le-ltb}
use lib.Dec.{lit≤}
use lib.ListN.{length, get_or, set, drop, length-set}
use lib.Seq.{get_or-set_same}
use Rattle.form.specs.declared.limits.Limits.{Limits}
use Rattle.form.specs.Forms.{small_form}
use Rattle.line.specs.declared.finder.Found.{Found}
use Rattle.line.specs.declared.finder.Found.TheVariants.{Line, End, Fault}
use Rattle.line.specs.Finding.{text_run, found_at, next_of}
use Rattle.line.proofs.Finding.{found_cases, text_ended_cases}
use Rattle.line.proofs.Handing.{Within, found_within}
use Rattle.abi.specs.Lines.{number_of, end_of, number_for, FoundLine}
use Rattle.abi.proofs.Puts.{put_whole}

-- the number of a fault is 4, 5 or 6 (P1)
abbrev pub FaultNumber : Found → Type 0
FaultNumber (Line e n) = Unit
FaultNumber End = Unit
FaultNumber (Fault number place) = (4 ≤ number) × (number ≤ 6)

pub fault-number : (L : Limits) (message : List ℕ) (at : ℕ) → FaultNumber (found_at L message at)
fault-number L message at =
    found_cases FaultNumber L.line at (drop at message)
    (λ e. tt)
    (λ b r e low. (lit≤ tt, lit≤ tt))
    (λ some long. (lit≤ tt, lit≤ tt))
    (λ some fits.
    text_ended_cases FaultNumber (at + text_run (drop at message)) (drop (text_run (drop at message)) (drop at message))
    (λ e. (lit≤ tt, lit≤ tt))
    (λ b r e other. (lit≤ tt, lit≤ tt))
    (λ r e. tt))

-- 0, and no way on: the message's end
pub still_is_end : (found : Found) (at bytes : ℕ) → Within at bytes found → FaultNumber found → number_of found ≡ 0 → next_of at found ≡ at
    → found ≡ End
unfolding number_of next_of
still_is_end (Line e n) at bytes w f zero still = let z : ⊥ = omega (arith, w.0, w.1, still) in absurd z
still_is_end End at bytes w f zero still = refl
still_is_end (Fault number place) at bytes w f zero still = let z : ⊥ = omega (arith, f.0, zero) in absurd z

module _ (message : List ℕ) (at : ℕ) (answer : List ℕ) (room : 2 ≤ length answer) {r : ℕ} {answer' : List ℕ}
    (told : FoundLine (found_at small_form message at) at answer r answer') where
  abbrev found : Found
  found = found_at small_form message at

  next_answered : get_or answer' 1 0 ≡ next_of at found
  next_answered =
      ap (λ (l : List ℕ). get_or l 1 0) (told.places ∙ put_whole answer (end_of at found ∷ next_of at found ∷ []) room)
      ∙ get_or-set_same (set answer 0 (end_of at found)) 1 (next_of at found) 0 (simp length-set (omega arith))

  number_answered : r ≡ number_of found
  unfolding number_for
  number_answered = told.number ∙ rw (le-ltb (length answer) 2 room, number_for)

  pub walk_ends : r ≡ 0 → get_or answer' 1 0 ≡ at → found_at small_form message at ≡ End
  walk_ends zero still =
      still_is_end found at (length message) (found_within message at small_form) (fault-number small_form message at)
      (sym number_answered ∙ zero) (sym next_answered ∙ still)
