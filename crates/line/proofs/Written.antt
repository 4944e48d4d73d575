-- Written and read back: segments that are text and no addenda are walked and joined again as they were, and segments that were
-- read can be written.
-- Assumes nothing.
use mathlib.Core.Bool.{true, false}
use mathlib.Core.Path.{◌≡◌, ap, ◌∙◌}
use mathlib.Core.Logic.{◌⊎◌, inl, inr}
use mathlib.Core.List.{List, [], ◌∷◌, ◌++◌}
use Prim.Native.Nat.{ℕ, ◌≤◌}
use native.Mathlib.Omega.{arith}
use lib.ListN.{length, length-append}
use Rattle.laws.specs.Every.{All, none, also}
use Rattle.laws.proofs.Every.{all_append, all_drop}
use Rattle.laws.proofs.Tests.{either}
use Rattle.form.specs.declared.limits.Limits.{Limits}
use Rattle.form.specs.Limits.{Lawful}
use Rattle.line.specs.Lines.{space, walk, texts, fault_number}
use Rattle.line.specs.Joining.{addendum, carried, joined}
use Rattle.line.specs.Cutting.{cuts, unlines}
use Rattle.line.specs.inner.Sound.{Text, SoundLine, given_lines}
use Rattle.line.proofs.Joining.{carried-addendum, carried-segment, joined-addendum, joined-segment}
use Rattle.line.proofs.Cutting.{cuts-sound, joined-cuts}
use Rattle.line.proofs.Walking.{walk-unlines, texts-given, no_fault_given}

-- a segment that has a byte, and none below 32
abbrev pub Worded : List ℕ → Type 0
Worded s = (1 ≤ length s) × Text s

module _ (L : Limits) (lawful : Lawful L) (f : ℕ) (sep : space ≤ f) (ss : List (List ℕ)) (worded : All Worded ss) where
  -- the walk over what is written gives the lines that were cut, and ends in no fault
  pub walk-written : walk L (unlines (cuts L f ss)) ≡ given_lines (cuts L f ss)
  walk-written = walk-unlines L (cuts L f ss) (cuts-sound L lawful f ss sep worded)

  pub no_fault_written : fault_number (walk L (unlines (cuts L f ss))) ≡ 0
  no_fault_written = ap fault_number walk-written ∙ no_fault_given (cuts L f ss)

  -- and its texts join to the segments
  pub joined-written : All (λ (s : List ℕ). addendum f s ≡ false) ss → joined f (texts (walk L (unlines (cuts L f ss)))) ≡ ss
  joined-written whole =
      ap (λ (ls : List (List ℕ)). joined f ls) (ap texts walk-written ∙ texts-given (cuts L f ss)) ∙ joined-cuts L lawful f ss whole

-- what joins from sound lines has a byte, and none below 32
module _ (L : Limits) (f : ℕ) where
  pub carried-text : (ls : List (List ℕ)) → All (SoundLine L) ls → Text (carried f ls)
  unfolding carried
  carried-text [] h = none
  carried-text (l ∷ ls) (also h hs) = go (either (addendum f l)) (carried-text ls hs)
    where
      go : (addendum f l ≡ true) ⊎ (addendum f l ≡ false) → Text (carried f ls) → Text (carried f (l ∷ ls))
      go (inl a) t = rw (carried-addendum f l ls a) (all_append (all_drop 2 h.text) t)
      go (inr a) t = rw (carried-segment f l ls a) none

  pub joined_worded : (ls : List (List ℕ)) → All (SoundLine L) ls → All Worded (joined f ls)
  unfolding joined
  joined_worded [] h = none
  joined_worded (l ∷ ls) (also h hs) = go (either (addendum f l)) (joined_worded ls hs)
    where
      go : (addendum f l ≡ true) ⊎ (addendum f l ≡ false) → All Worded (joined f ls) → All Worded (joined f (l ∷ ls))
      go (inl a) w = rw (joined-addendum f l ls a) w
      go (inr a) w =
          rw (joined-segment f l ls a)
          (also {a = l ++ carried f ls} (omega (arith, length-append l (carried f ls), h.some), all_append h.text (carried-text ls hs)) w)
