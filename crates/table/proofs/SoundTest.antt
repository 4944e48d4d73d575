-- The computed tests of a text and of two places say what `Sound` says of a leaf and its neighbour.
-- Assumes nothing.
use mathlib.Core.Bool.{true, ◌&&◌, false≢true}
use mathlib.Core.List.{List, [], ◌∷◌}
use mathlib.Core.Path.{◌≡◌, refl, ap, ◌∙◌}
use Prim.Native.Nat.{ℕ}
use lib.ListN.{length}
use Rattle.laws.specs.Lists.{same, among}
use Rattle.laws.specs.Every.{none, also}
use Rattle.laws.proofs.Tests.{Tested, passed, failed, tested, and_both, and_first, and_second}
use Rattle.laws.proofs.Lists.{same_self, same_equal}
use Rattle.table.specs.inner.Back.{between}
use Rattle.table.specs.inner.Flat.{raised}
use Rattle.table.specs.inner.Sound.{Plain, plain, onward}
use Rattle.table.proofs.Places.{between-raised}

-- texts
pub plain_true : (ps text : List ℕ) → plain ps text ≡ true → Plain ps text
unfolding plain
plain_true ps [] h = none
plain_true ps (b ∷ s) h = go (tested (among ps b)) (plain_true ps s)
  where
    go : Tested (among ps b) → (plain ps s ≡ true → Plain ps s) → Plain ps (b ∷ s)
    go (passed e) ih = absurd (false≢true (rw (e, plain) at h))
    go (failed e) ih = also e (ih (rw (e, plain) at h))

pub plain-holds : (ps : List ℕ) {text : List ℕ} → Plain ps text → plain ps text ≡ true
unfolding plain
plain-holds ps none = refl
plain-holds ps (also {a = b} {s = s} h w) = rw (h, plain) (plain-holds ps w)

-- places
module _ (ps from to : List ℕ) (h : onward ps from to ≡ true) where
  pub onward-among : among ps (between ps from to) ≡ true
  unfolding onward
  onward-among = and_first (among ps (between ps from to)) (same (raised ps (between ps from to) from) to) h

  pub onward-raised : raised ps (between ps from to) from ≡ to
  unfolding onward
  onward-raised =
      same_equal (raised ps (between ps from to) from) to
      (and_second (among ps (between ps from to)) (same (raised ps (between ps from to) from) to) h)

pub onward-holds : (ps place : List ℕ) (b : ℕ) → length place ≡ length ps → among ps b ≡ true → onward ps place (raised ps b place) ≡ true
unfolding onward
onward-holds ps place b fits h =
    ap (λ (c : ℕ). among ps c && same (raised ps c place) (raised ps b place)) (between-raised ps b place fits h)
    ∙ and_both h (same_self (raised ps b place))
