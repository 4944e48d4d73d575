-- One pass over bytes, as a loop makes it: a state after a list of bytes, its step equations, and that passes compose.
-- Assumes nothing.
use mathlib.Core.List.{List, [], ◌∷◌, ◌++◌, append_assoc}
use mathlib.Core.Path.{◌≡◌, refl, sym, ap, ◌∙◌}
use Prim.Native.Nat.{ℕ, suc, ◌+◌}
use native.Mathlib.Omega.{arith}
use mathlib.Core.Bool.{true, false}
use lib.ListN.{length}
use Rattle.laws.specs.Lists.{among}
use Rattle.laws.proofs.Tests.{Tested, passed, failed, tested}
use Rattle.table.specs.Leaves.{Leaf}
use Rattle.table.specs.inner.Flat.{leaf, raised, flat, Pass, step, steps, ended}
use Rattle.table.proofs.Flat.{flat_separator, flat-text}
use Rattle.table.proofs.Places.{Within, within_more, length-raised, raised-within}

-- the leaves of a pass that has bytes left: those closed, and a flat split from where it stands
unfoldable pub left : List ℕ → Pass → List ℕ → List Leaf
left ps c s = c.closed ++ flat ps c.place c.text s

-- a byte: a separator closes the leaf begun, any other belongs to it
module _ (ps : List ℕ) (c : Pass) (b : ℕ) where
  pub step_separator : among ps b ≡ true
      → step ps c b ≡ record { place = raised ps b c.place; text = []; closed = c.closed ++ (leaf c.place c.text ∷ []) }
  unfolding step
  step_separator h = rw (h, step)

  pub step-text : among ps b ≡ false → step ps c b ≡ record { place = c.place; text = c.text ++ (b ∷ []); closed = c.closed }
  unfolding step
  step-text h = rw (h, step)

  -- what is left from here gives the whole: one byte, and the end
  pub left_step : (s : List ℕ) → left ps (step ps c b) s ≡ left ps c (b ∷ s)
  unfolding left
  left_step s = go (tested (among ps b))
    where
      go : Tested (among ps b) → left ps (step ps c b) s ≡ left ps c (b ∷ s)
      go (passed h) =
          ap (λ (d : Pass). left ps d s) (step_separator h)
          ∙ append_assoc c.closed (leaf c.place c.text ∷ []) (flat ps (raised ps b c.place) [] s)
          ∙ ap {B = List Leaf} (λ r. c.closed ++ r) (sym (flat_separator ps c.place c.text b s h))
      go (failed h) =
          ap (λ (d : Pass). left ps d s) (step-text h)
          ∙ ap {B = List Leaf} (λ r. c.closed ++ r) (sym (flat-text ps c.place c.text b s h))

pub left-none : (ps : List ℕ) (c : Pass) → left ps c [] ≡ ended c
unfolding left flat ended
left-none ps c = refl

-- the place keeps its numbers, and none grows by more than one
module _ (ps : List ℕ) (c : Pass) (b : ℕ) where
  pub step-within : {k : ℕ} → Within k c.place → Within (suc k) (step ps c b).place
  step-within {k} w = go (tested (among ps b))
    where
      go : Tested (among ps b) → Within (suc k) (step ps c b).place
      go (passed h) = rw (step_separator ps c b h) (raised-within ps b w)
      go (failed h) = rw (step-text ps c b h) (within_more (omega arith) w)

  pub step_fits : length c.place ≡ length ps → length (step ps c b).place ≡ length ps
  step_fits fits = go (tested (among ps b))
    where
      go : Tested (among ps b) → length (step ps c b).place ≡ length ps
      go (passed h) = rw (step_separator ps c b h) (length-raised ps b c.place fits)
      go (failed h) = rw (step-text ps c b h) fits

-- many bytes
pub left-steps : (ps : List ℕ) (c : Pass) (x y : List ℕ) → left ps (steps ps c x) y ≡ left ps c (x ++ y)
unfolding steps
left-steps ps c [] y = refl
left-steps ps c (b ∷ x) y = left-steps ps (step ps c b) x y ∙ left_step ps c b (x ++ y)

pub steps-append : (ps : List ℕ) (c : Pass) (x y : List ℕ) → steps ps c (x ++ y) ≡ steps ps (steps ps c x) y
unfolding steps
steps-append ps c [] y = refl
steps-append ps c (b ∷ x) y = steps-append ps (step ps c b) x y

-- one byte more at the end, and the turn of a loop at the byte i
pub steps-one : (ps : List ℕ) (c : Pass) (x : List ℕ) (b : ℕ) → steps ps c (x ++ (b ∷ [])) ≡ step ps (steps ps c x) b
unfolding steps
steps-one ps c x b = steps-append ps c x (b ∷ [])

-- a pass from a place with no leaves yet
abbrev pub begun : List ℕ → List ℕ → Pass
begun place text = record { place = place; text = text; closed = [] }

-- how far the numbers of the place can have come
pub steps-within : (ps : List ℕ) (c : Pass) {k : ℕ} (s : List ℕ) → Within k c.place → Within (k + length s) (steps ps c s).place
unfolding steps
steps-within ps c {k} [] w = within_more (omega arith) w
steps-within ps c {k} (b ∷ s) w = within_more (omega arith) (steps-within ps (step ps c b) s (step-within ps c b w))

pub steps-fits : (ps : List ℕ) (c : Pass) (s : List ℕ) → length c.place ≡ length ps → length (steps ps c s).place ≡ length ps
unfolding steps
steps-fits ps c [] h = h
steps-fits ps c (b ∷ s) h = steps-fits ps (step ps c b) s (step_fits ps c b h)
