-- The tests of leaf rows as a loop makes them say what the leaves are to be: sound, end to end, and text.
-- Assumes nothing.
use mathlib.Core.Bool.{Bool, true, false, not, ◌&&◌}
use mathlib.Core.List.{List, [], ◌∷◌}
use mathlib.Core.Logic.{◌↔◌}
use mathlib.Core.Path.{◌≡◌, refl, sym, ap, ap₂, ◌∙◌}
use Prim.Native.Nat.{ℕ, suc}
use native.Mathlib.Omega.{arith}
use lib.Dec.{leb, eqb}
use lib.ListN.{length}
use borrow.Author.Tests.{eqb-true, eqb-false, eq-eqb, ne_eqb, leb-true, le-leb, not-true}
use Rattle.laws.specs.Lists.{same, among}
use Rattle.laws.specs.Every.{none, also}
use Rattle.laws.proofs.Lists.{among_miss, among_first}
use Rattle.laws.proofs.Tests.{Tested, passed, failed, tested, and_first, and_second, and_both, and_fails_first, and_fails_second, not_holds}
use Rattle.form.specs.Header.{different}
use Rattle.line.specs.Lines.{space}
use Rattle.table.specs.inner.Back.{between}
use Rattle.table.specs.inner.Flat.{ones, raised}
use Rattle.table.specs.inner.Sound.{Plain, onward}
use Rattle.table.specs.inner.RowTests.{next_place, leaf_text}
use Rattle.table.proofs.Flat.{raised_here, raised-later}
use Rattle.table.proofs.Places.{between_here, between-later}
use Rattle.table.proofs.LeafTexts.{AllText}

-- the step laws of `next_place`
module _ (m : ℕ) (from : List ℕ) (n : ℕ) (to : List ℕ) where
  pub next-same : m ≡ n → next_place (m ∷ from) (n ∷ to) ≡ next_place from to
  unfolding next_place
  next-same e = rw (eq-eqb m n e, next_place)

  pub next-raised : (m ≡ n → ⊥) → next_place (m ∷ from) (n ∷ to) ≡ (eqb (suc m) n && same (ones from) to)
  unfolding next_place
  next-raised e = rw (ne_eqb m n e, next_place)

ones-length : (ps qs : List ℕ) → length ps ≡ length qs → ones ps ≡ ones qs
unfolding ones
ones-length [] [] e = refl
ones-length [] (q ∷ qs) e = absurd (omega arith)
ones-length (p ∷ ps) [] e = absurd (omega arith)
ones-length (p ∷ ps) (q ∷ qs) e = ap (λ (r : List ℕ). 1 ∷ r) (ones-length ps qs (omega arith))

-- where the separators differ, one leads from a place to another exactly where that comes next
module _ (p : ℕ) (ps : List ℕ) (m : ℕ) (from : List ℕ) (n : ℕ) (to : List ℕ) where
  -- at the first number: it is raised by its own separator
  onward_here : (m ≡ n → ⊥) → onward (p ∷ ps) (m ∷ from) (n ∷ to) ≡ (eqb (suc m) n && same (ones ps) to)
  unfolding onward same
  onward_here d =
      ap (λ (b : ℕ). among (p ∷ ps) b && same (raised (p ∷ ps) b (m ∷ from)) (n ∷ to)) (between_here p ps m n from to (ne_eqb m n d))
      ∙ rw (among_first p ps, raised_here p ps p m from (eq-eqb p p refl))

  -- or later: by a finer one, which is not the first
  onward-later : among ps p ≡ false → m ≡ n → onward (p ∷ ps) (m ∷ from) (n ∷ to) ≡ onward ps from to
  unfolding onward same
  onward-later other e =
      ap (λ (b : ℕ). among (p ∷ ps) b && same (raised (p ∷ ps) b (m ∷ from)) (n ∷ to)) (between-later p ps m n from to (eq-eqb m n e))
      ∙ go (tested (eqb (between ps from to) p))
    where
      go : Tested (eqb (between ps from to) p)
          → (among (p ∷ ps) (between ps from to) && same (raised (p ∷ ps) (between ps from to) (m ∷ from)) (n ∷ to))
          ≡ (among ps (between ps from to) && same (raised ps (between ps from to) from) to)
      go (passed h) =
          and_fails_second (among (p ∷ ps) (between ps from to))
          (ap (λ (q : List ℕ). same q (n ∷ to)) (raised_here p ps (between ps from to) m from h)
          ∙ and_fails_first (same (ones ps) to) (ne_eqb (suc m) n (λ z. omega arith)))
          ∙ sym (and_fails_first (same (raised ps (between ps from to) from) to)
          (ap (among ps) (eqb-true (between ps from to) p h) ∙ other))
      go (failed h) =
          ap₂ (λ (x y : Bool). x && y) (among_miss p ps (between ps from to) h)
          (ap (λ (q : List ℕ). same q (n ∷ to)) (raised-later p ps (between ps from to) m from h)
          ∙ rw (eq-eqb m n e))

-- none leads to a place of other numbers
onward_nowhere : (to : List ℕ) → onward [] [] to ≡ next_place [] to
unfolding onward among between next_place
onward_nowhere to = refl

onward-short : (p : ℕ) (ps : List ℕ) (m : ℕ) (from : List ℕ) → onward (p ∷ ps) (m ∷ from) [] ≡ next_place (m ∷ from) []
unfolding onward between next_place same
onward-short p ps m from =
    and_fails_second (among (p ∷ ps) p) (ap (λ (q : List ℕ). same q []) (raised_here p ps p m from (eq-eqb p p refl)))

pub onward-next : (ps from to : List ℕ) → different ps ≡ true → length from ≡ length ps → onward ps from to ≡ next_place from to
unfolding different
onward-next [] [] to d fits = onward_nowhere to
onward-next [] (m ∷ from) to d fits = absurd (omega arith)
onward-next (p ∷ ps) [] to d fits = absurd (omega arith)
onward-next (p ∷ ps) (m ∷ from) [] d fits = onward-short p ps m from
onward-next (p ∷ ps) (m ∷ from) (n ∷ to) d fits =
    go (tested (eqb m n)) (onward-next ps from to (and_second (not (among ps p)) (different ps) d) (omega arith))
  where
    go : Tested (eqb m n) → onward ps from to ≡ next_place from to → onward (p ∷ ps) (m ∷ from) (n ∷ to) ≡ next_place (m ∷ from) (n ∷ to)
    go (passed h) ih =
        onward-later p ps m from n to (not-true (among ps p) (and_first (not (among ps p)) (different ps) d)) (eqb-true m n h)
        ∙ ih ∙ sym (next-same m from n to (eqb-true m n h))
    go (failed h) ih =
        onward_here p ps m from n to (eqb-false m n h)
        ∙ ap (λ (r : List ℕ). eqb (suc m) n && same r to) (ones-length ps from (omega arith))
        ∙ sym (next-raised m from n to (eqb-false m n h))

-- a text is one of a leaf exactly where it is text and plain
pub leaf-text : (ps s : List ℕ) → (leaf_text ps s ≡ true) ↔ (AllText s × Plain ps s)
unfolding leaf_text
leaf-text ps [] = (λ h. (none, none), λ w. refl)
leaf-text ps (b ∷ s) = (
  λ h.
      let h2 = and_first (leb space b && not (among ps b)) (leaf_text ps s) h in
      let w = (leaf-text ps s).0 (and_second (leb space b && not (among ps b)) (leaf_text ps s) h) in (
        also (leb-true space b (and_first (leb space b) (not (among ps b)) h2)) w.0,
        also (not-true (among ps b) (and_second (leb space b) (not (among ps b)) h2)) w.1,
      ),
  λ w. back w.0 w.1 (leaf-text ps s).1,
)
  where
    back : AllText (b ∷ s) → Plain ps (b ∷ s) → (AllText s × Plain ps s → leaf_text ps s ≡ true)
        → (leb space b && not (among ps b) && leaf_text ps s) ≡ true
    back (also h w) (also k v) ih = and_both (and_both (le-leb space b h) (not_holds (among ps b) k)) (ih (w, v))
