-- Places: a separator raises a number, and `between` finds the separator again.
-- Assumes nothing.
use mathlib.Core.Bool.{true, false}
use mathlib.Core.List.{List, [], ◌∷◌, ◌++◌}
use mathlib.Core.Path.{◌≡◌, refl, sym, ap, ◌∙◌}
use Prim.Native.Nat.{ℕ, zero, suc, ◌+◌, ◌≤◌, suc-le-suc}
use native.Mathlib.Nat.{le_trans}
use native.Mathlib.Omega.{arith}
use lib.Dec.{eqb}
use lib.ListN.{length, take, drop, get_or}
use borrow.Author.Tests.{eqb-true, eq-eqb, ne_eqb}
use Rattle.laws.specs.Lists.{among, first_from}
use Rattle.laws.specs.Every.{All, none, also}
use Rattle.laws.proofs.Tests.{Tested, passed, failed, tested}
use Rattle.laws.proofs.Lists.{among_miss, first_hit, first_miss, first-least}
use Rattle.table.specs.inner.Back.{between}
use Rattle.table.specs.inner.Flat.{ones, raised}
use Rattle.table.proofs.Flat.{raised_here, raised-later}

-- places keep a number for each separator
pub length-ones : (ps : List ℕ) → length (ones ps) ≡ length ps
unfolding ones
length-ones [] = refl
length-ones (p ∷ ps) = ap suc (length-ones ps)

pub length-raised : (ps : List ℕ) (b : ℕ) (place : List ℕ) → length place ≡ length ps → length (raised ps b place) ≡ length ps
unfolding raised
length-raised [] b place fits = fits
length-raised (p ∷ ps) b [] fits = fits
length-raised (p ∷ ps) b (n ∷ place) fits = go (tested (eqb b p)) (length-raised ps b place (omega arith))
  where
    go : Tested (eqb b p) → length (raised ps b place) ≡ length ps → length (raised (p ∷ ps) b (n ∷ place)) ≡ suc (length ps)
    go (passed h) ih = ap length (raised_here p ps b n place h) ∙ ap suc (length-ones ps)
    go (failed h) ih = ap length (raised-later p ps b n place h) ∙ ap suc ih

-- `between` sees which number differs
module _ (p : ℕ) (ps : List ℕ) (m n : ℕ) (from to : List ℕ) where
  pub between_here : eqb m n ≡ false → between (p ∷ ps) (m ∷ from) (n ∷ to) ≡ p
  unfolding between
  between_here h = rw (h, between)

  pub between-later : eqb m n ≡ true → between (p ∷ ps) (m ∷ from) (n ∷ to) ≡ between ps from to
  unfolding between
  between-later h = rw (h, between)

-- the separator that leads from a place to the one it raises
pub between-raised : (ps : List ℕ) (b : ℕ) (place : List ℕ) → length place ≡ length ps → among ps b ≡ true
    → between ps place (raised ps b place) ≡ b
unfolding among
between-raised [] b place fits h = let z : ◌≡◌ {A = ℕ} 0 1 = cc in absurd (omega arith)
between-raised (p ∷ ps) b [] fits h = absurd (omega arith)
between-raised (p ∷ ps) b (n ∷ place) fits h = go (tested (eqb b p)) (between-raised ps b place (omega arith))
  where
    go : Tested (eqb b p) → (among ps b ≡ true → between ps place (raised ps b place) ≡ b)
        → between (p ∷ ps) (n ∷ place) (raised (p ∷ ps) b (n ∷ place)) ≡ b
    go (passed e) ih =
        ap (between (p ∷ ps) (n ∷ place)) (raised_here p ps b n place e)
        ∙ between_here p ps n (suc n) place (ones ps) (ne_eqb n (suc n) (λ q. omega arith))
        ∙ sym (eqb-true b p e)
    go (failed e) ih =
        ap (between (p ∷ ps) (n ∷ place)) (raised-later p ps b n place e)
        ∙ between-later p ps n n place (raised ps b place) (eq-eqb n n refl)
        ∙ ih (sym (among_miss p ps b e) ∙ h)

-- no number of a place grows faster than the bytes passed
abbrev pub Within : ℕ → List ℕ → Type 0
Within k place = All (λ (n : ℕ). n ≤ k) place

pub within_more : {k m : ℕ} {place : List ℕ} → k ≤ m → Within k place → Within m place
within_more le none = none
within_more le (also h w) = also (le_trans h le) (within_more le w)

pub ones-within : (ps : List ℕ) (k : ℕ) → 1 ≤ k → Within k (ones ps)
unfolding ones
ones-within [] k h = none
ones-within (p ∷ ps) k h = also h (ones-within ps k h)

pub raised-within : (ps : List ℕ) (b : ℕ) {k : ℕ} {place : List ℕ} → Within k place → Within (suc k) (raised ps b place)
unfolding raised
raised-within [] b w = within_more (omega arith) w
raised-within (p ∷ ps) b none = none
raised-within (p ∷ ps) b {k} (also {a = n} {s = place} h w) = go (tested (eqb b p)) (raised-within ps b w)
  where
    go : Tested (eqb b p) → Within (suc k) (raised ps b place) → Within (suc k) (raised (p ∷ ps) b (n ∷ place))
    go (passed e) ih = rw (raised_here p ps b n place e) (also (suc-le-suc h) (ones-within ps (suc k) (omega arith)))
    go (failed e) ih = rw (raised-later p ps b n place e) (also (le_trans h (omega arith)) ih)

-- the place that the k-th separator, counted from 0, leads to: its number is one more, the coarser stay, the finer are 1
abbrev pub raised_at : List ℕ → ℕ → List ℕ → List ℕ
raised_at ps k place = take k place ++ (suc (get_or place k 0) ∷ ones (drop (suc k) ps))

pub raised-first : (ps : List ℕ) (b n k : ℕ) (place : List ℕ) → length place ≡ length ps → first_from (eqb b) (suc n) ps ≡ suc (n + k)
    → raised ps b place ≡ raised_at ps k place
unfolding first_from
raised-first [] b n k place fits e = let z : 0 ≡ suc (n + k) = e in absurd (omega arith)
raised-first (p ∷ ps) b n k [] fits e = absurd (omega arith)
raised-first (p ∷ ps) b n zero (m ∷ place) fits e = go (tested (eqb b p))
  where
    go : Tested (eqb b p) → raised (p ∷ ps) b (m ∷ place) ≡ suc m ∷ ones ps
    go (passed h) = raised_here p ps b m place h
    go (failed h) =
        let later : first_from (eqb b) (suc (suc n)) ps ≡ suc (n + 0) = sym (first_miss (eqb b) (suc n) p ps h) ∙ e in
        let least : suc (suc n) ≤ first_from (eqb b) (suc (suc n)) ps = first-least (eqb b) (suc (suc n)) ps (λ z. omega arith) in
        absurd (omega arith)
raised-first (p ∷ ps) b n (suc k) (m ∷ place) fits e = go (tested (eqb b p)) (raised-first ps b (suc n) k place (omega arith))
  where
    go : Tested (eqb b p) → (first_from (eqb b) (suc (suc n)) ps ≡ suc (suc n + k) → raised ps b place ≡ raised_at ps k place)
        → raised (p ∷ ps) b (m ∷ place) ≡ m ∷ raised_at ps k place
    go (passed h) ih = let here : suc n ≡ suc (n + suc k) = sym (first_hit (eqb b) (suc n) p ps h) ∙ e in absurd (omega arith)
    go (failed h) ih =
        raised-later p ps b m place h
        ∙ ap {B = List ℕ} (λ r. m ∷ r) (ih (sym (first_miss (eqb b) (suc n) p ps h) ∙ e ∙ omega arith))
