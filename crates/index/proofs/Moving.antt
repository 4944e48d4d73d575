-- Moving a part of a list further, the last element first: the turns of the loop.
-- Assumes nothing.
use mathlib.Core.List.{List, [], ◌∷◌}
use mathlib.Core.Path.{◌≡◌, refl, sym, ap, ap₂, ◌∙◌}
use Prim.Native.Nat.{ℕ, ◌+◌, ◌-◌, ◌<◌, ◌≤◌}
use native.Mathlib.Omega.{arith}
use lib.ListN.{length, get_or, set, take, drop}
use lib.Seq.{sets, length-sets}
use Rattle.laws.proofs.Parts.{part_cons, part_none}
use Rattle.laws.proofs.Stores.{sets_in_front, get_d_sets_before}

-- before the turn that leaves i - 1: what stood from i up to the end stands `by` further, and that is within
pub record Moving (l : List ℕ) (by from end : ℕ) (stands : List ℕ) (i : ℕ) : Type 0 where
  pub above : from ≤ i
  pub below : i ≤ end
  pub fits : end + by ≤ length l
  pub long : length stands ≡ length l
  pub moved : stands ≡ sets l (i + by) (take (end - i) (drop i l))

pub moving_begins : (l : List ℕ) (by from end : ℕ) → from ≤ end → end + by ≤ length l → Moving l by from end l end
moving_begins l by from end h fits =
    record {
      above = h;
      below = omega arith;
      fits = fits;
      long = refl;
      moved = sym (ap (λ (s : List ℕ). sets l (end + by) s) (part_none l end end (omega arith)));
    }

module _ {l : List ℕ} {by from end : ℕ} {stands : List ℕ} {i : ℕ} (u : Moving l by from end stands i) where
  -- what is read, and where it goes, is within
  pub moving_within : i + by ≤ length stands
  moving_within = omega (arith, u.below, u.fits, u.long)

  -- the element at i - 1, one turn on
  moved-next : (j : ℕ) → i ≡ j + 1 → set stands (j + by) (get_or stands j 0) ≡ sets l (j + by) (take (end - j) (drop j l))
  moved-next j e =
      let part = take (end - (j + 1)) (drop (j + 1) l) in
      let stood : stands ≡ sets l (j + by + 1) part =
      u.moved
      ∙ ap₂ (λ (n m : ℕ). sets l n (take (end - m) (drop m l))) (let q : i + by ≡ j + by + 1 = omega (arith, e) in q) e in
      let read : get_or stands j 0 ≡ get_or l j 0 =
      ap (λ (s : List ℕ). get_or s j 0) stood ∙ get_d_sets_before l (j + by + 1) j part 0 (omega arith) in
      ap₂ (λ (s : List ℕ) (a : ℕ). set s (j + by) a) stood read
      ∙ sets_in_front l (j + by) (get_or l j 0 ∷ []) part
      ∙ ap (λ (s : List ℕ). sets l (j + by) s) (sym (part_cons l j end 0 (omega (arith, e, u.below)) (omega (arith, u.fits))))

  pub moving_next : from < i → Moving l by from end (set stands (i - 1 + by) (get_or stands (i - 1) 0)) (i - 1)
  moving_next h =
      let stood = moved-next (i - 1) (omega arith) in
      record {
        above = omega arith;
        below = omega (arith, u.below);
        fits = u.fits;
        long = ap length stood ∙ length-sets l (i - 1 + by) (take (end - (i - 1)) (drop (i - 1) l));
        moved = stood;
      }

  pub moving_done : i ≤ from → stands ≡ sets l (from + by) (take (end - from) (drop from l))
  moving_done h =
      u.moved ∙ ap (λ (n : ℕ). sets l (n + by) (take (end - n) (drop n l))) (let e : i ≡ from = omega (arith, u.above) in e)
