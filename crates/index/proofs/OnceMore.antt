-- A count once more: where it is the last number, and where it is not.
-- Assumes nothing.
use mathlib.Core.List.{List}
use mathlib.Core.Path.{◌≡◌, ap, ◌∙◌}
use Prim.Native.Nat.{ℕ, suc, ◌+◌, ◌<◌}
use native.Mathlib.Omega.{arith}
use borrow.Author.Tests.{le-leb, lt-leb}
use lib.ListN.{get_or, set}
use Rattle.index.specs.Index.{counts_past}
use Rattle.index.specs.Refusals.{full_count}
use Rattle.index.specs.inner.Changing.{CountsOnceMore}

module _ (counts : List ℕ) (at : ℕ) where
  pub count_full : get_or counts at 0 ≡ 4294967295 → CountsOnceMore counts at full_count counts
  count_full e =
      let full = le-leb counts_past (suc (get_or counts at 0)) (omega (arith, e)) in record { number = rw full; counts_left = rw full }

  pub counted-once : (get_or counts at 0 ≡ 4294967295 → ⊥) → get_or counts at 0 < counts_past
      → CountsOnceMore counts at 0 (set counts at (get_or counts at 0 + 1))
  counted-once n h =
      let free = lt-leb counts_past (suc (get_or counts at 0)) (omega (arith, n, h)) in
      record {
        number = rw free;
        counts_left =
            ap (λ (m : ℕ). set counts at m) (let e : get_or counts at 0 + 1 ≡ suc (get_or counts at 0) = omega arith in e) ∙ (rw free);
      }
