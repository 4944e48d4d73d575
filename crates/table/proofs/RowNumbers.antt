-- How large the numbers of the segment rows of an accepted message are: a kind is one of twelve, an owner is a row, and first leaf and leaf
-- count are bounded by the leaves. So the limits bound them, whatever a row could hold.
-- Assumes nothing.
use mathlib.Core.List.{List, [], ◌∷◌, map}
use mathlib.Core.Path.{◌≡◌, refl, subst⁻¹}
use Prim.Native.Nat.{ℕ, zero, suc, ◌+◌, ◌≤◌, ◌<◌}
use native.Mathlib.Nat.{le_trans}
use native.Mathlib.Omega.{arith}
use lib.ListN.{length, get_or, length-append, length-map}
use Rattle.laws.specs.Every.{All, none, also}
use Rattle.laws.specs.Lists.{concat}
use Rattle.laws.proofs.Every.{all_first, all_rest, all_of}
use Rattle.form.specs.declared.limits.Limits.{Limits}
use Rattle.form.specs.declared.separators.Separators.{Separators}
use Rattle.form.proofs.Names.{kind-within}
use Rattle.order.specs.Owners.{owners}
use Rattle.order.proofs.NoC.{owner-earlier}
use Rattle.order.proofs.Owner.{length-owners}
use Rattle.table.specs.Leaves.{Leaf, kind_of_segment, message_leaves}
use Rattle.table.specs.Rows.{Table, Next, none_before, next_after, segment_rows_from, kinds_of, context_in, all_leaves, table_of}
use Rattle.table.proofs.Accepting.{Judged}

module _ (most : ℕ) where
  abbrev Few : List ℕ → Type 0
  Few s = All (λ (n : ℕ). n ≤ most) s

  kinds-few : 12 ≤ most → (ps : Separators) (segments : List (List ℕ)) → Few (map (kind_of_segment ps) segments)
  unfolding kind_of_segment
  kinds-few h ps [] = none
  kinds-few h ps (s ∷ segments) = also (le_trans (kind-within _) h) (kinds-few h ps segments)

  owners-few : (lv : ℕ → ℕ) (ks : List ℕ) → length ks ≤ most → Few (owners lv ks)
  owners-few lv ks h = all_of (owners lv ks) 0 (λ i less. below i (omega (arith, length-owners lv ks)) (get_or (owners lv ks) i 0) refl)
    where
      below : (i : ℕ) → i < length ks → (n : ℕ) → get_or (owners lv ks) i 0 ≡ n → get_or (owners lv ks) i 0 ≤ most
      below i less zero e = omega (arith, e)
      below i less (suc n) e = omega (arith, e, (owner-earlier lv ks i n less e).before)

  rows_few : (n : Next) (ks os : List ℕ) (ls : List (List Leaf)) → Few ks → Few os → n.first_leaf + length (concat ls) ≤ most
      → Few (segment_rows_from n ks os ls)
  unfolding segment_rows_from concat
  rows_few n [] os ls kinds owned fits = none
  rows_few n (k ∷ ks) [] ls kinds owned fits = none
  rows_few n (k ∷ ks) (o ∷ os) [] kinds owned fits = none
  rows_few n (k ∷ ks) (o ∷ os) (l ∷ ls) kinds owned fits =
      let long = length-append l (concat ls) in
      let rest = rows_few (next_after n l) ks os ls (all_rest kinds) (all_rest owned) (omega (arith, fits, long)) in
      also (all_first kinds) (also (all_first owned) (also {a = n.first_leaf} (omega (arith, fits)) (also {a = length l} (omega (arith, fits, long)) rest)))

  pub judged-few : {L : Limits} {levels : ℕ → ℕ → ℕ} {ps : Separators} {segments : List (List ℕ)} {t : Table} → 12 ≤ most → L.segments ≤ most
      → L.leaves + 1 ≤ most → Judged L levels ps segments t → Few t.segment_rows
  unfolding table_of kinds_of all_leaves
  judged-few {L} {levels} {ps} {segments} {t} kinds rows leaves w =
      subst⁻¹ (λ (u : Table). Few u.segment_rows) w.table
      (rows_few none_before (kinds_of ps segments) (owners (levels (context_in ps segments)) (kinds_of ps segments)) (message_leaves ps segments)
      (kinds-few kinds ps segments)
      (owners-few (levels (context_in ps segments)) (kinds_of ps segments)
      (omega (arith, rows, w.few-segments, length-map segments (kind_of_segment ps))))
      (omega (arith, leaves, w.few-leaves)))
