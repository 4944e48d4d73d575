-- The leaves of each segment are found again from the leaves of all: those in a row that have one segment number.
-- Assumes nothing.
use mathlib.Core.List.{List, [], ◌∷◌, ◌++◌}
use mathlib.Core.Logic.{◌⊎◌, inl, inr}
use mathlib.Core.Path.{◌≡◌, refl, sym, ap, ◌∙◌}
use Prim.Native.Nat.{ℕ, suc, ◌≤◌}
use native.Mathlib.Omega.{arith}
use lib.ListN.{length, drop}
use borrow.Author.Tests.{eq-eqb, ne_eqb}
use Rattle.laws.specs.Lists.{concat}
use Rattle.laws.specs.Every.{All, none, also}
use Rattle.laws.proofs.Cases.{equal_or_not}
use Rattle.form.specs.declared.separators.Separators.{Separators}
use Rattle.form.specs.Header.{splitting}
use Rattle.table.specs.Leaves.{Leaf, segment_leaves, header_leaves, leaves_from, message_leaves}
use Rattle.table.specs.Rows.{all_leaves}
use Rattle.table.specs.inner.Flat.{flat, under}
use Rattle.table.specs.inner.BySegment.{segment_of, with_leaf, by_segment}
use Rattle.table.proofs.Flat.{segment-flat, header-flat}
use Rattle.table.proofs.Counting.{length-segment_leaves}

-- that a leaf stands in a segment
abbrev pub InSegment : ℕ → Leaf → Type 0
InSegment n l = segment_of l ≡ n

-- groups of leaves, none of them empty, the first in segment n and each next one in the next segment
pub data Groups : ℕ → List (List Leaf) → Type 0 where
  done : {n : ℕ} → Groups n []
  group : {n : ℕ} {l : Leaf} {ls : List Leaf} {groups : List (List Leaf)} → All (InSegment n) (l ∷ ls) → Groups (suc n) groups
      → Groups n ((l ∷ ls) ∷ groups)

-- a leaf that belongs to the first group, and one that begins a group of its own
module _ (l m : Leaf) (ms : List Leaf) (groups : List (List Leaf)) where
  pub leaf-joins : segment_of l ≡ segment_of m → with_leaf l ((m ∷ ms) ∷ groups) ≡ (l ∷ m ∷ ms) ∷ groups
  unfolding with_leaf
  leaf-joins e = rw (eq-eqb (segment_of l) (segment_of m) e, with_leaf)

  pub leaf-begins : (segment_of l ≡ segment_of m → ⊥) → with_leaf l ((m ∷ ms) ∷ groups) ≡ (l ∷ []) ∷ (m ∷ ms) ∷ groups
  unfolding with_leaf
  leaf-begins e = rw (ne_eqb (segment_of l) (segment_of m) e, with_leaf)

-- the groups are the leaves, one after the other
concat-with_leaf : (l : Leaf) (groups : List (List Leaf)) → concat (with_leaf l groups) ≡ l ∷ concat groups
unfolding with_leaf concat
concat-with_leaf l [] = refl
concat-with_leaf l ([] ∷ groups) = refl
concat-with_leaf l ((m ∷ ms) ∷ groups) = go (equal_or_not (segment_of l) (segment_of m))
  where
    go : (segment_of l ≡ segment_of m) ⊎ (segment_of l ≡ segment_of m → ⊥) → concat (with_leaf l ((m ∷ ms) ∷ groups)) ≡ l ∷ (m ∷ (ms ++ concat groups))
    go (inl e) = ap concat (leaf-joins l m ms groups e)
    go (inr e) = ap concat (leaf-begins l m ms groups e)

pub concat-by_segment : (ls : List Leaf) → concat (by_segment ls) ≡ ls
unfolding by_segment concat
concat-by_segment [] = refl
concat-by_segment (l ∷ ls) = concat-with_leaf l (by_segment ls) ∙ ap (λ (r : List Leaf). l ∷ r) (concat-by_segment ls)

-- that leaves do not go on with a segment
abbrev pub Ended : ℕ → List Leaf → Type 0
Ended n [] = Unit {0}
Ended n (l ∷ ls) = InSegment n l → ⊥

-- a leaf stands first in its group
first_group : (l : Leaf) (groups : List (List Leaf)) → (ms : List Leaf) × (others : List (List Leaf)) × (with_leaf l groups ≡ (l ∷ ms) ∷ others)
unfolding with_leaf
first_group l [] = ([], [], refl)
first_group l ([] ∷ groups) = ([], groups, refl)
first_group l ((m ∷ ms) ∷ groups) = go (equal_or_not (segment_of l) (segment_of m))
  where
    go : (segment_of l ≡ segment_of m) ⊎ (segment_of l ≡ segment_of m → ⊥)
        → (ks : List Leaf) × (others : List (List Leaf)) × (with_leaf l ((m ∷ ms) ∷ groups) ≡ (l ∷ ks) ∷ others)
    go (inl e) = (m ∷ ms, groups, leaf-joins l m ms groups e)
    go (inr e) = ([], (m ∷ ms) ∷ groups, leaf-begins l m ms groups e)

-- the last leaf of a segment is a group of its own before those of the others
last_leaf : {n : ℕ} (l : Leaf) (rest : List Leaf) → InSegment n l → Ended n rest → by_segment (l ∷ rest) ≡ (l ∷ []) ∷ by_segment rest
unfolding by_segment with_leaf
last_leaf l [] i e = refl
last_leaf l (m ∷ rest) i e =
    let w = first_group m (by_segment rest) in
    ap (with_leaf l) w.2 ∙ leaf-begins l m w.0 w.1 (λ q. e (sym q ∙ i)) ∙ ap (λ (r : List (List Leaf)). (l ∷ []) ∷ r) (sym w.2)

-- the leaves of one segment, where those that follow stand in another, are the first group
pub group_first : {n : ℕ} (l : Leaf) {ls : List Leaf} (rest : List Leaf) → InSegment n l → All (InSegment n) ls → Ended n rest
    → by_segment (l ∷ (ls ++ rest)) ≡ (l ∷ ls) ∷ by_segment rest
unfolding by_segment
group_first l rest i none e = last_leaf l rest i e
group_first l rest i (also {a = m} {s = ms} j w) e =
    ap (with_leaf l) (group_first m rest j w e) ∙ leaf-joins l m ms (by_segment rest) (i ∙ sym j)

-- so groups are found again
groups_ended : {n : ℕ} {groups : List (List Leaf)} → Groups (suc n) groups → Ended n (concat groups)
unfolding concat
groups_ended done = tt
groups_ended (group (also i w) v) = λ e. omega arith

pub groups_found : {n : ℕ} {groups : List (List Leaf)} → Groups n groups → by_segment (concat groups) ≡ groups
unfolding by_segment concat
groups_found done = refl
groups_found (group {l = l} {ls = ls} {groups = groups} (also i w) v) =
    group_first l (concat groups) i w (groups_ended v) ∙ ap (λ (r : List (List Leaf)). (l ∷ ls) ∷ r) (groups_found v)

-- leaves under a number stand in that segment
under-segment : (n : ℕ) (ls : List Leaf) → All (InSegment n) (under (n ∷ []) ls)
unfolding under segment_of
under-segment n [] = none
under-segment n (l ∷ ls) = also refl (under-segment n ls)

-- a group that is not empty
grouped : {n : ℕ} (ls : List Leaf) {groups : List (List Leaf)} → 1 ≤ length ls → All (InSegment n) ls → Groups (suc n) groups
    → Groups n (ls ∷ groups)
grouped [] some w v = absurd (omega arith)
grouped (l ∷ ls) some w v = group w v

-- the leaves of a message's segments are such groups
module _ (ps : Separators) where
  pub segments-grouped : (n : ℕ) (ss : List (List ℕ)) → Groups n (leaves_from ps n ss)
  unfolding leaves_from
  segments-grouped n [] = done
  segments-grouped n (s ∷ ss) =
      grouped (segment_leaves ps n s) (omega (arith, length-segment_leaves ps n s))
      (rw (segment-flat ps n s) (under-segment n (flat (splitting ps) (1 ∷ 1 ∷ 1 ∷ 1 ∷ []) [] s))) (segments-grouped (suc n) ss)

  pub message-grouped : (ss : List (List ℕ)) → Groups 1 (message_leaves ps ss)
  unfolding message_leaves header_leaves segment_of
  message-grouped [] = done
  message-grouped (h ∷ ss) =
      grouped (header_leaves ps h) (omega arith)
      (rw (header-flat ps h) (also refl (also refl (under-segment 1 (flat (splitting ps) (3 ∷ 1 ∷ 1 ∷ 1 ∷ []) [] (drop 7 h))))))
      (segments-grouped 2 ss)

  pub segments-found : (ss : List (List ℕ)) → by_segment (all_leaves ps ss) ≡ message_leaves ps ss
  unfolding all_leaves
  segments-found ss = groups_found (message-grouped ss)

  -- one group a segment
  pub length-leaves_from : (n : ℕ) (ss : List (List ℕ)) → length (leaves_from ps n ss) ≡ length ss
  unfolding leaves_from
  length-leaves_from n [] = refl
  length-leaves_from n (s ∷ ss) = ap suc (length-leaves_from (suc n) ss)

  pub length-message_leaves : (ss : List (List ℕ)) → length (message_leaves ps ss) ≡ length ss
  unfolding message_leaves
  length-message_leaves [] = refl
  length-message_leaves (h ∷ ss) = ap suc (length-leaves_from 2 ss)
