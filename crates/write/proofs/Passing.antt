-- The tests that the code makes are passed exactly where the table is sound row by row.
-- Assumes nothing.
use mathlib.Core.Bool.{true}
use mathlib.Core.List.{List, [], ◌∷◌, map}
use mathlib.Core.Logic.{◌⊎◌, inl, inr}
use mathlib.Core.Path.{◌≡◌, refl, sym, ap, ap₂, ◌∙◌}
use Prim.Native.Nat.{ℕ, zero, suc, ◌+◌, ◌-◌, ◌*◌, ◌≤◌, ◌<◌}
use native.Mathlib.Omega.{arith}
use lib.ListN.{length, drop, drop_of_length-le}
use borrow.Author.Tests.{eq-eqb}
use Rattle.laws.specs.Every.{All, none, also}
use Rattle.laws.specs.Tables.{values}
use Rattle.laws.proofs.Cases.{less_or_not}
use Rattle.laws.proofs.Tests.{never_both, and_first, and_second, and_both}
use Rattle.form.specs.declared.separators.Separators.{Separators}
use Rattle.form.specs.Header.{splitting}
use Rattle.table.specs.Leaves.{Leaf}
use Rattle.table.specs.inner.Flat.{leaf}
use Rattle.table.specs.Rows.{Table, segment_row_size, segment_rows_from, kind_in, owner_in}
use Rattle.table.specs.inner.Back.{leaf_at, leaves_of, separators_at, separators_in}
use Rattle.table.specs.inner.BySegment.{kind_among}
use Rattle.table.specs.inner.RowTests.{go_on_from}
use Rattle.table.proofs.SegmentRows.{row_states_lem}
use Rattle.write.specs.inner.Local.{HeaderRows, third_place}
use Rattle.write.proofs.HeaderTest.{header-leaves, leaves-header}
use Rattle.write.proofs.GoingOn.{sound_parts}
use Rattle.write.proofs.SegmentTests.{states_all, all-stated}
use Rattle.write.specs.inner.Tests.{leaves_between, row_states, groups_stated, sound_leaves}

-- segment rows against their columns
module _ (segs : List ℕ) where
  pub record Stated (i n first : ℕ) (groups : List (List Leaf)) : Type 0 where
    pub kinds : values (kind_in segs) i n ≡ map kind_among groups
    pub known : All (λ (k : ℕ). k ≡ 0 → ⊥) (map kind_among groups)
    pub rows : drop (i * segment_row_size) segs ≡ segment_rows_from (record { first_leaf = first }) (map kind_among groups) (values (owner_in segs) i n) groups

  pub stated-rows : (i n first : ℕ) (groups : List (List Leaf)) → length segs ≡ (i + n) * segment_row_size → groups_stated segs i n first groups ≡ true
      → Stated i n first groups
  unfolding groups_stated values segment_rows_from
  stated-rows i zero first [] long h = record { kinds = refl; known = none; rows = drop_of_length-le segs {i = i * segment_row_size} (omega arith) }
  stated-rows i zero first (g ∷ gs) long h = absurd (never_both h refl)
  stated-rows i (suc n) first [] long h = absurd (never_both h refl)
  stated-rows i (suc n) first (g ∷ gs) long h =
      let here = row_states segs i (kind_among g) first (length g) in
      let later = groups_stated segs (suc i) n (first + length g) gs in
      let w = states_all segs i (kind_among g) first (length g) (and_first here later h) in
      let ih = stated-rows (suc i) n (first + length g) gs (omega arith) (and_second here later h) in
      record {
        kinds = ap₂ (λ (x : ℕ) (s : List ℕ). x ∷ s) w.same_kind ih.kinds;
        known = also w.unlike_none ih.known;
        rows =
            (row_states_lem segs i (omega arith) (kind_among g) (owner_in segs i) first (length g)
            (segment_rows_from (record { first_leaf = first + length g }) (map kind_among gs) (values (owner_in segs) (suc i) n) gs)).1 (
              record { kind_is = w.same_kind; owner_is = refl; first_is = w.same_first; count_is = w.same_count },
              ih.rows,
            );
      }

  pub record Again (i n first : ℕ) (groups : List (List Leaf)) (os : List ℕ) : Type 0 where
    pub stated : groups_stated segs i n first groups ≡ true
    pub owners_are : values (owner_in segs) i n ≡ os
    pub kinds_are : values (kind_in segs) i n ≡ map kind_among groups

  pub rows_again : (i n first : ℕ) (groups : List (List Leaf)) (os : List ℕ) → length segs ≡ (i + n) * segment_row_size → length groups ≡ n
      → All (λ (k : ℕ). k ≡ 0 → ⊥) (map kind_among groups) → length os ≡ n
      → drop (i * segment_row_size) segs ≡ segment_rows_from (record { first_leaf = first }) (map kind_among groups) os groups → Again i n first groups os
  unfolding groups_stated values segment_rows_from
  rows_again i zero first [] [] long same_many known fit e = record { stated = refl; owners_are = refl; kinds_are = refl }
  rows_again i zero first [] (o ∷ os) long same_many known fit e = absurd (omega arith)
  rows_again i zero first (g ∷ gs) os long same_many known fit e = absurd (omega arith)
  rows_again i (suc n) first [] os long same_many known fit e = absurd (omega arith)
  rows_again i (suc n) first (g ∷ gs) [] long same_many known fit e = absurd (omega arith)
  rows_again i (suc n) first (g ∷ gs) (o ∷ os) long same_many (also k ks) fit e =
      let w = (row_states_lem segs i (omega arith) (kind_among g) o first (length g) (segment_rows_from (record { first_leaf = first + length g }) (map kind_among gs) os gs)).0 e in
      let ih = rows_again (suc i) n (first + length g) gs os (omega arith) (omega arith) ks (omega arith) w.1 in
      record {
        stated =
            and_both
            (all-stated segs i (kind_among g) first (length g)
            (record { unlike_none = k; same_kind = w.0.kind_is; same_first = w.0.first_is; same_count = w.0.count_is }))
            ih.stated;
        owners_are = ap₂ (λ (x : ℕ) (s : List ℕ). x ∷ s) w.0.owner_is ih.owners_are;
        kinds_are = ap₂ (λ (x : ℕ) (s : List ℕ). x ∷ s) w.0.kind_is ih.kinds_are;
      }

-- the leaves after the header's
drop_two : (rows text : List ℕ) (n : ℕ) → drop 2 (values (leaf_at rows text) 0 n) ≡ leaves_between rows text 2 n
unfolding values
drop_two rows text zero = refl
drop_two rows text (suc zero) = refl
drop_two rows text (suc (suc n)) = ap (values (leaf_at rows text) 2) (let e : n ≡ suc (suc n) - 2 = omega arith in e)

module _ (t : Table) where
  abbrev seps : Separators
  seps = separators_at t.card.separator t.leaf_rows t.text

  -- the leaf rows
  pub sound-header : sound_leaves t.card.separator t.leaf_rows t.text t.card.leaves ≡ true → HeaderRows t
  unfolding separators_at leaf_at
  sound-header h =
      let w = sound_parts t.card.separator t.leaf_rows t.text t.card.leaves h in
      let head = header-leaves t.leaf_rows t.text w.header in
      record { allowed = w.allowed; distinct = w.distinct; first = ap₂ leaf head.first head.letter; second = head.second; four = head.four }

  pub header-sound : HeaderRows t → go_on_from (splitting (separators_in t)) third_place (drop 2 (leaves_of t)) ≡ true
      → sound_leaves t.card.separator t.leaf_rows t.text t.card.leaves ≡ true
  unfolding sound_leaves separators_at leaves_of leaf_at
  header-sound w o =
      and_both
      (and_both
      (sym (leaves-header t.leaf_rows t.text (ap (λ (l : Leaf). l.place) w.first) (ap (λ (l : Leaf). l.text) w.first) w.second)
      ∙ eq-eqb (length (leaf_at t.leaf_rows t.text 1).text) 4 w.four)
      (and_both w.allowed w.distinct))
      (ap (go_on_from (splitting seps) third_place) (sym (drop_two t.leaf_rows t.text t.card.leaves)) ∙ o)

  pub sound-others : sound_leaves t.card.separator t.leaf_rows t.text t.card.leaves ≡ true
      → go_on_from (splitting (separators_in t)) third_place (drop 2 (leaves_of t)) ≡ true
  unfolding separators_at leaves_of
  sound-others h =
      ap (go_on_from (splitting seps) third_place) (drop_two t.leaf_rows t.text t.card.leaves)
      ∙ (sound_parts t.card.separator t.leaf_rows t.text t.card.leaves h).goes

  pub three-leaves : go_on_from (splitting (separators_in t)) third_place (drop 2 (leaves_of t)) ≡ true → 3 ≤ t.card.leaves
  unfolding go_on_from leaves_of values
  three-leaves o = go (less_or_not t.card.leaves 3)
    where
      go : (t.card.leaves < 3) ⊎ (3 ≤ t.card.leaves) → 3 ≤ t.card.leaves
      go (inr h) = h
      go (inl h) =
          absurd (never_both o
          (ap (go_on_from (splitting (separators_in t)) third_place)
          (drop_two t.leaf_rows t.text t.card.leaves ∙ ap (values (leaf_at t.leaf_rows t.text) 2) (let e : t.card.leaves - 2 ≡ 0 = omega arith in e))))
