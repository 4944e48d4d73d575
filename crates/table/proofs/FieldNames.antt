-- Kinds and contexts by leaves (S1, C1): a field that is a name is one leaf, since no separator is
-- a capital letter. So a segment's kind and a message's context are known from their leaves as they are from the bytes.
-- Assumes nothing.
use mathlib.Core.Bool.{true, false}
use mathlib.Core.List.{List, [], ◌∷◌, ◌++◌, append-nil, map}
use mathlib.Core.Logic.{⊎_elim}
use mathlib.Core.Path.{◌≡◌, refl, sym, ap, ap₂, ◌∙◌, subst}
use Prim.Native.Nat.{ℕ, zero, suc, ◌+◌, ◌≤◌}
use native.Mathlib.Omega.{arith}
use lib.ListN.{length, drop, get_or}
use borrow.Author.Tests.{eq-eqb, ne_eqb}
use Rattle.laws.specs.Lists.{among, count, numbered, same, first_from}
use Rattle.laws.specs.Texts.{bytes}
use Rattle.laws.specs.Every.{All, none, also}
use Rattle.laws.proofs.Cases.{equal_or_not}
use Rattle.laws.proofs.Every.{all_of}
use Rattle.laws.proofs.Lists.{every, Absent, Absent.nowhere, Absent.past, absent_among, count_pass, count_fail}
use Rattle.laws.proofs.Tests.{Tested, passed, failed, tested, never_both}
use Rattle.form.specs.declared.separators.Separators.{Separators}
use Rattle.form.specs.Header.{splitting}
use Rattle.form.specs.Names.{kind_names, context_names, number_among, kind_of, context_of}
use Rattle.form.proofs.HeaderRule.{AllAllowed}
use Rattle.form.proofs.Names.{capitals, capital_at, known_passes, kinds_capitals, contexts_capitals}
use Rattle.table.specs.Leaves.{Leaf, split, onto, leaves, segment_leaves, header_leaves, leaves_from, message_leaves, kind_of_segment, context_of_header}
use Rattle.table.specs.Rows.{kinds_of, context_in}
use Rattle.table.specs.inner.Flat.{leaf, ones, flat, under}
use Rattle.table.specs.inner.Filed.{header_bytes, Filed}
use Rattle.table.specs.inner.Sound.{Plain, plain}
use Rattle.table.specs.inner.BySegment.{field_of, goes_on, number_of_field, kind_among, context_among}
use Rattle.table.proofs.Splitting.{split_at, split-onto}
use Rattle.table.proofs.Flat.{leaves-flat}
use Rattle.table.proofs.Counting.{length-leaves}
use Rattle.table.proofs.Sound.{flat-plain}
use Rattle.table.proofs.SoundTest.{plain_true, plain-holds}
use Rattle.table.proofs.Back.{filed-some, filed-header}

-- separators of which none is a capital letter
abbrev pub NoCapitals : List ℕ → Type 0
NoCapitals ps = All (λ (p : ℕ). 65 ≤ p → p ≤ 90 → ⊥) ps

capital_absent : {ps : List ℕ} (b : ℕ) → NoCapitals ps → 65 ≤ b → b ≤ 90 → Absent b ps
capital_absent b none low high = nowhere
capital_absent b (also {a = p} h w) low high = past (λ (e : b ≡ p). h (omega arith) (omega arith)) (capital_absent b w low high)

pub capital_plain : {ps : List ℕ} → NoCapitals ps → (t : List ℕ) → capitals t ≡ true → Plain ps t
capital_plain w t h =
    all_of t 0 (λ i less. absent_among (capital_absent (get_or t i 0) w (capital_at t h i less).0 (capital_at t h i less).1))

-- a text that is not plain has a separator
pub not_plain : (ps s : List ℕ) → plain ps s ≡ false → 1 ≤ count (among ps) s
unfolding plain
not_plain ps [] h = absurd (never_both refl h)
not_plain ps (b ∷ s) h = go (tested (among ps b)) (not_plain ps s)
  where
    go : Tested (among ps b) → (plain ps s ≡ false → 1 ≤ count (among ps) s) → 1 ≤ count (among ps) (b ∷ s)
    go (passed e) ih = rw (count_pass (among ps) b s e) (omega arith)
    go (failed e) ih = rw (count_fail (among ps) b s e) (ih (rw (e, plain) at h))

-- a plain text is one leaf
pub plain-leaf : (ps pre : List ℕ) {s : List ℕ} → Plain ps s → leaves ps pre s ≡ leaf (pre ++ ones ps) s ∷ []
unfolding under flat
plain-leaf ps pre {s} w =
    leaves-flat ps pre s
    ∙ ap (under pre) (ap (flat ps (ones ps) []) (sym (append-nil s)) ∙ flat-plain ps (ones ps) [] [] w)

-- leaves of a field, and leaves of others
abbrev pub InField : ℕ → Leaf → Type 0
InField m l = field_of l ≡ m

abbrev pub Outside : ℕ → Leaf → Type 0
Outside m l = field_of l ≡ m → ⊥

under_field : (n m : ℕ) (ls : List Leaf) → All (InField m) (under (n ∷ m ∷ []) ls)
unfolding under field_of
under_field n m [] = none
under_field n m (l ∷ ls) = also refl (under_field n m ls)

pub field_leaves : (ps : List ℕ) (n m : ℕ) (s : List ℕ) → All (InField m) (leaves ps (n ∷ m ∷ []) s)
field_leaves ps n m s = rw (leaves-flat ps (n ∷ m ∷ []) s) (under_field n m (flat ps (ones ps) [] s))

outside_field : {m f : ℕ} {ls : List Leaf} → (m ≡ f → ⊥) → All (InField m) ls → All (Outside f) ls
outside_field d none = none
outside_field d (also h w) = also (λ e. d (sym h ∙ e)) (outside_field d w)

-- the step laws of a field's number: it is one leaf, it is more, it comes later
module _ (names : List (List ℕ)) (f : ℕ) (l : Leaf) (ls : List Leaf) where
  pub number-one : InField f l → goes_on f ls ≡ false → number_of_field names f (l ∷ ls) ≡ number_among names l.text
  unfolding number_of_field
  number-one h e = rw (eq-eqb (field_of l) f h, e, number_of_field)

  pub number_more : InField f l → goes_on f ls ≡ true → number_of_field names f (l ∷ ls) ≡ 0
  unfolding number_of_field
  number_more h e = rw (eq-eqb (field_of l) f h, e, number_of_field)

  pub number-later : Outside f l → number_of_field names f (l ∷ ls) ≡ number_of_field names f ls
  unfolding number_of_field
  number-later h = rw (ne_eqb (field_of l) f h, number_of_field)

pub number_past : (names : List (List ℕ)) (f : ℕ) {ks : List Leaf} (ls : List Leaf) → All (Outside f) ks
    → number_of_field names f (ks ++ ls) ≡ number_of_field names f ls
number_past names f ls none = refl
number_past names f ls (also {a = k} {s = ks} h w) = number-later names f k (ks ++ ls) h ∙ number_past names f ls w

-- leaves of another field do not go on with this one
other_field : (f : ℕ) (ks ls : List Leaf) → 1 ≤ length ks → All (Outside f) ks → goes_on f (ks ++ ls) ≡ false
unfolding goes_on
other_field f [] ls some w = absurd (omega arith)
other_field f (k ∷ ks) ls some (also h w) = ne_eqb (field_of k) f h

-- two leaves and more
several : (names : List (List ℕ)) (f : ℕ) (ks ls : List Leaf) → 2 ≤ length ks → All (InField f) ks → number_of_field names f (ks ++ ls) ≡ 0
unfolding goes_on
several names f [] ls two w = absurd (omega arith)
several names f (k ∷ []) ls two w = absurd (omega arith)
several names f (k ∷ m ∷ ks) ls two (also h (also j w)) = number_more names f k (m ∷ (ks ++ ls)) h (eq-eqb (field_of m) f j)

module _ (names : List (List ℕ)) (capital : every capitals names ≡ true) (unnamed : number_among names [] ≡ 0)
    (ps : List ℕ) (clear : NoCapitals ps) (n : ℕ) where
  -- a text with a separator is no name
  parted_unknown : (s : List ℕ) → plain ps s ≡ false → number_among names s ≡ 0
  parted_unknown s h =
      ⊎_elim (λ e. e)
      (λ (e : number_among names s ≡ 0 → ⊥).
      absurd (never_both (plain-holds ps (capital_plain clear s (known_passes names capitals capital s e))) h))
      (equal_or_not (number_among names s) 0)

  -- a field's leaves, and what does not go on with it
  one_field : (m : ℕ) (s : List ℕ) (ls : List Leaf) → goes_on m ls ≡ false
      → number_of_field names m (leaves ps (n ∷ m ∷ []) s ++ ls) ≡ number_among names s
  unfolding field_of
  one_field m s ls ends = go (tested (plain ps s))
    where
      go : Tested (plain ps s) → number_of_field names m (leaves ps (n ∷ m ∷ []) s ++ ls) ≡ number_among names s
      go (passed h) =
          rw (plain-leaf ps (n ∷ m ∷ []) (plain_true ps s h)) (number-one names m (leaf (n ∷ m ∷ ones ps) s) ls refl ends)
      go (failed h) =
          several names m (leaves ps (n ∷ m ∷ []) s) ls (omega (arith, length-leaves ps (n ∷ m ∷ []) s, not_plain ps s h)) (field_leaves ps n m s)
          ∙ sym (parted_unknown s h)

  -- the leaves of some fields, the first of them of number m
  abbrev fields_from : ℕ → List (List ℕ) → List Leaf
  fields_from m parts = numbered (λ k part. leaves ps (n ∷ k ∷ []) part) m parts

  not_next : (m : ℕ) (parts : List (List ℕ)) → goes_on m (fields_from (suc m) parts) ≡ false
  unfolding numbered goes_on
  not_next m [] = refl
  not_next m (s ∷ parts) =
      other_field m (leaves ps (n ∷ suc m ∷ []) s) (fields_from (suc (suc m)) parts)
      (omega (arith, length-leaves ps (n ∷ suc m ∷ []) s)) (outside_field (λ e. omega arith) (field_leaves ps n (suc m) s))

  -- the number of the field m + k is that of its text
  pub field_number : (m k : ℕ) (parts : List (List ℕ)) → number_of_field names (m + k) (fields_from m parts) ≡ number_among names (get_or parts k [])
  unfolding numbered number_of_field
  field_number m k [] = sym unnamed
  field_number m zero (s ∷ parts) =
      ap (λ (f : ℕ). number_of_field names f (fields_from m (s ∷ parts))) (let z : m + 0 ≡ m = omega arith in z)
      ∙ one_field m s (fields_from (suc m) parts) (not_next m parts)
  field_number m (suc k) (s ∷ parts) =
      number_past names (m + suc k) (fields_from (suc m) parts) (outside_field (λ e. omega arith) (field_leaves ps n m s))
      ∙ ap (λ (f : ℕ). number_of_field names f (fields_from (suc m) parts)) (let z : m + suc k ≡ suc m + k = omega arith in z)
      ∙ field_number (suc m) k parts

-- no name is empty
no_kind : number_among kind_names [] ≡ 0
unfolding kind_names bytes number_among first_from same
no_kind = refl

no_context : number_among context_names [] ≡ 0
unfolding context_names bytes number_among first_from same
no_context = refl

module _ (ps : Separators) (allowed : AllAllowed ps) where
  finer-clear : NoCapitals (drop 1 (splitting ps))
  unfolding splitting
  finer-clear =
      also allowed.repeater.no_capital (also allowed.subfield.no_capital (also allowed.subsubfield.no_capital none))

  -- the kind of a segment that is not the first
  pub segment-kind : (n : ℕ) (s : List ℕ) → kind_among (segment_leaves ps n s) ≡ kind_of_segment ps s
  unfolding kind_among segment_leaves splitting leaves kind_of_segment kind_of
  segment-kind n s = field_number kind_names kinds_capitals no_kind (drop 1 (splitting ps)) finer-clear n 1 0 (split ps.field s)

  -- the kind of the first, and the context
  pub header-kind : (rest : List ℕ) → kind_among (header_leaves ps (header_bytes ps ++ rest)) ≡ kind_of_segment ps (header_bytes ps ++ rest)
  unfolding kind_among header_leaves header_bytes number_of_field goes_on field_of kind_of_segment kind_of onto
  header-kind rest =
      ap (λ (ts : List (List ℕ)). number_among kind_names (get_or ts 0 []))
      (sym
      (split-onto ps.field 72 others (ne_eqb 72 ps.field (λ e. allowed.field.no_capital (omega arith) (omega arith)))
      ∙ ap (onto 72) (split_at ps.field ps.field (drop 1 others) (eq-eqb ps.field ps.field refl))))
    where
      others : List ℕ
      others = ps.field ∷ ps.subfield ∷ ps.repeater ∷ ps.escape ∷ ps.subsubfield ∷ ps.field ∷ rest

  pub header-context : (h : List ℕ) → number_of_field context_names 7 (header_leaves ps h) ≡ context_of_header ps h
  unfolding header_leaves context_of_header context_of number_of_field field_of
  header-context h =
      field_number context_names contexts_capitals no_context (drop 1 (splitting ps)) finer-clear 1 3 4 (split ps.field (drop 7 h))

  -- all kinds
  later-kinds : (n : ℕ) (ss : List (List ℕ)) → map kind_among (leaves_from ps n ss) ≡ map (kind_of_segment ps) ss
  unfolding leaves_from
  later-kinds n [] = refl
  later-kinds n (s ∷ ss) = ap₂ (λ (k : ℕ) (ks : List ℕ). k ∷ ks) (segment-kind n s) (later-kinds (suc n) ss)

  pub kinds-among : (ss : List (List ℕ)) → Filed ps ss → map kind_among (message_leaves ps ss) ≡ kinds_of ps ss
  unfolding message_leaves kinds_of
  kinds-among [] f = refl
  kinds-among (h ∷ ss) f =
      ap₂ (λ (k : ℕ) (ks : List ℕ). k ∷ ks)
      (subst (λ (s : List ℕ). kind_among (header_leaves ps s) ≡ kind_of_segment ps s) (filed-header ps h ss f) (header-kind (drop 7 h)))
      (later-kinds 2 ss)

  -- and the context
  pub context-among : (ss : List (List ℕ)) → Filed ps ss → context_among (message_leaves ps ss) ≡ context_in ps ss
  unfolding message_leaves context_in context_among
  context-among [] f = absurd (filed-some ps f)
  context-among (h ∷ ss) f = header-context h
