-- The first entry decides, or the rest: the step equations of what is defined by recursion on entries.
-- Assumes nothing.
use mathlib.Core.Bool.{Bool, true, false, ◌&&◌}
use mathlib.Core.List.{List, [], ◌∷◌}
use mathlib.Core.Path.{◌≡◌, refl, sym, ap, ap₂, ◌∙◌}
use Prim.Native.Nat.{ℕ, ◌≤◌}
use borrow.Author.Tests.{leb-true, le-leb}
use lib.Dec.{leb}
use Rattle.laws.specs.Lists.{same}
use Rattle.laws.proofs.Lists.{same_self, same_equal}
use Rattle.laws.proofs.Tests.{Tested, passed, failed, tested, never_both, and_first, and_second, and_both}
use Rattle.index.specs.declared.code.Compared.TheVariants.{Before, After}
use Rattle.index.specs.Order.{byte_order, comes_before}
use Rattle.index.specs.Index.{Entry, code_most, length_of, entry_code, rises_after, names, count_of}
use Rattle.index.specs.Adding.{new_entry, one_more, code_added}
use Rattle.index.proofs.Orders.{before_is, is_before_lem, after_not_before, before_differs, after_differs, before_trans}

-- the test `same` goes either way
same-turned : (s t : List ℕ) → same s t ≡ true → same t s ≡ true
same-turned s t e = ap (λ (r : List ℕ). same r s) (sym (same_equal s t e)) ∙ same_self s

pub same_sym : (s t : List ℕ) → same s t ≡ same t s
same_sym s t = go (tested (same s t)) (tested (same t s))
  where
    go : Tested (same s t) → Tested (same t s) → same s t ≡ same t s
    go (passed e) f = e ∙ sym (same-turned s t e)
    go (failed e) (passed f) = absurd (never_both (same-turned t s f) e)
    go (failed e) (failed f) = e ∙ sym f

-- what is named, and what is counted
module _ (e : Entry) (es : List Entry) (d : List ℕ) where
  pub names_hit : same d (entry_code e) ≡ true → names (e ∷ es) d ≡ true
  unfolding names
  names_hit h = ap (λ (b : Bool). elim b [ true ↦ true | false ↦ names es d ]) h

  pub names_miss : same d (entry_code e) ≡ false → names (e ∷ es) d ≡ names es d
  unfolding names
  names_miss h = ap (λ (b : Bool). elim b [ true ↦ true | false ↦ names es d ]) h

  pub count_hit : same d (entry_code e) ≡ true → count_of (e ∷ es) d ≡ e.count
  unfolding count_of
  count_hit h = ap (λ (b : Bool). elim b [ true ↦ e.count | false ↦ count_of es d ]) h

  pub count_miss : same d (entry_code e) ≡ false → count_of (e ∷ es) d ≡ count_of es d
  unfolding count_of
  count_miss h = ap (λ (b : Bool). elim b [ true ↦ e.count | false ↦ count_of es d ]) h

-- where a code is added
module _ (c : List ℕ) (e : Entry) (es : List Entry) where
  added_by : (x y : Bool) → same c (entry_code e) ≡ x → comes_before c (entry_code e) ≡ y
      → code_added c (e ∷ es)
      ≡ elim x [ true ↦ one_more e ∷ es | false ↦ elim y [ true ↦ new_entry c ∷ e ∷ es | false ↦ e ∷ code_added c es ] ]
  unfolding code_added
  added_by x y f g =
      ap₂
      (λ (v w : Bool).
      elim v [ true ↦ one_more e ∷ es | false ↦ elim w [ true ↦ new_entry c ∷ e ∷ es | false ↦ e ∷ code_added c es ] ])
      f g

  pub added_here : same c (entry_code e) ≡ true → code_added c (e ∷ es) ≡ one_more e ∷ es
  added_here h = added_by true (comes_before c (entry_code e)) h refl

  pub added_sooner : byte_order c (entry_code e) ≡ Before → code_added c (e ∷ es) ≡ new_entry c ∷ e ∷ es
  added_sooner h = added_by false true (before_differs c (entry_code e) h) (is_before_lem c (entry_code e) h)

  pub added-later : byte_order c (entry_code e) ≡ After → code_added c (e ∷ es) ≡ e ∷ code_added c es
  added-later h = added_by false false (after_differs c (entry_code e) h) (after_not_before c (entry_code e) h)

-- entries that rise: the first is behind the last code, and the rest rises after it
pub record Rising (last : List ℕ) (e : Entry) (es : List Entry) : Type 0 where
  pub some : 1 ≤ length_of e
  pub short : length_of e ≤ code_most
  pub behind : byte_order last (entry_code e) ≡ Before
  pub rest : rises_after (entry_code e) es ≡ true

module _ (last : List ℕ) (e : Entry) (es : List Entry) where
  pub rises-rising : rises_after last (e ∷ es) ≡ true → Rising last e es
  unfolding rises_after
  rises-rising h =
      let a = leb 1 (length_of e) in
      let b = leb (length_of e) code_most in
      let c = comes_before last (entry_code e) in
      let d = rises_after (entry_code e) es in
      let abc = and_first (a && b && c) d h in
      let ab = and_first (a && b) c abc in
      record {
        some = leb-true 1 (length_of e) (and_first a b ab);
        short = leb-true (length_of e) code_most (and_second a b ab);
        behind = before_is last (entry_code e) (and_second (a && b) c abc);
        rest = and_second (a && b && c) d h;
      }

  pub rising-rises : Rising last e es → rises_after last (e ∷ es) ≡ true
  unfolding rises_after
  rising-rises r =
      and_both
      (and_both (and_both (le-leb 1 (length_of e) r.some) (le-leb (length_of e) code_most r.short)) (is_before_lem last (entry_code e) r.behind))
      r.rest

-- what rises after a code rises after each one before it
pub rises_lower : (c last : List ℕ) (es : List Entry) → byte_order c last ≡ Before → rises_after last es ≡ true → rises_after c es ≡ true
unfolding rises_after
rises_lower c last [] h w = refl
rises_lower c last (e ∷ es) h w =
    let r = rises-rising last e es w in
    rising-rises c e es (record {
      some = r.some;
      short = r.short;
      behind = before_trans c last (entry_code e) h r.behind;
      rest = r.rest;
    })

-- and does not name it
pub rises-unnamed : (c : List ℕ) (es : List Entry) → rises_after c es ≡ true → names es c ≡ false
unfolding names
rises-unnamed c [] w = refl
rises-unnamed c (e ∷ es) w =
    let r = rises-rising c e es w in
    names_miss e es c (before_differs c (entry_code e) r.behind)
    ∙ rises-unnamed c es (rises_lower c (entry_code e) es r.behind r.rest)

-- what rises after a code rises after each one that is before the first entry too, which is not named then
pub rising_sooner : (c : List ℕ) {last : List ℕ} {e : Entry} {es : List Entry} → Rising last e es → byte_order c (entry_code e) ≡ Before
    → rises_after c (e ∷ es) ≡ true
rising_sooner c {e = e} {es = es} r h = rising-rises c e es (record { some = r.some; short = r.short; behind = h; rest = r.rest })

pub sooner_unnamed : (c : List ℕ) {last : List ℕ} {e : Entry} {es : List Entry} → Rising last e es → byte_order c (entry_code e) ≡ Before
    → names (e ∷ es) c ≡ false
sooner_unnamed c {e = e} {es = es} r h = rises-unnamed c (e ∷ es) (rising_sooner c r h)

-- what is not named is not counted
pub unnamed_uncounted : (es : List Entry) (c : List ℕ) → names es c ≡ false → count_of es c ≡ 0
unfolding count_of
unnamed_uncounted [] c n = refl
unnamed_uncounted (e ∷ es) c n = go (tested (same c (entry_code e))) (unnamed_uncounted es c)
  where
    go : Tested (same c (entry_code e)) → (names es c ≡ false → count_of es c ≡ 0) → count_of (e ∷ es) c ≡ 0
    go (passed h) ih = absurd (never_both (names_hit e es c h) n)
    go (failed h) ih = count_miss e es c h ∙ ih (sym (names_miss e es c h) ∙ n)
