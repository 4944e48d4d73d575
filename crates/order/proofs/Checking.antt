-- Checking an order kind by kind over the watcher: the place of refusal 10 is the first kind that the watcher says no to, one past
-- the end where it says yes to all and the last kind, C aside, is no L, and 0 otherwise. With the turns of a loop that does so.
-- Assumes nothing.
use mathlib.Core.Bool.{Bool, true, false, beq}
use mathlib.Core.List.{List, [], ◌∷◌}
use mathlib.Core.Path.{◌≡◌, refl, sym, ap, ◌∙◌, subst}
use Prim.Native.Nat.{ℕ, suc, ◌+◌, ◌≤◌, ◌<◌}
use native.Mathlib.Numerals.{add-one}
use native.Mathlib.Omega.{arith}
use borrow.Author.Tests.{eq-eqb, ne_eqb}
use lib.Dec.{eqb}
use lib.ListN.{length, drop, get_or, drop_of_length-le}
use lib.Seq.{drop-cons}
use Rattle.laws.specs.inner.Tests.{below, every_from}
use Rattle.laws.proofs.Tests.{where_holds, equal_tests}
use Rattle.order.specs.Grammar.{Shape}
use Rattle.order.specs.Contexts.{is_context}
use Rattle.order.specs.inner.Place.{rows_told, row_empties, rows_empty, some_left, place_from, misplaced}
use Rattle.order.specs.inner.Followers.{left_at, follows}
use Rattle.order.specs.Watcher.{begun}
use Rattle.order.specs.inner.Telling.{tell_of}
use Rattle.order.specs.declared.watcher.Watcher.{Watcher}
use Rattle.order.specs.declared.watcher.Told.{Told}
use Rattle.order.proofs.Seven.{all_seven₂, states}
use Rattle.order.proofs.States.{last_after, next_state, next_last}
use Rattle.order.proofs.Misplaced.{place_end, place_here, place-behind, bad_context}
use Rattle.order.proofs.Watching.{allows-follows}
use Rattle.order.proofs.Watched.{says, goes_on, no_to_all}

-- the place by the watcher, counted from `at`
unfoldable pub place_by : ℕ → Watcher → List ℕ → ℕ
place_by at w [] = elim (eqb w.last 11) [ true ↦ 0 | false ↦ at ]
place_by at w (k ∷ ks) = elim (tell_of w k).yes [ true ↦ place_by (suc at) (tell_of w k).watcher ks | false ↦ at ]

module _ (at : ℕ) (w : Watcher) where
  pub place-whole : w.last ≡ 11 → place_by at w [] ≡ 0
  unfolding place_by
  place-whole e = rw (eq-eqb w.last 11 e, place_by)

  pub place_short : (w.last ≡ 11 → ⊥) → place_by at w [] ≡ at
  unfolding place_by
  place_short n = rw (ne_eqb w.last 11 n, place_by)

  module _ (k : ℕ) (ks : List ℕ) where
    pub place-yes : (tell_of w k).yes ≡ true → place_by at w (k ∷ ks) ≡ place_by (suc at) (tell_of w k).watcher ks
    unfolding place_by
    place-yes e = rw (e, place_by)

    pub place_no : (tell_of w k).yes ≡ false → place_by at w (k ∷ ks) ≡ at
    unfolding place_by
    place_no e = rw (e, place_by)

-- at a state that is reached nothing more need come exactly where the last kind is L

ends : ℕ → ℕ → Bool
ends c x = elim (some_left (left_at c x)) [ true ↦ beq (rows_empty (left_at c x)) (eqb x 11) | false ↦ true ]

all_end : below 7 (λ i. below 12 (λ x. ends (suc i) x)) ≡ true
unfolding ends states rows_empty row_empties every_from
all_end = refl

module _ (c : ℕ) (t : is_context c ≡ true) where
  ends_at_L : (x : ℕ) → x < 12 → some_left (left_at c x) ≡ true → rows_empty (left_at c x) ≡ eqb x 11
  unfolding ends
  ends_at_L x hx left =
      equal_tests (rows_empty (left_at c x)) (eqb x 11)
      (where_holds (beq (rows_empty (left_at c x)) (eqb x 11)) left (all_seven₂ 12 ends all_end c t x hx))

  abbrev Same : ℕ → ℕ → List ℕ → Type 0
  Same at x ks = place_by at (record { context = c; last = x }) ks ≡ place_from at (left_at c x) ks

  same_by : (at x : ℕ) → x < 12 → some_left (left_at c x) ≡ true → (k : ℕ) (ks : List ℕ)
      → ((y : ℕ) → y < 12 → some_left (left_at c y) ≡ true → Same (suc at) y ks)
      → (b : Bool) → (tell_of (record { context = c; last = x }) k).yes ≡ b → Same at x (k ∷ ks)
  unfolding follows
  same_by at x hx left k ks next true y =
      let w : Watcher = record { context = c; last = x } in
      let s : some_left (rows_told k (left_at c x)) ≡ true = sym (says w k ∙ allows-follows c t x hx left k) ∙ y in
      let e = next_state c t x k hx s in
      place-yes at w k ks y ∙ ap (λ (v : Watcher). place_by (suc at) v ks) (goes_on w k y)
      ∙ next (last_after x k) (next_last c t x k hx s) (subst (λ (r : List (List Shape)). some_left r ≡ true) e s)
      ∙ sym (place-behind at k ks (left_at c x) s ∙ ap (λ (r : List (List Shape)). place_from (suc at) r ks) e)
  same_by at x hx left k ks next false y =
      let w : Watcher = record { context = c; last = x } in
      let n : follows c x k ≡ false = sym (says w k ∙ allows-follows c t x hx left k) ∙ y in
      place_no at w k ks y ∙ sym (place_here at k ks (left_at c x) n)

  same_place : (at x : ℕ) → x < 12 → some_left (left_at c x) ≡ true → (ks : List ℕ) → Same at x ks
  unfolding place_by
  same_place at x hx left [] =
      ap {B = ℕ} (λ (b : Bool). elim b [ true ↦ 0 | false ↦ at ]) (sym (ends_at_L x hx left)) ∙ sym (place_end at (left_at c x))
  same_place at x hx left (k ∷ ks) =
      same_by at x hx left k ks (λ y hy l. same_place (suc at) y hy l ks) (tell_of (record { context = c; last = x }) k).yes refl

  in_context : (ks : List ℕ) → place_by 1 (begun c) ks ≡ misplaced c ks
  unfolding misplaced left_at some_left
  in_context ks = same_place 1 0 (omega arith) refl ks

bad_place : (c : ℕ) → is_context c ≡ false → (ks : List ℕ) → place_by 1 (begun c) ks ≡ 1
bad_place c e [] = place_short 1 (begun c) (λ q. let z : ⊥ = omega arith in z)
bad_place c e (k ∷ ks) = place_no 1 (begun c) k ks (no_to_all (begun c) k e)

-- the place by the watcher is the place by derivations, for every number of a context and every order
pub place_by_watcher : (c : ℕ) (ks : List ℕ) → place_by 1 (begun c) ks ≡ misplaced c ks
place_by_watcher c ks = by (is_context c) refl
  where
    by : (b : Bool) → is_context c ≡ b → place_by 1 (begun c) ks ≡ misplaced c ks
    by true e = in_context c e ks
    by false e = bad_place c e ks ∙ sym (bad_context c e ks)

-- the turns of a loop over the kinds ks: the watcher w has said yes to the first i of them, and r is what it says of the next, be it
-- told by the grammar or by the table

pub record Checked (c : ℕ) (ks : List ℕ) (i : ℕ) (w : Watcher) : Type 0 where
  pub so_far : place_by (i + 1) w (drop i ks) ≡ misplaced c ks

pub check_begins : (c : ℕ) (ks : List ℕ) → Checked c ks 0 (begun c)
check_begins c ks = record { so_far = place_by_watcher c ks }

module _ {c : ℕ} {ks : List ℕ} {i : ℕ} {w : Watcher} (h : Checked c ks i w) where
  turn : i < length ks → place_by (i + 1) w (get_or ks i 0 ∷ drop (i + 1) ks) ≡ misplaced c ks
  turn l = ap (place_by (i + 1) w) (sym (drop-cons ks i 0 l ∙ ap (λ (n : ℕ). get_or ks i 0 ∷ drop n ks) (sym (add-one i)))) ∙ h.so_far

  module _ (l : i < length ks) {r : Told} (e : r ≡ tell_of w (get_or ks i 0)) where
    pub check_yes : r.yes ≡ true → Checked c ks (i + 1) r.watcher
    check_yes y =
        record {
          so_far = ap (λ (n : ℕ). place_by n r.watcher (drop (i + 1) ks)) (add-one (i + 1))
              ∙ ap (λ (x : Told). place_by (suc (i + 1)) x.watcher (drop (i + 1) ks)) e
              ∙ sym (place-yes (i + 1) w (get_or ks i 0) (drop (i + 1) ks) (ap (λ (x : Told). x.yes) (sym e) ∙ y)) ∙ turn l;
        }

    pub check_no : r.yes ≡ false → misplaced c ks ≡ i + 1
    check_no y = sym (sym (place_no (i + 1) w (get_or ks i 0) (drop (i + 1) ks) (ap (λ (x : Told). x.yes) (sym e) ∙ y)) ∙ turn l)

  pub check_whole : length ks ≤ i → w.last ≡ 11 → misplaced c ks ≡ 0
  check_whole l e = sym (sym (place-whole (i + 1) w e) ∙ ap (place_by (i + 1) w) (sym (drop_of_length-le ks l)) ∙ h.so_far)

  pub check_short : length ks ≤ i → (w.last ≡ 11 → ⊥) → misplaced c ks ≡ i + 1
  check_short l n = sym (sym (place_short (i + 1) w n) ∙ ap (place_by (i + 1) w) (sym (drop_of_length-le ks l)) ∙ h.so_far)
