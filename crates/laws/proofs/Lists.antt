-- Laws of the small functions on lists: `same` tells equality, `among` membership, `count` counts, `numbered` gathers, `first_from` finds the first.
-- Assumes nothing.
use mathlib.Core.Bool.{Bool, true, false, ◌&&◌}
use mathlib.Core.List.{List, [], ◌∷◌, ◌++◌, map}
use mathlib.Core.Logic.{⊎_elim}
use mathlib.Core.Path.{◌≡◌, refl, sym, ap, ap₂, ◌∙◌}
use Prim.Native.Nat.{ℕ, zero, suc, ◌+◌, ◌≤◌, ◌<◌, zero-le, suc-le-suc}
use native.Mathlib.Nat.{le_of_suc-le-suc, not-suc-le-zero, zero-add, add-zero, add-suc, suc-add}
use native.Mathlib.Omega.{arith}
use lib.Dec.{eqb}
use lib.ListN.{length, get_or}
use borrow.Author.Tests.{eqb-true, eq-eqb, ne_eqb}
use Rattle.laws.specs.Lists.{same, among, count, numbered, first_from}
use Rattle.laws.specs.inner.First.{first_held}
use Rattle.laws.proofs.Tests.{Tested, passed, failed, tested, either, never_both, and_first, and_second, and_both}

module _ {ℓ ℓ'} {A : Type ℓ} {B : Type ℓ'} (f : A → B) where
  pub map-append : (s t : List A) → map f (s ++ t) ≡ map f s ++ map f t
  map-append [] t = refl
  map-append (a ∷ s) t = ap {B = List B} (λ r. f a ∷ r) (map-append s t)

  -- what f makes of the element at a place; past the end each list has its own substitute
  pub get_d_map : (s : List A) (i : ℕ) (d : A) (e : B) → i < length s → get_or (map f s) i e ≡ f (get_or s i d)
  get_d_map [] i d e h = absurd (not-suc-le-zero h)
  get_d_map (a ∷ s) zero d e h = refl
  get_d_map (a ∷ s) (suc i) d e h = get_d_map s i d e (le_of_suc-le-suc h)

-- `same s t` holds exactly where s and t are equal
pub same_self : (s : List ℕ) → same s s ≡ true
unfolding same
same_self [] = refl
same_self (a ∷ s) = and_both (eq-eqb a a refl) (same_self s)

pub same_equal : (s t : List ℕ) → same s t ≡ true → s ≡ t
unfolding same
same_equal [] [] h = refl
same_equal [] (b ∷ t) h = absurd (never_both h refl)
same_equal (a ∷ s) [] h = absurd (never_both h refl)
same_equal (a ∷ s) (b ∷ t) h =
    ap₂ (λ (x : ℕ) (r : List ℕ). x ∷ r) (eqb-true a b (and_first (eqb a b) (same s t) h)) (same_equal s t (and_second (eqb a b) (same s t) h))

pub different-same : {s t : List ℕ} → (s ≡ t → ⊥) → same s t ≡ false
different-same {s} {t} h = ⊎_elim (λ e. absurd (h (same_equal s t e))) (λ e. e) (either (same s t))

-- `among`: the first element decides, or the rest
module _ (a : ℕ) (s : List ℕ) (b : ℕ) where
  pub among_hit : eqb b a ≡ true → among (a ∷ s) b ≡ true
  unfolding among
  among_hit h = rw (h, among)

  pub among_miss : eqb b a ≡ false → among (a ∷ s) b ≡ among s b
  unfolding among
  among_miss h = rw (h, among)

-- an element that stands in the list is among it, and what is not among it stands nowhere in it
pub among_at : (s : List ℕ) (b k : ℕ) → k < length s → b ≡ get_or s k 0 → among s b ≡ true
unfolding among
among_at [] b k h e = absurd (not-suc-le-zero h)
among_at (a ∷ s) b zero h e = rw (eq-eqb b a e, among)
among_at (a ∷ s) b (suc k) h e =
    ⊎_elim
    (λ (y : eqb b a ≡ true). rw (y, among))
    (λ (n : eqb b a ≡ false). rw (n, among) (among_at s b k (le_of_suc-le-suc h) e))
    (either (eqb b a))

pub not_among_at : (s : List ℕ) (b k : ℕ) → among s b ≡ false → k < length s → b ≡ get_or s k 0 → ⊥
not_among_at s b k n h e = never_both (among_at s b k h e) n

-- b stands nowhere in the list: it differs from each element
pub data Absent (b : ℕ) : List ℕ → Type 0 where
  nowhere : Absent b []
  past : {a : ℕ} {s : List ℕ} → (b ≡ a → ⊥) → Absent b s → Absent b (a ∷ s)

pub absent_among : {b : ℕ} {s : List ℕ} → Absent b s → among s b ≡ false
unfolding among
absent_among nowhere = refl
absent_among {b} (past {a} {s} h n) = rw (ne_eqb b a h, among) (absent_among n)

pub among_first : (a : ℕ) (s : List ℕ) → among (a ∷ s) a ≡ true
unfolding among
among_first a s = rw (eq-eqb a a refl, among)

pub among_later : (a b : ℕ) (s : List ℕ) → among s b ≡ true → among (a ∷ s) b ≡ true
unfolding among
among_later a b s h = ⊎_elim (λ (y : eqb b a ≡ true). rw (y, among)) (λ (n : eqb b a ≡ false). rw (n, among) h) (either (eqb b a))

-- `count`: an element that passes is one more
module _ {ℓ} {A : Type ℓ} (p : A → Bool) where
  pub count_pass : (a : A) (s : List A) → p a ≡ true → count p (a ∷ s) ≡ suc (count p s)
  unfolding count
  count_pass a s h = rw (h, count)

  pub count_fail : (a : A) (s : List A) → p a ≡ false → count p (a ∷ s) ≡ count p s
  unfolding count
  count_fail a s h = rw (h, count)

  pub count-append : (s t : List A) → count p (s ++ t) ≡ count p s + count p t
  unfolding count
  count-append [] t = sym (zero-add (count p t))
  count-append (a ∷ s) t = go (tested (p a)) (count-append s t)
    where
      go : Tested (p a) → count p (s ++ t) ≡ count p s + count p t → count p (a ∷ (s ++ t)) ≡ count p (a ∷ s) + count p t
      go (passed h) ih =
          count_pass a (s ++ t) h ∙ ap suc ih ∙ sym (suc-add (count p s) (count p t))
          ∙ ap (λ (n : ℕ). n + count p t) (sym (count_pass a s h))
      go (failed h) ih = count_fail a (s ++ t) h ∙ ih ∙ ap (λ (n : ℕ). n + count p t) (sym (count_fail a s h))

-- `numbered`: what is made of each element may be made over, and gathered by any number
module _ {ℓ ℓ'} {A : Type ℓ} {B : Type ℓ'} where
  pub numbered-map {κ} : {C : Type κ} (g : B → C) (f : ℕ → A → List B) (n : ℕ) (s : List A)
      → map g (numbered f n s) ≡ numbered (λ m a. map g (f m a)) n s
  unfolding numbered
  numbered-map g f n [] = refl
  numbered-map {C = C} g f n (a ∷ s) =
      map-append g (f n a) (numbered f (suc n) s) ∙ ap {B = List C} (λ r. map g (f n a) ++ r) (numbered-map g f (suc n) s)

  pub numbered_as : (f g : ℕ → A → List B) → ((m : ℕ) (a : A) → f m a ≡ g m a) → (n : ℕ) (s : List A) → numbered f n s ≡ numbered g n s
  unfolding numbered
  numbered_as f g h n [] = refl
  numbered_as f g h n (a ∷ s) = ap₂ (λ (x y : List B). x ++ y) (h n a) (numbered_as f g h (suc n) s)

-- whether every element passes a test, and that each of them does
unfoldable pub every {ℓ} : {A : Type ℓ} → (A → Bool) → List A → Bool
every f [] = true
every f (a ∷ s) = f a && every f s

pub every_element {ℓ} : {A : Type ℓ} (f : A → Bool) (s : List A) (d : A) → every f s ≡ true → (k : ℕ) → k < length s → f (get_or s k d) ≡ true
unfolding every
every_element f [] d h k l = absurd (not-suc-le-zero l)
every_element f (a ∷ s) d h zero l = and_first (f a) (every f s) h
every_element f (a ∷ s) d h (suc k) l = every_element f s d (and_second (f a) (every f s) h) k (le_of_suc-le-suc l)

-- what `first_from` finds of the list s, counted from n
pub record Found {ℓ} {A : Type ℓ} (p : A → Bool) (d : A) (n : ℕ) (s : List A) : Type 0 where
  pub place : ℕ
  pub number : first_from p n s ≡ n + place
  pub inside : place < length s
  pub passes : p (get_or s place d) ≡ true

module _ {ℓ} {A : Type ℓ} (p : A → Bool) where
  pub first_hit : (n : ℕ) (a : A) (s : List A) → p a ≡ true → first_from p n (a ∷ s) ≡ n
  unfolding first_from
  first_hit n a s h = rw (h, first_from)

  pub first_miss : (n : ℕ) (a : A) (s : List A) → p a ≡ false → first_from p n (a ∷ s) ≡ first_from p (suc n) s
  unfolding first_from
  first_miss n a s h = rw (h, first_from)

  -- none passes: none is found
  pub first-none : (d : A) (n : ℕ) (s : List A) → ((k : ℕ) → k < length s → p (get_or s k d) ≡ false) → first_from p n s ≡ 0
  unfolding first_from
  first-none d n [] h = refl
  first-none d n (a ∷ s) h =
      first_miss n a s (h zero (suc-le-suc zero-le)) ∙ first-none d (suc n) s (λ k l. h (suc k) (suc-le-suc l))

  -- one passes: one is found
  pub first_some : (d : A) (n : ℕ) (s : List A) (k : ℕ) → k < length s → p (get_or s k d) ≡ true → n ≤ first_from p n s
  unfolding first_from
  first_some d n [] k h e = absurd (not-suc-le-zero h)
  first_some d n (a ∷ s) zero h e = rw (first_hit n a s e) (omega arith)
  first_some d n (a ∷ s) (suc k) h e =
      let rest : suc n ≤ first_from p (suc n) s = first_some d (suc n) s k (le_of_suc-le-suc h) e in
      ⊎_elim
      (λ (y : p a ≡ true). rw (first_hit n a s y) (omega arith))
      (λ (f : p a ≡ false). rw (first_miss n a s f) (omega arith))
      (either (p a))

  found-later : {d : A} (n : ℕ) (a : A) (s : List A) → p a ≡ false → Found p d (suc n) s → Found p d n (a ∷ s)
  found-later n a s f w =
      record {
        place = suc w.place;
        number = first_miss n a s f ∙ w.number ∙ suc-add n w.place ∙ sym (add-suc n w.place);
        inside = suc-le-suc w.inside;
        passes = w.passes;
      }

  -- what is found passes, and its number says where it stands
  pub first_found : (d : A) (n : ℕ) (s : List A) → (first_from p n s ≡ 0 → ⊥) → Found p d n s
  unfolding first_from
  first_found d n [] h = absurd (h refl)
  first_found d n (a ∷ s) h =
      ⊎_elim
      (λ (y : p a ≡ true). record { place = 0; number = first_hit n a s y ∙ sym (add-zero n); inside = suc-le-suc zero-le; passes = y })
      (λ (f : p a ≡ false). found-later n a s f (first_found d (suc n) s (λ e. h (first_miss n a s f ∙ e))))
      (either (p a))

  -- no number passes those of the list
  pub first-within : (n : ℕ) (s : List A) → first_from p (suc n) s ≤ n + length s
  unfolding first_from
  first-within n [] = zero-le
  first-within n (a ∷ s) =
      let rest : first_from p (suc (suc n)) s ≤ suc n + length s = first-within (suc n) s in
      ⊎_elim
      (λ (y : p a ≡ true). omega (arith, first_hit (suc n) a s y))
      (λ (f : p a ≡ false). omega (arith, first_miss (suc n) a s f))
      (either (p a))

-- the first element that equals b: none where b is not among the list, one where it is
pub first_not_among : (b n : ℕ) (s : List ℕ) → among s b ≡ false → first_from (eqb b) n s ≡ 0
unfolding among first_from
first_not_among b n [] h = refl
first_not_among b n (a ∷ s) h =
    ⊎_elim
    (λ (y : eqb b a ≡ true). absurd (never_both (rw (y, among)) h))
    (λ (f : eqb b a ≡ false). first_miss (eqb b) n a s f ∙ first_not_among b (suc n) s (rw (f, among) at h))
    (either (eqb b a))

pub first-among : (b n : ℕ) (s : List ℕ) → among s b ≡ true → n ≤ first_from (eqb b) n s
unfolding among first_from
first-among b n [] h = absurd (never_both h refl)
first-among b n (a ∷ s) h =
    ⊎_elim
    (λ (y : eqb b a ≡ true). omega (arith, first_hit (eqb b) n a s y))
    (λ (f : eqb b a ≡ false). omega (arith, first_miss (eqb b) n a s f, first-among b (suc n) s (rw (f, among) at h)))
    (either (eqb b a))

-- what is found lies from n on
module _ {ℓ} {A : Type ℓ} (p : A → Bool) where
  pub first-least : (n : ℕ) (s : List A) → (first_from p n s ≡ 0 → ⊥) → n ≤ first_from p n s
  unfolding first_from
  first-least n [] h = absurd (h refl)
  first-least n (a ∷ s) h = go (tested (p a)) (first-least (suc n) s)
    where
      go : Tested (p a) → ((first_from p (suc n) s ≡ 0 → ⊥) → suc n ≤ first_from p (suc n) s) → n ≤ first_from p n (a ∷ s)
      go (passed e) ih = let here = first_hit p n a s e in omega arith
      go (failed e) ih = let later = first_miss p n a s e in omega (arith, ih (λ z. h (later ∙ z)))

-- a number that is first nowhere, counted from 1 on, does not stand in the list, and one that is first somewhere does
pub not_first_among : (b n : ℕ) (s : List ℕ) → first_from (eqb b) (suc n) s ≡ 0 → among s b ≡ false
unfolding among first_from
not_first_among b n [] e = refl
not_first_among b n (a ∷ s) e = go (tested (eqb b a)) (not_first_among b (suc n) s)
  where
    go : Tested (eqb b a) → (first_from (eqb b) (suc (suc n)) s ≡ 0 → among s b ≡ false) → among (a ∷ s) b ≡ false
    go (passed h) ih = let z : suc n ≡ 0 = sym (first_hit (eqb b) (suc n) a s h) ∙ e in absurd (omega arith)
    go (failed h) ih = among_miss a s b h ∙ ih (sym (first_miss (eqb b) (suc n) a s h) ∙ e)

pub found_among : (b n : ℕ) (s : List ℕ) → (first_from (eqb b) n s ≡ 0 → ⊥) → among s b ≡ true
unfolding among first_from
found_among b n [] e = absurd (e refl)
found_among b n (a ∷ s) e = go (tested (eqb b a)) (found_among b (suc n) s)
  where
    go : Tested (eqb b a) → ((first_from (eqb b) (suc n) s ≡ 0 → ⊥) → among s b ≡ true) → among (a ∷ s) b ≡ true
    go (passed h) ih = among_hit a s b h
    go (failed h) ih = among_miss a s b h ∙ ih (λ z. e (first_miss (eqb b) n a s h ∙ z))

-- `first_held`: an earlier place stays, and else this one counts
module _ (earlier : ℕ) (holds : Bool) (place : ℕ) where
  pub first_held-earlier : (earlier ≡ 0 → ⊥) → first_held earlier holds place ≡ earlier
  unfolding first_held
  first_held-earlier h = rw (ne_eqb earlier 0 h, first_held)

  pub first_held_here : earlier ≡ 0 → first_held earlier holds place ≡ elim holds [ true ↦ place | false ↦ 0 ]
  unfolding first_held
  first_held_here h = rw (eq-eqb earlier 0 h, first_held)

-- with one more element, the first that passes is an earlier one or this
module _ {ℓ} {A : Type ℓ} (p : A → Bool) where
  pub first-append : (n : ℕ) (s : List A) (a : A)
      → first_from p (suc n) (s ++ a ∷ []) ≡ first_held (first_from p (suc n) s) (p a) (suc n + length s)
  unfolding first_from first_held
  first-append n [] a = ap (first_held 0 (p a)) (sym (add-zero (suc n)))
  first-append n (b ∷ s) a = go (tested (p b)) (first-append (suc n) s a)
    where
      go : Tested (p b) → first_from p (suc (suc n)) (s ++ a ∷ []) ≡ first_held (first_from p (suc (suc n)) s) (p a) (suc (suc n) + length s)
          → first_from p (suc n) (b ∷ (s ++ a ∷ [])) ≡ first_held (first_from p (suc n) (b ∷ s)) (p a) (suc n + suc (length s))
      go (passed e) ih =
          let here : first_from p (suc n) (b ∷ s) ≡ suc n = first_hit p (suc n) b s e in
          first_hit p (suc n) b (s ++ a ∷ []) e ∙ sym here
          ∙ sym (first_held-earlier (first_from p (suc n) (b ∷ s)) (p a) (suc n + suc (length s)) (λ z. omega arith))
      go (failed e) ih =
          let place : suc (suc n) + length s ≡ suc n + suc (length s) = omega arith in
          first_miss p (suc n) b (s ++ a ∷ []) e ∙ ih
          ∙ ap₂ (λ (f k : ℕ). first_held f (p a) k) (sym (first_miss p (suc n) b s e)) place

  -- no more pass than there are
  pub count-within : (s : List A) → count p s ≤ length s
  unfolding count
  count-within [] = zero-le
  count-within (a ∷ s) = go (tested (p a)) (count-within s)
    where
      go : Tested (p a) → count p s ≤ length s → count p (a ∷ s) ≤ suc (length s)
      go (passed h) ih = omega (arith, count_pass p a s h)
      go (failed h) ih = omega (arith, count_fail p a s h)

-- one kind of element more to count
pub count-more : (p : ℕ) (ps t : List ℕ) → count (among ps) t ≤ count (among (p ∷ ps)) t
unfolding count
count-more p ps [] = omega arith
count-more p ps (b ∷ t) = go (tested (among ps b)) (tested (eqb b p)) (count-more p ps t)
  where
    go : Tested (among ps b) → Tested (eqb b p) → count (among ps) t ≤ count (among (p ∷ ps)) t
        → count (among ps) (b ∷ t) ≤ count (among (p ∷ ps)) (b ∷ t)
    go (passed h) (passed e) le =
        omega (arith, count_pass (among ps) b t h, count_pass (among (p ∷ ps)) b t (among_hit p ps b e))
    go (failed h) (passed e) le =
        omega (arith, count_fail (among ps) b t h, count_pass (among (p ∷ ps)) b t (among_hit p ps b e))
    go (passed h) (failed e) le =
        omega (arith, count_pass (among ps) b t h, count_pass (among (p ∷ ps)) b t (among_miss p ps b e ∙ h))
    go (failed h) (failed e) le =
        omega (arith, count_fail (among ps) b t h, count_fail (among (p ∷ ps)) b t (among_miss p ps b e ∙ h))
