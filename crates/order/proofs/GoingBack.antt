-- Going back in a begun order (for rule O5): whatever the owner's kind o, where only kinds below o come before an o does, a test that tells o from
-- those finds the nearest o.
-- Assumes nothing.
use mathlib.Core.Bool.{Bool, true, false}
use mathlib.Core.List.{List, [], ◌∷◌, reverse}
use mathlib.Core.Logic.{◌⊎◌, inl, inr}
use mathlib.Core.Path.{◌≡◌, sym, ap, ◌∙◌, subst, subst⁻¹}
use Prim.Native.Nat.{ℕ, zero, suc, ◌-◌, ◌≤◌, ◌<◌}
use native.Mathlib.Nat.{le_of_lt}
use native.Mathlib.Omega.{arith}
use borrow.Author.Tests.{eqb-true, eqb-false}
use lib.Dec.{eqb}
use lib.ListN.{length, get_or, take, length-reverse}
use lib.Seq.{length-take-le, take-suc}
use Rattle.laws.specs.inner.Tests.{below}
use Rattle.laws.proofs.Cases.{less_or_not, equal_or_not}
use Rattle.laws.proofs.Tables.{at}
use Rattle.laws.proofs.Tests.{Tested, passed, failed, tested, never_both, where_holds}
use Rattle.order.specs.Grammar.{Begins}
use Rattle.order.specs.Contexts.{grammar, is_context}
use Rattle.order.specs.Owners.{nearest}
use Rattle.order.specs.OwnerKinds.{owner_kind, NearestOf}
use Rattle.order.specs.inner.Followers.{follows}
use Rattle.order.proofs.States.{last_of, last_after, last_of_append, last_after_C, last_after_other}
use Rattle.order.proofs.Follow.{begins-more, begun-last}
use Rattle.order.proofs.Misplaced.{begins-take}
use Rattle.order.proofs.Owner.{before-next}

-- whether o is x, or the kind of its owner, or of that one's, up to n owners
unfoldable pub climbs : ℕ → ℕ → ℕ → ℕ → Bool
climbs zero c o x = eqb x o
climbs (suc n) c o x = elim (eqb x o) [ true ↦ true | false ↦ climbs n c o (owner_kind c x) ]

-- whether x is o or stands below it: no kind has more than four owners above it
unfoldable pub is_or_below : ℕ → ℕ → ℕ → Bool
is_or_below c o x = climbs 4 c o x

-- whether whatever may stand right before an x is o or below it
unfoldable pub leads : ℕ → ℕ → ℕ → Bool
leads c o x = below 12 (λ y. elim (follows c y x) [ true ↦ is_or_below c o y | false ↦ true ])

-- the nearest of a kind: right before the next place; further off, where another kind stands between; and there is no second

module _ {o : ℕ} {kind_at : ℕ → ℕ} {i : ℕ} where
  kind_here : kind_at i ≡ o → NearestOf o kind_at (suc i) (suc i)
  kind_here e =
      record {
        there = omega arith;
        earlier = omega arith;
        of_kind = ap kind_at (let at : suc i - 1 ≡ i = omega arith in at) ∙ e;
        none_nearer = λ m low high q. absurd (omega arith);
      }

  kind_further : {row : ℕ} → (kind_at i ≡ o → ⊥) → NearestOf o kind_at i row → NearestOf o kind_at (suc i) row
  kind_further {row} other r =
      record {
        there = r.there;
        earlier = let h = r.earlier in omega arith;
        of_kind = r.of_kind;
        none_nearer = λ m low high. by m low (equal_or_not m i) high;
      }
    where
      by : (m : ℕ) → row ≤ m → (m ≡ i) ⊎ (m ≡ i → ⊥) → m < suc i → kind_at m ≡ o → ⊥
      by m low (inl e) high q = other (ap kind_at (sym e) ∙ q)
      by m low (inr n) high q = r.none_nearer m low (omega arith) q

  not_before : {row other : ℕ} → NearestOf o kind_at i row → NearestOf o kind_at i other → row < other → ⊥
  not_before {row} {other} r s h = r.none_nearer (other - 1) (omega arith) (let l = s.earlier in omega arith) s.of_kind

  pub one-nearest : {row other : ℕ} → NearestOf o kind_at i row → NearestOf o kind_at i other → row ≡ other
  one-nearest {row} {other} r s = by (less_or_not row other) (less_or_not other row)
    where
      by : (row < other) ⊎ (other ≤ row) → (other < row) ⊎ (row ≤ other) → row ≡ other
      by (inl h) g = absurd (not_before r s h)
      by (inr h) (inl g) = absurd (not_before s r g)
      by (inr h) (inr g) = omega arith

-- of two ways to say which kind stands where, each finds the same nearest
pub nearest_along : {o : ℕ} {f g : ℕ → ℕ} {i row : ℕ} → ((m : ℕ) → m < i → f m ≡ g m) → NearestOf o f i row → NearestOf o g i row
nearest_along {row = row} same r =
    record {
      there = r.there;
      earlier = r.earlier;
      of_kind = sym (same (row - 1) (let h = r.there in let l = r.earlier in omega arith)) ∙ r.of_kind;
      none_nearer = λ m low high q. r.none_nearer m low high (same m high ∙ q);
    }

-- the last kind before place i that is no C
abbrev pub last_before : List ℕ → ℕ → ℕ
last_before w i = last_of 0 (take i w)

last-next : (w : List ℕ) (i : ℕ) → i < length w → last_before w (suc i) ≡ last_after (last_before w i) (get_or w i 0)
unfolding last_of
last-next w i h = ap (last_of 0) (take-suc w i 0 h) ∙ last_of_append 0 (take i w) (get_or w i 0 ∷ [])

last-other : (w : List ℕ) (i : ℕ) → i < length w → (get_or w i 0 ≡ 12 → ⊥) → last_before w (suc i) ≡ get_or w i 0
last-other w i h n = last-next w i h ∙ last_after_other (last_before w i) (get_or w i 0) n

module _ (c : ℕ) (t : is_context c ≡ true) (w : List ℕ) (b : Begins (grammar c) w) where
  pub last-below : (i : ℕ) → last_before w i < 12
  last-below i = begun-last c t (take i w) (begins-take (grammar c) i w b)

  pub other-below : (i : ℕ) → i < length w → (get_or w i 0 ≡ 12 → ⊥) → get_or w i 0 < 12
  other-below i h n = subst (λ (x : ℕ). x < 12) (last-other w i h n) (last-below (suc i))

  pub follows-last : (i : ℕ) → i < length w → follows c (last_before w i) (get_or w i 0) ≡ true
  follows-last i h =
      (begins-more c t (take i w) (get_or w i 0) (begins-take (grammar c) i w b)).0
      (subst (Begins (grammar c)) (take-suc w i 0 h) (begins-take (grammar c) (suc i) w b))

  pub led_back : (o i : ℕ) → i < length w → leads c o (get_or w i 0) ≡ true → is_or_below c o (last_before w i) ≡ true
  unfolding leads
  led_back o i h l =
      where_holds (is_or_below c o (last_before w i)) (follows-last i h)
      (at 12 (λ y. elim (follows c y (get_or w i 0)) [ true ↦ is_or_below c o y | false ↦ true ]) l (last_before w i) (last-below i))

-- what a test p of kinds and a kind o must pass: p tells o from the kinds below it, and going on back from those leads to o, never to the start
pub record Leading (c o : ℕ) (p : ℕ → Bool) : Type 0 where
  pub not_start : is_or_below c o 0 ≡ false
  pub not_C : 12 ≡ o → ⊥
  pub C_fails : p 12 ≡ false
  pub tells_apart : (x : ℕ) → x < 12 → is_or_below c o x ≡ true → p x ≡ eqb x o
  pub leads_on_lem : (x : ℕ) → x < 12 → is_or_below c o x ≡ true → eqb x o ≡ false → leads c o x ≡ true

-- then going back in a begun order leads to the nearest o
module _ (c : ℕ) (t : is_context c ≡ true) (w : List ℕ) (b : Begins (grammar c) w) (o : ℕ) (p : ℕ → Bool) (leading : Leading c o p) where
  abbrev near : ℕ → ℕ
  near i = nearest p (reverse (take i w))

  abbrev Near : ℕ → Type 0
  Near i = NearestOf o (λ m. get_or w m 0) i (near i)

  module _ (i : ℕ) (h : i < length w) where
    size : length (reverse (take i w)) ≡ i
    size = length-reverse (take i w) ∙ length-take-le i w (le_of_lt h)

    near_here : p (get_or w i 0) ≡ true → near (suc i) ≡ suc i
    unfolding nearest
    near_here e = ap (nearest p) (before-next w i h) ∙ (rw (e, nearest)) ∙ ap suc size

    near_further : p (get_or w i 0) ≡ false → near (suc i) ≡ near i
    unfolding nearest
    near_further e = ap (nearest p) (before-next w i h) ∙ (rw (e, nearest))

    further_off : p (get_or w i 0) ≡ false → (get_or w i 0 ≡ o → ⊥) → Near i → Near (suc i)
    further_off e other r = subst⁻¹ (NearestOf o (λ m. get_or w m 0) (suc i)) (near_further e) (kind_further other r)

    -- one place more: behind a C, behind an o, and behind a kind below o
    near_next : (is_or_below c o (last_before w i) ≡ true → Near i) → is_or_below c o (last_before w (suc i)) ≡ true → Near (suc i)
    near_next earlier below-o = by (tested (eqb (get_or w i 0) 12))
      where
        kind : ℕ
        kind = get_or w i 0

        other : is_or_below c o kind ≡ true → kind < 12 → Tested (eqb kind o) → Near (suc i)
        other in-o low (passed e) = subst⁻¹ (NearestOf o (λ m. get_or w m 0) (suc i)) (near_here (leading.tells_apart kind low in-o ∙ e)) (kind_here (eqb-true kind o e))
        other in-o low (failed e) =
            further_off (leading.tells_apart kind low in-o ∙ e) (eqb-false kind o e) (earlier (led_back c t w b o i h (leading.leads_on_lem kind low in-o e)))

        by : Tested (eqb kind 12) → Near (suc i)
        by (passed e) =
            let C = eqb-true kind 12 e in
            further_off (ap p C ∙ leading.C_fails) (λ q. leading.not_C (sym C ∙ q))
            (earlier (subst (λ (x : ℕ). is_or_below c o x ≡ true) (last-next w i h ∙ ap (last_after (last_before w i)) C ∙ last_after_C (last_before w i)) below-o))
        by (failed e) =
            let at : last_before w (suc i) ≡ kind = last-other w i h (eqb-false kind 12 e) in
            other (subst (λ (x : ℕ). is_or_below c o x ≡ true) at below-o) (subst (λ (x : ℕ). x < 12) at (last-below c t w b (suc i))) (tested (eqb kind o))

  pub near_there : (i : ℕ) → i ≤ length w → is_or_below c o (last_before w i) ≡ true → Near i
  unfolding last_of
  near_there zero h below-o = absurd (never_both below-o leading.not_start)
  near_there (suc i) h below-o = near_next i h (near_there i (le_of_lt h)) below-o
