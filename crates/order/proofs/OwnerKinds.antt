-- Owners by kind (rule O5), for any levels that pass a computed test: going back from a segment, C left out, only kinds come that stand below its
-- owner's kind, until a segment of the owner's kind does; and the levels tell that kind from those below it. The levels in force pass at every
-- kind, the former ones at every kind but three.
-- Assumes nothing.
use mathlib.Core.Bool.{Bool, true, false, not, ◌&&◌, ◌||◌, beq}
use mathlib.Core.List.{List, reverse}
use mathlib.Core.Logic.{◌⊎◌, inl, inr, ⊎_elim}
use mathlib.Core.Path.{◌≡◌, refl, sym, ap, ◌∙◌, subst, subst⁻¹}
use Prim.Native.Nat.{ℕ, suc, ◌≤◌, ◌<◌}
use native.Mathlib.Nat.{le_of_lt}
use native.Mathlib.Omega.{arith}
use borrow.Author.Tests.{ltb-true, eqb-true, eq-eqb, ne_eqb, not-true}
use lib.Dec.{ltb, eqb}
use lib.ListN.{length, get_or, take}
use Rattle.laws.specs.inner.Tests.{below, every_from}
use Rattle.laws.proofs.Cases.{less_or_not, equal_or_not}
use Rattle.laws.proofs.Tables.{at}
use Rattle.laws.proofs.Tests.{where_holds, equal_tests, not_holds, and_passed, and_first, and_second, and_both, or_cases}
use Rattle.order.specs.Grammar.{Begins}
use Rattle.order.specs.Contexts.{grammar, is_context}
use Rattle.order.specs.Owners.{levels, former_levels, level, former_level, nearest, is_c, owner, owners}
use Rattle.order.specs.OwnerKinds.{owner_kinds, owner_kind, moved, NearestOf, NearestOwns, OwnersByKind}
use Rattle.order.specs.inner.Followers.{follows}
use Rattle.order.proofs.Seven.{all_seven, all_seven₂, all_seven₃, context_or_never, states}
use Rattle.order.proofs.Owner.{owners_at}
use Rattle.order.proofs.TopLevel.{H_and_L_have_0, former-H_and_L_have_0}
use Rattle.order.proofs.Watched.{never-begins}
use Rattle.order.proofs.GoingBack.{climbs, is_or_below, leads, one-nearest, last_before, last-below, other-below, follows-last, led_back, Leading, near_there}

-- whether going on back from each kind below o leads to o, and so not to the start, where no kind has come
unfoldable leads_on : ℕ → ℕ → Bool
leads_on c o = below 12 (λ x. elim (is_or_below c o x && not (eqb x o)) [ true ↦ leads c o x | false ↦ true ])

-- whether going back from a k leads to an o
unfoldable leads_to : ℕ → ℕ → ℕ → Bool
leads_to c o k = not (is_or_below c o 0) && (leads c o k && leads_on c o)

-- whether levels tell o from the kinds below it: o alone is lower than k
unfoldable tells : (ℕ → ℕ → ℕ) → ℕ → ℕ → ℕ → Bool
tells lv c o k = below 12 (λ x. elim (is_or_below c o x) [ true ↦ beq (ltb (lv c x) (lv c k)) (eqb x o) | false ↦ true ])

-- a test of a kind that has an owner
unfoldable where_owned : (ℕ → ℕ → ℕ → Bool) → ℕ → ℕ → Bool
where_owned f c k = elim (eqb (owner_kind c k) 0) [ true ↦ true | false ↦ f c (owner_kind c k) k ]

-- whether a kind with no owner comes nowhere but as H or L
unfoldable ownerless : ℕ → ℕ → ℕ → Bool
ownerless c y k = elim (follows c y k && eqb (owner_kind c k) 0) [ true ↦ eqb k 1 || eqb k 11 | false ↦ true ]

-- the tests, computed

C_unowned : below 7 (λ i. eqb (owner_kind (suc i) 12) 0) ≡ true
unfolding owner_kind owner_kinds every_from
C_unowned = refl

C_owns_nothing : below 7 (λ i. below 12 (λ k. ltb (owner_kind (suc i) k) 12)) ≡ true
unfolding owner_kind owner_kinds every_from
C_owns_nothing = refl

all_lead : below 7 (λ i. below 12 (where_owned leads_to (suc i))) ≡ true
unfolding where_owned leads_to leads_on leads is_or_below climbs owner_kind owner_kinds follows states every_from
all_lead = refl

all_ownerless : below 7 (λ i. below 12 (λ y. below 12 (ownerless (suc i) y))) ≡ true
unfolding ownerless owner_kind owner_kinds follows states every_from
all_ownerless = refl

levels_tell : below 7 (λ i. below 12 (where_owned (tells level) (suc i))) ≡ true
unfolding where_owned tells is_or_below climbs owner_kind owner_kinds level levels every_from
levels_tell = refl

former-levels_tell : below 7 (λ i. below 12 (λ k. elim (not (moved (suc i) k)) [ true ↦ where_owned (tells former_level) (suc i) k | false ↦ true ])) ≡ true
unfolding moved where_owned tells is_or_below climbs owner_kind owner_kinds former_level former_levels every_from
former-levels_tell = refl

-- the owner at a place, by levels that pass the tests there
module _ (lv : ℕ → ℕ → ℕ) (c : ℕ) (t : is_context c ≡ true) (w : List ℕ) (b : Begins (grammar c) w) (i : ℕ) (h : i < length w) (low : get_or w i 0 < 12) where
  abbrev kind : ℕ
  kind = get_or w i 0

  abbrev above : ℕ
  above = owner_kind c kind

  no_C_below : (x : ℕ) → x < 12 → is_c x ≡ false
  unfolding is_c
  no_C_below x l = ne_eqb x 12 (λ e. let z : ⊥ = omega arith in z)

  -- the test of an owner (O2)
  abbrev lower : ℕ → Bool
  lower j = not (is_c j) && ltb (lv c j) (lv c kind)

  C_not_lower : lower 12 ≡ false
  unfolding is_c
  C_not_lower = refl

  owner_lower : get_or (owners (lv c) w) i 0 ≡ nearest lower (reverse (take i w))
  unfolding owner
  owner_lower = owners_at (lv c) w i h ∙ (rw (no_C_below kind low, owner))

  module _ (leads-to : leads_to c above kind ≡ true) (tell : tells lv c above kind ≡ true) where
    told_lower : (x : ℕ) → x < 12 → is_or_below c above x ≡ true → lower x ≡ eqb x above
    unfolding tells
    told_lower x l e =
        and_passed (ltb (lv c x) (lv c kind)) (not_holds (is_c x) (no_C_below x l))
        ∙ equal_tests (ltb (lv c x) (lv c kind)) (eqb x above)
        (where_holds (beq (ltb (lv c x) (lv c kind)) (eqb x above)) e
        (at 12 (λ y. elim (is_or_below c above y) [ true ↦ beq (ltb (lv c y) (lv c kind)) (eqb y above) | false ↦ true ]) tell x l))

    leads_there : (leads c above kind && leads_on c above) ≡ true
    unfolding leads_to
    leads_there = and_second (not (is_or_below c above 0)) (leads c above kind && leads_on c above) leads-to

    leading : Leading c above lower
    unfolding leads_on leads_to
    leading =
        record {
          not_start = not-true (is_or_below c above 0) (and_first (not (is_or_below c above 0)) (leads c above kind && leads_on c above) leads-to);
          not_C = λ e.
              let l = ltb-true above 12 (all_seven₂ 12 (λ n k. ltb (owner_kind n k) 12) C_owns_nothing c t kind low) in
              omega arith;
          C_fails = C_not_lower;
          tells_apart = told_lower;
          leads_on_lem = λ x l e f.
              where_holds (leads c above x) (and_both e (not_holds (eqb x above) f))
              (at 12 (λ y. elim (is_or_below c above y && not (eqb y above)) [ true ↦ leads c above y | false ↦ true ])
              (and_second (leads c above kind) (leads_on c above) leads_there) x l);
        }

    owner_by_kind : NearestOwns (lv c) above w i
    owner_by_kind =
        subst⁻¹ (NearestOf above (λ m. get_or w m 0) i) owner_lower
        (near_there c t w b above lower leading i (le_of_lt h) (led_back c t w b above i h (and_first (leads c above kind) (leads_on c above) leads_there)))

-- the tests at the kind of a place, which has an owner
module _ (c : ℕ) (t : is_context c ≡ true) (k : ℕ) (low : k < 12) (owned : 1 ≤ owner_kind c k) where
  has_owner : eqb (owner_kind c k) 0 ≡ false
  has_owner = ne_eqb (owner_kind c k) 0 (λ e. let z : ⊥ = omega arith in z)

  where_owned_lem : (f : ℕ → ℕ → ℕ → Bool) → where_owned f c k ≡ true → f c (owner_kind c k) k ≡ true
  unfolding where_owned
  where_owned_lem f h = rw (has_owner, where_owned) at h

  leads_at : leads_to c (owner_kind c k) k ≡ true
  leads_at = where_owned_lem leads_to (all_seven₂ 12 (where_owned leads_to) all_lead c t k low)

  tells_at : tells level c (owner_kind c k) k ≡ true
  tells_at = where_owned_lem (tells level) (all_seven₂ 12 (where_owned (tells level)) levels_tell c t k low)

  former_tells_at : moved c k ≡ false → tells former_level c (owner_kind c k) k ≡ true
  former_tells_at stays =
      where_owned_lem (tells former_level)
      (where_holds (where_owned (tells former_level) c k) (not_holds (moved c k) stays)
      (all_seven₂ 12 (λ n j. elim (not (moved n j)) [ true ↦ where_owned (tells former_level) n j | false ↦ true ]) former-levels_tell c t k low))

-- a place of a begun order
module _ (c : ℕ) (w : List ℕ) (b : Begins (grammar c) w) (i : ℕ) (h : i < length w) where
  in_context : is_context c ≡ true
  in_context = ⊎_elim (λ t. t) (λ e. absurd (never-begins c e w b)) (context_or_never c)

  module _ (owned : 1 ≤ owner_kind c (get_or w i 0)) where
    no_C : get_or w i 0 ≡ 12 → ⊥
    no_C e =
        let zero : owner_kind c 12 ≡ 0 = eqb-true (owner_kind c 12) 0 (all_seven (λ n. eqb (owner_kind n 12) 0) C_unowned c in_context) in
        omega (arith, ap (owner_kind c) e, zero)

    is_low : get_or w i 0 < 12
    is_low = other-below c in_context w b i h no_C

    nearest-owns : NearestOwns (level c) (owner_kind c (get_or w i 0)) w i
    nearest-owns =
        owner_by_kind level c in_context w b i h is_low (leads_at c in_context (get_or w i 0) is_low owned) (tells_at c in_context (get_or w i 0) is_low owned)

    nearest-owned : moved c (get_or w i 0) ≡ false → NearestOwns (former_level c) (owner_kind c (get_or w i 0)) w i
    nearest-owned stays =
        owner_by_kind former_level c in_context w b i h is_low (leads_at c in_context (get_or w i 0) is_low owned)
        (former_tells_at c in_context (get_or w i 0) is_low owned stays)

  -- the two owners at the place: of a C, of a kind with an owner, of H and L
  abbrev Same : Type 0
  Same = get_or (owners (level c) w) i 0 ≡ get_or (owners (former_level c) w) i 0

  same_C : is_c (get_or w i 0) ≡ true → Same
  unfolding owner
  same_C e =
      let before : List ℕ = reverse (take i w) in
      let now : owner (level c) before (get_or w i 0) ≡ nearest (λ j. not (is_c j)) before = rw (e, owner) in
      let then : owner (former_level c) before (get_or w i 0) ≡ nearest (λ j. not (is_c j)) before = rw (e, owner) in
      owners_at (level c) w i h ∙ now ∙ sym (owners_at (former_level c) w i h ∙ then)

  top_kind : get_or w i 0 < 12 → owner_kind c (get_or w i 0) ≡ 0 → (get_or w i 0 ≡ 1) ⊎ (get_or w i 0 ≡ 11)
  unfolding ownerless
  top_kind low none =
      let test : (eqb (get_or w i 0) 1 || eqb (get_or w i 0) 11) ≡ true
      = where_holds (eqb (get_or w i 0) 1 || eqb (get_or w i 0) 11) (and_both (follows-last c in_context w b i h) (eq-eqb (owner_kind c (get_or w i 0)) 0 none))
      (all_seven₃ 12 12 ownerless all_ownerless c in_context (last_before w i) (last-below c in_context w b i) (get_or w i 0) low) in
      ⊎_elim (λ e. inl (eqb-true (get_or w i 0) 1 e)) (λ e. inr (eqb-true (get_or w i 0) 11 e)) (or_cases (eqb (get_or w i 0) 1) (eqb (get_or w i 0) 11) test)

  same_top : get_or w i 0 < 12 → owner_kind c (get_or w i 0) ≡ 0 → Same
  same_top low none =
      let top = top_kind low none in
      H_and_L_have_0 c in_context w b i h top ∙ sym (former-H_and_L_have_0 c in_context w b i h top)

  no_owner : owner_kind c (get_or w i 0) ≡ 0 → (get_or w i 0 ≡ 12) ⊎ (get_or (owners (level c) w) i 0 ≡ 0)
  no_owner none = by (equal_or_not (get_or w i 0) 12)
    where
      by : (get_or w i 0 ≡ 12) ⊎ (get_or w i 0 ≡ 12 → ⊥) → (get_or w i 0 ≡ 12) ⊎ (get_or (owners (level c) w) i 0 ≡ 0)
      by (inl e) = inl e
      by (inr n) = inr (H_and_L_have_0 c in_context w b i h (top_kind (other-below c in_context w b i h n) none))

  same-owner : moved c (get_or w i 0) ≡ false → Same
  unfolding is_c
  same-owner stays = by (equal_or_not (get_or w i 0) 12) (less_or_not 0 (owner_kind c (get_or w i 0)))
    where
      by : (get_or w i 0 ≡ 12) ⊎ (get_or w i 0 ≡ 12 → ⊥) → (0 < owner_kind c (get_or w i 0)) ⊎ (owner_kind c (get_or w i 0) ≤ 0) → Same
      by (inl e) o = same_C (eq-eqb (get_or w i 0) 12 e)
      by (inr n) (inl owned) = one-nearest (nearest-owns owned) (nearest-owned owned stays)
      by (inr n) (inr none) = same_top (other-below c in_context w b i h n) (omega arith)

-- a kind's owner, by the table of owners' kinds
named : (c k o : ℕ) → owner_kind c k ≡ suc o → (w : List ℕ) → Begins (grammar c) w → (i : ℕ) → i < length w → get_or w i 0 ≡ k → NearestOwns (level c) (suc o) w i
named c k o e w b i h is =
    let here : owner_kind c (get_or w i 0) ≡ suc o = ap (owner_kind c) is ∙ e in
    subst (λ (n : ℕ). NearestOwns (level c) n w i) here (nearest-owns c w b i h (omega arith))

pub owners_by_kind : OwnersByKind
unfolding owner_kind owner_kinds
owners_by_kind =
    record {
      order = named 3 5 1 refl;
      invoice = named 7 7 1 refl;
      invoice-line = λ w b i h. ⊎_elim (named 7 8 6 refl w b i h) (named 7 9 6 refl w b i h);
      any-kind = nearest-owns;
      unnamed = no_owner;
      others = same-owner;
    }
