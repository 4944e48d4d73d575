-- The header rule taken apart: what a sound header says of each byte, the converse, and what breaks one.
-- Assumes nothing.
use mathlib.Core.Bool.{Bool, true, false, not, ◌&&◌, false≢true}
use mathlib.Core.List.{List, [], ◌∷◌}
use mathlib.Core.Logic.{⊎_elim}
use mathlib.Core.Path.{◌≡◌, refl, sym, ap, subst, ◌∙◌}
use Prim.Native.Nat.{ℕ, zero, suc, ◌≤◌, ◌<◌}
use native.Mathlib.Nat.{le_of_suc-le-suc, not-suc-le-zero}
use native.Mathlib.Omega.{arith}
use lib.Dec.{leb, ltb, eqb, lit<}
use lib.ListN.{length, get_or}
use borrow.Author.Tests.{leb-true, leb-false, ltb-true, ltb-false, eqb-true, le-leb, eq-eqb, not-true}
use Rattle.laws.specs.Lists.{among}
use Rattle.laws.proofs.Lists.{Absent, Absent.nowhere, Absent.past, absent_among, not_among_at}
use Rattle.laws.proofs.Tests.{either, never_both, and_first, and_second, and_both, not_holds}
use Rattle.form.specs.Header.{within, allowed, all_allowed, different, separators_of, five, sound_header, header_of}
use Rattle.form.specs.declared.separators.Separators.{Separators}
use Rattle.form.specs.declared.separators.Header.TheVariants.{Sound, Broken}

-- what H2 says of a byte that may be a separator
pub record Allowed (b : ℕ) : Type 0 where
  pub low : 33 ≤ b
  pub high : b ≤ 126
  pub no_capital : 65 ≤ b → b ≤ 90 → ⊥
  pub no_small : 97 ≤ b → b ≤ 122 → ⊥
  pub no_digit : 48 ≤ b → b ≤ 57 → ⊥

pub record AllAllowed (ps : Separators) : Type 0 where
  pub field : Allowed ps.field
  pub subfield : Allowed ps.subfield
  pub repeater : Allowed ps.repeater
  pub escape : Allowed ps.escape
  pub subsubfield : Allowed ps.subsubfield

pub record AllDifferent (ps : Separators) : Type 0 where
  pub field_subfield : ps.field ≡ ps.subfield → ⊥
  pub field_repeater : ps.field ≡ ps.repeater → ⊥
  pub field_escape : ps.field ≡ ps.escape → ⊥
  pub field_subsubfield : ps.field ≡ ps.subsubfield → ⊥
  pub subfield_repeater : ps.subfield ≡ ps.repeater → ⊥
  pub subfield_escape : ps.subfield ≡ ps.escape → ⊥
  pub subfield_subsubfield : ps.subfield ≡ ps.subsubfield → ⊥
  pub repeater_escape : ps.repeater ≡ ps.escape → ⊥
  pub repeater_subsubfield : ps.repeater ≡ ps.subsubfield → ⊥
  pub escape_subsubfield : ps.escape ≡ ps.subsubfield → ⊥

-- what a sound header says: bytes 0 to 6, and of the five separators
pub record SoundHeader (s : List ℕ) (ps : Separators) : Type 0 where
  pub separators : ps ≡ separators_of s
  pub long : 7 ≤ length s
  pub letter : get_or s 0 0 ≡ 72
  pub again : get_or s 6 0 ≡ ps.field
  pub allowed : AllAllowed ps
  pub different : AllDifferent ps

module _ (low high b : ℕ) where
  pub within_bounds : within low high b ≡ true → (low ≤ b) × (b ≤ high)
  unfolding within
  within_bounds h =
      (leb-true low b (and_first (leb low b) (leb b high) h), leb-true b high (and_second (leb low b) (leb b high) h))

  pub bounds_within : low ≤ b → b ≤ high → within low high b ≡ true
  unfolding within
  bounds_within l h = and_both (le-leb low b l) (le-leb b high h)

  outside : within low high b ≡ false → low ≤ b → b ≤ high → ⊥
  outside h l u = never_both (bounds_within l u) h

  outside_within : (low ≤ b → b ≤ high → ⊥) → within low high b ≡ false
  outside_within h =
      ⊎_elim
      (λ (e : within low high b ≡ true). absurd (h (within_bounds e).0 (within_bounds e).1))
      (λ e. e)
      (either (within low high b))

module _ (b : ℕ) where
  pub allowed_facts : allowed b ≡ true → Allowed b
  unfolding allowed
  allowed_facts h =
      let visible = within 33 126 b in
      let capital = not (within 65 90 b) in
      let small = not (within 97 122 b) in
      let digit = not (within 48 57 b) in
      let h3 = and_first (visible && capital && small) digit h in
      let h2 = and_first (visible && capital) small h3 in
      let bounds = within_bounds 33 126 b (and_first visible capital h2) in
      record {
        low = bounds.0;
        high = bounds.1;
        no_capital = outside 65 90 b (not-true (within 65 90 b) (and_second visible capital h2));
        no_small = outside 97 122 b (not-true (within 97 122 b) (and_second (visible && capital) small h3));
        no_digit = outside 48 57 b (not-true (within 48 57 b) (and_second (visible && capital && small) digit h));
      }

  pub facts_allowed : Allowed b → allowed b ≡ true
  unfolding allowed
  facts_allowed w =
      and_both
      (and_both
      (and_both (bounds_within 33 126 b w.low w.high) (not_holds (within 65 90 b) (outside_within 65 90 b w.no_capital)))
      (not_holds (within 97 122 b) (outside_within 97 122 b w.no_small)))
      (not_holds (within 48 57 b) (outside_within 48 57 b w.no_digit))

  -- a test that passes just those bytes that H2 allows
  exactly : (r : Bool) → (r ≡ true → Allowed b) → (r ≡ false → Allowed b → ⊥) → r ≡ allowed b
  exactly true passes fails = sym (facts_allowed (passes refl))
  exactly false passes fails =
      ⊎_elim (λ (e : allowed b ≡ true). absurd (fails refl (allowed_facts e))) (λ e. sym e) (either (allowed b))

  -- the bytes in runs, each up to the next bound of H2, and what is left to ask in a run
  pub below_digits : b < 48 → leb 33 b ≡ allowed b
  below_digits u = exactly (leb 33 b) (λ h. between (leb-true 33 b h)) (λ h w. omega (arith, leb-false 33 b h, w.low))
    where
      between : 33 ≤ b → Allowed b
      between l = omega arith

  pub digit_or_past : 48 ≤ b → b < 65 → ltb 57 b ≡ allowed b
  digit_or_past l u = exactly (ltb 57 b) (λ h. past (ltb-true 57 b h)) (λ h w. w.no_digit l (ltb-false 57 b h))
    where
      past : 57 < b → Allowed b
      past p = omega arith

  pub capital_or_past : 65 ≤ b → b < 97 → ltb 90 b ≡ allowed b
  capital_or_past l u = exactly (ltb 90 b) (λ h. past (ltb-true 90 b h)) (λ h w. w.no_capital l (ltb-false 90 b h))
    where
      past : 90 < b → Allowed b
      past p = omega arith

  pub small_letter : 97 ≤ b → b ≤ 122 → false ≡ allowed b
  small_letter l u = exactly false (λ h. absurd (false≢true h)) (λ h w. w.no_small l u)

  pub past_letters : 122 < b → leb b 126 ≡ allowed b
  past_letters l = exactly (leb b 126) (λ h. between (leb-true b 126 h)) (λ h w. omega (arith, leb-false b 126 h, w.high))
    where
      between : b ≤ 126 → Allowed b
      between u = omega arith

-- all of a list are allowed: each is, and one that is not breaks it
pub allowed_at : (s : List ℕ) → all_allowed s ≡ true → (i : ℕ) → i < length s → allowed (get_or s i 0) ≡ true
unfolding all_allowed
allowed_at [] h i l = absurd (not-suc-le-zero l)
allowed_at (b ∷ s) h zero l = and_first (allowed b) (all_allowed s) h
allowed_at (b ∷ s) h (suc i) l = allowed_at s (and_second (allowed b) (all_allowed s) h) i (le_of_suc-le-suc l)

pub one_not_allowed : (s : List ℕ) (i : ℕ) → i < length s → allowed (get_or s i 0) ≡ false → all_allowed s ≡ false
one_not_allowed s i l h =
    ⊎_elim (λ (e : all_allowed s ≡ true). absurd (never_both (allowed_at s e i l) h)) (λ e. e) (either (all_allowed s))

-- all of a list are different: no two places have the same, and two that have break it
pub different_at : (s : List ℕ) → different s ≡ true → (i j : ℕ) → i < j → j < length s → get_or s i 0 ≡ get_or s j 0 → ⊥
unfolding different
different_at [] h i j l u = absurd (not-suc-le-zero u)
different_at (b ∷ s) h i zero l u = absurd (not-suc-le-zero l)
different_at (b ∷ s) h zero (suc j) l u = not_among_at s b j (not-true (among s b) (and_first (not (among s b)) (different s) h)) (le_of_suc-le-suc u)
different_at (b ∷ s) h (suc i) (suc j) l u =
    different_at s (and_second (not (among s b)) (different s) h) i j (le_of_suc-le-suc l) (le_of_suc-le-suc u)

pub repeated : (s : List ℕ) (i j : ℕ) → i < j → j < length s → get_or s i 0 ≡ get_or s j 0 → different s ≡ false
repeated s i j l u q =
    ⊎_elim (λ (e : different s ≡ true). absurd (different_at s e i j l u q)) (λ e. e) (either (different s))

pub different-more : {b : ℕ} {s : List ℕ} → Absent b s → different s ≡ true → different (b ∷ s) ≡ true
unfolding different
different-more {b} {s} h d = and_both (not_holds (among s b) (absent_among h)) d

module _ (ps : Separators) where
  pub all-allowed_facts : all_allowed (five ps) ≡ true → AllAllowed ps
  unfolding five
  all-allowed_facts h =
      record {
        field = allowed_facts ps.field (allowed_at (five ps) h 0 (lit< tt));
        subfield = allowed_facts ps.subfield (allowed_at (five ps) h 1 (lit< tt));
        repeater = allowed_facts ps.repeater (allowed_at (five ps) h 2 (lit< tt));
        escape = allowed_facts ps.escape (allowed_at (five ps) h 3 (lit< tt));
        subsubfield = allowed_facts ps.subsubfield (allowed_at (five ps) h 4 (lit< tt));
      }

  pub facts_all_allowed : AllAllowed ps → all_allowed (five ps) ≡ true
  unfolding five all_allowed
  facts_all_allowed w =
      and_both (facts_allowed ps.field w.field)
      (and_both (facts_allowed ps.subfield w.subfield)
      (and_both (facts_allowed ps.repeater w.repeater)
      (and_both (facts_allowed ps.escape w.escape)
      (and_both (facts_allowed ps.subsubfield w.subsubfield) refl))))

  pub different_facts : different (five ps) ≡ true → AllDifferent ps
  unfolding five
  different_facts h =
      record {
        field_subfield = different_at (five ps) h 0 1 (lit< tt) (lit< tt);
        field_repeater = different_at (five ps) h 0 2 (lit< tt) (lit< tt);
        field_escape = different_at (five ps) h 0 3 (lit< tt) (lit< tt);
        field_subsubfield = different_at (five ps) h 0 4 (lit< tt) (lit< tt);
        subfield_repeater = different_at (five ps) h 1 2 (lit< tt) (lit< tt);
        subfield_escape = different_at (five ps) h 1 3 (lit< tt) (lit< tt);
        subfield_subsubfield = different_at (five ps) h 1 4 (lit< tt) (lit< tt);
        repeater_escape = different_at (five ps) h 2 3 (lit< tt) (lit< tt);
        repeater_subsubfield = different_at (five ps) h 2 4 (lit< tt) (lit< tt);
        escape_subsubfield = different_at (five ps) h 3 4 (lit< tt) (lit< tt);
      }

  pub facts_different : AllDifferent ps → different (five ps) ≡ true
  unfolding five different
  facts_different w =
      different-more
      (past w.field_subfield (past w.field_repeater (past w.field_escape (past w.field_subsubfield nowhere))))
      (different-more
      (past w.subfield_repeater (past w.subfield_escape (past w.subfield_subsubfield nowhere)))
      (different-more
      (past w.repeater_escape (past w.repeater_subsubfield nowhere))
      (different-more (past w.escape_subsubfield nowhere)
      (different-more nowhere refl))))

module _ (s : List ℕ) where
  -- the five tests of the rule
  record Tests : Type 0 where
    long : leb 7 (length s) ≡ true
    letter : eqb (get_or s 0 0) 72 ≡ true
    allowed : all_allowed (five (separators_of s)) ≡ true
    different : Rattle.form.specs.Header.different (five (separators_of s)) ≡ true
    again : eqb (get_or s 6 0) (get_or s 1 0) ≡ true

  tests : sound_header s ≡ true → Tests
  unfolding sound_header
  tests h =
      let a = leb 7 (length s) in
      let b = eqb (get_or s 0 0) 72 in
      let c = all_allowed (five (separators_of s)) in
      let d = different (five (separators_of s)) in
      let e = eqb (get_or s 6 0) (get_or s 1 0) in
      let h4 = and_first (a && b && c && d) e h in
      let h3 = and_first (a && b && c) d h4 in
      let h2 = and_first (a && b) c h3 in
      record {
        long = and_first a b h2;
        letter = and_second a b h2;
        allowed = and_second (a && b) c h3;
        different = and_second (a && b && c) d h4;
        again = and_second (a && b && c && d) e h;
      }

  passed : Tests → sound_header s ≡ true
  unfolding sound_header
  passed t = and_both (and_both (and_both (and_both t.long t.letter) t.allowed) t.different) t.again

  -- a header that passes names its separators, one that does not is broken
  sound : sound_header s ≡ true → header_of s ≡ Sound (separators_of s)
  unfolding header_of
  sound h = rw (h, header_of)

  broken : (Tests → ⊥) → header_of s ≡ Broken
  unfolding header_of
  broken h =
      ⊎_elim
      (λ (e : sound_header s ≡ true). absurd (h (tests e)))
      (λ (e : sound_header s ≡ false). rw (e, header_of))
      (either (sound_header s))

  -- what breaks a header
  pub short-broken : length s < 7 → header_of s ≡ Broken
  short-broken h = broken (λ t. omega (arith, leb-true 7 (length s) t.long))

  pub letter_broken : (get_or s 0 0 ≡ 72 → ⊥) → header_of s ≡ Broken
  letter_broken h = broken (λ t. h (eqb-true (get_or s 0 0) 72 t.letter))

  pub again_broken : (get_or s 6 0 ≡ get_or s 1 0 → ⊥) → header_of s ≡ Broken
  again_broken h = broken (λ t. h (eqb-true (get_or s 6 0) (get_or s 1 0) t.again))

  pub allowed-broken : all_allowed (five (separators_of s)) ≡ false → header_of s ≡ Broken
  allowed-broken h = broken (λ t. never_both t.allowed h)

  pub different-broken : different (five (separators_of s)) ≡ false → header_of s ≡ Broken
  different-broken h = broken (λ t. never_both t.different h)

  -- and what makes a sound one
  pub tests_sound : 7 ≤ length s → get_or s 0 0 ≡ 72 → get_or s 6 0 ≡ get_or s 1 0 → all_allowed (five (separators_of s)) ≡ true
      → different (five (separators_of s)) ≡ true → header_of s ≡ Sound (separators_of s)
  tests_sound l h g a d =
      sound
      (passed (record { long = le-leb 7 (length s) l; letter = eq-eqb (get_or s 0 0) 72 h; allowed = a; different = d; again = eq-eqb (get_or s 6 0) (get_or s 1 0) g }))

  -- a sound header as one record, and the converse
  tests_facts : Tests → SoundHeader s (separators_of s)
  unfolding separators_of
  tests_facts t =
      record {
        separators = refl;
        long = leb-true 7 (length s) t.long;
        letter = eqb-true (get_or s 0 0) 72 t.letter;
        again = eqb-true (get_or s 6 0) (get_or s 1 0) t.again;
        allowed = all-allowed_facts (separators_of s) t.allowed;
        different = different_facts (separators_of s) t.different;
      }

  facts_sound : SoundHeader s (separators_of s) → header_of s ≡ Sound (separators_of s)
  unfolding separators_of
  facts_sound w =
      tests_sound w.long w.letter w.again (facts_all_allowed (separators_of s) w.allowed) (facts_different (separators_of s) w.different)

  pub sound-header : (ps : Separators) → header_of s ≡ Sound ps → SoundHeader s ps
  sound-header ps h =
      ⊎_elim
      (λ (e : sound_header s ≡ true). subst (SoundHeader s) (named (sound e)) (tests_facts (tests e)))
      (λ (e : sound_header s ≡ false). absurd (clash (broken (λ t. never_both (passed t) e))))
      (either (sound_header s))
    where
      named : header_of s ≡ Sound (separators_of s) → separators_of s ≡ ps
      named q = cc

      clash : header_of s ≡ Broken → ⊥
      clash q = let z : ◌≡◌ {A = ℕ} 0 1 = cc in omega arith

  pub header-sound : (ps : Separators) → SoundHeader s ps → header_of s ≡ Sound ps
  header-sound ps w = facts_sound (subst (SoundHeader s) w.separators w) ∙ ap Sound (sym w.separators)
