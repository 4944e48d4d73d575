-- What it means that a row does not fail a rule (R1 to R3), in terms of what the lookup finds.
-- Assumes nothing.
use mathlib.Core.Bool.{Bool, true, false, not, ◌&&◌, ◌||◌}
use mathlib.Core.List.{List, [], ◌∷◌}
use mathlib.Core.Logic.{◌⊎◌, inl, inr}
use mathlib.Core.Path.{◌≡◌, refl, sym, ap, ◌∙◌}
use Prim.Native.Nat.{ℕ, suc, ◌<◌}
use borrow.Author.Tests.{eqb-true, eq-eqb}
use lib.Dec.{eqb}
use lib.ListN.{take, drop}
use Rattle.laws.specs.Lists.{same, among}
use Rattle.laws.proofs.Lists.{same_self, same_equal}
use Rattle.laws.proofs.Tests.{Tested, passed, failed, tested, never_both, and_first, and_second, and_both, and_fails_first, and_fails_second, or_first, or_second, or_cases}
use Rattle.table.specs.Lent.{Lent}
use Rattle.table.specs.Rows.{kind_in}
use Rattle.look.specs.declared.leaf.Sought.{Sought}
use Rattle.look.specs.declared.leaf.Sought.TheVariants.{At, Empty, NotThere}
use Rattle.look.specs.Looking.{patient_kind, result_kind, leaf_named, says_text}
use Rattle.look.proofs.FirstMatch.{finds_exactly}
use Rattle.screen.specs.Meeting.{has_kind, sought_of, has_text, is_letter, says_letter, leaf_is, has_code, patient_of, coded_under, count_under, is_about, fails}
use Rattle.screen.specs.Promises.{FoundText, CodedResult, RulesMean}
use Rattle.screen.proofs.ExactlyOne.{one_passes, passes_once}

-- a test and the opposite of another: not both hold exactly where the second holds if the first does
not_both : {s u : Bool} → (s && not u) ≡ false → s ≡ true → u ≡ true
not_both {s} {u} h e = by (tested u)
  where
    by : Tested u → u ≡ true
    by (passed q) = q
    by (failed q) = absurd (never_both (and_both e (ap not q)) h)

not_both_where : {s u : Bool} → (s ≡ true → u ≡ true) → (s && not u) ≡ false
not_both_where {s} {u} h = by (tested s)
  where
    by : Tested s → (s && not u) ≡ false
    by (passed e) = and_fails_second s (ap not (h e))
    by (failed e) = and_fails_first (not u) e

-- what is sought, found with a text
module _ (t : Lent) (i field subfield : ℕ) where
  found_at : (start n : ℕ) → At start n ≡ sought_of t i field subfield → FoundText t i field subfield (take n (drop start t.text))
  found_at start n e = record { start = start; size = n; found = (finds_exactly t (leaf_named (suc i) field subfield) (At start n)).0 e; same = refl }

  sought_at : {text : List ℕ} (w : FoundText t i field subfield text) → At w.start w.size ≡ sought_of t i field subfield
  sought_at w = (finds_exactly t (leaf_named (suc i) field subfield) (At w.start w.size)).1 w.found

  has_text_lem : has_text (sought_of t i field subfield) ≡ true → (text : List ℕ) × FoundText t i field subfield text
  unfolding has_text
  has_text_lem = by (sought_of t i field subfield) refl
    where
      by : (s : Sought) → s ≡ sought_of t i field subfield → has_text s ≡ true → (text : List ℕ) × FoundText t i field subfield text
      by (At start n) e h = (take n (drop start t.text), found_at start n e)
      by Empty e h = absurd (never_both h refl)
      by NotThere e h = absurd (never_both h refl)

  text_had : {text : List ℕ} → FoundText t i field subfield text → has_text (sought_of t i field subfield) ≡ true
  unfolding has_text
  text_had w = ap has_text (sym (sought_at w))

  says-found : (wanted : List ℕ) → leaf_is t i field subfield wanted ≡ true → FoundText t i field subfield wanted
  unfolding says_text
  says-found wanted = by (sought_of t i field subfield) refl
    where
      by : (s : Sought) → s ≡ sought_of t i field subfield → says_text t.text wanted s ≡ true → FoundText t i field subfield wanted
      by (At start n) e h =
          record {
            start = start;
            size = n;
            found = (finds_exactly t (leaf_named (suc i) field subfield) (At start n)).0 e;
            same = same_equal (take n (drop start t.text)) wanted h;
          }
      by Empty e h = absurd (never_both h refl)
      by NotThere e h = absurd (never_both h refl)

  found-says : {wanted : List ℕ} → FoundText t i field subfield wanted → leaf_is t i field subfield wanted ≡ true
  unfolding says_text
  found-says {wanted} w =
      ap (says_text t.text wanted) (sym (sought_at w)) ∙ ap (λ (s : List ℕ). same s wanted) w.same ∙ same_self wanted

  letter_found : (letters : List ℕ) → says_letter t.text letters (sought_of t i field subfield) ≡ true
      → (b : ℕ) × (among letters b ≡ true) × FoundText t i field subfield (b ∷ [])
  unfolding says_letter is_letter
  letter_found letters = by (sought_of t i field subfield) refl
    where
      one : (s : List ℕ) → is_letter letters s ≡ true → (b : ℕ) × (among letters b ≡ true) × (s ≡ b ∷ [])
      one [] h = absurd (never_both h refl)
      one (b ∷ []) h = (b, h, refl)
      one (b ∷ c ∷ s) h = absurd (never_both h refl)

      by : (s : Sought) → s ≡ sought_of t i field subfield → says_letter t.text letters s ≡ true
          → (b : ℕ) × (among letters b ≡ true) × FoundText t i field subfield (b ∷ [])
      by (At start n) e h =
          let w = one (take n (drop start t.text)) h in (
            w.0,
            w.1,
            record { start = start; size = n; found = (finds_exactly t (leaf_named (suc i) field subfield) (At start n)).0 e; same = w.2 },
          )
      by Empty e h = absurd (never_both h refl)
      by NotThere e h = absurd (never_both h refl)

  found_letter : (letters : List ℕ) (b : ℕ) → among letters b ≡ true → FoundText t i field subfield (b ∷ [])
      → says_letter t.text letters (sought_of t i field subfield) ≡ true
  unfolding says_letter is_letter
  found_letter letters b h w = ap (says_letter t.text letters) (sym (sought_at w)) ∙ ap (is_letter letters) w.same ∙ h

-- a result of a patient with a code
module _ (t : Lent) (patient : ℕ) (code : List ℕ) (j : ℕ) where
  coded_so : j < t.card.segments → coded_under t patient code j ≡ true → CodedResult t patient code j
  unfolding coded_under
  coded_so h e =
      let both = and_first (has_kind t result_kind j && eqb (patient_of t j) patient) (has_code t code j) e in
      record {
        counted = h;
        kind = eqb-true (kind_in t.segment_rows j) result_kind (and_first (has_kind t result_kind j) (eqb (patient_of t j) patient) both);
        belongs = eqb-true (patient_of t j) patient (and_second (has_kind t result_kind j) (eqb (patient_of t j) patient) both);
        says = says-found t j 4 1 code (and_second (has_kind t result_kind j && eqb (patient_of t j) patient) (has_code t code j) e);
      }

  so_coded : CodedResult t patient code j → coded_under t patient code j ≡ true
  unfolding coded_under
  so_coded w =
      and_both (and_both (eq-eqb (kind_in t.segment_rows j) result_kind w.kind) (eq-eqb (patient_of t j) patient w.belongs)) (found-says t j 4 1 w.says)

-- exactly one of them
module _ (t : Lent) (patient : ℕ) (code : List ℕ) where
  abbrev OneResult : Type 0
  OneResult = (j : ℕ) × CodedResult t patient code j × ((m : ℕ) → CodedResult t patient code m → m ≡ j)

  one_result : eqb (count_under t patient code) 1 ≡ true → OneResult
  one_result e =
      let w = one_passes (coded_under t patient code) t.card.segments (eqb-true (count_under t patient code) 1 e) in (
        w.0,
        coded_so t patient code w.0 w.1.within w.1.passes,
        λ m r. w.1.no_other m r.counted (so_coded t patient code m r),
      )

  result_once : OneResult → eqb (count_under t patient code) 1 ≡ true
  result_once w =
      eq-eqb (count_under t patient code) 1
      (passes_once (coded_under t patient code) t.card.segments w.0
      (record {
        within = w.1.counted;
        passes = so_coded t patient code w.0 w.1;
        no_other = λ m h q. w.2 m (coded_so t patient code m h q);
      }))

pub rules_mean : (t : Lent) → RulesMean t
unfolding fails is_about
rules_mean t =
    record {
      field_kept = λ f i. (
        λ h kind. has_text_lem t i f.field f.subfield (not_both h (eq-eqb (kind_in t.segment_rows i) f.kind kind)),
        λ g. not_both_where (λ kind. text_had t i f.field f.subfield (g (eqb-true (kind_in t.segment_rows i) f.kind kind)).1),
      );
      code-kept = λ code i. (
        λ h kind. one_result t (suc i) code (not_both h (eq-eqb (kind_in t.segment_rows i) patient_kind kind)),
        λ g. not_both_where (λ kind. result_once t (suc i) code (g (eqb-true (kind_in t.segment_rows i) patient_kind kind))),
      );
      value-kept = λ about letters i. (
        λ h kind asked. letter_found t i 6 1 letters (not_both h (and_both (eq-eqb (kind_in t.segment_rows i) result_kind kind) asked)),
        λ g. not_both_where (λ both.
            let w = g (eqb-true (kind_in t.segment_rows i) result_kind (and_first (has_kind t result_kind i) (is_about t about i) both))
            (and_second (has_kind t result_kind i) (is_about t about i) both) in
            found_letter t i 6 1 letters w.0 w.1 w.2),
      );
      about_code = λ code i. (says-found t i 4 1 code, found-says t i 4 1);
      about_system = λ type system i. (
        λ h. (
          says-found t i 3 1 type (and_first (leaf_is t i 3 1 type) (leaf_is t i 4 3 system || leaf_is t i 4 6 system) h),
          by_system i system (or_cases (leaf_is t i 4 3 system) (leaf_is t i 4 6 system) (and_second (leaf_is t i 3 1 type) (leaf_is t i 4 3 system || leaf_is t i 4 6 system) h)),
        ),
        λ w. and_both (found-says t i 3 1 w.0) (either_system i system w.1),
      );
    }
  where
    by_system : (i : ℕ) (system : List ℕ) → (leaf_is t i 4 3 system ≡ true) ⊎ (leaf_is t i 4 6 system ≡ true) → FoundText t i 4 3 system ⊎ FoundText t i 4 6 system
    by_system i system (inl h) = inl (says-found t i 4 3 system h)
    by_system i system (inr h) = inr (says-found t i 4 6 system h)

    either_system : (i : ℕ) (system : List ℕ) → FoundText t i 4 3 system ⊎ FoundText t i 4 6 system → (leaf_is t i 4 3 system || leaf_is t i 4 6 system) ≡ true
    either_system i system (inl w) = or_first (leaf_is t i 4 6 system) (found-says t i 4 3 w)
    either_system i system (inr w) = or_second (leaf_is t i 4 3 system) (found-says t i 4 6 w)
