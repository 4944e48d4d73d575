-- Which results are a patient's (R2, O5): in a report they are those behind its row and before the next patient's.
-- Assumes nothing.
use mathlib.Core.Bool.{false}
use mathlib.Core.Logic.{◌⊎◌, inl, inr}
use mathlib.Core.Path.{◌≡◌, refl, sym, ap, ap₂, ◌∙◌, subst}
use Prim.Native.Nat.{ℕ, suc, ◌+◌, ◌-◌, ◌≤◌, ◌<◌}
use native.Mathlib.Omega.{arith}
use borrow.Author.Tests.{eqb-true, eq-eqb, ne_eqb}
use lib.Dec.{eqb}
use lib.ListN.{length}
use Rattle.laws.specs.Tables.{passing}
use Rattle.laws.proofs.Cases.{less_or_not, equal_or_not}
use Rattle.laws.proofs.Passing.{passing-behind, passing-before, found_first}
use Rattle.laws.proofs.Tests.{Tested, passed, failed, tested, never_both, and_both, and_passed}
use Rattle.order.specs.Owners.{levels, level}
use Rattle.order.specs.OwnerKinds.{owner_kinds, owner_kind, NearestOf}
use Rattle.order.proofs.GoingBack.{one-nearest}
use Rattle.table.specs.Lent.{Lent}
use Rattle.table.specs.Rows.{kind_in, owner_in}
use Rattle.table.specs.OwnedRows.{NearestRow}
use Rattle.look.specs.Looking.{patient_kind, order_kind, result_kind}
use Rattle.screen.specs.Verdicts.{report_context}
use Rattle.screen.specs.Meeting.{has_kind, has_code, patient_of, coded_under, count_under}
use Rattle.screen.specs.inner.Rows.{Report}
use Rattle.screen.specs.inner.Counting.{code_count, code_named, code_in, next_patient, count_between}
use Rattle.laws.proofs.Passing.{first_bounds, none_before, passing_alike}
use Rattle.screen.proofs.RowCodes.{no_result, row-code}

-- in an ORU an OBX belongs to an OBR, an OBR to a P, and a P has a lower level than an OBX
result_owner : owner_kind report_context result_kind ≡ order_kind
unfolding owner_kind owner_kinds
result_owner = refl

order-owner : owner_kind report_context order_kind ≡ patient_kind
unfolding owner_kind owner_kinds
order-owner = refl

patient_lower : level report_context patient_kind < level report_context result_kind
unfolding level levels
patient_lower = omega arith

module _ (t : Lent) (report : Report t) where
  abbrev kind_at : ℕ → ℕ
  kind_at i = kind_in t.segment_rows i

  abbrev owner_at : ℕ → ℕ
  owner_at i = owner_in t.segment_rows i

  -- the owner of a row by the kinds
  nearest-named : (kind owner : ℕ) → owner_kind report_context kind ≡ suc owner → (i : ℕ) → i < t.card.segments → kind_at i ≡ kind
      → NearestOf (suc owner) kind_at i (owner_at i)
  nearest-named kind owner named i h e =
      let here = ap₂ owner_kind report.context e ∙ named in
      subst (λ (k : ℕ). NearestRow k t.segment_rows i) here (report.owned.nearest i h (omega (arith, here)))

  -- no patient stands between a result and its order
  none_between : (i m : ℕ) → i < t.card.segments → kind_at i ≡ result_kind → owner_at i ≤ m → m < i → kind_at m ≡ patient_kind → ⊥
  none_between i m h e g l q =
      omega (
        arith,
        report.owned.none_lower i m h g l (λ w. omega (arith, w, e)) (λ w. omega (arith, w, q)),
        ap₂ level report.context e,
        ap₂ level report.context q,
        patient_lower,
      )

  -- the patient of a result is the nearest one before it
  pub result_patient : (i : ℕ) → i < t.card.segments → kind_at i ≡ result_kind → NearestOf patient_kind kind_at i (patient_of t i)
  result_patient i h e =
      let order = nearest-named result_kind 4 result_owner i h e in
      let patient = nearest-named order_kind 1 order-owner (owner_at i - 1) (omega (arith, order.there, order.earlier, h)) order.of_kind in
      record {
        there = patient.there;
        earlier = omega (arith, patient.earlier, order.earlier);
        of_kind = patient.of_kind;
        none_nearer = λ m low high q. by order patient m low high q (less_or_not m (owner_at i - 1)) (equal_or_not m (owner_at i - 1));
      }
    where
      by : NearestOf order_kind kind_at i (owner_at i) → NearestOf patient_kind kind_at (owner_at i - 1) (patient_of t i) → (m : ℕ) → patient_of t i ≤ m → m < i
          → kind_at m ≡ patient_kind → (m < owner_at i - 1) ⊎ (owner_at i - 1 ≤ m) → (m ≡ owner_at i - 1) ⊎ (m ≡ owner_at i - 1 → ⊥) → ⊥
      by order patient m low high q (inl l) s = patient.none_nearer m low l q
      by order patient m low high q (inr g) (inl at) = omega (arith, q, ap kind_at at, order.of_kind)
      by order patient m low high q (inr g) (inr n) = none_between i m h e (let past : owner_at i - 1 < m = omega (arith, g, n) in omega (arith, past)) high q

  -- the results of the patient in row i, counted from 0, by the k-th code
  module _ (i k : ℕ) (h : i < t.card.segments) (e : kind_at i ≡ patient_kind) (l : k < code_count) where
    abbrev end : ℕ
    end = next_patient t (suc i)

    bounds : (suc i ≤ end) × (end ≤ t.card.segments)
    bounds = first_bounds (has_kind t patient_kind) (suc i) t.card.segments (omega (arith, h))

    no_patient : (m : ℕ) → suc i ≤ m → m < end → kind_at m ≡ patient_kind → ⊥
    no_patient m g w q =
        never_both (eq-eqb (kind_at m) patient_kind q) (none_before (has_kind t patient_kind) (suc i) t.card.segments m (omega (arith, h)) g w)

    -- those between are its own
    own : (j : ℕ) → suc i ≤ j → j < end → kind_at j ≡ result_kind → patient_of t j ≡ suc i
    own j g w q =
        one-nearest (result_patient j (omega (arith, w, bounds.1)) q)
        (record {
          there = omega arith;
          earlier = g;
          of_kind = ap kind_at (let at : suc i - 1 ≡ i = omega arith in at) ∙ e;
          none_nearer = λ m low high. no_patient m low (omega (arith, high, w));
        })

    -- those before and those from the next patient on are not
    not_before : (j : ℕ) → j < suc i → kind_at j ≡ result_kind → patient_of t j ≡ suc i → ⊥
    not_before j w q p = omega (arith, w, p, (result_patient j (omega (arith, w, h)) q).earlier)

    not_behind : (j : ℕ) → end ≤ j → j < t.card.segments → kind_at j ≡ result_kind → patient_of t j ≡ suc i → ⊥
    not_behind j g w q p = by (equal_or_not end j)
      where
        next-kind : kind_at end ≡ patient_kind
        next-kind =
            eqb-true (kind_at end) patient_kind
            (found_first (has_kind t patient_kind) (suc i) t.card.segments end (omega (arith, h)) refl (λ z. omega (arith, z, g, w))).passes

        by : (end ≡ j) ⊎ (end ≡ j → ⊥) → ⊥
        by (inl at) = omega (arith, next-kind, ap kind_at at, q)
        by (inr n) = (result_patient j w q).none_nearer end (omega (arith, p, bounds.0)) (omega (arith, g, n)) next-kind

    -- so a row outside is not counted, and one between by its code
    outside : (j : ℕ) → (kind_at j ≡ result_kind → patient_of t j ≡ suc i → ⊥) → coded_under t (suc i) (code_named k) j ≡ false
    unfolding coded_under
    outside j n = by (tested (has_kind t result_kind j)) (tested (eqb (patient_of t j) (suc i)))
      where
        by : Tested (has_kind t result_kind j) → Tested (eqb (patient_of t j) (suc i)) → coded_under t (suc i) (code_named k) j ≡ false
        by (failed q) s = rw (q, coded_under)
        by (passed q) (failed p) = rw (q, p, coded_under)
        by (passed q) (passed p) = absurd (n (eqb-true (kind_at j) result_kind q) (eqb-true (patient_of t j) (suc i) p))

    between : (j : ℕ) → suc i ≤ j → j < end → coded_under t (suc i) (code_named k) j ≡ eqb (code_in t j) k
    unfolding coded_under
    between j g w = by (tested (has_kind t result_kind j))
      where
        by : Tested (has_kind t result_kind j) → coded_under t (suc i) (code_named k) j ≡ eqb (code_in t j) k
        by (failed q) =
            rw (q, coded_under)
            (sym (ne_eqb (code_in t j) k (λ z. omega (arith, z, l, no_result t j (λ is. never_both (eq-eqb (kind_at j) result_kind is) q)))))
        by (passed q) =
            let kind = eqb-true (kind_at j) result_kind q in
            and_passed (has_code t (code_named k) j) (and_both q (eq-eqb (patient_of t j) (suc i) (own j g w kind))) ∙ row-code t j kind k l

    -- a patient's results with a code are counted between its row and the next patient's
    pub counted-between : count_under t (suc i) (code_named k) ≡ count_between t k (suc i) (next_patient t (suc i))
    counted-between =
        ap length
        (passing-behind (coded_under t (suc i) (code_named k)) (suc i) 0 (t.card.segments - suc i) t.card.segments (omega (arith, h))
        (λ j g w. outside j (not_before j (omega (arith, w))))
        ∙ ap (λ (n : ℕ). passing (coded_under t (suc i) (code_named k)) n (t.card.segments - suc i)) (let z : 0 + suc i ≡ suc i = omega arith in z)
        ∙ passing-before (coded_under t (suc i) (code_named k)) (end - suc i) (suc i) (t.card.segments - suc i) (omega (arith, bounds.1))
        (λ j g w. outside j (not_behind j (omega (arith, g, bounds.0)) (omega (arith, w, h))))
        ∙ passing_alike (coded_under t (suc i) (code_named k)) (λ j. eqb (code_in t j) k) (suc i) (end - suc i)
        (λ j g w. between j g (omega (arith, w, bounds.0))))
