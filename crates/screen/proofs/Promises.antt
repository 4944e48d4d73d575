-- The promises of the check for screening reports, proved: by the cases of a verdict, by what its rules mean, and by what a tested table is.
-- Assumes nothing.
use mathlib.Core.Bool.{true, false}
use mathlib.Core.Logic.{◌⊎◌, inl, inr, ◌↔◌}
use mathlib.Core.Path.{◌≡◌, ap, ◌∙◌, subst, subst⁻¹}
use Prim.Native.Nat.{ℕ, suc, ◌+◌, ◌≤◌, ◌<◌}
use native.Mathlib.Omega.{arith}
use lib.ListN.{length}
use Rattle.laws.proofs.Cases.{less_or_not}
use Rattle.laws.proofs.Equality.{only_one}
use Rattle.laws.proofs.Tests.{never_both}
use Rattle.form.specs.declared.limits.Limits.{Limits}
use Rattle.form.specs.declared.forms.Form.{Form}
use Rattle.form.specs.Forms.{limits_of}
use Rattle.form.specs.Limits.{Lawful}
use Rattle.form.specs.Numbers.{no_table_number}
use Rattle.form.proofs.TwoForms.{form_lawful}
use Rattle.order.specs.Owners.{level}
use Rattle.table.specs.Lent.{Lent}
use Rattle.table.specs.Rows.{width}
use Rattle.table.proofs.Width.{form_fits}
use Rattle.write.specs.inner.ReadsBack.{is_table}
use Rattle.write.proofs.ReadTables.{filed-table}
use Rattle.look.specs.Matches.{FirstFit}
use Rattle.screen.specs.declared.Verdict.{Verdict}
use Rattle.screen.specs.Refusals.{not_a_report, first_rule}
use Rattle.screen.specs.Rules.{rules}
use Rattle.screen.specs.Meeting.{fails}
use Rattle.screen.specs.Verdicts.{report_context, screened}
use Rattle.screen.specs.Promises.{kth_rule, Keeps, KeepsFirst, IsReport, VerdictOn, Screening}
use Rattle.screen.proofs.Patients.{result_patient}
use Rattle.screen.proofs.RuleMeanings.{rules_mean}
use Rattle.screen.proofs.Screened.{report_here}
use Rattle.screen.proofs.VerdictCases.{Cases, untabled, unreported, kept, broken, cases}

module _ (L : Limits) (levels : ℕ → ℕ → ℕ) (t : Lent) where
  abbrev told : Verdict
  told = screened L levels t

  -- the number in each of the four cases
  numbered : {v : Verdict} → told ≡ v → told.number ≡ v.number
  numbered e = ap (λ (v : Verdict). v.number) e

  placed : {v : Verdict} → told ≡ v → told.place ≡ v.place
  placed e = ap (λ (v : Verdict). v.place) e

  -- a rule that a row fails is not kept
  not_kept : (k i : ℕ) → FirstFit (fails t (kth_rule k)) 0 t.card.segments i → Keeps t (kth_rule k) → ⊥
  not_kept k i fit keeps = never_both fit.fits (keeps i fit.within)

  yes_exactly : (told.number ≡ 0) ↔ (IsReport L levels t × KeepsFirst t (length rules))
  yes_exactly = (to (cases L levels t), from (cases L levels t))
    where
      to : Cases L levels t → told.number ≡ 0 → IsReport L levels t × KeepsFirst t (length rules)
      to (untabled e q) h = absurd (omega (arith, h, numbered q))
      to (unreported e n q) h = absurd (omega (arith, h, numbered q))
      to (kept r k q) h = (r, k)
      to (broken r k i l w fit q) h = absurd (omega (arith, h, numbered q))

      from : Cases L levels t → IsReport L levels t × KeepsFirst t (length rules) → told.number ≡ 0
      from (untabled e q) w = absurd (never_both w.0.table e)
      from (unreported e n q) w = absurd (n w.0.context)
      from (kept r k q) w = numbered q
      from (broken r k i l below fit q) w = absurd (not_kept k i fit (w.1 k l))

  none_exactly : (told.number ≡ no_table_number) ↔ (is_table L levels t ≡ false)
  none_exactly = (to (cases L levels t), from (cases L levels t))
    where
      to : Cases L levels t → told.number ≡ no_table_number → is_table L levels t ≡ false
      to (untabled e q) h = e
      to (unreported e n q) h = absurd (omega (arith, h, numbered q))
      to (kept r k q) h = absurd (omega (arith, h, numbered q))
      to (broken r k i l w fit q) h = absurd (omega (arith, h, numbered q))

      from : Cases L levels t → is_table L levels t ≡ false → told.number ≡ no_table_number
      from (untabled e q) w = numbered q
      from (unreported e n q) w = absurd (never_both e w)
      from (kept r k q) w = absurd (never_both r.table w)
      from (broken r k i l below fit q) w = absurd (never_both r.table w)

  other_exactly : (told.number ≡ not_a_report) ↔ ((is_table L levels t ≡ true) × (t.card.context ≡ report_context → ⊥))
  other_exactly = (to (cases L levels t), from (cases L levels t))
    where
      to : Cases L levels t → told.number ≡ not_a_report → (is_table L levels t ≡ true) × (t.card.context ≡ report_context → ⊥)
      to (untabled e q) h = absurd (omega (arith, h, numbered q))
      to (unreported e n q) h = (e, n)
      to (kept r k q) h = absurd (omega (arith, h, numbered q))
      to (broken r k i l w fit q) h = absurd (omega (arith, h, numbered q))

      from : Cases L levels t → (is_table L levels t ≡ true) × (t.card.context ≡ report_context → ⊥) → told.number ≡ not_a_report
      from (untabled e q) w = absurd (never_both w.0 e)
      from (unreported e n q) w = numbered q
      from (kept r k q) w = absurd (w.1 r.context)
      from (broken r k i l below fit q) w = absurd (w.1 r.context)

  module _ (k : ℕ) (h : k < length rules) where
    lowest_exactly : (told.number ≡ first_rule + k) ↔ (IsReport L levels t × KeepsFirst t k × (Keeps t (kth_rule k) → ⊥))
    lowest_exactly = (to (cases L levels t), from (cases L levels t))
      where
        to : Cases L levels t → told.number ≡ first_rule + k → IsReport L levels t × KeepsFirst t k × (Keeps t (kth_rule k) → ⊥)
        to (untabled e q) n = absurd (omega (arith, n, numbered q))
        to (unreported e c q) n = absurd (omega (arith, n, numbered q))
        to (kept r w q) n = absurd (omega (arith, n, numbered q))
        to (broken r j i l w fit q) n =
            let same : j ≡ k = omega (arith, n, numbered q) in
            (r, subst (KeepsFirst t) same w, subst (λ (m : ℕ). Keeps t (kth_rule m) → ⊥) same (not_kept j i fit))

        from : Cases L levels t → IsReport L levels t × KeepsFirst t k × (Keeps t (kth_rule k) → ⊥) → told.number ≡ first_rule + k
        from (untabled e q) w = absurd (never_both w.0.table e)
        from (unreported e c q) w = absurd (c w.0.context)
        from (kept r keeps q) w = absurd (w.2 (keeps k h))
        from (broken r j i l keeps fit q) w = by (less_or_not j k) (less_or_not k j)
          where
            by : (j < k) ⊎ (k ≤ j) → (k < j) ⊎ (j ≤ k) → told.number ≡ first_rule + k
            by (inl l) s = absurd (not_kept j i fit (w.1 j l))
            by (inr g) (inl l) = absurd (w.2 (keeps k l))
            by (inr g) (inr l) = numbered q ∙ ap (λ (m : ℕ). first_rule + m) (let e : j ≡ k = omega arith in e)

    first_exactly : told.number ≡ first_rule + k → (i : ℕ) × (told.place ≡ suc i) × FirstFit (fails t (kth_rule k)) 0 t.card.segments i
    first_exactly = by (cases L levels t)
      where
        by : Cases L levels t → told.number ≡ first_rule + k → (i : ℕ) × (told.place ≡ suc i) × FirstFit (fails t (kth_rule k)) 0 t.card.segments i
        by (untabled e q) n = absurd (omega (arith, n, numbered q))
        by (unreported e c q) n = absurd (omega (arith, n, numbered q))
        by (kept r w q) n = absurd (omega (arith, n, numbered q))
        by (broken r j i l w fit q) n =
            (i, placed q, subst (λ (m : ℕ). FirstFit (fails t (kth_rule m)) 0 t.card.segments i) (let e : j ≡ k = omega (arith, n, numbered q) in e) fit)

  abbrev NoRule : Type 0
  NoRule = (told.number ≡ 0) ⊎ ((told.number ≡ no_table_number) ⊎ (told.number ≡ not_a_report))

  one_of : NoRule ⊎ ((k : ℕ) × (k < length rules) × (told.number ≡ first_rule + k))
  one_of = by (cases L levels t)
    where
      by : Cases L levels t → NoRule ⊎ ((k : ℕ) × (k < length rules) × (told.number ≡ first_rule + k))
      by (untabled e q) = inl (inr (inl (numbered q)))
      by (unreported e n q) = inl (inr (inr (numbered q)))
      by (kept r k q) = inl (inl (numbered q))
      by (broken r k i l w fit q) = inr (k, l, numbered q)

  unplaced : NoRule → told.place ≡ 0
  unplaced = by (cases L levels t)
    where
      below : (n k : ℕ) → n ≡ first_rule + k → (n ≡ 0) ⊎ ((n ≡ no_table_number) ⊎ (n ≡ not_a_report)) → ⊥
      below n k e (inl h) = omega (arith, h, e)
      below n k e (inr (inl h)) = omega (arith, h, e)
      below n k e (inr (inr h)) = omega (arith, h, e)

      by : Cases L levels t → NoRule → told.place ≡ 0
      by (untabled e q) w = placed q
      by (unreported e n q) w = placed q
      by (kept r k q) w = placed q
      by (broken r k i l keeps fit q) w = absurd (below told.number k (numbered q) w)

  verdict_so : VerdictOn L levels t told
  verdict_so =
      record {
        yes_exactly = yes_exactly;
        no_table = none_exactly;
        no_report = other_exactly;
        lowest_rule = lowest_exactly;
        first-row = first_exactly;
        other-number = one_of;
        no_place = unplaced;
      }

pub screening : (L : Limits) → Lawful L → L.segments < width → Screening L
screening L lawful few =
    record {
      one-verdict = λ t v w e q. only_one e q;
      verdict_on = λ t v e. subst⁻¹ (VerdictOn L level t) e (verdict_so L level t);
      rules_mean = rules_mean;
      nearest_patient = λ t report. result_patient t (report_here L lawful t report.table few report.context);
      read-messages = λ message text segments leaves T read n.
          never_both (filed-table L lawful level message text segments leaves T read) ((none_exactly L level _).0 n);
    }

-- of either form
pub form_screening : (f : Form) → Screening (limits_of f)
form_screening f = screening (limits_of f) (form_lawful f) (omega (arith, (form_fits f).segments))
