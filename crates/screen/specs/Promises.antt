-- What is promised of the check for screening reports, on one page (rules R1 to R5), over the very equation that `screen` ensures.
-- Assumes nothing.
use Rattle.std.specs.Prelude.{true, false, List, [], ◌∷◌, ◌⊎◌, ◌↔◌, ◌≡◌, ℕ, suc, ◌+◌, ◌<◌, length, get_or, take, drop}
use Rattle.std.proofs.lemmas.List.Edits.{sets}
use Rattle.laws.specs.Lists.{among}
use Rattle.form.specs.declared.limits.Limits.{Limits}
use Rattle.form.specs.Numbers.{no_table_number}
use Rattle.order.specs.Owners.{level}
use Rattle.order.specs.OwnerKinds.{NearestOf}
use Rattle.table.specs.Lent.{Lent, lent}
use Rattle.table.specs.Rows.{Table, kind_in}
use Rattle.table.specs.Reading.{room_of, accepted, reading}
use Rattle.write.specs.inner.ReadsBack.{is_table}
use Rattle.look.specs.declared.leaf.Sought.TheVariants.{At}
use Rattle.look.specs.Looking.{patient_kind, result_kind, leaf_named}
use Rattle.look.specs.Matches.{FirstFit, Finds}
use Rattle.screen.specs.declared.wanted.Field.{Field}
use Rattle.screen.specs.declared.Verdict.{Verdict}
use Rattle.screen.specs.Refusals.{not_a_report, first_rule}
use Rattle.screen.specs.Rules.{About, with_code, in_system, Rule, wants, once, takes, rules}
use Rattle.screen.specs.Meeting.{patient_of, is_about, fails}
use Rattle.screen.specs.Verdicts.{report_context, screened}

-- the k-th rule, counted from 0, whose number is `first_rule + k`
abbrev pub kth_rule : ℕ → Rule
kth_rule k = get_or rules k (once [])

-- no row fails a rule; no row fails any of the first k
abbrev pub Keeps : Lent → Rule → Type 0
Keeps t r = (i : ℕ) → i < t.card.segments → fails t r i ≡ false

abbrev pub KeepsFirst : Lent → ℕ → Type 0
KeepsFirst t k = (j : ℕ) → j < k → Keeps t (kth_rule j)

-- some message reads to the table (W4), and its context is ORU
pub record IsReport (L : Limits) (levels : ℕ → ℕ → ℕ) (t : Lent) : Type 0 where
  pub table : is_table L levels t ≡ true
  pub context : t.card.context ≡ report_context

-- what a verdict says (R4, R5)
pub record VerdictOn (L : Limits) (levels : ℕ → ℕ → ℕ) (t : Lent) (v : Verdict) : Type 0 where
  -- yes exactly where the table is a report and every rule is kept
  pub yes_exactly : (v.number ≡ 0) ↔ (IsReport L levels t × KeepsFirst t (length rules))
  -- 13 exactly where no message reads to it, then 30 exactly where its context is another
  pub no_table : (v.number ≡ no_table_number) ↔ (is_table L levels t ≡ false)
  pub no_report : (v.number ≡ not_a_report) ↔ ((is_table L levels t ≡ true) × (t.card.context ≡ report_context → ⊥))
  -- a rule's number exactly where the table is a report, that rule is not kept and every lower one is
  pub lowest_rule : (k : ℕ) → k < length rules → (v.number ≡ first_rule + k) ↔ (IsReport L levels t × KeepsFirst t k × (Keeps t (kth_rule k) → ⊥))
  -- and then the place, counted from 1, is the first row that fails it
  pub first-row : (k : ℕ) → k < length rules → v.number ≡ first_rule + k
      → (i : ℕ) × (v.place ≡ suc i) × FirstFit (fails t (kth_rule k)) 0 t.card.segments i
  -- there is no other number, and those that are no rule's have the place 0
  pub other-number : ((v.number ≡ 0) ⊎ ((v.number ≡ no_table_number) ⊎ (v.number ≡ not_a_report))) ⊎ ((k : ℕ) × (k < length rules) × (v.number ≡ first_rule + k))
  pub no_place : (v.number ≡ 0) ⊎ ((v.number ≡ no_table_number) ⊎ (v.number ≡ not_a_report)) → v.place ≡ 0

-- a leaf of row i, counted from 0, that a name gives (S5) is found with just this text (F1)
pub record FoundText (t : Lent) (i field subfield : ℕ) (text : List ℕ) : Type 0 where
  pub start : ℕ
  pub size : ℕ
  pub found : Finds t (leaf_named (suc i) field subfield) (At start size)
  pub same : take size (drop start t.text) ≡ text

-- row j is a result of the patient in a row, and its code, 10.4.1, is this one
pub record CodedResult (t : Lent) (patient : ℕ) (code : List ℕ) (j : ℕ) : Type 0 where
  pub counted : j < t.card.segments
  pub kind : kind_in t.segment_rows j ≡ result_kind
  pub belongs : patient_of t j ≡ patient
  pub says : FoundText t j 4 1 code

-- what it means that row i does not fail a rule (R1 to R3)
pub record RulesMean (t : Lent) : Type 0 where
  -- a segment of the field's kind has some text there: the leaf is found, and neither empty nor missing
  pub field_kept : (f : Field) (i : ℕ)
      → (fails t (wants f) i ≡ false) ↔ (kind_in t.segment_rows i ≡ f.kind → (text : List ℕ) × FoundText t i f.field f.subfield text)
  -- a patient has a result with the code, and no other
  pub code-kept : (code : List ℕ) (i : ℕ)
      → (fails t (once code) i ≡ false)
      ↔ (kind_in t.segment_rows i ≡ patient_kind → (j : ℕ) × CodedResult t (suc i) code j × ((m : ℕ) → CodedResult t (suc i) code m → m ≡ j))
  -- a result that the rule is about has one of the letters for its value, 10.6.1
  pub value-kept : (about : About) (letters : List ℕ) (i : ℕ)
      → (fails t (takes about letters) i ≡ false)
      ↔ (kind_in t.segment_rows i ≡ result_kind → is_about t about i ≡ true → (b : ℕ) × (among letters b ≡ true) × FoundText t i 6 1 (b ∷ []))
  -- it is about a result by its code, or by its type, 10.3, and the system of its code, 10.4.3 or 10.4.6
  pub about_code : (code : List ℕ) (i : ℕ) → (is_about t (with_code code) i ≡ true) ↔ FoundText t i 4 1 code
  pub about_system : (type system : List ℕ) (i : ℕ)
      → (is_about t (in_system type system) i ≡ true) ↔ (FoundText t i 3 1 type × (FoundText t i 4 3 system ⊎ FoundText t i 4 6 system))

-- the check, by the levels in force
pub record Screening (L : Limits) : Type 0 where
  -- there is one verdict, and this is what it says
  pub one-verdict : (t : Lent) (v w : Verdict) → v ≡ screened L level t → w ≡ screened L level t → v ≡ w
  pub verdict_on : (t : Lent) (v : Verdict) → v ≡ screened L level t → VerdictOn L level t v
  -- this is what its rules ask
  pub rules_mean : (t : Lent) → RulesMean t
  -- a result belongs to the nearest patient before it, whichever of its orders it stands under
  pub nearest_patient : (t : Lent) → IsReport L level t → (i : ℕ) → i < t.card.segments → kind_in t.segment_rows i ≡ result_kind
      → NearestOf patient_kind (kind_in t.segment_rows) i (patient_of t i)
  -- of what reading a message leaves it never says 13
  pub read-messages : (message text segments leaves : List ℕ) (T : Table) → reading L level (room_of text segments leaves) message ≡ accepted T
      → (screened L level (lent T.card (sets segments 0 T.segment_rows) (sets leaves 0 T.leaf_rows) (sets text 0 T.text))).number ≡ no_table_number → ⊥
