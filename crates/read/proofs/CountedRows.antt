-- One row more to count: what its segment carries, where its code stands, and what comes of it.
-- Assumes nothing.
use mathlib.Core.List.{List, [], ◌++◌}
use mathlib.Core.Logic.{⊎_elim}
use mathlib.Core.Path.{◌≡◌, sym, ap, ◌∙◌, subst}
use Prim.Native.Nat.{ℕ, ◌+◌, ◌≤◌, ◌<◌}
use native.Mathlib.Omega.{arith}
use Rattle.std.specs.Prelude.{Option, Result, Ok}
use lib.ListN.{length, get_or, take, drop, take-append-drop}
use borrow.Author.Tests.{eq-eqb, ne_eqb}
use Rattle.laws.specs.Tables.{values}
use Rattle.laws.proofs.Cases.{less_or_not}
use Rattle.laws.proofs.Lists.{get_d_map}
use Rattle.laws.proofs.Tables.{values_same, values-entries}
use Rattle.form.specs.declared.limits.Limits.{Limits}
use Rattle.form.specs.declared.separators.Separators.{Separators}
use Rattle.form.proofs.HeaderRule.{sound-header}
use Rattle.table.specs.Leaves.{kind_of_segment}
use Rattle.table.specs.Rows.{kinds_of}
use Rattle.index.specs.Index.{code_most}
use Rattle.index.specs.Adding.{AddsAs}
use Rattle.index.proofs.Putting.{take-values}
use Rattle.read.specs.declared.census.Census.{Census}
use Rattle.read.specs.declared.refused.Refused.{Refused}
use Rattle.read.specs.Codes.{counted_kind, leaf_code, code_carried}
use Rattle.read.specs.Sound.{segments_in, SoundLines}
use Rattle.read.specs.inner.Coding.{CodeAhead, CodeTaken, code_of_row}
use Rattle.read.specs.inner.Census.{carried_by, lower_of, RowAhead, RowCounted, tried}
use Rattle.read.proofs.CutAnyhow.{first-segment}
use Rattle.read.proofs.Seeing.{header-kind}

-- what a segment carries, by its kind
module _ (ps : Separators) (s : List ℕ) where
  carries_none : (kind_of_segment ps s ≡ counted_kind → ⊥) → code_carried ps s ≡ []
  unfolding code_carried
  carries_none h = rw (ne_eqb (kind_of_segment ps s) counted_kind h, code_carried)

  carries_code : kind_of_segment ps s ≡ counted_kind → code_carried ps s ≡ leaf_code ps s
  unfolding code_carried
  carries_code h = rw (eq-eqb (kind_of_segment ps s) counted_kind h, code_carried)

module _ {L : Limits} {class kinds starts : List ℕ} {ps : Separators} {context : ℕ} {m : List ℕ} {row : ℕ} {census : Census} {code : List ℕ}
    (w : RowAhead L class kinds starts ps context m row census code) where
  abbrev segment : List ℕ
  segment = get_or (segments_in L ps m) row []

  -- the kind that is noted is the segment's
  pub kind-noted : get_or kinds row 0 ≡ kind_of_segment ps segment
  unfolding kinds_of
  kind-noted =
      w.given.noted row w.within (omega (arith, w.within, w.given.all))
      ∙ get_d_map (kind_of_segment ps) (segments_in L ps m) row [] 0 w.within

  pub row-noted : row < length kinds
  row-noted = omega (arith, w.within, w.given.all)

  pub row_started : row < length starts
  row_started = omega (arith, w.within, w.room)

  pub no_result : (get_or kinds row 0 ≡ counted_kind → ⊥) → length (carried_by L ps m row) ≡ 0
  no_result h = ap length (carries_none ps segment (λ e. h (kind-noted ∙ e)))

  module _ (is : get_or kinds row 0 ≡ counted_kind) where
    pub result_code : carried_by L ps m row ≡ code_of_row L ps m row
    result_code = carries_code ps segment (sym kind-noted ∙ is)

    -- the first segment is an H, so a result stands behind it
    sound-lines : SoundLines L m ps
    sound-lines = record { fits = w.given.bytes; header = w.given.header; lines = w.given.sound }

    first_kind : row ≡ 0 → kind_of_segment ps segment ≡ 1
    first_kind e =
        let s = get_or (segments_in L ps m) 0 [] in
        let begins = first-segment L w.given.fits.lawful m ps sound-lines in
        ap (λ (i : ℕ). kind_of_segment ps (get_or (segments_in L ps m) i [])) e
        ∙ ap (kind_of_segment ps) (sym (take-append-drop 7 s))
        ∙ ap (λ (t : List ℕ). kind_of_segment ps (t ++ drop 7 s)) begins
        ∙ header-kind ps (λ z. (sound-header m ps w.given.header).allowed.field.no_capital (omega (arith, z)) (omega (arith, z))) (drop 7 s)

    behind-first : 1 ≤ row
    behind-first =
        ⊎_elim
        (λ (z : row < 1). absurd (let one = first_kind (omega arith) in let z : ⊥ = omega (arith, one, kind-noted, is) in z))
        (λ (l : 1 ≤ row). l)
        (less_or_not row 1)

    pub code-ahead : CodeAhead L class kinds ps context m row (get_or starts row 0) code
    code-ahead = record { given = w.given; bytes = w.bytes; room = w.code_room; begins = w.begun row behind-first w.within row_started }

-- a code that is not too long, as it is held
pub code-held : {c : List ℕ} {r : ℕ} {bytes : List ℕ} → CodeTaken c r bytes → code_most ≤ length bytes → r ≤ code_most → take r bytes ≡ c
code-held {c} {r} {bytes} t room short =
    ap (take r) (sym (values-entries bytes 0))
    ∙ take-values (λ (k : ℕ). get_or bytes k 0) 0 (length bytes) r (omega arith)
    ∙ ap (values (λ (k : ℕ). get_or bytes k 0) 0) t.size_is
    ∙ values_same (λ (k : ℕ). get_or bytes k 0) (λ (k : ℕ). get_or c k 0) 0 (length c)
    (λ k low high. t.bytes k (omega arith) (omega (arith, t.size_is)))
    ∙ values-entries c 0

-- such a code, tried
pub code-tried : {c s : List ℕ} {row : ℕ} {census : Census} {codes counts codes' counts' : List ℕ} {number : ℕ} {r : Option ℕ} → s ≡ c → 1 ≤ length c → length c ≤ code_most
    → AddsAs s codes counts number codes' counts' → r ≡ lower_of census.refused number
    → RowCounted c row census codes counts (Ok (record { refused = r; results = census.results + 1 })) codes' counts'
code-tried {census = census} {codes = codes} {counts = counts} {codes' = codes'} {counts' = counts'} {number = number} e some short adds is =
    tried some short number (subst (λ (t : List ℕ). AddsAs t codes counts number codes' counts') e adds)
    (ap {B = Result Census Refused} (λ (n : Option ℕ). Ok (record { refused = n; results = census.results + 1 })) is)
