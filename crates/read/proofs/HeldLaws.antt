-- State, text area and leaf rows go with the pass: over text, over a separator with its row, over the end of a segment.
-- Assumes nothing.
use mathlib.Core.Bool.{true, false}
use mathlib.Core.List.{List, [], ◌∷◌, ◌++◌, append_assoc, append-nil}
use mathlib.Core.Path.{◌≡◌, refl, sym, ap, ap₂, ◌∙◌, subst⁻¹}
use Prim.Native.Nat.{ℕ, ◌+◌, ◌-◌, ◌≤◌, ◌<◌}
use native.Mathlib.Numerals.{add-one}
use native.Mathlib.Omega.{arith}
use lib.Dec.{eqb}
use lib.ListN.{length, get_or, length-append}
use lib.Seq.{sets}
use borrow.Author.Tests.{eq-eqb}
use Rattle.laws.specs.Lists.{among}
use Rattle.laws.specs.Every.{All, none, also}
use Rattle.laws.proofs.Tests.{Tested, passed, failed, tested}
use Rattle.laws.proofs.Lists.{among_hit}
use Rattle.laws.proofs.Every.{all_append}
use Rattle.laws.proofs.Stores.{sets_behind}
use Rattle.form.specs.declared.separators.Separators.{Separators}
use Rattle.form.specs.Header.{splitting}
use Rattle.line.specs.Lines.{CR}
use Rattle.table.specs.Leaves.{Leaf}
use Rattle.table.specs.inner.Flat.{Pass, leaf, ones, raised, step, steps, ended}
use Rattle.table.specs.Rows.{leaf_row_size, leaf_rows_from, text_of}
use Rattle.table.proofs.Flat.{raised_here}
use Rattle.table.proofs.Passes.{step_separator}
use Rattle.table.proofs.Closing.{with_text, steps-text, text-last, leaf_row, rows_last, length-rows}
use Rattle.read.specs.declared.lay.Laying.{Laying}
use Rattle.table.specs.inner.Classes.{class_table}
use Rattle.read.specs.inner.Laying.{leaf_place, row_of, closed_to, next_leaf, next_segment, PlaceCounted, Held}
use Rattle.table.proofs.Classes.{class_separator}
use Rattle.read.proofs.ClassLaws.{class_raised}

-- the state once text is copied up to a place of the text area
abbrev pub out_to : Laying → ℕ → Laying
out_to l out =
    record {
      row = l.row;
      segment = l.segment;
      field = l.field;
      repetition = l.repetition;
      subfield = l.subfield;
      subsubfield = l.subsubfield;
      begin = l.begin;
      out = out;
    }

-- the leaf begun is closed: one row more, and the next leaf begins where the text ends
pub record Closes (l next : Laying) : Type 0 where
  pub row : next.row ≡ l.row + leaf_row_size
  pub begin : next.begin ≡ l.out
  pub out : next.out ≡ l.out
  pub counted : PlaceCounted l → PlaceCounted next

pub segment_closes : (l : Laying) → Closes l (next_segment l)
unfolding next_segment
segment_closes l = record { row = refl; begin = refl; out = refl; counted = λ c. omega arith }

module _ (l : Laying) (sort : ℕ) where
  -- what holds of every state with no number raised by more than one holds after a separator of any sort
  leaf_cases : (P : Laying → Type 0)
      → ((f r s t : ℕ) → f ≤ l.field + 1 → r ≤ l.repetition + 1 → s ≤ l.subfield + 1 → t ≤ l.subsubfield + 1 → P (closed_to l f r s t))
      → P (next_leaf l sort)
  unfolding next_leaf
  leaf_cases P h = at_four (tested (eqb sort 4))
    where
      stay : (n : ℕ) → n ≤ n + 1
      stay n = omega arith

      one : (n : ℕ) → 1 ≤ n + 1
      one n = omega arith

      more : (n : ℕ) → n + 1 ≤ n + 1
      more n = omega arith

      at_two : eqb sort 4 ≡ false → eqb sort 3 ≡ false → Tested (eqb sort 2) → P (next_leaf l sort)
      at_two four three (passed e) =
          rw (four, three, e, next_leaf) (h l.field (l.repetition + 1) 1 1 (stay _) (more _) (one _) (one _))
      at_two four three (failed e) = rw (four, three, e, next_leaf) (h (l.field + 1) 1 1 1 (more _) (one _) (one _) (one _))

      at_three : eqb sort 4 ≡ false → Tested (eqb sort 3) → P (next_leaf l sort)
      at_three four (passed e) =
          rw (four, e, next_leaf) (h l.field l.repetition (l.subfield + 1) 1 (stay _) (stay _) (more _) (one _))
      at_three four (failed e) = at_two four e (tested (eqb sort 2))

      at_four : Tested (eqb sort 4) → P (next_leaf l sort)
      at_four (passed e) =
          rw (e, next_leaf) (h l.field l.repetition l.subfield (l.subsubfield + 1) (stay _) (stay _) (stay _) (more _))
      at_four (failed e) = at_three e (tested (eqb sort 3))

  pub leaf_closes : Closes l (next_leaf l sort)
  leaf_closes = leaf_cases (Closes l) (λ f r s t a b c d. record { row = refl; begin = refl; out = refl; counted = λ k. omega arith })

  pub leaf-segment : (next_leaf l sort).segment ≡ l.segment
  leaf-segment = leaf_cases (λ n. n.segment ≡ l.segment) (λ f r s t a b c d. refl)

-- a pass that has made nothing yet holds nothing: the buffers are as they came
pub held-begins : (text leaves place : List ℕ) (l : Laying) → place ≡ leaf_place l → l.row ≡ 0 → l.begin ≡ 0 → l.out ≡ 0
    → Held text leaves (record { place = place; text = []; closed = [] }) l text leaves
unfolding text_of leaf_rows_from
held-begins text leaves place l at row begin out =
    record { place = at; closed = row; begins = begin; ends = omega arith; texts = refl; rows = refl; placed = none }

-- the leaf begun, and the pass once it is closed, where the next one stands at a place
abbrev pub leaf_begun : Pass → Leaf
leaf_begun pass = leaf pass.place pass.text

abbrev pub closing : Pass → List ℕ → Pass
closing pass place = record { place = place; text = []; closed = pass.closed ++ (leaf_begun pass ∷ []) }

-- the leaves of a whole pass: the length of their text, and what the two buffers hold of them
pub record Ends (text₀ leaves₀ : List ℕ) (leaves : List Leaf) (out : ℕ) (text rows : List ℕ) : Type 0 where
  pub reaches : length (text_of leaves) ≡ out
  pub texts : text ≡ sets text₀ 0 (text_of leaves)
  pub stored : rows ≡ sets leaves₀ 0 (leaf_rows_from 0 leaves)

module _ {text₀ leaves₀ : List ℕ} {pass : Pass} {l : Laying} {text leaves : List ℕ} (h : Held text₀ leaves₀ pass l text leaves) where
  -- text goes behind the text
  pub held_copied : (s : List ℕ) (out : ℕ) → out ≡ l.out + length s
      → Held text₀ leaves₀ (with_text pass s) (out_to l out) (sets text l.out s) leaves
  unfolding leaf_place
  held_copied s out e =
      record {
        place = h.place;
        closed = h.closed;
        begins = h.begins;
        ends = omega (arith, length-append pass.text s);
        texts =
            ap (λ (t : List ℕ). sets t l.out s) h.texts
            ∙ sets_behind text₀ (text_of pass.closed ++ pass.text) s l.out
            (omega (arith, length-append (text_of pass.closed) pass.text))
            ∙ ap (sets text₀ 0) (append_assoc (text_of pass.closed) pass.text s);
        rows = h.rows;
        placed = h.placed;
      }

  pub held-text : (ps : List ℕ) {s : List ℕ} (out : ℕ) → All (λ (b : ℕ). among ps b ≡ false) s → out ≡ l.out + length s
      → Held text₀ leaves₀ (steps ps pass s) (out_to l out) (sets text l.out s) leaves
  held-text ps {s} out w e = rw (steps-text ps pass w) (held_copied s out e)

  five : length pass.place ≡ 5
  unfolding leaf_place
  five = ap length h.place

  row-begun : row_of l ≡ leaf_row (leaf_begun pass) (0 + length (text_of pass.closed))
  unfolding row_of
  row-begun =
      ap {B = List ℕ} (λ p. p ++ (l.begin ∷ (l.out - l.begin) ∷ [])) (sym h.place)
      ∙ ap₂ (λ (m n : ℕ). pass.place ++ (m ∷ n ∷ [])) (omega arith) (omega arith)

  -- the leaf begun is closed, and its row goes behind the rows
  pub held-put : {next : Laying} → Closes l next
      → Held text₀ leaves₀ (closing pass (leaf_place next)) next text (sets leaves l.row (row_of l))
  held-put k =
      record {
        place = refl;
        closed = k.row ∙ omega (arith, length-append pass.closed (leaf_begun pass ∷ []));
        begins =
            k.begin ∙ omega (arith, length-append (text_of pass.closed) pass.text, ap length (text-last pass.closed (leaf_begun pass)));
        ends = omega arith;
        texts =
            h.texts
            ∙ ap (sets text₀ 0) (sym (text-last pass.closed (leaf_begun pass)) ∙ sym (append-nil (text_of (pass.closed ++ (leaf_begun pass ∷ [])))));
        rows =
            ap₂ (λ (r s : List ℕ). sets r l.row s) h.rows row-begun
            ∙ sets_behind leaves₀ (leaf_rows_from 0 pass.closed) (leaf_row (leaf_begun pass) (0 + length (text_of pass.closed)))
            l.row (h.closed ∙ sym (length-rows 0 h.placed))
            ∙ ap (sets leaves₀ 0) (sym (rows_last 0 pass.closed (leaf_begun pass)));
        placed = all_append h.placed (also five none);
      }

  pub held_closes : (ps : List ℕ) (b : ℕ) (next : Laying) → among ps b ≡ true → raised ps b (leaf_place l) ≡ leaf_place next → Closes l next
      → Held text₀ leaves₀ (step ps pass b) next text (sets leaves l.row (row_of l))
  held_closes ps b next is place k =
      subst⁻¹ (λ (c : Pass). Held text₀ leaves₀ c next text (sets leaves l.row (row_of l)))
      (step_separator ps pass b is ∙ ap (closing pass) (ap (raised ps b) h.place ∙ place)) (held-put k)

  -- a byte of a class from 1 to 4
  pub held_separator : (ps : Separators) (class : List ℕ) (b : ℕ) → class ≡ class_table ps → b < 256
      → (get_or class b 0 ≡ 5 → ⊥) → (get_or class b 0 ≡ 0 → ⊥)
      → Held text₀ leaves₀ (step (CR ∷ splitting ps) pass b) (next_leaf l (get_or class b 0)) text (sets leaves l.row (row_of l))
  held_separator ps class b is byte no_end no_text =
      let at : get_or class b 0 ≡ get_or (class_table ps) b 0 = ap (λ (k : List ℕ). get_or k b 0) is in
      let no-five : get_or (class_table ps) b 0 ≡ 5 → ⊥ = λ z. no_end (at ∙ z) in
      let text : get_or (class_table ps) b 0 ≡ 0 → ⊥ = λ z. no_text (at ∙ z) in
      held_closes (CR ∷ splitting ps) b (next_leaf l (get_or class b 0)) (class_separator ps b byte no-five text)
      (class_raised ps b byte no-five text l ∙ ap (λ (k : ℕ). leaf_place (next_leaf l k)) (sym at)) (leaf_closes l (get_or class b 0))

  -- the CR that stands for the end of a segment
  pub held-segment : (ps : Separators)
      → Held text₀ leaves₀ (step (CR ∷ splitting ps) pass CR) (next_segment l) text (sets leaves l.row (row_of l))
  unfolding leaf_place next_segment splitting ones
  held-segment ps =
      held_closes (CR ∷ splitting ps) CR (next_segment l) (among_hit CR (splitting ps) CR (eq-eqb CR CR refl))
      (raised_here CR (splitting ps) CR l.segment (l.field ∷ l.repetition ∷ l.subfield ∷ l.subsubfield ∷ []) (eq-eqb CR CR refl)
      ∙ ap (λ (n : ℕ). n ∷ 1 ∷ 1 ∷ 1 ∷ 1 ∷ []) (sym (add-one l.segment)))
      (segment_closes l)

  -- the message ends: with the row of the leaf begun the buffers hold the leaves of the whole pass
  pub held-ended : Ends text₀ leaves₀ (ended pass) l.out text (sets leaves l.row (row_of l))
  unfolding ended next_segment
  held-ended =
      let last = held-put (segment_closes l) in
      record {
        reaches = sym last.begins;
        texts = last.texts ∙ ap (sets text₀ 0) (append-nil (text_of (ended pass)));
        stored = last.rows;
      }
