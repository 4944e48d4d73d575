-- Leaves one after the other with their separators: what is left of the rows gives the whole.
-- Assumes nothing.
use mathlib.Core.Bool.{true, false}
use mathlib.Core.List.{List, [], ◌∷◌, ◌++◌, append_assoc}
use mathlib.Core.Logic.{◌⊎◌, inl, inr}
use mathlib.Core.Path.{◌≡◌, refl, sym, ap, ap₂, ◌∙◌, subst}
use Prim.Native.Nat.{ℕ, suc, ◌+◌, ◌-◌, ◌≤◌, ◌<◌}
use native.Mathlib.Omega.{arith}
use lib.Dec.{eqb}
use lib.ListN.{length, take, drop}
use lib.Seq.{sets}
use borrow.Author.Tests.{eq-eqb, ne_eqb}
use Rattle.laws.specs.Tables.{values}
use Rattle.laws.proofs.Cases.{equal_or_not}
use Rattle.laws.proofs.Tables.{values_turn, values-end}
use Rattle.form.specs.declared.limits.Limits.{Limits}
use Rattle.form.specs.declared.separators.Separators.{Separators}
use Rattle.form.specs.Limits.{Lawful}
use Rattle.form.specs.Header.{splitting}
use Rattle.line.specs.Lines.{CR}
use Rattle.line.specs.Cutting.{unlines}
use Rattle.table.specs.Leaves.{Leaf}
use Rattle.table.specs.inner.Back.{leaf_at, between, unsplit_from, unsplit}
use Rattle.write.specs.declared.lines.Going.{Going}
use Rattle.write.specs.inner.Filling.{Stand, stand, segment_closed, puts, Fits, InSegment}
use Rattle.write.specs.inner.Asked.{TextInside, RoomForEnd, SeparatorFits}
use Rattle.write.proofs.SegmentTests.{row-text}
use Rattle.write.specs.inner.Passing.{LeafWithin, lines_of_rows, leading, Writable, WrittenOut}
use Rattle.write.proofs.Filling.{going, puts-append, puts-kept, fits-first, fits_next, close_fits, closed-one}
use Rattle.write.proofs.LinesFilled.{lines-filled}
use Rattle.table.specs.Rows.{start_in, length_in}

-- the separator after the leaf of a row: the one that leads to the next leaf, and CR after the last
unfoldable pub separator_after : Separators → List ℕ → ℕ → ℕ → ℕ
separator_after ps rows count row =
    elim (eqb (row + 1) count) [
      | true ↦ CR
      | false ↦ leading ps rows row
    ]

-- by cases
module _ (ps : Separators) (rows : List ℕ) (count row : ℕ) where
  pub last_separator : row + 1 ≡ count → separator_after ps rows count row ≡ CR
  unfolding separator_after
  last_separator e = rw (eq-eqb (row + 1) count e, separator_after)

  pub inner_separator : (row + 1 ≡ count → ⊥)
      → separator_after ps rows count row ≡ leading ps rows row
  unfolding separator_after
  inner_separator n = rw (ne_eqb (row + 1) count n, separator_after)

-- the text of a leaf, by the start and the length that its row states
module _ (rows text : List ℕ) (i : ℕ) {start size : ℕ} (a : start ≡ start_in rows i) (b : size ≡ length_in rows i) where
  leaf_part : take (start + size - start) (drop start text) ≡ (leaf_at rows text i).text
  leaf_part = row-text rows text i a b

  leaf-asked : {L : Limits} {f : ℕ} {s : Stand} → Lawful L → LeafWithin rows text i → Fits L f s (leaf_at rows text i).text
      → TextInside L f s (take (start + size - start) (drop start text))
  leaf-asked {L} {f} {s} lawful w fits =
      record {
        lawful = lawful;
        inside = subst InSegment (sym leaf_part) w.in_segment;
        fits = subst (Fits L f s) (sym leaf_part) fits;
      }

-- leaves, each with the separator after it; CR after the last
unfoldable pub after : List ℕ → Leaf → List Leaf → ℕ
after ps l [] = CR
after ps l (m ∷ ls) = between ps l.place m.place

unfoldable pub whole : List ℕ → List Leaf → List ℕ
whole ps [] = []
whole ps (l ∷ ls) = l.text ++ after ps l ls ∷ whole ps ls

unsplit-whole : (ps : List ℕ) (l : Leaf) (ls : List Leaf) → unsplit_from ps l ls ++ (CR ∷ []) ≡ whole ps (l ∷ ls)
unfolding unsplit_from whole after
unsplit-whole ps l [] = refl
unsplit-whole ps l (m ∷ ls) =
    append_assoc l.text (between ps l.place m.place ∷ unsplit_from ps m ls) (CR ∷ [])
    ∙ ap (λ (r : List ℕ). l.text ++ between ps l.place m.place ∷ r) (unsplit-whole ps m ls)

module _ (ps : Separators) (rows : List ℕ) (count : ℕ) (text : List ℕ) where
  -- what is left from a row on
  pub ahead : ℕ → List ℕ
  ahead row = whole (CR ∷ splitting ps) (values (leaf_at rows text) row (count - row))

  abbrev rest : ℕ → List ℕ
  rest row = separator_after ps rows count row ∷ ahead (row + 1)

  after-row : (row : ℕ) → row < count
      → after (CR ∷ splitting ps) (leaf_at rows text row) (values (leaf_at rows text) (row + 1) (count - (row + 1))) ≡ separator_after ps rows count row
  unfolding separator_after after values leaf_at
  after-row row h = go (equal_or_not (row + 1) count)
    where
      go : (row + 1 ≡ count) ⊎ (row + 1 ≡ count → ⊥)
          → after (CR ∷ splitting ps) (leaf_at rows text row) (values (leaf_at rows text) (row + 1) (count - (row + 1))) ≡ separator_after ps rows count row
      go (inl e) =
          ap (λ (n : ℕ). after (CR ∷ splitting ps) (leaf_at rows text row) (values (leaf_at rows text) (row + 1) n)) (let d : count - (row + 1) ≡ 0 = omega arith in d)
          ∙ sym (last_separator ps rows count row e)
      go (inr n) =
          ap (λ (n : ℕ). after (CR ∷ splitting ps) (leaf_at rows text row) (values (leaf_at rows text) (row + 1) n)) (let d : count - (row + 1) ≡ suc (count - (row + 1) - 1) = omega arith in d)
          ∙ sym (inner_separator ps rows count row n)

  ahead_more : (row : ℕ) → row < count → ahead row ≡ (leaf_at rows text row).text ++ rest row
  unfolding ahead whole
  ahead_more row h =
      ap (whole (CR ∷ splitting ps)) (values_turn (leaf_at rows text) row count h)
      ∙ ap (λ (b : ℕ). (leaf_at rows text row).text ++ b ∷ whole (CR ∷ splitting ps) (values (leaf_at rows text) (row + 1) (count - (row + 1)))) (after-row row h)

  ahead_none : (row : ℕ) → count ≤ row → ahead row ≡ []
  unfolding ahead whole
  ahead_none row h = ap (whole (CR ∷ splitting ps)) (values-end (leaf_at rows text) row count h)

  -- all leaves, with their separators and the last CR
  all-ahead : 1 ≤ count → unsplit (CR ∷ splitting ps) (values (leaf_at rows text) 0 count) ++ (CR ∷ []) ≡ ahead 0
  unfolding ahead unsplit values
  all-ahead some =
      ap (λ (n : ℕ). unsplit (CR ∷ splitting ps) (values (leaf_at rows text) 0 n) ++ (CR ∷ [])) (let e : count ≡ suc (count - 1) = omega arith in e)
      ∙ unsplit-whole (CR ∷ splitting ps) (leaf_at rows text 0) (values (leaf_at rows text) 1 (count - 1))
      ∙ ap (λ (n : ℕ). whole (CR ∷ splitting ps) (values (leaf_at rows text) 0 n)) (let e : suc (count - 1) ≡ count - 0 = omega arith in e)

  module _ (L : Limits) where
    pub record LeavesLeft (s₀ s : Stand) (row from : ℕ) : Type 0 where
      pub up_to : row ≤ count
      pub fits : Fits L ps.field s (ahead row)
      pub same : length s.output ≡ length s₀.output
      pub gives : puts L ps.field s (ahead row) ≡ puts L ps.field s₀ (ahead 0)
      pub here : row < count → from ≡ start_in rows row

-- one turn: a leaf, and the separator after it
module _ {L : Limits} {ps : Separators} {rows : List ℕ} {count : ℕ} {text output₀ : List ℕ} (a : Writable L ps rows count text output₀) {s₀ s : Stand} {row from : ℕ}
    (w : LeavesLeft ps rows count text L s₀ s row from) (less : row < count) {size : ℕ} (is : size ≡ length_in rows row) where
  abbrev f : ℕ
  f = ps.field

  abbrev onward : ℕ → List ℕ
  onward = ahead ps rows count text

  abbrev behind : List ℕ
  behind = rest ps rows count text row

  own : List ℕ
  own = (leaf_at rows text row).text

  split-fits : Fits L f s (own ++ behind)
  unfolding own
  split-fits = subst (Fits L f s) (ahead_more ps rows count text row less) w.fits

  part_is : take (from + size - from) (drop from text) ≡ own
  unfolding own
  part_is = leaf_part rows text row (w.here less) is

  pub leaf-fits : TextInside L f s (take (from + size - from) (drop from text))
  unfolding own
  leaf-fits = leaf-asked rows text row (w.here less) is a.lawful (a.leaves row less) (fits-first L f s own (behind) split-fits)

  module _ {t : Stand} (d : t ≡ puts L f s (take (from + size - from) (drop from text))) where
    put_own : t ≡ puts L f s own
    put_own = d ∙ ap (puts L f s) part_is

    rest-fits : Fits L f t (behind)
    rest-fits = subst (λ (u : Stand). Fits L f u (behind)) (sym put_own) (fits_next L f s own (behind) split-fits)

    module _ {b : ℕ} (e : b ≡ separator_after ps rows count row) where
      separator_fits : Fits L f t (b ∷ [])
      separator_fits =
          subst (λ (n : ℕ). Fits L f t (n ∷ [])) (sym e) (fits-first L f t (separator_after ps rows count row ∷ []) (onward (row + 1)) rest-fits)

      separator_turn : {u : Stand} → u ≡ puts L f t (b ∷ []) → LeavesLeft ps rows count text L s₀ u (row + 1) (from + size)
      unfolding own
      separator_turn {u} c =
          let sep = separator_after ps rows count row ∷ [] in
          let put-sep : u ≡ puts L f t sep = c ∙ ap (λ (n : ℕ). puts L f t (n ∷ [])) e in
          record {
            up_to = omega arith;
            fits = subst (λ (v : Stand). Fits L f v (onward (row + 1))) (sym put-sep) (fits_next L f t sep (onward (row + 1)) rest-fits);
            same =
                ap (λ (v : Stand). length v.output) put-sep
                ∙ (puts-kept L f t sep).same_length
                ∙ ap (λ (v : Stand). length v.output) put_own
                ∙ (puts-kept L f s own).same_length
                ∙ w.same;
            gives =
                ap (λ (v : Stand). puts L f v (onward (row + 1))) put-sep
                ∙ sym (puts-append L f t sep (onward (row + 1)))
                ∙ ap (λ (v : Stand). puts L f v (behind)) put_own
                ∙ sym (puts-append L f s own (behind))
                ∙ ap (puts L f s) (sym (ahead_more ps rows count text row less))
                ∙ w.gives;
            here = λ more. ap₂ ◌+◌ (w.here less) is ∙ sym (a.next row more);
          }

    -- the last leaf: CR ends its segment
    module _ (last : row + 1 ≡ count) where
      pub last_fits : RoomForEnd t.going t.output 1
      last_fits = close_fits L f t CR refl (separator_fits (sym (last_separator ps rows count row last)))

      pub last_turn : {u : Stand} → u ≡ segment_closed L t → LeavesLeft ps rows count text L s₀ u (row + 1) (from + size)
      last_turn c = separator_turn (sym (last_separator ps rows count row last)) (closed-one L f t CR refl c)

    -- another: a separator leads to the next
    module _ (more : row + 1 ≡ count → ⊥) where
      pub leading-fits : SeparatorFits L ps t rows row
      leading-fits =
          record {
            lawful = a.lawful;
            splits = a.splits;
            row_there = record { long = omega (arith, a.long); next = a.places row (omega arith) };
            fits = separator_fits (sym (inner_separator ps rows count row more));
          }

      pub leading_turn : {u : Stand} → u ≡ puts L f t (leading ps rows row ∷ []) → LeavesLeft ps rows count text L s₀ u (row + 1) (from + size)
      leading_turn = separator_turn (sym (inner_separator ps rows count row more))

-- the pass over all rows
module _ {L : Limits} {ps : Separators} {rows : List ℕ} {count : ℕ} {text output : List ℕ} (w : Writable L ps rows count text output) where
  abbrev field : ℕ
  field = ps.field

  begin : Stand
  begin = stand output (going 0 L.line 0)

  written : puts L field begin (ahead ps rows count text 0)
      ≡ stand (sets output 0 (unlines (lines_of_rows L ps rows count text)))
      (going (length (unlines (lines_of_rows L ps rows count text))) L.line (length (lines_of_rows L ps rows count text)))
  unfolding lines_of_rows begin
  written =
      ap (puts L field begin) (sym (all-ahead ps rows count text w.some))
      ∙ lines-filled L w.lawful field output (unsplit (CR ∷ splitting ps) (values (leaf_at rows text) 0 count))

  pub leaves_begin : LeavesLeft ps rows count text L (stand output (going 0 L.line 0)) (stand output (going 0 L.line 0)) 0 0
  unfolding begin
  leaves_begin =
      record {
        up_to = omega arith;
        fits = record { holds = omega (arith, ap (λ (s : Stand). s.going.out) written, w.fits); lines = omega arith };
        same = refl;
        gives = refl;
        here = λ h. sym w.first;
      }

  pub leaves-written : {output' : List ℕ} {r : Going} {row from : ℕ}
      → LeavesLeft ps rows count text L (stand output (going 0 L.line 0)) (stand output' r) row from → count ≤ row
      → WrittenOut L ps rows count text output r output'
  unfolding begin puts
  leaves-written {output'} {r} {row} v h =
      let e : stand output' r
      ≡ stand (sets output 0 (unlines (lines_of_rows L ps rows count text)))
      (going (length (unlines (lines_of_rows L ps rows count text))) L.line (length (lines_of_rows L ps rows count text))) =
      ap (puts L field (stand output' r)) (sym (ahead_none ps rows count text row h)) ∙ v.gives ∙ written in
      record {
        message = ap (λ (s : Stand). s.output) e;
        bytes = ap (λ (s : Stand). s.going.out) e;
        lines = ap (λ (s : Stand). s.going.lines) e;
      }
