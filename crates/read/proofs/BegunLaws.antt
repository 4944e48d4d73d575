-- Segments closed and one begun: a line is joined to it, it is closed with its row and the next begins, and the message ends.
-- Assumes nothing.
use mathlib.Core.List.{List, [], ◌∷◌, ◌++◌}
use mathlib.Core.Path.{◌≡◌, sym, ap, ap₂, ◌∙◌, subst, subst⁻¹}
use Prim.Native.Nat.{ℕ, ◌+◌, ◌*◌, ◌-◌, ◌/◌, ◌≤◌}
use native.Mathlib.Omega.{arith}
use lib.ListN.{length, get_or, length-append}
use lib.Seq.{sets}
use Rattle.laws.proofs.Stores.{sets_behind}
use Rattle.form.specs.declared.separators.Separators.{Separators}
use Rattle.form.specs.Header.{splitting}
use Rattle.line.specs.Lines.{CR}
use Rattle.order.specs.inner.Levels.{level_in}
use Rattle.order.specs.inner.Owning.{no_rows, level_place, added, owned, known_after}
use Rattle.order.proofs.Coming.{length-owned, owned-last, known-last}
use Rattle.table.specs.Leaves.{Leaf, kind_of_segment, message_leaves}
use Rattle.table.specs.Rows.{segment_row_size, leaf_row_size, segment_row, segment_rows_of, kinds_of, all_leaves}
use Rattle.table.specs.inner.Flat.{leaf, Without, Pass, step, ended}
use Rattle.table.specs.inner.OnePass.{pass_over}
use Rattle.table.proofs.Counting.{length-segment_leaves, length-header_leaves}
use Rattle.table.proofs.Growing.{filed-joined, filed-next, pass_joined, pass_next, pass_ended}
use Rattle.table.proofs.RowsGrowing.{leaves_behind, message_leaves-last, all_leaves-last, kinds_of-last, length-kinds, length-message_leaves, length-segment_rows, segment_rows-last}
use Rattle.read.specs.declared.fill.Filling.{Filling}
use Rattle.read.specs.declared.fill.Line.{Line}
use Rattle.table.specs.inner.Classes.{class_table}
use Rattle.read.specs.inner.Laying.{next_segment, Held}
use Rattle.read.specs.inner.Segments.{row_closed, ClosedBy, begun_after, line_text, LineFilled, closed_rows, Begun}
use Rattle.read.proofs.HeldLaws.{Ends, segment_closes, held-segment, held-ended}

-- each segment has a leaf
pub leaves-some : (ps : Separators) (done : List (List ℕ)) (s : List ℕ) → 1 ≤ length (leaves_behind ps done s)
unfolding leaves_behind
leaves-some ps [] s = omega (arith, length-header_leaves ps s)
leaves-some ps (h ∷ ss) s = omega (arith, length-segment_leaves ps (2 + length ss) s)

-- the rows of closed segments: a row each, and one row more behind them
module _ (lv : ℕ → ℕ) (ps : Separators) where
  pub length-closed_rows : (done : List (List ℕ)) → length (closed_rows lv ps done) ≡ length done * segment_row_size
  unfolding closed_rows
  length-closed_rows done =
      length-segment_rows (kinds_of ps done) (owned lv no_rows 1 (kinds_of ps done)) (message_leaves ps done)
      (length-owned lv no_rows 1 (kinds_of ps done))
      (length-message_leaves ps done ∙ sym (length-kinds ps done))
      ∙ ap (λ (n : ℕ). n * segment_row_size) (length-kinds ps done)

  -- the owner of a kind by what is known of those before it
  abbrev owner_behind : List (List ℕ) → ℕ → ℕ
  owner_behind done k = get_or (known_after lv no_rows 1 (kinds_of ps done)) (level_place k (lv k)) 0

  -- the row of one segment more
  abbrev row_behind : List (List ℕ) → List ℕ → List ℕ
  row_behind done s =
      segment_row (kind_of_segment ps s) (owner_behind done (kind_of_segment ps s)) (1 + length (all_leaves ps done)) (length (leaves_behind ps done s))

  pub closed_rows-last : (done : List (List ℕ)) (s : List ℕ) → closed_rows lv ps (done ++ (s ∷ [])) ≡ closed_rows lv ps done ++ row_behind done s
  unfolding closed_rows all_leaves
  closed_rows-last done s =
      ap (λ (ks : List ℕ). segment_rows_of ks (owned lv no_rows 1 ks) (message_leaves ps (done ++ (s ∷ [])))) (kinds_of-last ps done s)
      ∙ ap₂ (λ (os : List ℕ) (ls : List (List Leaf)). segment_rows_of (kinds_of ps done ++ (kind_of_segment ps s ∷ [])) os ls)
      (owned-last lv no_rows 1 (kinds_of ps done) (kind_of_segment ps s)) (message_leaves-last ps done s)
      ∙ segment_rows-last (kinds_of ps done) (owned lv no_rows 1 (kinds_of ps done)) (message_leaves ps done)
      (length-owned lv no_rows 1 (kinds_of ps done))
      (length-message_leaves ps done ∙ sym (length-kinds ps done))
      (kind_of_segment ps s) (owner_behind done (kind_of_segment ps s)) (leaves_behind ps done s)

module _ {lv : ℕ → ℕ} {ps : Separators} {text₀ segments₀ leaves₀ : List ℕ} {done : List (List ℕ)} {last : List ℕ}
    {f : Filling} {nearest text segments leaves : List ℕ}
    (b : Begun lv ps text₀ segments₀ leaves₀ done last f nearest text segments leaves) where
  abbrev so_far : List (List ℕ)
  so_far = done ++ (last ∷ [])

  -- how many leaves there are, the one begun among them, seven numbers each
  pub begun-leaves : f.laying.row + leaf_row_size ≡ length (all_leaves ps so_far) * leaf_row_size
  unfolding ended
  begun-leaves =
      omega (
        arith,
        b.held.closed,
        length-append (pass_over ps so_far).closed (leaf (pass_over ps so_far).place (pass_over ps so_far).text ∷ []),
        ap length (pass_ended ps so_far b.filed),
      )

  -- and how many of them are the segment's own
  pub begun_own : f.laying.row + leaf_row_size ≡ length (all_leaves ps done) * leaf_row_size + length (leaves_behind ps done last) * leaf_row_size
  begun_own =
      omega (
        arith,
        begun-leaves,
        ap length (all_leaves-last ps done last),
        length-append (all_leaves ps done) (leaves_behind ps done last),
      )

  -- a line is joined
  pub begun-joined : {class message : List ℕ} {from : ℕ} {r : Line} {text' leaves' : List ℕ} → class ≡ class_table ps
      → Without CR (line_text class message from) → LineFilled class message from f text leaves r text' leaves'
      → Begun lv ps text₀ segments₀ leaves₀ done (last ++ line_text class message from) r.filling nearest text' segments leaves'
  begun-joined {class} {message} {from} {r} {text'} {leaves'} is clear filled =
      let t : List ℕ = line_text class message from in
      record {
        filed = filed-joined ps done last t b.filed clear;
        held =
            subst⁻¹ (λ (p : Pass). Held text₀ leaves₀ p r.filling.laying text' leaves') (pass_joined ps done last t b.filed)
            (filled.laid.held ps text₀ leaves₀ (pass_over ps so_far) is b.held);
        counted = filled.laid.counted;
        number = filled.laid.segment ∙ b.number;
        first = filled.first ∙ b.first;
        rows = b.rows;
        known = b.known;
      }

  -- the segment is closed by its kind: its row comes behind the rows
  module _ {kind : ℕ} {levels : List ℕ} {context : ℕ} {nearest' segments' leaves' : List ℕ} (by : (k : ℕ) → lv k ≡ level_in levels context k)
      (is : kind ≡ kind_of_segment ps last) (w : ClosedBy f kind levels context nearest segments leaves nearest' segments' leaves') where
    place_by : level_place kind (level_in levels context kind) ≡ level_place (kind_of_segment ps last) (lv (kind_of_segment ps last))
    place_by = ap (level_place kind) (sym (by kind)) ∙ ap (λ (j : ℕ). level_place j (lv j)) is

    owner_by : w.owner ≡ owner_behind lv ps done (kind_of_segment ps last)
    owner_by = w.owns.owner ∙ ap₂ (λ (n : List ℕ) (p : ℕ). get_or n p 0) b.known place_by

    row-closed : row_closed f kind w.owner ≡ row_behind lv ps done last
    row-closed =
        let count : f.laying.row / leaf_row_size + 2 - f.first ≡ length (leaves_behind ps done last) = omega (arith, begun_own, b.first) in
        let first : f.first ≡ 1 + length (all_leaves ps done) = omega (arith, b.first) in
        ap₂ (λ (x o : ℕ). segment_row x o f.first (f.laying.row / leaf_row_size + 2 - f.first)) is owner_by
        ∙ ap₂ (λ (n m : ℕ). segment_row (kind_of_segment ps last) (owner_behind lv ps done (kind_of_segment ps last)) n m) first count

    pub closed-rows : segments' ≡ sets segments₀ 0 (closed_rows lv ps so_far)
    closed-rows =
        let place : (f.laying.segment - 1) * segment_row_size ≡ length (closed_rows lv ps done)
        = omega (arith, length-closed_rows lv ps done, b.number) in
        w.row
        ∙ ap₂ (λ (s r : List ℕ). sets s ((f.laying.segment - 1) * segment_row_size) r) b.rows row-closed
        ∙ sets_behind segments₀ (closed_rows lv ps done) (row_behind lv ps done last) ((f.laying.segment - 1) * segment_row_size) place
        ∙ ap (sets segments₀ 0) (sym (closed_rows-last lv ps done last))

    -- and it is known itself
    closed-known : nearest' ≡ known_after lv no_rows 1 (kinds_of ps so_far)
    closed-known =
        let row : f.laying.segment ≡ 1 + length (kinds_of ps done) = omega (arith, b.number, length-kinds ps done) in
        w.owns.known
        ∙ ap₂ (λ (n : List ℕ) (p : ℕ). added n p f.laying.segment) b.known place_by
        ∙ ap (added (known_after lv no_rows 1 (kinds_of ps done)) (level_place (kind_of_segment ps last) (lv (kind_of_segment ps last)))) row
        ∙ sym (known-last lv no_rows 1 (kinds_of ps done) (kind_of_segment ps last))
        ∙ ap (known_after lv no_rows 1) (sym (kinds_of-last ps done last))

    -- the next segment begins
    pub begun-next : Begun lv ps text₀ segments₀ leaves₀ so_far [] (begun_after f) nearest' text segments' leaves'
    unfolding next_segment
    begun-next =
        record {
          filed = filed-next ps done last b.filed;
          held =
              subst⁻¹ (λ (p : Pass). Held text₀ leaves₀ p (next_segment f.laying) text leaves') (pass_next ps done last b.filed)
              (subst⁻¹ (λ (v : List ℕ). Held text₀ leaves₀ (step (CR ∷ splitting ps) (pass_over ps so_far) CR) (next_segment f.laying) text v)
              w.leaf_row (held-segment b.held ps));
          counted = (segment_closes f.laying).counted b.counted;
          number = omega (arith, b.number, length-append done (last ∷ []));
          first = omega (arith, begun-leaves);
          rows = closed-rows;
          known = closed-known;
        }

    -- the message ends
    pub begun-ends : Ends text₀ leaves₀ (all_leaves ps so_far) f.laying.out text leaves'
    begun-ends =
        subst (λ (ls : List Leaf). Ends text₀ leaves₀ ls f.laying.out text leaves') (pass_ended ps so_far b.filed)
        (subst⁻¹ (λ (v : List ℕ). Ends text₀ leaves₀ (ended (pass_over ps so_far)) f.laying.out text v) w.leaf_row
        (held-ended b.held))
