-- What the functions around a segment give, from what their callees give: the header's leaves, a line, a segment closed.
-- Assumes nothing.
use mathlib.Core.List.{List, [], ◌∷◌}
use mathlib.Core.Path.{◌≡◌, refl, ap, ◌∙◌, subst, subst⁻¹}
use Prim.Native.Nat.{ℕ, ◌+◌, ◌*◌, ◌-◌, ◌/◌}
use native.Mathlib.Omega.{arith}
use lib.ListN.{drop}
use lib.Seq.{sets}
use Rattle.form.specs.declared.separators.Separators.{Separators}
use Rattle.line.specs.Finding.{low_run}
use Rattle.order.specs.inner.Levels.{level_in}
use Rattle.order.specs.inner.Owning.{Owned}
use Rattle.table.specs.Rows.{segment_row_size, leaf_row_size}
use Rattle.table.specs.inner.Filed.{header_bytes}
use Rattle.table.specs.inner.OnePass.{header_pass}
use Rattle.read.specs.declared.lay.Laying.{Laying}
use Rattle.read.specs.declared.lay.Laid.{Laid}
use Rattle.read.specs.declared.fill.Filling.{Filling}
use Rattle.read.specs.inner.Laying.{leaf_place, row_of, next_leaf, next_segment, PlaceCounted, Held, LaidBy}
use Rattle.read.specs.inner.Segments.{row_closed, ClosedBy, begun_after, HeaderPut, LineFilled}
use Rattle.read.proofs.HeldLaws.{leaf_closes, held-begins, held_copied, held-put}

-- a segment closed, from the level and the owner that were told of its kind
pub closed_by : {f : Filling} {levels : List ℕ} {context : ℕ} {nearest segments leaves nearest' segments' leaves' : List ℕ} {kind level owner : ℕ}
    → level ≡ level_in levels context kind → Owned nearest nearest' f.laying.segment kind level owner
    → leaves' ≡ sets leaves f.laying.row (row_of f.laying)
    → segments' ≡ sets segments ((f.laying.segment - 1) * segment_row_size) (row_closed f kind owner)
    → ClosedBy f kind levels context nearest segments leaves nearest' segments' leaves'
closed_by {f} {nearest = nearest} {nearest' = nearest'} {kind = kind} {owner = owner} told owns leaf row =
    record {
      leaf_row = leaf;
      owner = owner;
      owns = subst (λ (l : ℕ). Owned nearest nearest' f.laying.segment kind l owner) told owns;
      row = row;
    }

-- the segment after it
pub begun-after : (f : Filling) {l : Laying} → l ≡ next_segment f.laying → record { laying = l; first = f.laying.row / leaf_row_size + 2 } ≡ begun_after f
begun-after f e = ap {B = Filling} (λ (l : Laying). record { laying = l; first = f.laying.row / leaf_row_size + 2 }) e

-- a line
pub line-filled : {class message : List ℕ} {from : ℕ} {f : Filling} {text leaves text' leaves' : List ℕ}
    {laid : Laid} {next : ℕ}
    → LaidBy class message from f.laying text leaves laid text' leaves'
    → next ≡ laid.end + 1 + low_run (drop (laid.end + 1) message)
    → LineFilled class message from f text leaves (record { filling = record { laying = laid.laying; first = f.first }; next = next }) text' leaves'
line-filled {class} {message} {from} {f} {text} {leaves} {text'} {leaves'} {laid} d after =
    record {
      laid =
          subst (λ (e : ℕ). LaidBy class message from f.laying text leaves (record { laying = laid.laying; end = e }) text' leaves')
          d.ends d;
      next = after ∙ ap (λ (e : ℕ). e + 1 + low_run (drop (e + 1) message)) d.ends;
      first = refl;
    }

-- the header: the leaf of the letter, and the leaf of the four separators after the first
abbrev pub name_leaf : Laying
name_leaf = record { row = 0; segment = 1; field = 1; repetition = 1; subfield = 1; subsubfield = 1; begin = 0; out = 1 }

abbrev pub stated_leaf : Laying
stated_leaf = record { row = leaf_row_size; segment = 1; field = 2; repetition = 1; subfield = 1; subsubfield = 1; begin = 1; out = 5 }

abbrev pub before_header : Laying
before_header = record { row = 0; segment = 1; field = 1; repetition = 1; subfield = 1; subsubfield = 1; begin = 0; out = 0 }

abbrev pub after_name : Laying
after_name = record { row = leaf_row_size; segment = 1; field = 2; repetition = 1; subfield = 1; subsubfield = 1; begin = 1; out = 1 }

module _ (ps : Separators) (text leaves : List ℕ) where
  abbrev stated : List ℕ
  stated = ps.subfield ∷ ps.repeater ∷ ps.escape ∷ ps.subsubfield ∷ []

  header-held : Held text leaves (header_pass ps) (next_leaf stated_leaf 1) (sets text 0 (72 ∷ stated))
      (sets (sets leaves 0 (row_of name_leaf)) leaf_row_size (row_of stated_leaf))
  unfolding leaf_place next_leaf header_pass header_bytes
  header-held =
      let begins = held-begins text leaves (1 ∷ 1 ∷ 1 ∷ 1 ∷ 1 ∷ []) before_header refl refl refl refl in
      let named = held-put (held_copied begins (72 ∷ []) 1 refl) {next = after_name} (leaf_closes name_leaf 1) in
      held-put (held_copied named stated 5 refl) {next = next_leaf stated_leaf 1} (leaf_closes stated_leaf 1)

  pub header-put : {leaves₁ leaves₂ : List ℕ} {l : Laying} → leaves₁ ≡ sets leaves 0 (row_of name_leaf)
      → leaves₂ ≡ sets leaves₁ leaf_row_size (row_of stated_leaf) → l ≡ next_leaf stated_leaf 1
      → HeaderPut ps text leaves (record { laying = l; first = 1 })
      (sets text 0 (72 ∷ stated)) leaves₂
  unfolding next_leaf
  header-put {leaves₁} {leaves₂} {l} name rest is =
      record {
        held =
            subst⁻¹ (λ (k : Laying). Held text leaves (header_pass ps) k (sets text 0 (72 ∷ stated)) leaves₂) is
            (subst⁻¹ (λ (v : List ℕ). Held text leaves (header_pass ps) (next_leaf stated_leaf 1) (sets text 0 (72 ∷ stated)) v)
            (rest ∙ ap (λ (v : List ℕ). sets v leaf_row_size (row_of stated_leaf)) name) header-held);
        counted = subst⁻¹ PlaceCounted is (omega arith);
        number = ap (λ (k : Laying). k.segment) is;
        out = ap (λ (k : Laying). k.out) is;
        first = refl;
      }
