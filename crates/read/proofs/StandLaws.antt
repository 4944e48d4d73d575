-- The second pass line by line: there is room for a line and for the rows it closes; after it the pass stands at the next place, where an
-- addendum goes on with the segment begun, any other line with the next one, and at the message's end the buffers hold the table.
-- Assumes nothing.
use mathlib.Core.List.{List, [], ◌∷◌, ◌++◌, append_assoc}
use mathlib.Core.Logic.{⊎_elim}
use mathlib.Core.Path.{◌≡◌, refl, sym, ap, ◌∙◌, subst⁻¹}
use Prim.Native.Nat.{ℕ, ◌+◌, ◌*◌, ◌-◌, ◌≤◌, ◌<◌}
use native.Mathlib.Omega.{arith}
use lib.ListN.{length, get_or, drop}
use lib.Seq.{sets, length-sets}
use Rattle.laws.proofs.Tests.{Tested, passed, failed, tested}
use Rattle.laws.proofs.Cases.{less_or_not}
use Rattle.form.specs.declared.limits.Limits.{Limits}
use Rattle.form.specs.declared.separators.Separators.{Separators}
use Rattle.form.proofs.HeaderRule.{sound-header}
use Rattle.laws.proofs.Bytes.{Bytes}
use Rattle.line.specs.Joining.{addendum}
use Rattle.line.specs.inner.Left.{LeftAt}
use Rattle.line.proofs.Left.{none_left, segments-left}
use Rattle.order.specs.inner.Levels.{level_in}
use Rattle.order.specs.Owners.{owners}
use Rattle.order.proofs.Owner.{owned-owners}
use Rattle.table.specs.Leaves.{kind_of_segment, message_leaves}
use Rattle.table.specs.Rows.{leaf_row_size, segment_rows_of, leaf_rows_from, text_of, kinds_of, all_leaves, table_of}
use Rattle.read.specs.declared.fill.Filling.{Filling}
use Rattle.read.specs.declared.fill.Line.{Line}
use Rattle.read.specs.inner.Scanning.{run}
use Rattle.read.specs.inner.Starting.{text_from}
use Rattle.read.specs.inner.Laying.{next_segment, NextFits, Lays}
use Rattle.read.specs.inner.Filling.{table_in, Fillable, Filled}
use Rattle.read.specs.Sound.{segments_in}
use Rattle.read.specs.inner.Segments.{kind_noted, Closable, ClosedBy, begun_after, line_text, line_after, LineFilled, closed_rows, Begun, Came, Stands, AtLine}
use Rattle.read.proofs.Noting.{kind-found}
use Rattle.read.proofs.BegunLaws.{leaves-some, begun-leaves, begun_own, begun-joined, closed-rows, begun-next, begun-ends}
use Rattle.read.proofs.Starting.{begins-segment, carries_on, carried_from, from_past}
use Rattle.read.proofs.LeftLaws.{Readable, line_clear, addendum-within, segment-within, addendum-left, segment-left, leaves-left, leaves-line}

pub readable : {L : Limits} {class kinds : List ℕ} {ps : Separators} {context : ℕ} {m : List ℕ} → Fillable L class kinds ps context m → Bytes m
    → Readable L ps class m
readable {ps = ps} {m = m} given bytes =
    let header = sound-header m ps given.header in
    record {
      one = omega (arith, given.fits.lawful.header);
      high = omega (arith, header.allowed.field.low);
      classes = given.classes;
      bytes = bytes;
      sound = given.sound;
    }

-- the buffers keep their lengths
module _ {lv : ℕ → ℕ} {ps : Separators} {text₀ segments₀ leaves₀ : List ℕ} {done : List (List ℕ)} {last : List ℕ} {f : Filling}
    {nearest text segments leaves : List ℕ} (b : Begun lv ps text₀ segments₀ leaves₀ done last f nearest text segments leaves) where
  pub text-kept : length text ≡ length text₀
  text-kept = ap length b.held.texts ∙ (simp length-sets)

  pub segments-kept : length segments ≡ length segments₀
  segments-kept = ap length b.rows ∙ (simp length-sets)

  pub leaves_kept : length leaves ≡ length leaves₀
  leaves_kept = ap length b.held.rows ∙ (simp length-sets)

-- a line from `from` on, whose text goes to the segment begun
module _ {c : Came} {class kinds levels : List ℕ} {context : ℕ} {ps : Separators} {m : List ℕ} {from : ℕ} {f : Filling}
    {nearest text segments leaves : List ℕ} (j : AtLine c class kinds levels context ps m from f nearest text segments leaves) where
  line_readable : Readable c.limits ps class m
  line_readable = readable j.prepared.given j.bytes

  pub line-lays : Lays class m from f.laying text leaves
  line-lays =
      let given = j.prepared.given in
      let few = leaves-line line_readable j.done j.last j.begins.filed from (line_after class m from) j.left in
      let rows = begun-leaves j.begins in
      let text_same = text-kept j.begins in
      let leaves-same = leaves_kept j.begins in
      let behind = j.behind in
      record {
        ahead = j.inside;
        room = omega (arith, j.inside, given.bytes, j.prepared.text_room);
        short = omega (arith, j.inside, given.bytes, given.fits.bytes);
        rows = omega (arith, given.few_leaves, j.prepared.leaf_room);
        few = omega (arith, given.few_leaves, given.fits.leaves);
        counted = j.begins.counted;
      }

  pub line_on : {r : Line} {text' leaves' : List ℕ} → LineFilled class m from f text leaves r text' leaves'
      → Stands c class kinds levels context ps m r.next r.filling nearest text' segments leaves'
  line_on {r} filled =
      let out = filled.laid.out in
      let next = filled.next in
      let behind = j.behind in
      let inside = j.inside in
      record {
        prepared = j.prepared;
        bytes = j.bytes;
        done = j.done;
        last = j.last ++ line_text class m from;
        begins = begun-joined j.begins j.prepared.given.classes (line_clear line_readable from) filled;
        left = subst⁻¹ (LeftAt c.limits ps.field m j.done (j.last ++ line_text class m from)) next j.left;
        behind = omega arith;
        within = omega arith;
      }

-- closing the segment begun
module _ {c : Came} {class kinds levels : List ℕ} {context : ℕ} {ps : Separators} {m : List ℕ} {at : ℕ} {f : Filling}
    {nearest text segments leaves : List ℕ} (w : Stands c class kinds levels context ps m at f nearest text segments leaves) where
  stands_readable : Readable c.limits ps class m
  stands_readable = readable w.prepared.given w.bytes

  row-few : f.laying.row + leaf_row_size ≤ c.limits.leaves * leaf_row_size
  row-few =
      let few = leaves-left stands_readable w.done w.last w.begins.filed at w.left in
      let rows = begun-leaves w.begins in
      omega (arith, w.prepared.given.few_leaves)

  pub stands_closable : Closable f context kinds segments leaves
  stands_closable =
      let given = w.prepared.given in
      let few = row-few in
      let own = begun_own w.begins in
      let some-leaf = leaves-some ps w.done w.last in
      let number = w.begins.number in
      let first = w.begins.first in
      let in_all = segments-left c.limits m at w.left in
      let segments-same = segments-kept w.begins in
      let leaves-same = leaves_kept w.begins in
      record {
        some_context = given.some_context;
        seven_contexts = given.seven_contexts;
        leaf =
            record {
              room = omega (arith, w.prepared.leaf_room);
              short = omega (arith, w.within, given.bytes, given.fits.bytes);
              next = record { few = omega (arith, given.fits.leaves); counted = w.begins.counted };
            };
        numbered = omega arith;
        noted = omega (arith, w.prepared.given.all);
        segment_room = omega (arith, given.few, w.prepared.segment_room);
        begins = omega arith;
        some = omega arith;
      }

  pub stands-next : NextFits f.laying
  stands-next = stands_closable.leaf.next

  -- the kind noted of the segment begun is its own, once no line carries it on
  kind_own : (rest : List (List ℕ)) → segments_in c.limits ps m ≡ w.done ++ (w.last ∷ rest) → kind_noted kinds f ≡ kind_of_segment ps w.last
  kind_own rest whole =
      let place : f.laying.segment - 1 ≡ length w.done = omega (arith, w.begins.number) in
      ap (λ (n : ℕ). get_or kinds n 0) place ∙ kind-found ps kinds w.prepared.given.noted w.prepared.given.all w.done w.last rest whole

  -- the line at `at` is an addendum: its text after the mark goes to the segment begun
  pub stands-addendum : {from : ℕ} → from ≡ text_from ps.field at (drop at m) → (from ≡ at → ⊥)
      → AtLine c class kinds levels context ps m from f nearest text segments leaves
  stands-addendum {from} e past =
      let other : text_from ps.field at (drop at m) ≡ at → ⊥ = λ z. past (e ∙ z) in
      let marked = carries_on ps.field at (drop at m) other in
      let start : from ≡ at + 2 = e ∙ carried_from ps.field at (drop at m) other in
      let h : at < length m
      = ⊎_elim (λ less. less) (λ none_left. absurd (other (from_past ps.field at m none_left))) (less_or_not at (length m)) in
      let behind = w.behind in
      record {
        prepared = w.prepared;
        bytes = w.bytes;
        done = w.done;
        last = w.last;
        begins = w.begins;
        left =
            subst⁻¹ (λ (j : ℕ). LeftAt c.limits ps.field m w.done (w.last ++ line_text class m j) (line_after class m j)) start
            (addendum-left stands_readable at w.left h marked);
        inside =
            subst⁻¹ (λ (j : ℕ). j + run class (drop j m) < length m) start (addendum-within stands_readable at w.left h marked);
        behind = omega arith;
      }

  -- it begins a segment: the one begun has been closed, and the next begun
  pub stands-segment : at < length m → {from : ℕ} → from ≡ text_from ps.field at (drop at m) → from ≡ at
      → {nearest' segments' leaves' : List ℕ} → ClosedBy f (kind_noted kinds f) levels context nearest segments leaves nearest' segments' leaves'
      → {g : Filling} → g ≡ begun_after f → AtLine c class kinds levels context ps m from g nearest' text segments' leaves'
  unfolding next_segment
  stands-segment h {from} e here {nearest'} {segments'} {leaves'} closes {g} is =
      let other = begins-segment ps.field at (drop at m) (sym e ∙ here) in
      let next = segment-left stands_readable at w.left h other in
      subst⁻¹ (λ (j : ℕ). AtLine c class kinds levels context ps m j g nearest' text segments' leaves') here
      (subst⁻¹ (λ (k : Filling). AtLine c class kinds levels context ps m at k nearest' text segments' leaves') is
      (record {
        prepared = w.prepared;
        bytes = w.bytes;
        done = w.done ++ (w.last ∷ []);
        last = [];
        begins = begun-next w.begins (λ k. refl) (kind_own _ (next.joins ∙ append_assoc w.done (w.last ∷ []) _)) closes;
        left = next;
        inside = segment-within stands_readable at w.left h;
        behind = w.behind;
      }))

  -- at the end the segment begun is closed, and the buffers hold the table
  module _ (h : length m ≤ at) {nearest' segments' leaves' : List ℕ}
      (closes : ClosedBy f (kind_noted kinds f) levels context nearest segments leaves nearest' segments' leaves') where
    abbrev all : List (List ℕ)
    all = w.done ++ (w.last ∷ [])

    whole : segments_in c.limits ps m ≡ all
    whole = none_left c.limits m at w.left h

    rows-owned : (ss : List (List ℕ)) → closed_rows (level_in levels context) ps ss
        ≡ segment_rows_of (kinds_of ps ss) (owners (level_in levels context) (kinds_of ps ss)) (message_leaves ps ss)
    unfolding closed_rows
    rows-owned ss =
        ap (λ (os : List ℕ). segment_rows_of (kinds_of ps ss) os (message_leaves ps ss))
        (owned-owners (level_in levels context) (w.prepared.below context) (kinds_of ps ss))

    pub stands-filled : Filled (table_in c.limits levels ps m) c.text c.segments c.leaves text segments' leaves' f.laying.out
    unfolding table_of
    stands-filled =
        let ends = begun-ends w.begins (λ k. refl) (kind_own [] whole) closes in
        record {
          texts = ends.texts ∙ ap (λ (ss : List (List ℕ)). sets c.text 0 (text_of (all_leaves ps ss))) (sym whole);
          segment_rows =
              closed-rows w.begins (λ k. refl) (kind_own [] whole) closes
              ∙ ap (sets c.segments 0)
              (ap (closed_rows (level_in levels context) ps) (sym whole)
              ∙ rows-owned (segments_in c.limits ps m)
              ∙ ap (λ (n : ℕ). segment_rows_of (kinds_of ps (segments_in c.limits ps m))
              (owners (level_in levels n) (kinds_of ps (segments_in c.limits ps m))) (message_leaves ps (segments_in c.limits ps m)))
              w.prepared.given.named);
          leaf_rows = ends.stored ∙ ap (λ (ss : List (List ℕ)). sets c.leaves 0 (leaf_rows_from 0 (all_leaves ps ss))) (sym whole);
          counted = sym ends.reaches ∙ ap (λ (ss : List (List ℕ)). length (text_of (all_leaves ps ss))) (sym whole);
        }

-- each line begins after the one before it
from_reaches : (field at : ℕ) (s : List ℕ) → at ≤ text_from field at s
unfolding text_from
from_reaches field at s = go (tested (addendum field s))
  where
    go : Tested (addendum field s) → at ≤ text_from field at s
    go (passed h) = rw (h, text_from) (omega arith)
    go (failed h) = rw (h, text_from) (omega arith)

pub line-ahead : (field : ℕ) {class m : List ℕ} {from : ℕ} {f : Filling} {text leaves : List ℕ} {r : Line} {text' leaves' : List ℕ}
    {from' : ℕ} → LineFilled class m from f text leaves r text' leaves' → from' ≡ text_from field r.next (drop r.next m)
    → from < from'
line-ahead field {class} {m} {from} {r = r} filled e = omega (arith, filled.next, from_reaches field r.next (drop r.next m))
