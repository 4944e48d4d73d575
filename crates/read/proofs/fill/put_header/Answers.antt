-- `read::fill::put_header` meets its contract: five bytes and two rows, as a pass makes them.
-- Assumes nothing.
use mathlib.Core.List.{List, [], ◌∷◌}
use mathlib.Core.Path.{subst⁻¹}
use Prim.Native.Nat.{ℕ}
use Rattle.laws.proofs.Slices.{front_copied}
use Rattle.read.specs.inner.Segments.{HeaderPut}
use Rattle.read.proofs.SegmentLaws.{header-put}
use Rattle.read.proofs.fill.put_header.Goals as goal

pub returns : goal.returns
returns c =
    let ps = c.args.separators in
    rw c.copy_from_slice.ensures.after
    (subst⁻¹ (λ (text : List ℕ). HeaderPut ps c.args.text.now c.args.leaves.now (record { laying = c.next_leaf.result; first = 1 }) text c.put_leaf-2.new.leaves)
    (front_copied c.args.text.now (72 ∷ ps.subfield ∷ ps.repeater ∷ ps.escape ∷ ps.subsubfield ∷ []) c.requires.0)
    (header-put ps c.args.text.now c.args.leaves.now c.put_leaf.ensures c.put_leaf-2.ensures c.next_leaf.ensures))
