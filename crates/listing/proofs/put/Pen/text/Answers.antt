-- `listing::put::Pen::text` meets its contract: the part of the output becomes the text.
-- Assumes nothing.
use mathlib.Core.List.{List}
use mathlib.Core.Path.{refl, ap, ◌∙◌}
use Prim.Native.Nat.{ℕ, ◌+◌, ◌-◌}
use native.Mathlib.Omega.{arith}
use borrow.Rule.Slice.PartMut.{put_mid}
use lib.ListN.{length}
use Rattle.laws.proofs.Slices.{middle_copied}
use Rattle.listing.proofs.put.Pen.text.Goals as goal

pub returns : goal.returns
returns c =
    let at = c.args.self.now.at in
    let n = at + length c.args.text.now - at in
    record {
      same_reference = refl;
      within =
          record {
            put =
                record {
                  stored =
                      ap (λ (s : List ℕ). put_mid at n c.args.self.now.output.now s) c.copy_from_slice.ensures.after
                      ∙ middle_copied c.args.self.now.output.now c.args.text.now at n (omega arith) (omega arith);
                  reached = refl;
                };
            few = omega arith;
          };
    }
