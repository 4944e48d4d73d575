-- Larger limits (rule T8): what is accepted under some limits is accepted, with the same table, under all that allow no less.
-- Assumes nothing.
use mathlib.Core.List.{List}
use mathlib.Core.Path.{◌≡◌, subst}
use Prim.Native.Nat.{ℕ}
use native.Mathlib.Omega.{arith}
use Rattle.form.specs.declared.limits.Limits.{Limits}
use Rattle.form.specs.Limits.{NoLess}
use Rattle.line.specs.Joining.{joined}
use Rattle.line.specs.Lines.{Lines, texts, fault_number}
use Rattle.line.proofs.BothForms.{walk_same}
use Rattle.table.specs.Rows.{Table}
use Rattle.table.specs.Reading.{accepted, reading, stated}
use Rattle.table.proofs.Accepting.{Judged, Accepted, accepting}
use Rattle.table.proofs.Room.{stated-roomy}

module _ (K L : Limits) (more : NoLess K L) (levels : ℕ → ℕ → ℕ) (message : List ℕ) (t : Table) where
  still_accepted : Accepted K levels (stated K) message t → Accepted L levels (stated L) message t
  still_accepted w =
      let same = walk_same K L more.line message in
      let j = w.segments in
      record {
        separators = w.separators;
        roomy = stated-roomy L;
        fits = omega (arith, w.fits, more.bytes);
        header = w.header;
        no_fault = subst (λ (ls : Lines). fault_number ls ≡ 0) same w.no_fault;
        segments =
            subst (λ (ls : Lines). Judged L levels w.separators (joined w.separators.field (texts ls)) t) same
            (record {
              few-segments = omega (arith, j.few-segments, more.segments);
              known = j.known;
              context = j.context;
              ordered = j.ordered;
              few-leaves = omega (arith, j.few-leaves, more.leaves);
              table = j.table;
            });
      }

  pub accepted_still : reading K levels (stated K) message ≡ accepted t → reading L levels (stated L) message ≡ accepted t
  accepted_still e = (accepting L levels (stated L) message t).1 (still_accepted ((accepting K levels (stated K) message t).0 e))
