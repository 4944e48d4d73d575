-- `read::admit::copy_index` meets its contract: what is copied stands at the front.
-- Assumes nothing.
use mathlib.Core.List.{List, ◌++◌}
use mathlib.Core.Path.{ap, ◌∙◌}
use Prim.Native.Nat.{ℕ, ◌*◌, ◌+◌}
use native.Mathlib.Omega.{arith}
use lib.ListN.{take, drop}
use lib.Seq.{sets}
use Rattle.read.proofs.AtTheFront.{front_taken}
use Rattle.read.proofs.admit.copy_index.Goals as goal

pub returns : goal.returns
returns c =
    let pre = c.requires in
    let named = c.wide-named.ensures.0 in
    record {
      codes_are =
          ap (λ (s : List ℕ). s ++ drop (c.wide-named.result * 23) c.args.to_codes.now) c.copy_from_slice.ensures.after
          ∙ front_taken c.args.codes.now c.args.to_codes.now (c.wide-named.result * 23) (omega (arith, pre.codes_there, named)) (omega (arith, pre.codes_fit, named))
          ∙ ap (λ (n : ℕ). sets c.args.to_codes.now 0 (take (n * 23) c.args.codes.now)) named;
      counts_are =
          ap (λ (s : List ℕ). s ++ drop (c.wide-named.result + 1) c.args.to_counts.now) c.copy_from_slice-2.ensures.after
          ∙ front_taken c.args.counts.now c.args.to_counts.now (c.wide-named.result + 1) (omega (arith, pre.counts_there, named)) (omega (arith, pre.counts_fit, named))
          ∙ ap (λ (n : ℕ). sets c.args.to_counts.now 0 (take (n + 1) c.args.counts.now)) named;
    }
