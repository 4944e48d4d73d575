-- `order::owners::place_of` meets its contract: each return is one case of `level_place`.
-- Assumes nothing.
use mathlib.Core.Path.{sym}
use native.Mathlib.Omega.{arith}
use Rattle.order.proofs.Nearest.{place_C, place-level, place_above}
use Rattle.order.proofs.owners.place_of.Goals as goal

pub returns-then-kind-eq-C : goal.returns-then-kind-eq-C
returns-then-kind-eq-C c =
    let at-args = c.args in
    let at-if1 = c.if-kind-eq-C in
    (sym (place_C at-args.kind at-args.level at-if1.true), omega arith)

pub returns-then-place-lt-ABOVE : goal.returns-then-place-lt-ABOVE
returns-then-place-lt-ABOVE c =
    let at-args = c.args in
    let at-if1 = c.if-kind-eq-C in
    let at-if2 = c.if-place-lt-ABOVE in
    (sym (place-level at-args.kind at-args.level at-if1.false at-if2.true), omega arith)

pub returns : goal.returns
returns c =
    let at-args = c.args in
    let at-if1 = c.if-kind-eq-C in
    let at-if2 = c.if-place-lt-ABOVE in
    (sym (place_above at-args.kind at-args.level at-if1.false at-if2.false), omega arith)
