-- `read::census::count_codes` meets its contract: each turn counts one row, up to a code that is too long or the last row.
-- Assumes nothing.
use mathlib.Core.List.{List, map}
use mathlib.Core.Path.{refl, ◌∙◌, subst}
use Prim.Native.Nat.{ℕ, ◌<◌}
use native.Mathlib.Omega.{arith}
use lib.ListN.{length}
use Rattle.std.proofs.lemmas.Result.{err_from_is_err_and}
use Rattle.read.specs.Codes.{code_carried}
use Rattle.read.specs.Sound.{segments_in}
use Rattle.read.specs.inner.Noting.{Started}
use Rattle.read.proofs.CountedAll.{rows_begin, few-results, rows_on, rows_long, rows-done, rows-refused, carried_many, row-there}
use Rattle.read.proofs.census.count_codes.Goals as goal
use Rattle.read.proofs.census.count_codes.Goals.{In-loop-row}

-- the message's segments
abbrev segments_of : In-loop-row → List (List ℕ)
segments_of c = segments_in c.args.accepted.now.limits c.args.accepted.now.decision.separators c.args.accepted.now.message.now

-- a row that is left is one of the message's
row-left : (c : In-loop-row) → c.loop-row.row < length (segments_of c)
row-left c = omega (arith, c.loop-row-test.true, c.requires.rows_are)

row_listed : (c : In-loop-row) → c.loop-row.row < length (map (code_carried c.args.accepted.now.decision.separators) (segments_of c))
row_listed c =
    omega (arith, row-left c, carried_many c.args.accepted.now.limits c.args.accepted.now.decision.separators c.args.accepted.now.message.now)

pub loop-row-init : goal.loop-row-init
loop-row-init c = (rows_begin c.requires.sound (λ i. omega (arith, c.type_inv.counts i)), refl, refl, refl)

pub count_row-requires : goal.count_row-requires
count_row-requires c =
    let pre = c.requires in
    record {
      given = pre.given;
      bytes = pre.bytes;
      begun = subst (λ (n : ℕ). Started c.args.accepted.now.limits c.args.accepted.now.decision.separators c.args.accepted.now.message.now n c.args.accepted.now.starts.now) pre.rows_are pre.begun;
      within = row-left (goal.at.count_row-requires c).In-loop-row;
      room = omega (arith, pre.room, pre.rows_are);
      few = few-results c.loop-row.invariant.0;
      code_room = omega (arith, c.loop-row.invariant.3);
    }

pub returns-in_err-census : goal.returns-in_err-census
returns-in_err-census c =
    let p = err_from_is_err_and c.from_residual.result c.from_residual.ensures.1 in
    rw (p.1, p.2)
    (rows_long c.loop-row.invariant.0 (row_listed (goal.at.returns-in_err-census c).In-loop-row) (row-there _ _ _ _ (row-left (goal.at.returns-in_err-census c).In-loop-row) c.in_err-census.ensures))

pub loop-row-preserved : goal.loop-row-preserved
loop-row-preserved c = (
  rows_on c.loop-row.invariant.0 (row_listed (goal.at.loop-row-preserved c).In-loop-row) (row-there _ _ _ _ (row-left (goal.at.loop-row-preserved c).In-loop-row) c.in_ok-census.ensures),
  c.count_row.auto.codes ∙ c.loop-row.invariant.1,
  c.count_row.auto.counts ∙ c.loop-row.invariant.2,
  c.count_row.auto.code ∙ c.loop-row.invariant.3,
)

pub returns-in-Some : goal.returns-in-Some
returns-in-Some c = rows-refused c.loop-row.invariant.0 (omega (arith, carried_many c.args.accepted.now.limits c.args.accepted.now.decision.separators c.args.accepted.now.message.now, c.requires.rows_are, c.loop-row-test.false)) c.in-Some.is

pub returns-in-None : goal.returns-in-None
returns-in-None c = rows-done c.loop-row.invariant.0 (omega (arith, carried_many c.args.accepted.now.limits c.args.accepted.now.decision.separators c.args.accepted.now.message.now, c.requires.rows_are, c.loop-row-test.false)) c.in-None.is
