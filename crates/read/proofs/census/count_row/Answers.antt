-- `read::census::count_row` meets its contract: a row that carries no code is passed over, a code that is too long is refused, any other is added.
-- Assumes nothing.
use mathlib.Core.List.{List}
use mathlib.Core.Path.{◌≡◌, refl, sym, ap, ◌∙◌}
use Prim.Native.Nat.{ℕ, ◌+◌, ◌≤◌, ◌<◌}
use native.Mathlib.Omega.{arith}
use lib.ListN.{length}
use Rattle.table.specs.Rows.{width}
use Rattle.index.specs.Index.{code_most}
use Rattle.read.specs.inner.Census.{carried_by, passed_over, long}
use Rattle.read.proofs.CountedRows.{row-noted, row_started, no_result, result_code, code-ahead, code-held, code-tried}
use Rattle.read.proofs.census.count_row.Goals as goal
use Rattle.read.proofs.census.count_row.Goals.{After-take_code-length}

-- what the row carries
abbrev code_here : After-take_code-length → List ℕ
code_here c = carried_by c.args.accepted.now.limits c.args.accepted.now.decision.separators c.args.accepted.now.message.now c.args.row

-- the code of the row, as it was taken
code-size : (c : After-take_code-length) → c.take_code-length.result ≡ length (code_here c)
code-size c = c.take_code-length.ensures.size_is ∙ ap length (sym (result_code c.requires c.if-accepted-row-ne-OBX.false))

code-room : (c : After-take_code-length) → code_most ≤ length c.take_code-length.new.code
code-room c = omega (arith, c.take_code-length.auto.code, c.requires.code_room)

row_fits : (c : After-take_code-length) → c.args.row + 1 < width
row_fits c = let pre = c.requires in omega (arith, pre.within, pre.given.few, pre.given.fits.segments)

pub bounds-accepted-row : goal.bounds-accepted-row
bounds-accepted-row c = row-noted c.requires

pub returns-then-accepted-row-ne-OBX : goal.returns-then-accepted-row-ne-OBX
returns-then-accepted-row-ne-OBX c = passed_over (no_result c.requires c.if-accepted-row-ne-OBX.true) refl refl refl

pub take_code-length-requires : goal.take_code-length-requires
take_code-length-requires c = (code-ahead c.requires c.if-accepted-row-ne-OBX.false, row_started c.requires)

pub returns-then-length-eq0 : goal.returns-then-length-eq0
returns-then-length-eq0 c = passed_over (sym (code-size (goal.at.returns-then-length-eq0 c).After-take_code-length) ∙ c.if-length-eq0.true) refl refl refl

pub returns-then-length-gt-CODE : goal.returns-then-length-gt-CODE
returns-then-length-gt-CODE c = long (omega (arith, code-size (goal.at.returns-then-length-gt-CODE c).After-take_code-length, c.if-length-gt-CODE.true)) refl

pub returns : goal.returns
returns c =
    let pre = c.requires in
    code-tried (code-held c.take_code-length.ensures (code-room (goal.at.returns c).After-take_code-length) c.if-length-gt-CODE.false ∙ sym (result_code pre c.if-accepted-row-ne-OBX.false))
    (omega (arith, code-size (goal.at.returns c).After-take_code-length, c.if-length-eq0.false)) (omega (arith, code-size (goal.at.returns c).After-take_code-length, c.if-length-gt-CODE.false)) c.add.ensures
    c.lower.ensures
