-- `see_line` meets its contract: the scan goes up to where the line's text ends, so what stands there decides between the line and its fault.
-- Assumes nothing.
use mathlib.Core.Path.{sym, ap, ◌∙◌, subst}
use Prim.Native.Nat.{ℕ, ◌+◌, ◌-◌}
use mathlib.Core.List.{List}
use lib.ListN.{take, drop}
use Rattle.laws.proofs.Bytes.{bytes-known}
use Rattle.line.proofs.Finding.{EndedAt, ended_at}
use Rattle.read.specs.inner.Scanning.{run, marks}
use Rattle.read.specs.inner.Underway.{StepOf}
use Rattle.std.proofs.Common.{Ok}
use Rattle.read.specs.declared.survey.Survey.{Survey}
use Rattle.read.proofs.Underway.{LineScanned, line_part, line-seen, line_faulty}
use Rattle.read.proofs.survey.see_line.Goals as goal
use Rattle.read.proofs.survey.see_line.Goals.{After-scan-scanned}

-- what the scan has come to
abbrev ScannedAt : After-scan-scanned → Type 0
ScannedAt c =
    LineScanned c.args.limits c.args.separators c.args.message.now c.args.at c.args.from c.args.seen (c.args.at + c.min.result) c.scan-scanned.result.end
    c.scan-scanned.result.separators

scanned : (c : After-scan-scanned) → ScannedAt c
scanned c =
    let at_pre = c.requires in
    let part : List ℕ = take (c.args.at + c.min.result - c.args.from) (drop c.args.from c.args.message.now) in
    record {
      one = at_pre.one;
      begun = at_pre.begun;
      bytes = bytes-known c.args.message.now c.shared_slice_known-1.given;
      stopped = ap (λ (n : ℕ). c.args.at + n) c.min.ensures;
      scanned = c.scan-scanned.ensures.0 ∙ ap (λ (class : List ℕ). c.args.from + run class part) at_pre.classes;
      marked = c.scan-scanned.ensures.1 ∙ ap (λ (class : List ℕ). marks class part) at_pre.classes;
    }

pub with_text-requires : goal.with_text-requires
with_text-requires c = line_part (scanned (goal.at.with_text-requires c).After-scan-scanned) c.in-Line.end c.in-Line.next (sym c.ended_line.ensures ∙ c.in-Line.is)

pub returns-in-Line : goal.returns-in-Line
returns-in-Line c =
    let q = scanned (goal.at.returns-in-Line c).After-scan-scanned in
    subst (λ (s : Survey). StepOf c.args.limits c.args.separators c.args.message.now c.args.seen.segments c.args.at (Ok (record { seen = s; next = c.in-Line.next }))) (sym c.with_text.ensures)
    (line-seen q c.in-Line.end c.in-Line.next (sym c.ended_line.ensures ∙ c.in-Line.is))

pub returns-in-End : goal.returns-in-End
returns-in-End c =
    absurd
    (subst (EndedAt c.scan-scanned.result.end) (sym c.ended_line.ensures ∙ c.in-End.is)
    (ended_at c.args.message.now c.args.at c.scan-scanned.result.end))

pub returns-in-Fault : goal.returns-in-Fault
returns-in-Fault c = line_faulty (scanned (goal.at.returns-in-Fault c).After-scan-scanned) c.in-Fault.number c.in-Fault.place (sym c.ended_line.ensures ∙ c.in-Fault.is)
