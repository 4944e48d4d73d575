-- `line::finder::find_line` meets its contract: past the message's end there is no line, and else it is the line whose text goes up to
-- where `text_end` stopped.
-- Assumes nothing.
use mathlib.Core.Path.{◌≡◌, sym, ◌∙◌}
use Prim.Native.Nat.{◌+◌, min}
use native.Mathlib.Omega.{arith}
use lib.ListN.{drop, length-drop}
use Rattle.line.specs.Finding.{text_run}
use Rattle.line.proofs.Runs.{text_run-length}
use Rattle.line.proofs.Finding.{found-end, found-ended}
use Rattle.line.proofs.finder.find_line.Goals as goal

pub returns-then-message-at : goal.returns-then-message-at
returns-then-message-at c =
    let at-args = c.args in
    sym (found-end at-args.line at-args.message.now at-args.at c.if-message-at.true)

-- the message's end bounds a run of text by itself
pub returns : goal.returns
returns c =
    let at-args = c.args in
    let a = at-args in
    let stopped : c.text_end.result ≡ a.at + min a.line (text_run (drop a.at a.message.now))
    = omega (arith, text_run-length (drop a.at a.message.now), length-drop a.at a.message.now) in
    c.ended_line.ensures ∙ sym (found-ended a.line a.message.now a.at c.text_end.result c.if-message-at.false stopped)
