-- `read::admit::admit` meets its contract: the codes are counted in a copy of the index, and only what is not refused becomes the index.
-- Assumes nothing.
use native.Mathlib.Omega.{arith}
use lib.ListN.{replicate}
use borrow.Author.Tests.{not-true, not-false}
use Rattle.std.proofs.lemmas.Result.{err_from_is_err_and}
use Rattle.read.proofs.Admitting.{Copied, index_copyable, index_copied, copied_back, admits_none, admits_no_more, admits}
use Rattle.read.proofs.admit.admit.Goals as goal
use Rattle.read.proofs.admit.admit.Goals.{After-copy_index}

-- the copy is the index
abbrev CopiedHere : After-copy_index → Type 0
CopiedHere c =
    Copied c.args.codes.now c.args.counts.now c.copy_index.new.to_codes c.copy_index.new.to_counts

copied_here : (c : After-copy_index) → CopiedHere c
copied_here c = index_copied c.requires.sound (replicate 11776 0) (replicate 513 0) (omega arith) (omega arith) c.copy_index.ensures

pub copy_index-requires : goal.copy_index-requires
copy_index-requires c = index_copyable c.requires.sound (replicate 11776 0) (replicate 513 0) (omega arith) (omega arith)

pub count_codes-requires : goal.count_codes-requires
count_codes-requires c =
    let pre = c.requires in
    record {
      given = pre.accepts.fillable;
      bytes = pre.bytes;
      begun = pre.accepts.begun;
      rows_are = pre.accepts.segments;
      room = pre.room;
      sound = (copied_here (goal.at.count_codes-requires c).After-copy_index).sound;
    }

pub returns-in_err-results : goal.returns-in_err-results
returns-in_err-results c =
    let p = err_from_is_err_and c.from_residual.result c.from_residual.ensures.1 in
    rw (p.1, p.2) (admits_none _ _ _ _ _ _ (copied_here (goal.at.returns-in_err-results c).After-copy_index) c.in_err-results.ensures)

pub returns-then-not-tallied : goal.returns-then-not-tallied
returns-then-not-tallied c =
    admits_no_more _ _ _ _ _ _ (copied_here (goal.at.returns-then-not-tallied c).After-copy_index) c.in_ok-results.ensures c.with_message-tallied.ensures
    (not-true _ c.if-not-tallied.true)

pub copy_index-requires-2 : goal.copy_index-requires-2
copy_index-requires-2 c = copied_back c.args.accepted.now.limits c.args.accepted.now.decision c.args.tally c.args.accepted.now.message.now _ _ (copied_here (goal.at.copy_index-requires-2 c).After-copy_index) c.in_ok-results.ensures c.requires.sound

pub returns : goal.returns
returns c =
    admits _ _ _ _ _ _ (copied_here (goal.at.returns c).After-copy_index) c.in_ok-results.ensures c.with_message-tallied.ensures
    (not-false _ c.if-not-tallied.false) c.copy_index-2.ensures
