-- `write::message::write_message` meets its contract: a table that passed the test is one that the pass may go over.
-- Assumes nothing.
use Rattle.write.proofs.Answers.{tested-four, tested_writable, tested-answer}
use Rattle.write.proofs.message.write_message.Goals as goal

pub separators_at-requires : goal.separators_at-requires
separators_at-requires c = let pre = c.requires in tested-four pre.lawful pre.tested

pub put_leaves-going-requires : goal.put_leaves-going-requires
put_leaves-going-requires c =
    let pre = c.requires in
    tested_writable pre.lawful pre.tested c.separators_at.ensures pre.roomy

pub returns : goal.returns
returns c =
    let pre = c.requires in
    tested-answer pre.lawful pre.tested c.separators_at.ensures c.put_leaves-going.ensures
