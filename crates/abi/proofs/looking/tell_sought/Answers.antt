-- `abi::looking::tell_sought` meets its contract: the number of what was sought, and what goes into the answer.
-- Assumes nothing.
use Rattle.abi.proofs.LeafAnswers.{leaf_with_text, leaf_empty, leaf_not_there}
use Rattle.abi.proofs.looking.tell_sought.Goals as goal

pub shape_of-answer-in-At : goal.shape_of-answer-in-At
shape_of-answer-in-At c = c.put_numbers.auto.answer

pub returns-in-At : goal.returns-in-At
returns-in-At c =
    leaf_with_text c.args.answer.now c.number-number.ensures c.in-At.start c.in-At.length
    c.in-At.is c.put_numbers.ensures

pub shape_of-answer-in-Empty : goal.shape_of-answer-in-Empty
shape_of-answer-in-Empty c = c.put_numbers-in-Empty.auto.answer

pub returns-in-Empty : goal.returns-in-Empty
returns-in-Empty c = leaf_empty c.args.answer.now c.number-number.ensures c.in-Empty.is c.put_numbers-in-Empty.ensures

pub returns-in-NotThere : goal.returns-in-NotThere
returns-in-NotThere c = leaf_not_there c.args.answer.now c.number-number.ensures c.in-NotThere.is
