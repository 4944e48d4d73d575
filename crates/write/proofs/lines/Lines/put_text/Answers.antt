-- `write::lines::Lines::put_text` meets its contract: each turn fills a line and breaks it, and what is left of the text gives the whole.
-- Assumes nothing.
use Rattle.write.proofs.TextLeft.{text-fits, text-broken, text_less, text_turn, rest-fits, text-done}
use Rattle.write.proofs.lines.Lines.put_text.Goals as goal

pub fill-full-requires : goal.fill-full-requires
fill-full-requires c =
    text-fits c.loop-going.invariant c.requires.lawful c.loop-going-test.true c.split_at.ensures.front c.split_at.ensures.back

pub break_line-going-requires : goal.break_line-going-requires
break_line-going-requires c =
    text-broken c.loop-going.invariant c.requires.lawful c.loop-going-test.true c.split_at.ensures.front c.split_at.ensures.back
    c.fill-full.ensures

pub loop-going-smaller : goal.loop-going-smaller
loop-going-smaller c =
    text_less c.loop-going.invariant c.requires.lawful c.loop-going-test.true c.split_at.ensures.front c.split_at.ensures.back
    c.fill-full.ensures c.break_line-going.ensures

pub loop-going-preserved : goal.loop-going-preserved
loop-going-preserved c =
    text_turn c.loop-going.invariant c.requires.lawful c.loop-going-test.true c.split_at.ensures.front c.split_at.ensures.back
    c.fill-full.ensures c.break_line-going.ensures

-- the last line has room for what is left
pub fill-requires : goal.fill-requires
fill-requires c = rest-fits c.loop-going.invariant c.loop-going-test.false

pub returns : goal.returns
returns c = text-done c.loop-going.invariant c.loop-going-test.false c.fill.ensures
