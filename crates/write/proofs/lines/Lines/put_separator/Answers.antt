-- `write::lines::Lines::put_separator` meets its contract: CR where the segment ends, and else a separator that is none.
-- Assumes nothing.
use mathlib.Core.List.{[], ◌∷◌}
use mathlib.Core.Path.{◌≡◌, sym, ap, ◌∙◌, subst}
use Prim.Native.Nat.{ℕ}
use Rattle.line.specs.Lines.{CR}
use Rattle.write.specs.inner.Filling.{Stand, stand, puts, Fits}
use Rattle.write.specs.inner.Passing.{leading}
use Rattle.write.proofs.Filling.{close_fits, closed-one}
use Rattle.write.proofs.RowPlaces.{other-segment, inside-clear}
use Rattle.write.proofs.lines.Lines.put_separator.Goals as goal
use Rattle.write.proofs.lines.Lines.put_separator.Goals.{Start, Then-leaves-at}

-- the output and how far it is written; the segment ends
abbrev here : Start → Stand
here s = stand s.args.output.now s.args.going

ends : (c : Then-leaves-at) → leading c.args.self.separators c.args.leaves.now c.args.row ≡ CR
ends c = sym (other-segment c.args.self.separators c.requires.row_there c.if-leaves-at.true)

pub close-requires : goal.close-requires
close-requires c = close_fits c.args.self.limits c.args.self.separators.field (here (goal.at.close-requires c).Start) (leading c.args.self.separators c.args.leaves.now c.args.row) (ends (goal.at.close-requires c).Then-leaves-at) c.requires.fits

pub returns-then-leaves-at : goal.returns-then-leaves-at
returns-then-leaves-at c = closed-one c.args.self.limits c.args.self.separators.field (here (goal.at.returns-then-leaves-at c).Start) (leading c.args.self.separators c.args.leaves.now c.args.row) (ends (goal.at.returns-then-leaves-at c).Then-leaves-at) c.close.ensures

pub put_inside-requires : goal.put_inside-requires
put_inside-requires c =
    record {
      lawful = c.requires.lawful;
      fits = subst (λ (n : ℕ). Fits c.args.self.limits c.args.self.separators.field (here (goal.at.put_inside-requires c).Start) (n ∷ [])) (sym c.separator-byte.ensures) c.requires.fits;
      inside = inside-clear c.args.self.separators c.requires.row_there c.if-leaves-at.false c.requires.splits c.separator-byte.ensures;
    }

pub returns : goal.returns
returns c = c.put_inside.ensures ∙ ap (λ (n : ℕ). puts c.args.self.limits c.args.self.separators.field (here (goal.at.returns c).Start) (n ∷ [])) c.separator-byte.ensures
