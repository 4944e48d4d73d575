-- `index::tally::Tally::with_message` meets its contract: the first number that would be too large leaves the tally as it was.
-- Assumes nothing.
use mathlib.Core.Bool.{true}
use mathlib.Core.Path.{sym, ap₂, ◌∙◌}
use Prim.Native.Nat.{ℕ, ◌+◌}
use native.Mathlib.Omega.{arith}
use Rattle.index.proofs.Tallies.{messages_past, segments_past, results_past, all_fit}
use Rattle.index.proofs.tally.Tally.with_message.Goals as goal

pub returns-then-wide-eq-LAST : goal.returns-then-wide-eq-LAST
returns-then-wide-eq-LAST c =
    let a = c.args in
    messages_past a.self a.segments a.results (sym c.wide.ensures.0 ∙ c.if-wide-eq-LAST.true)

pub returns-then-wide-segments : goal.returns-then-wide-segments
returns-then-wide-segments c =
    let a = c.args in
    segments_past a.self a.segments a.results (omega (arith, c.if-wide-segments.true, c.wide-2.ensures.0))

pub returns-then-wide-results : goal.returns-then-wide-results
returns-then-wide-results c =
    let a = c.args in
    results_past a.self a.segments a.results (omega (arith, c.if-wide-results.true, c.wide-3.ensures.0))

pub returns : goal.returns
returns c =
    let a = c.args in
    ap₂
    (λ (s r : ℕ).
    record { fits = true; tally = record { messages = a.self.messages + 1; segments = s + a.segments; results = r + a.results } })
    c.wide-4.ensures.0 c.wide-5.ensures.0
    ∙ all_fit a.self a.segments a.results
    (omega (arith, c.if-wide-eq-LAST.false, c.wide.ensures.0, c.wide.ensures.1))
    (omega (arith, c.if-wide-segments.false, c.wide-2.ensures.0, c.wide-2.ensures.1))
    (omega (arith, c.if-wide-results.false, c.wide-3.ensures.0, c.wide-3.ensures.1))
