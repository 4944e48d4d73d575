-- `index::soundness::follows` meets its contract: without a code's length it may not stand there, with one the code before it decides.
-- Assumes nothing.
use mathlib.Core.Bool.{true}
use mathlib.Core.Path.{◌≡◌, sym, ap, ◌∙◌}
use Prim.Native.Nat.{ℕ, ◌+◌, ◌-◌, ◌≤◌}
use native.Mathlib.Omega.{arith}
use lib.ListN.{length, take, drop, get_or, length-drop}
use lib.Seq.{length-take-le}
use Rattle.index.specs.Index.{code_most, place_size}
use Rattle.index.specs.inner.Comparing.{compared}
use Rattle.index.specs.inner.Rising.{is_length, is_behind, code_from, follows_at}
use Rattle.index.proofs.Followed.{length-short, no_code_there, code-there_decides}
use Rattle.index.proofs.soundness.follows.Goals as goal
use Rattle.index.proofs.soundness.follows.Goals.{After-compare, After-length_at-n, Else-not-has_code}

-- where the next place begins, and the code's length there
abbrev next_of : Else-not-has_code → ℕ
next_of c = c.args.at + place_size

length_here : (c : After-length_at-n) → c.length_at-n.result ≡ get_or c.args.codes.now (next_of (goal.at.After-length_at-n c).Else-not-has_code) 0
length_here c = c.length_at-n.ensures.0

is_length_here : (c : Else-not-has_code) → true ≡ is_length (get_or c.args.codes.now (next_of c) 0)
is_length_here c = sym (c.if-not-has_code.false) ∙ c.has_code.ensures

fits_here : (c : After-length_at-n) → c.length_at-n.result ≤ code_most
fits_here c =
    let codes = c.args.codes.now in
    omega (arith, length_here c, length-short (get_or codes (next_of (goal.at.After-length_at-n c).Else-not-has_code) 0) (sym (is_length_here (goal.at.After-length_at-n c).Else-not-has_code)))

-- the code at the next place, beside the one at this
compared_here : (c : After-compare)
    → c.compare.result
    ≡ compared (code_from c.args.codes.now (next_of (goal.at.After-compare c).Else-not-has_code))
    (get_or c.args.codes.now c.args.at 0)
    (drop (c.args.at + 1) c.args.codes.now)
compared_here c =
    let a = c.args in
    let next = next_of (goal.at.After-compare c).Else-not-has_code in
    c.compare.ensures
    ∙ ap
    (λ (n : ℕ). compared (take n (drop (next + 1) a.codes.now)) (get_or a.codes.now a.at 0) (drop (a.at + 1) a.codes.now))
    (let e : next + 1 + c.length_at-n.result - (next + 1) ≡ get_or a.codes.now next 0 = omega (arith, length_here (goal.at.After-compare c).After-length_at-n) in e)

behind_here : (c : After-compare)
    → is_behind c.compare.result
    ≡ follows_at c.args.codes.now c.args.at
behind_here c =
    let a = c.args in
    code-there_decides a.codes.now a.at (is_length_here (goal.at.After-compare c).Else-not-has_code) (compared_here c)

pub overflow_add-next : goal.overflow_add-next
overflow_add-next c = omega (arith, c.requires.0)

pub has_code-requires : goal.has_code-requires
has_code-requires c = omega (arith, c.requires.0, c.requires.1)

pub returns-then-not-has_code : goal.returns-then-not-has_code
returns-then-not-has_code c =
    let a = c.args in
    no_code_there a.codes.now a.at (sym (c.if-not-has_code.true) ∙ c.has_code.ensures)

pub length_at-n-requires : goal.length_at-n-requires
length_at-n-requires c = omega (arith, c.requires.0, c.requires.1)

pub overflow_add-next-2 : goal.overflow_add-next-2
overflow_add-next-2 c = omega (arith, c.requires.0)

pub overflow_add-next-3 : goal.overflow_add-next-3
overflow_add-next-3 c = omega (arith, c.requires.0)

pub overflow_add-next-4 : goal.overflow_add-next-4
overflow_add-next-4 c = omega (arith, c.requires.0, fits_here c)

pub slice_bounds-compare-count : goal.slice_bounds-compare-count
slice_bounds-compare-count c = omega arith

pub slice_bounds-compare-start : goal.slice_bounds-compare-start
slice_bounds-compare-start c = omega arith

pub slice_bounds-compare-end : goal.slice_bounds-compare-end
slice_bounds-compare-end c = omega (arith, c.requires.0, c.requires.1, fits_here c)

pub compare-requires : goal.compare-requires
compare-requires c =
    let next = next_of (goal.at.compare-requires c).Else-not-has_code in
    let n = next + 1 + c.length_at-n.result - (next + 1) in
    let codes = c.args.codes.now in
    let fits : n ≤ code_most = omega (arith, fits_here (goal.at.compare-requires c).After-length_at-n) in
    let part : length (take n (drop (next + 1) codes)) ≡ n =
    length-take-le n (drop (next + 1) codes) (omega (arith, fits, c.requires.0, c.requires.1, length-drop (next + 1) codes)) in
    omega (arith, part, fits, c.requires.0, c.requires.1)

pub returns-in-Before : goal.returns-in-Before
unfolding is_behind
returns-in-Before c = ap is_behind (sym c.in-Before.is) ∙ behind_here (goal.at.returns-in-Before c).After-compare

pub returns-in-Same : goal.returns-in-Same
unfolding is_behind
returns-in-Same c = ap is_behind (sym c.in-Same.is) ∙ behind_here (goal.at.returns-in-Same c).After-compare

pub returns-in-After : goal.returns-in-After
unfolding is_behind
returns-in-After c = ap is_behind (sym c.in-After.is) ∙ behind_here (goal.at.returns-in-After c).After-compare
