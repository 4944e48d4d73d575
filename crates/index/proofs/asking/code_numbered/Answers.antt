-- `index::asking::code_numbered` meets its contract: the first test that fails decides. Assumes nothing.
use mathlib.Core.Bool.{true}
use mathlib.Core.Path.{◌≡◌, sym, ap, ◌∙◌}
use Prim.Native.Nat.{ℕ, ◌+◌, ◌-◌, ◌*◌, ◌≤◌}
use native.Mathlib.Omega.{arith}
use lib.ListN.{get_or}
use Rattle.index.specs.declared.asking.Code.TheVariants.{At}
use Rattle.index.specs.Index.{place_size, named_in, roomy}
use Rattle.index.specs.inner.Rising.{length_at}
use Rattle.index.proofs.Asked.{no_code, code_zero, code_past, empty_place, long-place, code-asked}
use Rattle.index.proofs.Sizes.{Roomy, roomy_parts}
use Rattle.index.proofs.asking.code_numbered.Goals as goal
use Rattle.index.proofs.asking.code_numbered.Goals.{After-length_at-length, Else-not-is_roomy, Else-wide-k}

-- the buffers are roomy
roomy_here : (c : Else-not-is_roomy) → roomy c.args.codes.now c.args.counts.now ≡ true
roomy_here c = sym c.is_roomy.ensures ∙ c.if-not-is_roomy.false

room_here : (c : Else-not-is_roomy) → Roomy c.args.codes.now c.args.counts.now
room_here c = roomy_parts c.args.codes.now c.args.counts.now (roomy_here c)

named_here : (c : Else-wide-k) → c.args.k ≤ named_in c.args.counts.now
named_here c = omega (arith, c.if-wide-k.false, c.wide.ensures.0)

-- the length that stands at its place
length_here : (c : After-length_at-length) → c.length_at-length.result
    ≡ length_at c.args.codes.now (c.args.k - 1)
length_here c = c.length_at-length.ensures.0

-- numbers are small
small_here : (c : Else-wide-k) → c.args.k ≤ 512
small_here c = omega (arith, named_here c, (room_here (goal.at.Else-wide-k c).Else-not-is_roomy).few_named)

pub returns-then-not-is_roomy : goal.returns-then-not-is_roomy
returns-then-not-is_roomy c =
    let a = c.args in
    no_code a.codes.now a.counts.now a.k (sym c.is_roomy.ensures ∙ c.if-not-is_roomy.true)

pub returns-then-k-eq0 : goal.returns-then-k-eq0
returns-then-k-eq0 c =
    let a = c.args in
    code_zero a.codes.now a.counts.now a.k (roomy_here (goal.at.returns-then-k-eq0 c).Else-not-is_roomy) c.if-k-eq0.true

pub bounds-counts-0 : goal.bounds-counts-0
bounds-counts-0 c = omega (arith, (room_here (goal.at.bounds-counts-0 c).Else-not-is_roomy).counts_room)

pub returns-then-wide-k : goal.returns-then-wide-k
returns-then-wide-k c =
    let a = c.args in
    code_past a.codes.now a.counts.now a.k (roomy_here (goal.at.returns-then-wide-k c).Else-not-is_roomy) c.if-k-eq0.false
    (omega (arith, c.if-wide-k.true, c.wide.ensures.0))

pub overflow_sub-at : goal.overflow_sub-at
overflow_sub-at c = omega (arith, c.if-k-eq0.false)

pub overflow_mul-at : goal.overflow_mul-at
overflow_mul-at c = omega (arith, small_here c)

pub length_at-length-requires : goal.length_at-length-requires
length_at-length-requires c = omega (arith, named_here c, c.if-k-eq0.false, (room_here (goal.at.length_at-length-requires c).Else-not-is_roomy).codes_room, (room_here (goal.at.length_at-length-requires c).Else-not-is_roomy).few_named)

pub returns-then-length-eq0 : goal.returns-then-length-eq0
returns-then-length-eq0 c =
    let a = c.args in
    empty_place a.codes.now a.counts.now a.k (roomy_here (goal.at.returns-then-length-eq0 c).Else-not-is_roomy) c.if-k-eq0.false
    (named_here (goal.at.returns-then-length-eq0 c).Else-wide-k) (sym (length_here (goal.at.returns-then-length-eq0 c).After-length_at-length) ∙ c.if-length-eq0.true)

pub returns-then-length-gt-CODE : goal.returns-then-length-gt-CODE
returns-then-length-gt-CODE c =
    let a = c.args in
    long-place a.codes.now a.counts.now a.k (roomy_here (goal.at.returns-then-length-gt-CODE c).Else-not-is_roomy) c.if-k-eq0.false
    (named_here (goal.at.returns-then-length-gt-CODE c).Else-wide-k) (λ e. c.if-length-eq0.false (length_here (goal.at.returns-then-length-gt-CODE c).After-length_at-length ∙ e)) (omega (arith, c.if-length-gt-CODE.true, length_here (goal.at.returns-then-length-gt-CODE c).After-length_at-length))

pub overflow_add-result : goal.overflow_add-result
overflow_add-result c = omega (arith, small_here (goal.at.overflow_add-result c).Else-wide-k)

pub offset_bounds-counts-k : goal.offset_bounds-counts-k
offset_bounds-counts-k c = omega (arith, small_here (goal.at.offset_bounds-counts-k c).Else-wide-k)

pub bounds-counts-k : goal.bounds-counts-k
bounds-counts-k c = omega (arith, named_here (goal.at.bounds-counts-k c).Else-wide-k, (room_here (goal.at.bounds-counts-k c).Else-not-is_roomy).counts_room, (room_here (goal.at.bounds-counts-k c).Else-not-is_roomy).few_named)

pub returns : goal.returns
returns c =
    let a = c.args in
    ap (λ (n : ℕ). At ((a.k - 1) * place_size + 1) n (get_or a.counts.now a.k 0)) (length_here (goal.at.returns c).After-length_at-length)
    ∙ code-asked a.codes.now a.counts.now a.k (roomy_here (goal.at.returns c).Else-not-is_roomy) c.if-k-eq0.false
    (named_here (goal.at.returns c).Else-wide-k) (λ e. c.if-length-eq0.false (length_here (goal.at.returns c).After-length_at-length ∙ e)) (omega (arith, c.if-length-gt-CODE.false, length_here (goal.at.returns c).After-length_at-length))
