-- `index::adding::add` meets its contract: the first test that fails declines; else the code is counted once more, or inserted.
-- Assumes nothing.
use mathlib.Core.Bool.{true}
use mathlib.Core.List.{List}
use mathlib.Core.Path.{◌≡◌, refl, sym, ap, ◌∙◌}
use Prim.Native.Nat.{ℕ, ◌<◌}
use native.Mathlib.Omega.{arith}
use Rattle.index.specs.Index.{codes_most, named_in, roomy}
use Rattle.index.specs.inner.Halving.{sought_among}
use Rattle.index.proofs.Additions.{not_roomy_adds, empty_adds, long-adds, place-within, full_adds, inserted-adds, counted-adds}
use Rattle.index.proofs.KeptHalf.{Within}
use Rattle.index.proofs.Sizes.{Roomy, roomy_parts}
use Rattle.index.proofs.adding.add.Goals as goal
use Rattle.index.proofs.adding.add.Goals.{After-seek-found, Else-named-eq-CODES, Else-not-is_roomy, Then-found}

abbrev code_at : Else-not-is_roomy → List ℕ
code_at c = c.args.code.now

abbrev codes_at : Else-not-is_roomy → List ℕ
codes_at c = c.args.codes.now

abbrev counts_at : Else-not-is_roomy → List ℕ
counts_at c = c.args.counts.now

-- the buffers are roomy
roomy_here : (c : Else-not-is_roomy) → roomy (codes_at c) (counts_at c) ≡ true
roomy_here c = sym c.is_roomy.ensures ∙ c.if-not-is_roomy.false

room_here : (c : Else-not-is_roomy) → Roomy (codes_at c) (counts_at c)
room_here c = roomy_parts (codes_at c) (counts_at c) (roomy_here c)

named_here : (c : After-seek-found) → c.wide-named.result ≡ named_in (counts_at (goal.at.After-seek-found c).Else-not-is_roomy)
named_here c = c.wide-named.ensures.0

found_here : (c : After-seek-found)
    → c.seek-found.result ≡ sought_among (codes_at (goal.at.After-seek-found c).Else-not-is_roomy) (named_in (counts_at (goal.at.After-seek-found c).Else-not-is_roomy)) (code_at (goal.at.After-seek-found c).Else-not-is_roomy)
found_here c =
    c.seek-found.ensures ∙ ap (λ (n : ℕ). sought_among (codes_at (goal.at.After-seek-found c).Else-not-is_roomy) n (code_at (goal.at.After-seek-found c).Else-not-is_roomy)) (named_here c)

within_here : (c : After-seek-found) → Within (named_in (counts_at (goal.at.After-seek-found c).Else-not-is_roomy)) c.seek-found.result
within_here c =
    place-within (code_at (goal.at.After-seek-found c).Else-not-is_roomy) (codes_at (goal.at.After-seek-found c).Else-not-is_roomy) (counts_at (goal.at.After-seek-found c).Else-not-is_roomy) (roomy_here (goal.at.After-seek-found c).Else-not-is_roomy) c.if-code-eq0.false c.if-code-gt-CODE.false (found_here c)

-- named: its count
entry_here : (c : Then-found) → c.seek-found.result.at < codes_most
entry_here c = omega (arith, (within_here (goal.at.Then-found c).After-seek-found).entry c.if-found.true, (room_here (goal.at.Then-found c).Else-not-is_roomy).few_named)

free_here : (c : Else-named-eq-CODES) → named_in (counts_at (goal.at.Else-named-eq-CODES c).Else-not-is_roomy) < codes_most
free_here c =
    omega (arith, c.if-named-eq-CODES.false, named_here (goal.at.Else-named-eq-CODES c).After-seek-found, (room_here (goal.at.Else-named-eq-CODES c).Else-not-is_roomy).few_named)

pub shape_of-codes-then-not-is_roomy : goal.shape_of-codes-then-not-is_roomy
shape_of-codes-then-not-is_roomy c = refl

pub shape_of-counts-then-not-is_roomy : goal.shape_of-counts-then-not-is_roomy
shape_of-counts-then-not-is_roomy c = refl

pub returns-then-not-is_roomy : goal.returns-then-not-is_roomy
returns-then-not-is_roomy c =
    let a = c.args in
    not_roomy_adds a.code.now a.codes.now a.counts.now
    (sym c.is_roomy.ensures ∙ c.if-not-is_roomy.true)

pub shape_of-codes-then-code-eq0 : goal.shape_of-codes-then-code-eq0
shape_of-codes-then-code-eq0 c = refl

pub shape_of-counts-then-code-eq0 : goal.shape_of-counts-then-code-eq0
shape_of-counts-then-code-eq0 c = refl

pub returns-then-code-eq0 : goal.returns-then-code-eq0
returns-then-code-eq0 c = empty_adds (code_at (goal.at.returns-then-code-eq0 c).Else-not-is_roomy) (codes_at (goal.at.returns-then-code-eq0 c).Else-not-is_roomy) (counts_at (goal.at.returns-then-code-eq0 c).Else-not-is_roomy) (roomy_here (goal.at.returns-then-code-eq0 c).Else-not-is_roomy) c.if-code-eq0.true

pub shape_of-codes-then-code-gt-CODE : goal.shape_of-codes-then-code-gt-CODE
shape_of-codes-then-code-gt-CODE c = refl

pub shape_of-counts-then-code-gt-CODE : goal.shape_of-counts-then-code-gt-CODE
shape_of-counts-then-code-gt-CODE c = refl

pub returns-then-code-gt-CODE : goal.returns-then-code-gt-CODE
returns-then-code-gt-CODE c = long-adds (code_at (goal.at.returns-then-code-gt-CODE c).Else-not-is_roomy) (codes_at (goal.at.returns-then-code-gt-CODE c).Else-not-is_roomy) (counts_at (goal.at.returns-then-code-gt-CODE c).Else-not-is_roomy) (roomy_here (goal.at.returns-then-code-gt-CODE c).Else-not-is_roomy) c.if-code-eq0.false c.if-code-gt-CODE.true

pub bounds-counts-0 : goal.bounds-counts-0
bounds-counts-0 c = omega (arith, (room_here (goal.at.bounds-counts-0 c).Else-not-is_roomy).counts_room)

pub seek-found-requires : goal.seek-found-requires
seek-found-requires c =
    let r = room_here (goal.at.seek-found-requires c).Else-not-is_roomy in
    (omega (arith, c.wide-named.ensures.0, r.few_named), r.codes_room, c.if-code-gt-CODE.false)

pub overflow_add-found : goal.overflow_add-found
overflow_add-found c = omega (arith, entry_here (goal.at.overflow_add-found c).Then-found)

pub count_once_more-requires : goal.count_once_more-requires
count_once_more-requires c = omega (arith, entry_here (goal.at.count_once_more-requires c).Then-found, (room_here (goal.at.count_once_more-requires c).Else-not-is_roomy).counts_room)

pub shape_of-codes-then-found : goal.shape_of-codes-then-found
shape_of-codes-then-found c = refl

pub shape_of-counts-then-found : goal.shape_of-counts-then-found
shape_of-counts-then-found c = c.count_once_more.auto.counts

pub returns-then-found : goal.returns-then-found
returns-then-found c =
    counted-adds (code_at (goal.at.returns-then-found c).Else-not-is_roomy) (codes_at (goal.at.returns-then-found c).Else-not-is_roomy) (counts_at (goal.at.returns-then-found c).Else-not-is_roomy) (roomy_here (goal.at.returns-then-found c).Else-not-is_roomy) c.if-code-eq0.false c.if-code-gt-CODE.false
    (found_here (goal.at.returns-then-found c).After-seek-found) c.if-found.true c.count_once_more.ensures

pub shape_of-codes-then-named-eq-CODES : goal.shape_of-codes-then-named-eq-CODES
shape_of-codes-then-named-eq-CODES c = refl

pub shape_of-counts-then-named-eq-CODES : goal.shape_of-counts-then-named-eq-CODES
shape_of-counts-then-named-eq-CODES c = refl

-- not named
pub returns-then-named-eq-CODES : goal.returns-then-named-eq-CODES
returns-then-named-eq-CODES c =
    full_adds (code_at (goal.at.returns-then-named-eq-CODES c).Else-not-is_roomy) (codes_at (goal.at.returns-then-named-eq-CODES c).Else-not-is_roomy) (counts_at (goal.at.returns-then-named-eq-CODES c).Else-not-is_roomy) (roomy_here (goal.at.returns-then-named-eq-CODES c).Else-not-is_roomy) c.if-code-eq0.false c.if-code-gt-CODE.false
    (found_here (goal.at.returns-then-named-eq-CODES c).After-seek-found) c.if-found.false (sym (named_here (goal.at.returns-then-named-eq-CODES c).After-seek-found) ∙ c.if-named-eq-CODES.true)

pub insert-requires : goal.insert-requires
insert-requires c =
    record {
      short = c.if-code-gt-CODE.false;
      within = omega (arith, (within_here (goal.at.insert-requires c).After-seek-found).place, named_here (goal.at.insert-requires c).After-seek-found);
      free = omega (arith, free_here (goal.at.insert-requires c).Else-named-eq-CODES, named_here (goal.at.insert-requires c).After-seek-found);
      known = named_here (goal.at.insert-requires c).After-seek-found;
      room = roomy_here (goal.at.insert-requires c).Else-not-is_roomy;
    }

pub shape_of-codes : goal.shape_of-codes
shape_of-codes c = c.insert.auto.codes

pub shape_of-counts : goal.shape_of-counts
shape_of-counts c = c.insert.auto.counts

pub returns : goal.returns
returns c =
    inserted-adds (code_at (goal.at.returns c).Else-not-is_roomy) (codes_at (goal.at.returns c).Else-not-is_roomy) (counts_at (goal.at.returns c).Else-not-is_roomy) (roomy_here (goal.at.returns c).Else-not-is_roomy) c.if-code-eq0.false c.if-code-gt-CODE.false
    (found_here (goal.at.returns c).After-seek-found) c.if-found.false (free_here (goal.at.returns c).Else-named-eq-CODES) c.insert.ensures
