-- Each public function's contract has one answer: two that satisfy it, at the same arguments, are equal. Nothing that is lent changes.
-- Assumes nothing.
use mathlib.Core.Bool.{Bool}
use mathlib.Core.List.{List}
use mathlib.Core.Path.{◌≡◌}
use Prim.Native.Nat.{ℕ}
use denote.Ref.{Bor}
use Rattle.laws.specs.Lists.{same}
use Rattle.laws.specs.Parts.{whole_of}
use Rattle.laws.proofs.Equality.{only_one}
use Rattle.table.specs.declared.Card.{Card}
use Rattle.table.specs.Lent.{Lent}
use Rattle.look.specs.declared.leaf.Sought.{Sought}
use Rattle.look.specs.declared.leaf.Place.{Place}
use Rattle.look.specs.Looking.{sought_number, is_order}
use Rattle.look.specs.Matches.{looked_up}
use Rattle.look.specs.inner.Searching.{sought_in, sought_in_segment, row_after, same_order}

pub find_leaf : (t : Lent) (p : Place) (r s : Sought) → r ≡ sought_in t p → s ≡ sought_in t p → r ≡ s
find_leaf t p r s h k = only_one h k

pub find_leaf_in_segment : (t : Lent) (p : Place) (r s : Sought) → r ≡ sought_in_segment t p → s ≡ sought_in_segment t p → r ≡ s
find_leaf_in_segment t p r s h k = only_one h k

pub number : (sought : Sought) (r s : ℕ) → r ≡ sought_number sought → s ≡ sought_number sought → r ≡ s
number sought r s h k = only_one h k

-- the same part: block, offset and bytes
pub leaf-text : (card : Card) (segments leaves : List ℕ) (text : Bor (List ℕ)) (p : Place) (substitute r s : Bor (List ℕ))
    → whole_of r ≡ looked_up card segments leaves text p substitute → whole_of s ≡ looked_up card segments leaves text p substitute
    → whole_of r ≡ whole_of s
leaf-text card segments leaves text p substitute r s h k = only_one h k

pub next_row : (rows : List ℕ) (count after kind owner r s : ℕ)
    → r ≡ row_after rows count after kind owner → s ≡ row_after rows count after kind owner → r ≡ s
next_row rows count after kind owner r s h k = only_one h k

pub same-order : (t : Lent) (row : ℕ) (u : Lent) (other : ℕ) (r s : Bool) → r ≡ same_order t row u other → s ≡ same_order t row u other → r ≡ s
same-order t row u other r s h k = only_one h k

pub is_order_lem : (rows : List ℕ) (count row : ℕ) (r s : Bool) → r ≡ is_order rows count row → s ≡ is_order rows count row → r ≡ s
is_order_lem rows count row r s h k = only_one h k

pub same_bytes : (text other : List ℕ) (r s : Bool) → r ≡ same text other → s ≡ same text other → r ≡ s
same_bytes text other r s h k = only_one h k
