-- The tests of two tables and of an outcome say what they are named for: two tables are the same exactly where they are equal, and an
-- outcome gives a table exactly where it is accepted with it.
-- Assumes nothing.
use mathlib.Core.Bool.{true, ◌&&◌, false≢true}
use mathlib.Core.Logic.{◌↔◌}
use mathlib.Core.Path.{◌≡◌, refl, sym, ap, ◌∙◌}
use mathlib.Core.List.{List}
use Prim.Native.Nat.{ℕ}
use native.Mathlib.Omega.{arith}
use lib.Dec.{eqb}
use borrow.Author.Tests.{eqb-true, eq-eqb}
use Rattle.laws.specs.Lists.{same}
use Rattle.laws.proofs.Lists.{same_self, same_equal}
use Rattle.laws.proofs.Tests.{and_first, and_second, and_both}
use Rattle.table.specs.declared.Card.{Card}
use Rattle.table.specs.Rows.{Table}
use Rattle.table.specs.Reading.{Outcome, refused, accepted}
use Rattle.write.specs.inner.ReadsBack.{same_card, same_table, gives_table}

-- cards of the same numbers are equal, and tables of the same parts
card_of : ℕ → ℕ → ℕ → ℕ → ℕ → Card
card_of separator context segments leaves text =
    record { separator = separator; context = context; segments = segments; leaves = leaves; text = text }

pub same_numbers : (c d : Card) → c.separator ≡ d.separator → c.context ≡ d.context → c.segments ≡ d.segments
    → c.leaves ≡ d.leaves → c.text ≡ d.text → c ≡ d
unfolding card_of
same_numbers c d separator context segments leaves text =
    let made
    : card_of c.separator c.context c.segments c.leaves c.text
    ≡ card_of d.separator d.context d.segments d.leaves d.text = cc in
    made

table_from : Card → List ℕ → List ℕ → List ℕ → Table
table_from card segment_rows leaf_rows text = record { card = card; segment_rows = segment_rows; leaf_rows = leaf_rows; text = text }

pub same_parts : (t u : Table) → t.card ≡ u.card → t.segment_rows ≡ u.segment_rows → t.leaf_rows ≡ u.leaf_rows
    → t.text ≡ u.text → t ≡ u
unfolding table_from
same_parts t u card segment_rows leaf_rows text =
    let made
    : table_from t.card t.segment_rows t.leaf_rows t.text ≡ table_from u.card u.segment_rows u.leaf_rows u.text = cc in
    made

-- cards
pub card_self : (c : Card) → same_card c c ≡ true
unfolding same_card
card_self c =
    and_both
    (and_both
    (and_both
    (and_both (eq-eqb c.separator c.separator refl) (eq-eqb c.context c.context refl))
    (eq-eqb c.segments c.segments refl))
    (eq-eqb c.leaves c.leaves refl))
    (eq-eqb c.text c.text refl)

pub card_equal : (c d : Card) → same_card c d ≡ true → c ≡ d
unfolding same_card
card_equal c d h =
    let a = eqb c.separator d.separator in
    let b = eqb c.context d.context in
    let e = eqb c.segments d.segments in
    let f = eqb c.leaves d.leaves in
    let g = eqb c.text d.text in
    let h4 = and_first (a && b && e && f) g h in
    let h3 = and_first (a && b && e) f h4 in
    let h2 = and_first (a && b) e h3 in
    same_numbers c d (eqb-true c.separator d.separator (and_first a b h2))
    (eqb-true c.context d.context (and_second a b h2))
    (eqb-true c.segments d.segments (and_second (a && b) e h3))
    (eqb-true c.leaves d.leaves (and_second (a && b && e) f h4))
    (eqb-true c.text d.text (and_second (a && b && e && f) g h))

-- tables
pub table_self : (t : Table) → same_table t t ≡ true
unfolding same_table
table_self t =
    and_both
    (and_both (and_both (card_self t.card) (same_self t.segment_rows)) (same_self t.leaf_rows))
    (same_self t.text)

pub table_equal : (t u : Table) → same_table t u ≡ true → t ≡ u
unfolding same_table
table_equal t u h =
    let a = same_card t.card u.card in
    let b = same t.segment_rows u.segment_rows in
    let e = same t.leaf_rows u.leaf_rows in
    let f = same t.text u.text in
    let h3 = and_first (a && b && e) f h in
    let h2 = and_first (a && b) e h3 in
    same_parts t u (card_equal t.card u.card (and_first a b h2))
    (same_equal t.segment_rows u.segment_rows (and_second a b h2))
    (same_equal t.leaf_rows u.leaf_rows (and_second (a && b) e h3))
    (same_equal t.text u.text (and_second (a && b && e) f h))

pub same_tables : (t u : Table) → (same_table t u ≡ true) ↔ (t ≡ u)
same_tables t u = (table_equal t u, λ e. ap (same_table t) (sym e) ∙ table_self t)

-- outcomes
pub gives-accepted : (t : Table) (o : Outcome) → (gives_table t o ≡ true) ↔ (o ≡ accepted t)
unfolding gives_table
gives-accepted t (refused n p) = (λ h. absurd (false≢true h), λ e. let z : ◌≡◌ {A = ℕ} 0 1 = cc in absurd (omega arith))
gives-accepted t (accepted u) =
    (λ h. ap accepted (sym (table_equal t u h)), λ e. ap (same_table t) (let z : u ≡ t = cc in z) ∙ table_self t)
