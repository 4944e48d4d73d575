-- The parts of the table test put together: the leaf rows, and the order of the kinds.
-- Assumes nothing.
use mathlib.Core.Bool.{Bool, true, false, not, ◌&&◌}
use mathlib.Core.List.{List}
use mathlib.Core.Path.{◌≡◌, sym, ap, ◌∙◌}
use Prim.Native.Nat.{ℕ}
use lib.Dec.{eqb}
use Rattle.laws.proofs.Tests.{and_passed, and_both, and_fails_first, and_fails_second}
use Rattle.form.specs.declared.separators.Separators.{Separators}
use Rattle.form.specs.Header.{all_allowed, different, five, splitting}
use Rattle.order.specs.inner.Place.{misplaced}
use Rattle.table.specs.inner.Back.{separators_at}
use Rattle.table.specs.inner.BySegment.{context_among}
use Rattle.table.specs.inner.RowTests.{go_on_from}
use Rattle.write.specs.inner.Local.{third_place}
use Rattle.write.specs.inner.Tests.{groups_in, leaves_between, header_leaves_at, kind_column, sound_leaves, in_order}

module _ (field : ℕ) (rows text : List ℕ) (count : ℕ) where
  abbrev rule : Separators → Bool
  rule s = all_allowed (five s) && different (five s)

  abbrev others : Separators → Bool
  others s = go_on_from (splitting s) third_place (leaves_between rows text 2 count)

  pub no_header : header_leaves_at rows text ≡ false → false ≡ sound_leaves field rows text count
  unfolding sound_leaves
  no_header e = sym (and_fails_first (others (separators_at field rows text)) (and_fails_first (rule (separators_at field rows text)) e))

  module _ {s : Separators} (e : s ≡ separators_at field rows text) where
    pub no_rule : rule s ≡ false → false ≡ sound_leaves field rows text count
    unfolding sound_leaves
    no_rule f =
        sym (and_fails_first (others (separators_at field rows text)) (and_fails_second (header_leaves_at rows text) (ap rule (sym e) ∙ f)))

    pub others_decide : header_leaves_at rows text ≡ true → rule s ≡ true → others s ≡ sound_leaves field rows text count
    unfolding sound_leaves
    others_decide h f = ap others e ∙ sym (and_passed (others (separators_at field rows text)) (and_both h (ap rule (sym e) ∙ f)))

module _ (context : ℕ) (segments : List ℕ) (many : ℕ) (rows text : List ℕ) (count : ℕ) where
  abbrev named : ℕ
  named = context_among (groups_in rows text count)

  abbrev ordered : Bool
  ordered = eqb (misplaced context (kind_column segments many)) 0

  -- as the code tests it
  module _ {r : Bool} (said : r ≡ (not (eqb context 0) && eqb named context)) where
    pub other-context : r ≡ false → r ≡ in_order context segments many rows text count
    unfolding in_order
    other-context e = e ∙ sym (and_fails_first ordered (sym said ∙ e))

    pub order_decides : r ≡ true → ordered ≡ in_order context segments many rows text count
    unfolding in_order
    order_decides e = sym (and_passed ordered (sym said ∙ e))
