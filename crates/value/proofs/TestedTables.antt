-- What the search for an order's results may count on, of every lent table that passes the table test (W4): it may be searched, and what an order owns
-- lies behind it and together (O2, O3).
-- Assumes nothing.
use mathlib.Core.Bool.{true}
use mathlib.Core.List.{List}
use mathlib.Core.Path.{◌≡◌}
use Prim.Native.Nat.{ℕ, ◌-◌, ◌<◌}
use native.Mathlib.Omega.{arith}
use Rattle.form.specs.declared.limits.Limits.{Limits}
use Rattle.form.specs.declared.separators.Separators.{Separators}
use Rattle.form.specs.Limits.{Lawful}
use Rattle.order.proofs.Together.{owner-before, past_owner}
use Rattle.table.specs.Lent.{Lent, counted}
use Rattle.table.specs.Rows.{width, kinds_of, context_in}
use Rattle.table.proofs.Accepting.{Judged}
use Rattle.write.specs.inner.ReadsBack.{is_table}
use Rattle.look.specs.Looking.{order_at}
use Rattle.look.proofs.Orders.{order_is}
use Rattle.tested.proofs.LentRows.{kind-count, owner_of_row, no_C}
use Rattle.tested.proofs.PassedTables.{read-to, searchable}
use Rattle.value.specs.inner.Seeking.{Together, OrderRows}

-- what an order owns lies behind it and together, of a lent table whose counted entries are the table of joined segments
together_here : {L : Limits} {levels : ℕ → ℕ → ℕ} {ps : Separators} {segs : List (List ℕ)} (t : Lent) → Judged L levels ps segs (counted t)
    → (order : ℕ) → order_at t order ≡ true → Together t order
together_here {L} {levels} {ps} {segs} t w order is =
    let lv = levels (context_in ps segs) in
    let kinds = kinds_of ps segs in
    let at-order = order_is t order is in
    record {
      earlier = λ i h. omega (arith, owner_of_row t w i h, owner-before lv kinds i (omega (arith, h, kind-count t w)));
      ends = λ j k behind up h gone kind own.
          past_owner lv kinds (order - 1) j k (omega (arith, at-order.first, behind)) up (omega (arith, h, kind-count t w))
          (no_C t w (order - 1) (omega (arith, at-order.first, at-order.counts)) (λ e. omega (arith, e, at-order.kind)))
          (no_C t w k h (λ e. omega (arith, e, kind)))
          (omega (arith, gone, at-order.first, owner_of_row t w j (omega (arith, up, h))))
          (omega (arith, own, at-order.first, owner_of_row t w k h));
    }

-- of a lent table that passes the table test
module _ (L : Limits) (lawful : Lawful L) (levels : ℕ → ℕ → ℕ) (t : Lent) (passes : is_table L levels t ≡ true) where
  -- what an order of it owns lies behind the order and together
  pub together : (order : ℕ) → order_at t order ≡ true → Together t order
  together order is = together_here t (read-to L lawful levels t passes).1.segments order is

  -- so every row that the test of an order takes is an order to search
  pub order-rows : L.segments < width → (order : ℕ) → order_at t order ≡ true → OrderRows t order
  order-rows small order is =
      let at-order = order_is t order is in
      record { table = searchable L lawful levels t passes small; together = together order is; first = at-order.first; counts = at-order.counts }
