-- When a watcher allows a kind: the equations of `allows` and `tell_by`, one a case.
-- Assumes nothing.
use mathlib.Core.Bool.{Bool, true, false, ◌&&◌, and-false}
use mathlib.Core.Path.{◌≡◌, ◌∙◌}
use Prim.Native.Nat.{ℕ, ◌≤◌, ◌<◌}
use lib.Dec.{leb, ltb, eqb}
use borrow.Author.Tests.{le-leb, lt-leb, eq-eqb, ne_eqb}
use Rattle.order.specs.Contexts.{is_context}
use Rattle.order.specs.inner.Telling.{InTable, allows_c, allows_next, allows, took_kind, tell_by}
use Rattle.order.specs.declared.watcher.Watcher.{Watcher}

-- C
pub no_C_first : (x : ℕ) → x < 1 → allows_c x ≡ false
unfolding allows_c
no_C_first x h = rw (lt-leb 1 x h, allows_c)

pub C_after : (x : ℕ) → 1 ≤ x → allows_c x ≡ ltb x 11
unfolding allows_c
C_after x h = rw (le-leb 1 x h, allows_c)

-- the context
pub no_context_below : (c : ℕ) → c < 1 → is_context c ≡ false
unfolding is_context
no_context_below c h = rw (lt-leb 1 c h, is_context)

pub no_context_above : (c : ℕ) → 7 < c → is_context c ≡ false
unfolding is_context
no_context_above c h = rw (lt-leb c 7 h, and-false (leb 1 c))

module _ (may : ℕ → ℕ → ℕ → Bool) (c x k : ℕ) where
  pub no_context_no : is_context c ≡ false → allows may c x k ≡ false
  unfolding allows
  no_context_no e = rw (e, allows)

  pub context-below : c < 1 → allows may c x k ≡ false
  context-below h = no_context_no (no_context_below c h)

  pub context_above : 7 < c → allows may c x k ≡ false
  context_above h = no_context_no (no_context_above c h)

  -- kinds that are no C
  module _ (in_context : is_context c ≡ true) where
    pub allows_C : k ≡ 12 → allows may c x k ≡ allows_c x
    unfolding allows
    allows_C e = rw (in_context, eq-eqb k 12 e, allows)

    pub allows-other : (k ≡ 12 → ⊥) → allows may c x k ≡ allows_next may c x k
    unfolding allows
    allows-other n = rw (in_context, ne_eqb k 12 n, allows)

  pub first_is_H : x ≡ 0 → allows_next may c x k ≡ eqb k 1
  unfolding allows_next
  first_is_H e = rw (eq-eqb x 0 e, allows_next)

  next : (x ≡ 0 → ⊥) → allows_next may c x k ≡ (leb x 11 && (leb 1 k && (leb k 11 && may c x k)))
  unfolding allows_next
  next n = rw (ne_eqb x 0 n, allows_next)

  pub last_above : (x ≡ 0 → ⊥) → 11 < x → allows_next may c x k ≡ false
  last_above n h = next n ∙ (rw (lt-leb x 11 h))

  pub kind-below : (x ≡ 0 → ⊥) → k < 1 → allows_next may c x k ≡ false
  kind-below n h = next n ∙ (rw (lt-leb 1 k h, and-false (leb x 11)))

  pub kind_above : (x ≡ 0 → ⊥) → 11 < k → allows_next may c x k ≡ false
  kind_above n h = next n ∙ (rw (lt-leb k 11 h, and-false (leb 1 k), and-false (leb x 11)))

  pub kind-within : InTable c x k → (x ≡ 0 → ⊥) → allows_next may c x k ≡ may c x k
  kind-within t n = next n ∙ (rw (le-leb x 11 t.last-to, le-leb 1 k t.kind-from, le-leb k 11 t.kind-to))

-- what a watcher hands back
module _ (w : Watcher) (k : ℕ) where
  pub took_C : k ≡ 12 → took_kind w k ≡ w
  unfolding took_kind
  took_C e = rw (eq-eqb k 12 e, took_kind)

  pub took_other : (k ≡ 12 → ⊥) → took_kind w k ≡ record { context = w.context; last = k }
  unfolding took_kind
  took_other n = rw (ne_eqb k 12 n, took_kind)

  module _ (may : ℕ → ℕ → ℕ → Bool) where
    pub says-yes : allows may w.context w.last k ≡ true → tell_by may w k ≡ record { watcher = took_kind w k; yes = true }
    unfolding tell_by
    says-yes e = rw (e, tell_by)

    pub says_no : allows may w.context w.last k ≡ false → tell_by may w k ≡ record { watcher = w; yes = false }
    unfolding tell_by
    says_no e = rw (e, tell_by)
