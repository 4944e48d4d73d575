-- What the contracts rule out: a watcher that says yes always, or no always, or that changes on a no; numbers that are no kinds, and
-- kinds after L; an owner that is a C. And that the two levels differ: an order and an invoice that the former ones give other owners.
-- Assumes nothing.
use mathlib.Core.Bool.{Bool, true, false, not, and-false, true≢false, false≢true}
use mathlib.Core.List.{List, [], ◌∷◌}
use mathlib.Core.Logic.{◌⊎◌, ⊎_elim}
use mathlib.Core.Path.{◌≡◌, refl, sym, ap, ◌∙◌}
use Prim.Native.Nat.{ℕ, suc, ◌≤◌}
use native.Mathlib.Omega.{arith}
use lib.Dec.{leb, eqb}
use lib.ListN.{get_or}
use borrow.Author.Tests.{eqb-true, eqb-false, ne_eqb, not-true}
use Rattle.laws.specs.Tables.{values}
use Rattle.laws.specs.inner.Tests.{below, every_from}
use Rattle.laws.proofs.Cases.{less_or_not}
use Rattle.laws.proofs.Tests.{never-holds}
use Rattle.order.specs.Contexts.{is_context}
use Rattle.order.specs.Owners.{levels, former_levels, level, former_level, nearest, is_c, owner, owners_after, owners}
use Rattle.order.specs.inner.Followers.{follows}
use Rattle.order.specs.inner.Levels.{level_table_of, level_table, former_level_table}
use Rattle.order.specs.Watcher.{begun}
use Rattle.order.specs.inner.Telling.{allows_c, allows_next, allows, tell_by, tell_of}
use Rattle.order.specs.declared.watcher.Watcher.{Watcher}
use Rattle.order.specs.declared.watcher.Told.{Told}
use Rattle.order.proofs.Seven.{all_seven₂, states}
use Rattle.order.proofs.States.{kind-left}
use Rattle.order.proofs.Allowing.{no_context_no, allows_C, allows-other, first_is_H, kind-below, kind_above}
use Rattle.order.proofs.Watched.{says, stays}

-- what meets the contract of `tell`
module _ (f : Watcher → ℕ → Told) (meets : (w : Watcher) (k : ℕ) → f w k ≡ tell_of w k) where
  pub yes_always : ((w : Watcher) (k : ℕ) → (f w k).yes ≡ true) → ⊥
  unfolding tell_of tell_by allows is_context
  yes_always h = true≢false (sym (h (begun 0) 1) ∙ ap (λ (r : Told). r.yes) (meets (begun 0) 1))

  pub no_always : ((w : Watcher) (k : ℕ) → (f w k).yes ≡ false) → ⊥
  unfolding tell_of tell_by allows allows_next is_context
  no_always h = false≢true (sym (h (begun 1) 1) ∙ ap (λ (r : Told). r.yes) (meets (begun 1) 1))

  pub changes_on_a_no : (w : Watcher) (k : ℕ) → (f w k).yes ≡ false → (f w k).watcher ≡ w
  changes_on_a_no w k e =
      ap (λ (r : Told). r.watcher) (meets w k) ∙ stays w k (ap (λ (r : Told). r.yes) (sym (meets w k)) ∙ e)

-- numbers that are no kinds: 0, and 13 on

no_kind_next : (c x k : ℕ) → (k ≡ 0) ⊎ (13 ≤ k) → (b : Bool) → eqb x 0 ≡ b → allows_next follows c x k ≡ false
no_kind_next c x k h true e =
    first_is_H follows c x k (eqb-true x 0 e) ∙ ne_eqb k 1 (λ q. ⊎_elim (λ z. let n : ⊥ = omega arith in n) (λ l. let n : ⊥ = omega arith in n) h)
no_kind_next c x k h false e =
    ⊎_elim (λ z. kind-below follows c x k (eqb-false x 0 e) (omega arith)) (λ l. kind_above follows c x k (eqb-false x 0 e) (omega arith)) h

-- where a watcher of a context says no, a watcher says no
no_by : (w : Watcher) (k : ℕ) → (is_context w.context ≡ true → allows follows w.context w.last k ≡ false) → (tell_of w k).yes ≡ false
no_by w k h = says w k ∙ by (is_context w.context) refl
  where
    by : (b : Bool) → is_context w.context ≡ b → allows follows w.context w.last k ≡ false
    by true e = h e
    by false e = no_context_no follows w.context w.last k e

pub no_kind_no : (w : Watcher) (k : ℕ) → (k ≡ 0) ⊎ (13 ≤ k) → (tell_of w k).yes ≡ false
no_kind_no w k h =
    no_by w k
    (λ e. allows-other follows w.context w.last k e (λ q. ⊎_elim (λ z. let n : ⊥ = omega arith in n) (λ l. let n : ⊥ = omega arith in n) h)
    ∙ no_kind_next w.context w.last k h (eqb w.last 0) refl)

-- after L

none-after-L : below 7 (λ i. below 13 (λ k. not (follows (suc i) 11 k))) ≡ true
unfolding follows states every_from
none-after-L = refl

no_follower : (c : ℕ) → is_context c ≡ true → (k : ℕ) → follows c 11 k ≡ false
unfolding follows
no_follower c t k =
    ⊎_elim
    (λ h. not-true (follows c 11 k) (all_seven₂ 13 (λ n j. not (follows n 11 j)) none-after-L c t k h))
    (λ h. never-holds (follows c 11 k) (λ s. let l = kind-left c t 11 k (omega arith) s in let n : ⊥ = omega arith in n))
    (less_or_not k 13)

L-next : (c : ℕ) → is_context c ≡ true → (k : ℕ) (b : Bool) → eqb k 12 ≡ b → allows follows c 11 k ≡ false
unfolding allows_c allows_next
L-next c t k true e = allows_C follows c 11 k t (eqb-true k 12 e)
L-next c t k false e =
    allows-other follows c 11 k t (eqb-false k 12 e)
    ∙ (rw (no_follower c t k, and-false (leb k 11), and-false (leb 1 k)))

pub after-L_no : (c k : ℕ) → (tell_of (record { context = c; last = 11 }) k).yes ≡ false
after-L_no c k = no_by (record { context = c; last = 11 }) k (λ e. L-next c e k (eqb k 12) refl)

-- a table of one of the two levels for that of the other: they differ at the OBR of ORA, entry 29
module _ (r : List ℕ) where
  order-level : r ≡ level_table → get_or r 29 0 ≡ 3
  unfolding level_table level_table_of level levels values
  order-level e = ap (λ (t : List ℕ). get_or t 29 0) e

  former-order-level : r ≡ former_level_table → get_or r 29 0 ≡ 5
  unfolding former_level_table level_table_of former_level former_levels values
  former-order-level e = ap (λ (t : List ℕ). get_or t 29 0) e

  pub former_for_present : r ≡ level_table → r ≡ former_level_table → ⊥
  former_for_present e f = omega (arith, order-level e, former-order-level f)

  -- and a table of the former levels whose OBR of ORA would belong to the AP, whatever AC there is
  pub order-under-AP : r ≡ former_level_table → get_or r 29 0 ≡ 4 → ⊥
  order-under-AP f four = omega (arith, former-order-level f, four)

-- H, P, AP, AC, AC, OBR, L in ORA, which is K11: the owner of the OBR is 2, and was 5
pub order-moved : (owners (level 3) (1 ∷ 2 ∷ 3 ∷ 4 ∷ 4 ∷ 5 ∷ 11 ∷ []) ≡ 0 ∷ 1 ∷ 2 ∷ 3 ∷ 3 ∷ 2 ∷ 0 ∷ [])
    × (owners (former_level 3) (1 ∷ 2 ∷ 3 ∷ 4 ∷ 4 ∷ 5 ∷ 11 ∷ []) ≡ 0 ∷ 1 ∷ 2 ∷ 3 ∷ 3 ∷ 5 ∷ 0 ∷ [])
unfolding owners owners_after owner nearest is_c level levels former_level former_levels
order-moved = (refl, refl)

-- H, P, AP, AC, FAC, REG, ACT, L in FAC: the owner of the FAC is 2, and was 4; that of the ACT is 5, and was 6
pub invoice-moved : (owners (level 7) (1 ∷ 2 ∷ 3 ∷ 4 ∷ 7 ∷ 8 ∷ 9 ∷ 11 ∷ []) ≡ 0 ∷ 1 ∷ 2 ∷ 3 ∷ 2 ∷ 5 ∷ 5 ∷ 0 ∷ [])
    × (owners (former_level 7) (1 ∷ 2 ∷ 3 ∷ 4 ∷ 7 ∷ 8 ∷ 9 ∷ 11 ∷ []) ≡ 0 ∷ 1 ∷ 2 ∷ 3 ∷ 4 ∷ 5 ∷ 6 ∷ 0 ∷ [])
unfolding owners owners_after owner nearest is_c level levels former_level former_levels
invoice-moved = (refl, refl)
