-- The watcher may go by the table or by the grammar: they agree at every state and every number. At a state that is reached it
-- allows exactly the kinds that leave something of the grammar.
-- Assumes nothing.
use mathlib.Core.Bool.{Bool, true, false, ◌&&◌, beq}
use mathlib.Core.List.{List}
use mathlib.Core.Logic.{⊎_elim}
use mathlib.Core.Path.{◌≡◌, refl, sym, ap, ◌∙◌}
use Prim.Native.Nat.{ℕ, zero, suc, ◌+◌, ◌*◌, ◌-◌, ◌≤◌, ◌<◌}
use native.Mathlib.Omega.{arith}
use borrow.Author.Tests.{leb-true, eqb-true, ne_eqb, eqb-false}
use lib.Dec.{leb, eqb}
use Rattle.laws.specs.inner.Tests.{below, every_from}
use Rattle.laws.proofs.Cases.{less_or_not}
use Rattle.laws.proofs.Tests.{and_where, where_holds, never-holds, equal_tests}
use Rattle.order.specs.Contexts.{is_context}
use Rattle.order.specs.inner.Place.{some_left}
use Rattle.order.specs.inner.Followers.{left_at, follows, as_entry, followers}
use Rattle.order.specs.inner.Telling.{InTable, follows_by, allows_c, allows_next, allows, took_kind, tell_by, tell_of}
use Rattle.order.specs.declared.watcher.Watcher.{Watcher}
use Rattle.order.specs.declared.watcher.Told.{Told}
use Rattle.order.proofs.Seven.{all_seven₃, context-from, context-to, states}
use Rattle.order.proofs.States.{kind-left}
use Rattle.order.proofs.Follow.{entry}
use Rattle.order.proofs.Allowing.{allows-other, first_is_H, kind_above}

-- the table lists what the grammar says may follow

entry-follows_by : (b : Bool) → eqb (as_entry b) 1 ≡ b
entry-follows_by true = refl
entry-follows_by false = refl

pub follows_by-follows : (c x k : ℕ) → InTable c x k → follows_by followers c x k ≡ follows c x k
unfolding follows_by
follows_by-follows zero x k t = let z : ⊥ = omega arith in absurd z
follows_by-follows (suc c) zero k t = let z : ⊥ = omega arith in absurd z
follows_by-follows (suc c) (suc x) zero t = let z : ⊥ = omega arith in absurd z
follows_by-follows (suc c) (suc x) (suc k) t =
    let e : (suc c - 1) * 121 + (suc x - 1) * 11 + (suc k - 1) ≡ c * 121 + x * 11 + k = omega arith in
    rw (e, entry c x k (omega arith) (omega arith) (omega arith)) (entry-follows_by (follows (suc c) (suc x) (suc k)))

-- two ways to say what may follow that agree within the table allow the same

other_case : (b x y z : Bool) → (b ≡ false → y ≡ z) → ◌≡◌ {A = Bool} (elim b [ true ↦ x | false ↦ y ]) (elim b [ true ↦ x | false ↦ z ])
other_case true x y z h = refl
other_case false x y z h = h refl

not_zero : (x : ℕ) → eqb x 0 ≡ false → 1 ≤ x
not_zero x e = let n = eqb-false x 0 e in omega arith

module _ (may might : ℕ → ℕ → ℕ → Bool) (same : (c x k : ℕ) → InTable c x k → may c x k ≡ might c x k) (c x k : ℕ) where
  same_next : is_context c ≡ true → allows_next may c x k ≡ allows_next might c x k
  unfolding allows_next
  same_next t =
      other_case (eqb x 0) (eqb k 1) (leb x 11 && (leb 1 k && (leb k 11 && may c x k))) (leb x 11 && (leb 1 k && (leb k 11 && might c x k)))
      (λ e. and_where (leb x 11) (leb 1 k && (leb k 11 && may c x k)) (leb 1 k && (leb k 11 && might c x k))
      (λ l. and_where (leb 1 k) (leb k 11 && may c x k) (leb k 11 && might c x k)
      (λ f. and_where (leb k 11) (may c x k) (might c x k) (λ g. same c x k (within e l f g)))))
    where
      within : eqb x 0 ≡ false → leb x 11 ≡ true → leb 1 k ≡ true → leb k 11 ≡ true → InTable c x k
      within e l f g = record {
        context-from = context-from c t;
        context-to = context-to c t;
        last-from = not_zero x e;
        last-to = leb-true x 11 l;
        kind-from = leb-true 1 k f;
        kind-to = leb-true k 11 g;
      }

  pub same-allows : allows may c x k ≡ allows might c x k
  unfolding allows
  same-allows =
      and_where (is_context c) (elim (eqb k 12) [ true ↦ allows_c x | false ↦ allows_next may c x k ]) (elim (eqb k 12) [ true ↦ allows_c x | false ↦ allows_next might c x k ])
      (λ t. other_case (eqb k 12) (allows_c x) (allows_next may c x k) (allows_next might c x k) (λ e. same_next t))

-- the watcher hands back the same by the table as by the grammar
pub by_table : (w : Watcher) (k : ℕ) → tell_by (follows_by followers) w k ≡ tell_of w k
unfolding tell_by tell_of
by_table w k =
    ap {B = Told} (λ (b : Bool). elim b [ true ↦ record { watcher = took_kind w k; yes = true } | false ↦ record { watcher = w; yes = false } ])
    (same-allows (follows_by followers) follows follows_by-follows w.context w.last k)

pub by_this_table : (table : List ℕ) → table ≡ followers → (w : Watcher) (k : ℕ) → tell_by (follows_by table) w k ≡ tell_of w k
by_this_table table e w k = ap (λ (l : List ℕ). tell_by (follows_by l) w k) e ∙ by_table w k

-- at a state that is reached the cases of `allows` say what is left of the grammar

agrees : ℕ → ℕ → ℕ → Bool
agrees c x k = elim (some_left (left_at c x)) [ true ↦ beq (allows follows c x k) (follows c x k) | false ↦ true ]

all-agree : below 7 (λ i. below 12 (λ x. below 13 (λ k. agrees (suc i) x k))) ≡ true
unfolding agrees allows allows_c allows_next is_context follows states every_from
all-agree = refl

module _ (c : ℕ) (t : is_context c ≡ true) (x : ℕ) (hx : x < 12) (left : some_left (left_at c x) ≡ true) where
  kinds-agree : (k : ℕ) → k < 13 → allows follows c x k ≡ follows c x k
  unfolding agrees
  kinds-agree k hk =
      equal_tests (allows follows c x k) (follows c x k)
      (where_holds (beq (allows follows c x k) (follows c x k)) left (all_seven₃ 12 13 agrees all-agree c t x hx k hk))

  others-agree : (k : ℕ) → 13 ≤ k → allows follows c x k ≡ follows c x k
  unfolding follows
  others-agree k over =
      allows-other follows c x k t (λ e. let z : ⊥ = omega arith in z) ∙ no_next (eqb x 0) refl
      ∙ sym (never-holds (follows c x k) (λ s. let h : k < 13 = kind-left c t x k hx s in let z : ⊥ = omega arith in z))
    where
      no_next : (b : Bool) → eqb x 0 ≡ b → allows_next follows c x k ≡ false
      no_next true e = first_is_H follows c x k (eqb-true x 0 e) ∙ ne_eqb k 1 (λ q. let z : ⊥ = omega arith in z)
      no_next false e = kind_above follows c x k (eqb-false x 0 e) (omega arith)

  pub allows-follows : (k : ℕ) → allows follows c x k ≡ follows c x k
  allows-follows k = ⊎_elim (kinds-agree k) (others-agree k) (less_or_not k 13)
