-- Which kinds may come next (rule V3): what the watcher's list of them says, by the grammar, and that it is the one that the loop fills in.
-- Assumes nothing.
use mathlib.Core.Bool.{Bool, true, false}
use mathlib.Core.List.{List, [], ◌∷◌, ◌++◌, append-nil}
use mathlib.Core.Logic.Iff
use mathlib.Core.Logic.{◌↔◌, ⊎_elim}
use mathlib.Core.Path.{◌≡◌, refl, sym, ap, ◌∙◌, subst⁻¹}
use Prim.Native.Nat.{ℕ, ◌+◌, ◌-◌, ◌≤◌, ◌<◌}
use native.Mathlib.Omega.{arith}
use lib.ListN.{length, get_or, set, replicate, drop_of_length-le}
use lib.Seq.{sets, sets-eq}
use Rattle.laws.specs.Tables.{values}
use Rattle.laws.proofs.Tables.{length-values, get_or_values_zero, values_turn, values-end, values_as, replicate-values}
use Rattle.laws.proofs.Tests.{either, never_both}
use Rattle.laws.proofs.Stores.{sets_first}
use Rattle.order.specs.Grammar.{Begins}
use Rattle.order.specs.Contexts.{grammar, is_context}
use Rattle.order.specs.Watcher.{begun, watched, said, next_kinds}
use Rattle.order.specs.inner.Followers.{as_entry, Follows, follows}
use Rattle.order.specs.inner.Telling.{tell_of, has_last, kinds_told}
use Rattle.order.specs.declared.watcher.Watcher.{Watcher}
use Rattle.order.proofs.Seven.{context_or_never, states}
use Rattle.order.proofs.States.{last_of}
use Rattle.order.proofs.Follow.{begins-more, follows_means}
use Rattle.order.proofs.Watched.{says, same-context, state_of, led, led_none, never-begins}
use Rattle.order.proofs.HasLast.{has_allows, no_last, bad_follows}

-- filling a table in, one entry after the other
module _ (f : ℕ → ℕ) (n : ℕ) where
  -- all entries stored over a list of their number are the table
  pub entries_begin : (l : List ℕ) → length l ≡ n → sets l 0 (values f 0 n) ≡ values f 0 n
  entries_begin l e =
      sets-eq (values f 0 n) l 0 (omega (arith, length-values f 0 n))
      ∙ ap (λ (r : List ℕ). values f 0 n ++ r) (drop_of_length-le l {i = 0 + length (values f 0 n)} (omega (arith, length-values f 0 n)))
      ∙ append-nil (values f 0 n)

  pub entries_turn : (l : List ℕ) (i : ℕ) → i < n → sets (set l i (f i)) (i + 1) (values f (i + 1) (n - (i + 1))) ≡ sets l i (values f i (n - i))
  entries_turn l i h = sym (ap (sets l i) (values_turn f i n h) ∙ sets_first l i (f i) (values f (i + 1) (n - (i + 1))))

  pub entries-end : (l : List ℕ) (i : ℕ) → n ≤ i → sets l i (values f i (n - i)) ≡ l
  entries-end l i h = ap (sets l i) (values-end f i n h)

-- an entry is a test, and is 1 exactly where the test holds
entry-holds : (t : Bool) → (as_entry t ≡ 1) ↔ (t ≡ true)
entry-holds true = (λ e. refl, λ e. refl)
entry-holds false = (λ e. let z : ⊥ = omega (arith, e) in absurd z, λ e. let z : ◌≡◌ {A = ℕ} 0 1 = cc in absurd (omega arith))

-- what the two ways of the code give: what the watcher says where the context has the last kind, and zeros where it has not
pub told-next : (w : Watcher) → has_last w.context w.last ≡ true → kinds_told w ≡ next_kinds w
unfolding kinds_told next_kinds
told-next w h =
    values_as (λ k. as_entry (tell_of w k).yes) (λ k. as_entry (follows w.context w.last k))
    (λ k. ap as_entry (says w k ∙ has_allows w.context w.last h k)) 0 13

pub none-next : (w : Watcher) → has_last w.context w.last ≡ false → replicate 13 0 ≡ next_kinds w
unfolding next_kinds
none-next w h =
    replicate-values 0 0 13
    ∙ values_as (λ k. 0) (λ k. as_entry (follows w.context w.last k)) (λ k. sym (ap as_entry (no_last w.context w.last h k))) 0 13

module _ (w : Watcher) where
  -- there is an entry for each kind
  pub next-length : length (next_kinds w) ≡ 13
  unfolding next_kinds
  next-length = length-values (λ k. as_entry (follows w.context w.last k)) 0 13

  -- it is 1 exactly where the grammar lets the kind come there
  next-follows : (k : ℕ) → k < 13 → (get_or (next_kinds w) k 0 ≡ 1) ↔ (follows w.context w.last k ≡ true)
  unfolding next_kinds
  next-follows k h =
      let entry = get_or_values_zero (λ j. as_entry (follows w.context w.last j)) 13 k 0 h in
      let holds = entry-holds (follows w.context w.last k) in
      (λ e. holds.0 (sym entry ∙ e), λ y. entry ∙ holds.1 y)

-- V3 by the context and a kind alone, whatever they are: a kind may come next exactly where some order that the context begins has the one, any number
-- of C, and then the other
pub next_means : (c : ℕ) → is_context c ≡ true → (x : ℕ) → 1 ≤ x → x ≤ 11 → (k : ℕ) → k < 13
    → (get_or (next_kinds (record { context = c; last = x })) k 0 ≡ 1) ↔ Follows c x k
next_means c t x low high k h = Iff.trans (next-follows (record { context = c; last = x }) k h) (follows_means c t x k low high)

-- by an order that the context begins: a kind may come next exactly where it begins a derived order behind it
pub next-after : (c : ℕ) → is_context c ≡ true → (w : List ℕ) → Begins (grammar c) w → (k : ℕ) → k < 13
    → (get_or (next_kinds (record { context = c; last = last_of 0 w })) k 0 ≡ 1) ↔ Begins (grammar c) (w ++ (k ∷ []))
next-after c t w b k h =
    let may = next-follows (record { context = c; last = last_of 0 w }) k h in
    let begins = begins-more c t w k b in
    (λ e. begins.1 (may.0 e), λ d. may.1 (begins.0 d))

-- and by a watcher that was begun with any number and told any kinds: behind those that it said yes to
pub next_exactly : (c : ℕ) (ks : List ℕ) (k : ℕ) → k < 13
    → (get_or (next_kinds (watched (begun c) ks)) k 0 ≡ 1) ↔ Begins (grammar c) (said (begun c) ks ++ (k ∷ []))
unfolding state_of
next_exactly c ks k h = ⊎_elim inside bad (either (is_context c))
  where
    inside : is_context c ≡ true → (get_or (next_kinds (watched (begun c) ks)) k 0 ≡ 1) ↔ Begins (grammar c) (said (begun c) ks ++ (k ∷ []))
    inside t =
        let l = led c t [] (begun c) (led_none c t) ks in
        subst⁻¹ (λ (w : Watcher). (get_or (next_kinds w) k 0 ≡ 1) ↔ Begins (grammar c) (said (begun c) ks ++ (k ∷ []))) l.0
        (next-after c t (said (begun c) ks) l.1 k h)

    bad : is_context c ≡ false → (get_or (next_kinds (watched (begun c) ks)) k 0 ≡ 1) ↔ Begins (grammar c) (said (begun c) ks ++ (k ∷ []))
    bad e =
        let w = watched (begun c) ks in
        let no = bad_follows w.context (ap is_context (same-context (begun c) ks) ∙ e) w.last k in (
          λ one. absurd (never_both ((next-follows w k h).0 one) no),
          λ d. absurd (⊎_elim (λ t. never_both t e) (λ n. never-begins c n (said (begun c) ks ++ (k ∷ [])) d) (context_or_never c)),
        )

-- Wrong functions: one that leaves C out, and one that lets an order of ORU go without a result. After OBR in ORU come OBX and C, and nothing else.
pub after-order_in_ORU : next_kinds (record { context = 6; last = 5 }) ≡ 0 ∷ 0 ∷ 0 ∷ 0 ∷ 0 ∷ 0 ∷ 1 ∷ 0 ∷ 0 ∷ 0 ∷ 0 ∷ 0 ∷ 1 ∷ []
unfolding next_kinds values follows states
after-order_in_ORU = refl

-- one that lets a C come after a kind that the context does not have
pub after_a_foreign_kind : next_kinds (record { context = 5; last = 6 }) ≡ 0 ∷ 0 ∷ 0 ∷ 0 ∷ 0 ∷ 0 ∷ 0 ∷ 0 ∷ 0 ∷ 0 ∷ 0 ∷ 0 ∷ 0 ∷ []
unfolding next_kinds values follows states
after_a_foreign_kind = refl

-- and one that is not asked what stands before: nothing comes after L, and before all only H
pub after-L : next_kinds (record { context = 6; last = 11 }) ≡ 0 ∷ 0 ∷ 0 ∷ 0 ∷ 0 ∷ 0 ∷ 0 ∷ 0 ∷ 0 ∷ 0 ∷ 0 ∷ 0 ∷ 0 ∷ []
unfolding next_kinds values follows states
after-L = refl

pub before-all : next_kinds (begun 6) ≡ 0 ∷ 1 ∷ 0 ∷ 0 ∷ 0 ∷ 0 ∷ 0 ∷ 0 ∷ 0 ∷ 0 ∷ 0 ∷ 0 ∷ 0 ∷ []
unfolding next_kinds values follows states
before-all = refl
