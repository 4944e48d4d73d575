-- The watcher's theorem (rules V1 and V2): it answers yes where its earlier yeses and the kind behind them begin a derived order, and nowhere else.
-- Assumes nothing.
use mathlib.Core.Bool.{Bool, true, false}
use mathlib.Core.List.{List, [], ◌∷◌, ◌++◌, append_assoc, append-nil}
use mathlib.Core.Logic.{⊎_elim, ◌↔◌}
use mathlib.Core.Path.{◌≡◌, refl, sym, ap, ◌∙◌, subst, subst⁻¹}
use Prim.Native.Nat.{ℕ}
use lib.Dec.{eqb}
use borrow.Author.Tests.{eqb-true, eqb-false}
use Rattle.laws.proofs.Tests.{never_both}
use Rattle.order.specs.Grammar.{Shape, never, Begins}
use Rattle.order.specs.Contexts.{grammar, is_context}
use Rattle.order.specs.inner.Place.{rows_after, some_left}
use Rattle.order.specs.inner.Followers.{left_at, follows}
use Rattle.order.specs.Watcher.{begun, watched, said}
use Rattle.order.specs.inner.Telling.{allows, took_kind, tell_by, tell_of}
use Rattle.order.specs.declared.watcher.Watcher.{Watcher}
use Rattle.order.specs.declared.watcher.Told.{Told}
use Rattle.order.proofs.Begun.{begins-left}
use Rattle.order.proofs.Seven.{context_or_never, grammar_alive}
use Rattle.order.proofs.States.{last_after, last_after_C, last_after_other, last_of, last_of_append}
use Rattle.order.proofs.Follow.{begins_front, begins-more, begun-last, begun_state}
use Rattle.order.proofs.Allowing.{no_context_no, took_C, took_other, says-yes, says_no}
use Rattle.order.proofs.Watching.{allows-follows}

-- what a watcher says, and how it goes on

pub says : (w : Watcher) (k : ℕ) → (tell_of w k).yes ≡ allows follows w.context w.last k
unfolding tell_of
says w k = by (allows follows w.context w.last k) refl
  where
    by : (b : Bool) → allows follows w.context w.last k ≡ b → (tell_by follows w k).yes ≡ allows follows w.context w.last k
    by true e = ap (λ (r : Told). r.yes) (says-yes w k follows e) ∙ sym e
    by false e = ap (λ (r : Told). r.yes) (says_no w k follows e) ∙ sym e

-- after a no it is what it was (V2)
pub stays : (w : Watcher) (k : ℕ) → (tell_of w k).yes ≡ false → (tell_of w k).watcher ≡ w
unfolding tell_of
stays w k e = ap (λ (r : Told). r.watcher) (says_no w k follows (sym (says w k) ∙ e))

took_kind_lem : (w : Watcher) (k : ℕ) (b : Bool) → eqb k 12 ≡ b → took_kind w k ≡ record { context = w.context; last = last_after w.last k }
took_kind_lem w k true e =
    let q = eqb-true k 12 e in
    took_C w k q ∙ (λ i. record { context = w.context; last = (sym (ap (last_after w.last) q ∙ last_after_C w.last)) i })
took_kind_lem w k false e = let n = eqb-false k 12 e in took_other w k n ∙ (λ i. record { context = w.context; last = (sym (last_after_other w.last k n)) i })

pub goes_on : (w : Watcher) (k : ℕ) → (tell_of w k).yes ≡ true → (tell_of w k).watcher ≡ record { context = w.context; last = last_after w.last k }
unfolding tell_of
goes_on w k e = ap (λ (r : Told). r.watcher) (says-yes w k follows (sym (says w k) ∙ e)) ∙ took_kind_lem w k (eqb k 12) refl

-- the kinds it has said yes to, one kind further
pub said-yes : (w : Watcher) (k : ℕ) (ks : List ℕ) → (tell_of w k).yes ≡ true → said w (k ∷ ks) ≡ k ∷ said (tell_of w k).watcher ks
unfolding said
said-yes w k ks e = rw (e, said)

pub said_no : (w : Watcher) (k : ℕ) (ks : List ℕ) → (tell_of w k).yes ≡ false → said w (k ∷ ks) ≡ said (tell_of w k).watcher ks
unfolding said
said_no w k ks e = rw (e, said)

-- its context never changes
keeps_context : (w : Watcher) (k : ℕ) (b : Bool) → (tell_of w k).yes ≡ b → (tell_of w k).watcher.context ≡ w.context
keeps_context w k true e = ap (λ (x : Watcher). x.context) (goes_on w k e)
keeps_context w k false e = ap (λ (x : Watcher). x.context) (stays w k e)

pub same-context : (w : Watcher) (ks : List ℕ) → (watched w ks).context ≡ w.context
unfolding watched
same-context w [] = refl
same-context w (k ∷ ks) = same-context (tell_of w k).watcher ks ∙ keeps_context w k (tell_of w k).yes refl

-- the watcher of a context that has said yes to a begun order

unfoldable pub state_of : ℕ → List ℕ → Watcher
state_of c a = record { context = c; last = last_of 0 a }

module _ (c : ℕ) (t : is_context c ≡ true) where
  module _ (a : List ℕ) (b : Begins (grammar c) a) where
    pub left_there : some_left (left_at c (last_of 0 a)) ≡ true
    left_there = subst (λ (r : List (List Shape)). some_left r ≡ true) (begun_state c t a b) ((begins-left (grammar c) a (grammar_alive c t)).0 b)

    yes-follows : (k : ℕ) → (tell_of (state_of c a) k).yes ≡ follows c (last_of 0 a) k
    unfolding state_of
    yes-follows k = says (state_of c a) k ∙ allows-follows c t (last_of 0 a) (begun-last c t a b) left_there k

    pub yes-begins : (k : ℕ) → ((tell_of (state_of c a) k).yes ≡ true) ↔ Begins (grammar c) (a ++ (k ∷ []))
    yes-begins k =
        let m = begins-more c t a k b in
        (λ s. m.1 (sym (yes-follows k) ∙ s), λ d. yes-follows k ∙ m.0 d)

    pub state_yes : (k : ℕ) → (tell_of (state_of c a) k).yes ≡ true → (tell_of (state_of c a) k).watcher ≡ state_of c (a ++ (k ∷ []))
    unfolding state_of last_of
    state_yes k e = goes_on (state_of c a) k e ∙ (λ i. record { context = c; last = (sym (last_of_append 0 a (k ∷ []))) i })

  -- told kinds one after the other, it is where the kinds it has said yes to lead, and they are begun
  abbrev pub Led : Watcher → List ℕ → Type 0
  Led w a = (w ≡ state_of c a) × Begins (grammar c) a

  led_by : (a : List ℕ) (w : Watcher) → Led w a → (k : ℕ) (ks : List ℕ)
      → ((u : List ℕ) (x : Watcher) → Led x u → Led (watched x ks) (u ++ said x ks))
      → (v : Bool) → (tell_of w k).yes ≡ v → Led (watched w (k ∷ ks)) (a ++ said w (k ∷ ks))
  unfolding watched
  led_by a w l k ks next true y =
      let y' = ap (λ (x : Watcher). (tell_of x k).yes) (sym l.0) ∙ y in
      let here : Led (tell_of w k).watcher (a ++ (k ∷ [])) =
      (ap (λ (x : Watcher). (tell_of x k).watcher) l.0 ∙ state_yes a l.1 k y', (yes-begins a l.1 k).0 y') in
      subst (λ (u : List ℕ). Led (watched (tell_of w k).watcher ks) u)
      (append_assoc a (k ∷ []) (said (tell_of w k).watcher ks) ∙ ap (λ (u : List ℕ). a ++ u) (sym (said-yes w k ks y)))
      (next (a ++ (k ∷ [])) (tell_of w k).watcher here)
  led_by a w l k ks next false y =
      subst (λ (u : List ℕ). Led (watched (tell_of w k).watcher ks) u) (ap (λ (u : List ℕ). a ++ u) (sym (said_no w k ks y)))
      (next a (tell_of w k).watcher (stays w k y ∙ l.0, l.1))

  pub led : (a : List ℕ) (w : Watcher) → Led w a → (ks : List ℕ) → Led (watched w ks) (a ++ said w ks)
  unfolding watched said
  led a w l [] = subst⁻¹ (λ (u : List ℕ). Led w u) (append-nil a) l
  led a w l (k ∷ ks) = led_by a w l k ks (λ u x m. led u x m ks) (tell_of w k).yes refl

  -- told a begun order, it says yes to all of it
  says-yes-to-all : (a : List ℕ) (x : Watcher) → Led x a → (w : List ℕ) → Begins (grammar c) (a ++ w) → (watched x w ≡ state_of c (a ++ w)) × (said x w ≡ w)
  unfolding watched said
  says-yes-to-all a x l [] b = (l.0 ∙ ap (state_of c) (sym (append-nil a)), refl)
  says-yes-to-all a x l (k ∷ w) b =
      let b' : Begins (grammar c) (a ++ (k ∷ []) ++ w) = subst⁻¹ (λ (u : List ℕ). Begins (grammar c) u) (append_assoc a (k ∷ []) w) b in
      let here : Begins (grammar c) (a ++ (k ∷ [])) = begins_front (grammar c) (a ++ (k ∷ [])) w b' in
      let y : (tell_of (state_of c a) k).yes ≡ true = (yes-begins a l.1 k).1 here in
      let next : Led (tell_of x k).watcher (a ++ (k ∷ [])) = (ap (λ (v : Watcher). (tell_of v k).watcher) l.0 ∙ state_yes a l.1 k y, here) in
      let q = says-yes-to-all (a ++ (k ∷ [])) (tell_of x k).watcher next w b' in (
        q.0 ∙ ap (state_of c) (append_assoc a (k ∷ []) w),
        said-yes x k w (ap (λ (v : Watcher). (tell_of v k).yes) l.0 ∙ y) ∙ ap {B = List ℕ} (λ (u : List ℕ). k ∷ u) q.1,
      )

  begins-nothing : Begins (grammar c) []
  unfolding rows_after some_left
  begins-nothing = (begins-left (grammar c) [] (grammar_alive c t)).1 refl

  pub led_none : Led (begun c) []
  unfolding state_of last_of
  led_none = (refl, begins-nothing)

  -- the state once it was told a begun order: its last kind that is no C
  pub begun-watched : (w : List ℕ) → Begins (grammar c) w → (watched (begun c) w ≡ state_of c w) × (said (begun c) w ≡ w)
  begun-watched w b = says-yes-to-all [] (begun c) led_none w b

  in_context : (ks : List ℕ) (k : ℕ) → ((tell_of (watched (begun c) ks) k).yes ≡ true) ↔ Begins (grammar c) (said (begun c) ks ++ (k ∷ []))
  unfolding state_of last_of
  in_context ks k =
      let l = led [] (begun c) led_none ks in
      subst⁻¹ (λ (w : Watcher). ((tell_of w k).yes ≡ true) ↔ Begins (grammar c) (said (begun c) ks ++ (k ∷ []))) l.0 (yes-begins (said (begun c) ks) l.1 k)

-- a bad context says no to all, and nothing begins there

pub never-begins : (c : ℕ) → grammar c ≡ never → (w : List ℕ) → Begins (grammar c) w → ⊥
never-begins c e w b = (subst (λ (r : Shape). Begins r w) e b).1.0

pub no_to_all : (w : Watcher) (k : ℕ) → is_context w.context ≡ false → (tell_of w k).yes ≡ false
no_to_all w k e = says w k ∙ no_context_no follows w.context w.last k e

-- begun with a number that is no context, a watcher never says yes (V2)
pub bad_context_no : (c : ℕ) → is_context c ≡ false → (ks : List ℕ) (k : ℕ) → (tell_of (watched (begun c) ks) k).yes ≡ false
bad_context_no c e ks k = no_to_all (watched (begun c) ks) k (ap is_context (same-context (begun c) ks) ∙ e)

-- V1, for every number that it was begun with, all kinds told before and every kind number
pub yes_exactly : (c : ℕ) (ks : List ℕ) (k : ℕ) → ((tell_of (watched (begun c) ks) k).yes ≡ true) ↔ Begins (grammar c) (said (begun c) ks ++ (k ∷ []))
yes_exactly c ks k = by (is_context c) refl
  where
    by : (v : Bool) → is_context c ≡ v → ((tell_of (watched (begun c) ks) k).yes ≡ true) ↔ Begins (grammar c) (said (begun c) ks ++ (k ∷ []))
    by true e = in_context c e ks k
    by false e = (
      λ s. absurd (never_both s (bad_context_no c e ks k)),
      λ d. absurd (⊎_elim (λ h. never_both h e) (λ n. never-begins c n (said (begun c) ks ++ (k ∷ [])) d) (context_or_never c)),
    )
