-- The first no of a watcher: told one kind more, and the place of refusal 10 by it.
-- Assumes nothing.
use mathlib.Core.Bool.{Bool, true, false, not}
use mathlib.Core.List.{List, [], ◌∷◌, ◌++◌}
use mathlib.Core.Path.{◌≡◌, refl, sym, ap, ap₂, ◌∙◌}
use Prim.Native.Nat.{ℕ, suc, ◌+◌}
use native.Mathlib.Nat.{add-zero}
use native.Mathlib.Omega.{arith}
use lib.Dec.{eqb}
use lib.ListN.{length}
use borrow.Author.Tests.{ne_eqb}
use Rattle.laws.specs.inner.First.{first_held}
use Rattle.laws.proofs.Lists.{first_held-earlier}
use Rattle.laws.proofs.Tests.{Tested, passed, failed, tested}
use Rattle.order.specs.Watcher.{watched}
use Rattle.order.specs.inner.Telling.{tell_of}
use Rattle.order.specs.inner.Refusing.{first_no}
use Rattle.order.specs.declared.watcher.Watcher.{Watcher}
use Rattle.order.proofs.Checking.{place_by, place-yes, place_no}

module _ (at : ℕ) (w : Watcher) (k : ℕ) (ks : List ℕ) where
  pub no_later : (tell_of w k).yes ≡ true → first_no at w (k ∷ ks) ≡ first_no (suc at) (tell_of w k).watcher ks
  unfolding first_no
  no_later e = rw (e, first_no)

  pub no_here : (tell_of w k).yes ≡ false → first_no at w (k ∷ ks) ≡ at
  unfolding first_no
  no_here e = rw (e, first_no)

-- a watcher told kinds and then one more
pub watched-append : (w : Watcher) (ks : List ℕ) (k : ℕ) → watched w (ks ++ k ∷ []) ≡ (tell_of (watched w ks) k).watcher
unfolding watched
watched-append w [] k = refl
watched-append w (j ∷ ks) k = watched-append (tell_of w j).watcher ks k

-- its first no is an earlier one, or this
pub no_append : (at : ℕ) (w : Watcher) (ks : List ℕ) (k : ℕ)
    → first_no (suc at) w (ks ++ k ∷ []) ≡ first_held (first_no (suc at) w ks) (not (tell_of (watched w ks) k).yes) (suc at + length ks)
unfolding first_no first_held watched
no_append at w [] k = go (tested (tell_of w k).yes)
  where
    go : Tested (tell_of w k).yes → first_no (suc at) w (k ∷ []) ≡ elim (not (tell_of w k).yes) [ true ↦ suc at + 0 | false ↦ 0 ]
    go (passed e) = rw (e, first_no)
    go (failed e) = rw (e, first_no) (sym (add-zero (suc at)))
no_append at w (j ∷ ks) k = go (tested (tell_of w j).yes) (no_append (suc at) (tell_of w j).watcher ks k)
  where
    last : Bool
    last = not (tell_of (watched w (j ∷ ks)) k).yes

    go : Tested (tell_of w j).yes
        → first_no (suc (suc at)) (tell_of w j).watcher (ks ++ k ∷ []) ≡ first_held (first_no (suc (suc at)) (tell_of w j).watcher ks) last (suc (suc at) + length ks)
        → first_no (suc at) w (j ∷ (ks ++ k ∷ [])) ≡ first_held (first_no (suc at) w (j ∷ ks)) last (suc at + suc (length ks))
    go (passed e) ih =
        let place : suc (suc at) + length ks ≡ suc at + suc (length ks) = omega arith in
        no_later (suc at) w j (ks ++ k ∷ []) e ∙ ih
        ∙ ap₂ (λ (f p : ℕ). first_held f last p) (sym (no_later (suc at) w j ks e)) place
    go (failed e) ih =
        let here : first_no (suc at) w (j ∷ ks) ≡ suc at = no_here (suc at) w j ks e in
        no_here (suc at) w j (ks ++ k ∷ []) e ∙ sym here
        ∙ sym (first_held-earlier (first_no (suc at) w (j ∷ ks)) last (suc at + suc (length ks)) (λ z. omega arith))

-- the place of refusal 10 once all kinds have been told: the first no, or one past the end where the last kind, C aside, is no L
unfoldable pub place_told : ℕ → ℕ → ℕ → ℕ
place_told first last past = elim (eqb first 0) [ true ↦ elim (eqb last 11) [ true ↦ 0 | false ↦ past ] | false ↦ first ]

place_told_first : (first last past : ℕ) → (first ≡ 0 → ⊥) → place_told first last past ≡ first
unfolding place_told
place_told_first first last past h = rw (ne_eqb first 0 h, place_told)

pub place-told : (at : ℕ) (w : Watcher) (ks : List ℕ)
    → place_by (suc at) w ks ≡ place_told (first_no (suc at) w ks) (watched w ks).last (suc at + length ks)
unfolding place_by first_no watched place_told
place-told at w [] = ap {B = ℕ} (λ (p : ℕ). elim (eqb w.last 11) [ true ↦ 0 | false ↦ p ]) (sym (add-zero (suc at)))
place-told at w (k ∷ ks) = go (tested (tell_of w k).yes) (place-told (suc at) (tell_of w k).watcher ks)
  where
    go : Tested (tell_of w k).yes
        → place_by (suc (suc at)) (tell_of w k).watcher ks ≡ place_told (first_no (suc (suc at)) (tell_of w k).watcher ks) (watched w (k ∷ ks)).last (suc (suc at) + length ks)
        → place_by (suc at) w (k ∷ ks) ≡ place_told (first_no (suc at) w (k ∷ ks)) (watched w (k ∷ ks)).last (suc at + suc (length ks))
    go (passed e) ih =
        let place : suc (suc at) + length ks ≡ suc at + suc (length ks) = omega arith in
        place-yes (suc at) w k ks e ∙ ih
        ∙ ap₂ (λ (f p : ℕ). place_told f (watched w (k ∷ ks)).last p) (sym (no_later (suc at) w k ks e)) place
    go (failed e) ih =
        let here : first_no (suc at) w (k ∷ ks) ≡ suc at = no_here (suc at) w k ks e in
        place_no (suc at) w k ks e ∙ sym here
        ∙ sym (place_told_first (first_no (suc at) w (k ∷ ks)) (watched w (k ∷ ks)).last (suc at + suc (length ks)) (λ z. omega arith))
