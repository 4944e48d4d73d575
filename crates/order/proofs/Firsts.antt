-- The kinds that a shape's orders may begin with, and the test that a shape can be read in one way only: nowhere may an order
-- go on with a repeated shape and with what follows it by one and the same kind.
-- Assumes nothing.
use mathlib.Core.Bool.{Bool, true, false, not, ◌&&◌, false≢true}
use mathlib.Core.List.{List, [], ◌∷◌, ◌++◌, nil≢cons, head-eq_of_cons-eq}
use mathlib.Core.Logic.{◌⊎◌, inl, inr, ⊎_elim}
use mathlib.Core.Option.{none, some}
use mathlib.Core.Path.{◌≡◌, refl, sym, ◌∙◌, subst}
use Prim.Native.Nat.{ℕ}
use borrow.Author.Tests.{not-true}
use Rattle.laws.specs.Lists.{among}
use Rattle.laws.proofs.Tests.{never_both, and_first, and_second, and_both}
use Rattle.laws.proofs.Lists.{among_first}
use Rattle.laws.proofs.Members.{among_cases, among-left, among_right, among_where}
use Rattle.order.specs.Grammar.{Shape, never, only, ◌▸◌, any, plus, maybe, Tree, word, each, present}
use Rattle.order.specs.inner.Place.{empties}

-- the kinds that a shape begins with; those of a shape and of what follows it
unfoldable pub firsts : Shape → List ℕ
firsts never = []
firsts (only k) = k ∷ []
firsts (a ▸ b) = firsts a ++ elim (empties a) [ true ↦ firsts b | false ↦ [] ]
firsts (any a) = firsts a
firsts (plus a) = firsts a
firsts (maybe a) = firsts a

unfoldable pub firsts_then : Shape → List ℕ → List ℕ
firsts_then r next = firsts r ++ elim (empties r) [ true ↦ next | false ↦ [] ]

-- whether two lists of kinds have none in common
unfoldable pub apart : List ℕ → List ℕ → Bool
apart [] ys = true
apart (x ∷ xs) ys = not (among ys x) && apart xs ys

-- whether a shape that repeats or may be missing is told from what follows it by its first kind
unfoldable pub seen : Shape → List ℕ → Bool
seen a next = not (empties a) && apart (firsts a) next

-- whether a shape with these kinds after it can be read in one way only
unfoldable pub clear : Shape → List ℕ → Bool
clear never next = true
clear (only k) next = true
clear (a ▸ b) next = clear a (firsts_then b next) && clear b next
clear (any a) next = seen a next && clear a (firsts a ++ next)
clear (plus a) next = seen a next && clear a (firsts a ++ next)
clear (maybe a) next = seen a next && clear a next

-- a list of kinds that begins with one of some
abbrev pub Heads : List ℕ → List ℕ → Type 0
Heads some-kinds w = (k : ℕ) × (u : List ℕ) × (w ≡ k ∷ u) × (among some-kinds k ≡ true)

heads_more : (xs ys w : List ℕ) → Heads xs w → Heads (xs ++ ys) w
heads_more xs ys w h = (h.0, h.1, h.2, among-left h.0 xs ys h.3)

heads_later : (xs ys w : List ℕ) → Heads ys w → Heads (xs ++ ys) w
heads_later xs ys w h = (h.0, h.1, h.2, among_right h.0 xs ys h.3)

heads_where : (b : Bool) (ys w : List ℕ) → b ≡ true → Heads ys w → Heads (elim b [ true ↦ ys | false ↦ [] ]) w
heads_where b ys w t h = (h.0, h.1, h.2, among_where h.0 b ys t h.3)

heads_by : (xs w v : List ℕ) → w ≡ v → Heads xs v → Heads xs w
heads_by xs w v e h = (h.0, h.1, e ∙ h.2, h.3)

-- what a derivation writes begins with one of the shape's first kinds, or it writes nothing
abbrev Headed : Shape → List ℕ → List ℕ → Type 0
Headed r w v = Heads (firsts r) w ⊎ ((empties r ≡ true) × (w ≡ v))

each_headed : (a : Shape) (v : List ℕ) → ((t : Tree a) (u : List ℕ) → Headed a (word a t u) u) → (ts : List (Tree a)) → Heads (firsts a) (each (word a) ts v) ⊎ (each (word a) ts v ≡ v)
unfolding each
each_headed a v h [] = inr refl
each_headed a v h (t ∷ ts) =
    ⊎_elim (λ x. inl x)
    (λ q. ⊎_elim (λ x. inl (heads_by (firsts a) (word a t (each (word a) ts v)) (each (word a) ts v) q.1 x)) (λ e. inr (q.1 ∙ e)) (each_headed a v h ts))
    (h t (each (word a) ts v))

pub headed : (r : Shape) (t : Tree r) (v : List ℕ) → Headed r (word r t v) v
unfolding firsts empties word present
headed never t v = absurd t
headed (only k) t v = inl (k, v, refl, among_first k [])
headed (a ▸ b) t v =
    ⊎_elim (λ x. inl (heads_more (firsts a) (elim (empties a) [ true ↦ firsts b | false ↦ [] ]) (word a t.0 (word b t.1 v)) x))
    (λ p. ⊎_elim
    (λ x. inl (heads_by (firsts (a ▸ b)) (word a t.0 (word b t.1 v)) (word b t.1 v) p.1
    (heads_later (firsts a) (elim (empties a) [ true ↦ firsts b | false ↦ [] ]) (word b t.1 v) (heads_where (empties a) (firsts b) (word b t.1 v) p.0 x))))
    (λ q. inr (and_both p.0 q.0, p.1 ∙ q.1))
    (headed b t.1 v))
    (headed a t.0 (word b t.1 v))
headed (any a) ts v = ⊎_elim (λ x. inl x) (λ e. inr (refl, e)) (each_headed a v (headed a) ts)
headed (plus a) t v =
    ⊎_elim (λ x. inl x)
    (λ p. ⊎_elim (λ x. inl (heads_by (firsts a) (word a t.0 (each (word a) t.1 v)) (each (word a) t.1 v) p.1 x)) (λ e. inr (p.0, p.1 ∙ e)) (each_headed a v (headed a) t.1))
    (headed a t.0 (each (word a) t.1 v))
headed (maybe a) none v = inr (refl, refl)
headed (maybe a) (some t) v = ⊎_elim (λ x. inl x) (λ q. inr (refl, q.1)) (headed a t v)

-- what may stand behind a shape: nothing, or an order that begins with one of some kinds
abbrev pub After : List ℕ → List ℕ → Type 0
After next v = (v ≡ []) ⊎ Heads next v

pub after-word : (r : Shape) (next : List ℕ) (t : Tree r) (v : List ℕ) → After next v → After (firsts_then r next) (word r t v)
unfolding firsts_then
after-word r next t v f =
    ⊎_elim (λ x. inr (heads_more (firsts r) (elim (empties r) [ true ↦ next | false ↦ [] ]) (word r t v) x))
    (λ p. ⊎_elim (λ e. inl (p.1 ∙ e))
    (λ x. inr (heads_later (firsts r) (elim (empties r) [ true ↦ next | false ↦ [] ]) (word r t v) (heads_where (empties r) next (word r t v) p.0 (heads_by next (word r t v) v p.1 x)))) f)
    (headed r t v)

pub after-each : (a : Shape) (next : List ℕ) (ts : List (Tree a)) (v : List ℕ) → After next v → After (firsts a ++ next) (each (word a) ts v)
after-each a next ts v f =
    ⊎_elim (λ x. inr (heads_more (firsts a) next (each (word a) ts v) x))
    (λ e. ⊎_elim (λ z. inl (e ∙ z)) (λ x. inr (heads_later (firsts a) next (each (word a) ts v) (heads_by next (each (word a) ts v) v e x))) f)
    (each_headed a v (headed a) ts)

apart_no : (k : ℕ) (xs ys : List ℕ) → apart xs ys ≡ true → among xs k ≡ true → among ys k ≡ true → ⊥
unfolding apart among
apart_no k [] ys h m n = false≢true m
apart_no k (x ∷ xs) ys h m n =
    ⊎_elim (λ e. never_both (rw e at n) (not-true (among ys x) (and_first (not (among ys x)) (apart xs ys) h)))
    (λ t. apart_no k xs ys (and_second (not (among ys x)) (apart xs ys) h) t n) (among_cases k x xs m)

-- what follows a shape that is told from it is not written by it
pub told-apart : (a : Shape) (next : List ℕ) → seen a next ≡ true → (t : Tree a) (u v : List ℕ) → After next v → v ≡ word a t u → ⊥
unfolding seen
told-apart a next h t u v f e =
    ⊎_elim
    (λ x. ⊎_elim
    (λ z. nil≢cons (sym z ∙ e ∙ x.2))
    (λ y. apart_no x.0 (firsts a) next (and_second (not (empties a)) (apart (firsts a) next) h) x.3
    (subst (λ (j : ℕ). among next j ≡ true) (head-eq_of_cons-eq (sym y.2 ∙ e ∙ x.2)) y.3))
    f)
    (λ q. never_both q.0 (not-true (empties a) (and_first (not (empties a)) (apart (firsts a) next) h)))
    (headed a t u)
