-- An order has at most one derivation: two derivations of a context that write the same order are the same.
-- Assumes nothing.
use mathlib.Core.Bool.{true}
use mathlib.Core.List.{List, [], ◌∷◌, ◌++◌, tail-eq_of_cons-eq}
use mathlib.Core.Logic.{inl, ⊎_elim}
use mathlib.Core.Option.{Option, none, some}
use mathlib.Core.Path.{◌≡◌, refl, sym, ap, ap₂, subst⁻¹}
use Prim.Native.Nat.{ℕ}
use Rattle.laws.specs.Lists.{among}
use Rattle.laws.specs.inner.Tests.{every_from}
use Rattle.laws.proofs.Tests.{and_first, and_second}
use Rattle.order.specs.Grammar.{Shape, never, only, ◌▸◌, any, plus, maybe, Tree, word, each, present}
use Rattle.order.specs.Contexts.{grammar}
use Rattle.order.specs.inner.Place.{empties}
use Rattle.order.proofs.Firsts.{firsts, firsts_then, apart, seen, clear, After, after-word, after-each, told-apart}
use Rattle.order.proofs.Seven.{all_seven, context_or_never, grammars}

-- two derivations of one shape, each with something after it, that write the same
abbrev OneWay : Shape → List ℕ → Type 0
OneWay r next = (s t : Tree r) (u v : List ℕ) → After next u → After next v → word r s u ≡ word r t v → (s ≡ t) × (u ≡ v)

one_list : (a : Shape) (next : List ℕ) → seen a next ≡ true → OneWay a (firsts a ++ next)
    → (ss ts : List (Tree a)) (u v : List ℕ) → After next u → After next v → each (word a) ss u ≡ each (word a) ts v → (ss ≡ ts) × (u ≡ v)
unfolding each
one_list a next h way [] [] u v f g e = (refl, e)
one_list a next h way [] (t ∷ ts) u v f g e = absurd (told-apart a next h t (each (word a) ts v) u f e)
one_list a next h way (s ∷ ss) [] u v f g e = absurd (told-apart a next h s (each (word a) ss u) v g (sym e))
one_list a next h way (s ∷ ss) (t ∷ ts) u v f g e =
    let p = way s t (each (word a) ss u) (each (word a) ts v) (after-each a next ss u f) (after-each a next ts v g) e in
    let q = one_list a next h way ss ts u v f g p.1 in
    (ap₂ {C = List (Tree a)} (λ x xs. x ∷ xs) p.0 q.0, q.1)

-- a shape that passes the test is read in one way, whatever follows
pub one_way : (r : Shape) (next : List ℕ) → clear r next ≡ true → OneWay r next
unfolding clear word present
one_way never next h s t u v f g e = absurd s
one_way (only k) next h s t u v f g e = (refl, tail-eq_of_cons-eq e)
one_way (a ▸ b) next h s t u v f g e =
    let p = one_way a (firsts_then b next) (and_first (clear a (firsts_then b next)) (clear b next) h) s.0 t.0 (word b s.1 u) (word b t.1 v)
    (after-word b next s.1 u f) (after-word b next t.1 v g) e in
    let q = one_way b next (and_second (clear a (firsts_then b next)) (clear b next) h) s.1 t.1 u v f g p.1 in
    (ap₂ {C = Tree a × Tree b} (λ x y. (x, y)) p.0 q.0, q.1)
one_way (any a) next h s t u v f g e =
    one_list a next (and_first (seen a next) (clear a (firsts a ++ next)) h)
    (one_way a (firsts a ++ next) (and_second (seen a next) (clear a (firsts a ++ next)) h)) s t u v f g e
one_way (plus a) next h s t u v f g e =
    let k = and_first (seen a next) (clear a (firsts a ++ next)) h in
    let way = one_way a (firsts a ++ next) (and_second (seen a next) (clear a (firsts a ++ next)) h) in
    let p = way s.0 t.0 (each (word a) s.1 u) (each (word a) t.1 v) (after-each a next s.1 u f) (after-each a next t.1 v g) e in
    let q = one_list a next k way s.1 t.1 u v f g p.1 in
    (ap₂ {C = Tree a × List (Tree a)} (λ x y. (x, y)) p.0 q.0, q.1)
one_way (maybe a) next h none none u v f g e = (refl, e)
one_way (maybe a) next h none (some t) u v f g e = absurd (told-apart a next (and_first (seen a next) (clear a next) h) t v u f e)
one_way (maybe a) next h (some s) none u v f g e = absurd (told-apart a next (and_first (seen a next) (clear a next) h) s u v g (sym e))
one_way (maybe a) next h (some s) (some t) u v f g e =
    let p = one_way a next (and_second (seen a next) (clear a next) h) s t u v f g e in
    (ap {B = Option (Tree a)} some p.0, p.1)

-- the seven grammars pass the test
grammar-clear : (c : ℕ) → clear (grammar c) [] ≡ true
unfolding clear seen apart firsts firsts_then empties among grammars every_from
grammar-clear c =
    ⊎_elim (all_seven (λ n. clear (grammar n) []) refl c)
    (λ e. subst⁻¹ (λ (r : Shape). clear r [] ≡ true) e refl) (context_or_never c)

-- an order of a context has at most one derivation
pub one_derivation : (c : ℕ) (s t : Tree (grammar c)) → word (grammar c) s [] ≡ word (grammar c) t [] → s ≡ t
one_derivation c s t e = (one_way (grammar c) [] (grammar-clear c) s t [] [] (inl refl) (inl refl) e).0
