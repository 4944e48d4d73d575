-- Grammars and their derivations: what a shape is, how it derives an order of kinds.
-- Assumes nothing.
use Rattle.std.specs.Prelude.{List, [], ◌∷◌, ◌++◌, ◌≡◌, ℕ}
use Rattle.std.proofs.Math.Option.{Option, none, some}

infixr 60 ◌▸◌
-- nothing at all; one kind; one shape and then another; any number of a shape; one or more; none or one
pub data Shape : Type 0 where
  never : Shape
  only : ℕ → Shape
  ◌▸◌ : Shape → Shape → Shape
  any : Shape → Shape
  plus : Shape → Shape
  maybe : Shape → Shape
  deriving Discrete as Shape-discrete

-- the derivations of a shape
abbrev pub Tree : Shape → Type 0
Tree never = ⊥
Tree (only k) = Unit {0}
Tree (a ▸ b) = Tree a × Tree b
Tree (any a) = List (Tree a)
Tree (plus a) = Tree a × List (Tree a)
Tree (maybe a) = Option (Tree a)

-- what each of some derivations writes, one after the other, in front of v
unfoldable pub each : {A : Type 0} → (A → List ℕ → List ℕ) → List A → List ℕ → List ℕ
each f [] v = v
each f (t ∷ ts) v = f t (each f ts v)

-- what a derivation that may be there writes in front of v
unfoldable pub present : {A : Type 0} → (A → List ℕ → List ℕ) → Option A → List ℕ → List ℕ
present f none v = v
present f (some t) v = f t v

-- the kinds that a derivation writes, in front of v
unfoldable pub word : (r : Shape) → Tree r → List ℕ → List ℕ
word never t v = absurd t
word (only k) t v = k ∷ v
word (a ▸ b) t v = word a t.0 (word b t.1 v)
word (any a) ts v = each (word a) ts v
word (plus a) t v = word a t.0 (each (word a) t.1 v)
word (maybe a) t v = present (word a) t v

-- a derivation of an order
abbrev pub Derives : Shape → List ℕ → Type 0
Derives r w = (t : Tree r) × (word r t [] ≡ w)

-- an order that begins one that is derived
abbrev pub Begins : Shape → List ℕ → Type 0
Begins r w = (v : List ℕ) × Derives r (w ++ v)
