-- Names by number, where every name is short: putting their letters puts them.
-- Assumes nothing.
use mathlib.Core.Bool.{true}
use mathlib.Core.List.{List}
use mathlib.Core.Path.{◌≡◌, ap, ◌∙◌}
use Prim.Native.Nat.{ℕ, ◌≤◌}
use native.Mathlib.Omega.{arith}
use lib.ListN.{length, take}
use Rattle.laws.proofs.Lists.{every}
use Rattle.form.specs.declared.letters.Spelled.{Spelled}
use Rattle.form.specs.Names.{name_of}
use Rattle.form.specs.inner.Lettering.{spelled}
use Rattle.form.proofs.Names.{short, spelled-whole, name-short}
use Rattle.listing.specs.declared.put.Pen.{Pen}
use Rattle.listing.specs.inner.Putting.{Wrote}
use Rattle.listing.proofs.Putting.{wrote_more, wrote_as}

module _ (names : List (List ℕ)) (all_short : every short names ≡ true) where
  -- there is room for its letters, and putting them puts the name
  module _ (n : ℕ) {name : Spelled} (e : name ≡ spelled (name_of names n)) where
    pub spelled-fits : (name.0 ≤ 3) × (length name.1 ≡ 3)
    spelled-fits = (omega (arith, ap (λ (s : Spelled). s.0) e, name-short names all_short n), ap (λ (s : Spelled). length s.1) e)

    pub spelled-put : {p q : Pen} → Wrote (length (take name.0 name.1)) p (take name.0 name.1) q → Wrote 3 p (name_of names n) q
    spelled-put w =
        let whole : take name.0 name.1 ≡ name_of names n
        = ap (λ (s : Spelled). take s.0 s.1) e ∙ spelled-whole (name_of names n) (name-short names all_short n) in
        wrote_more (wrote_as w whole) (omega (arith, ap length whole, name-short names all_short n))
