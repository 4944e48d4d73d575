-- The part of the text that a lookup hands out.
-- Assumes nothing.
use mathlib.Core.List.{List}
use mathlib.Core.Path.{◌≡◌, sym, ap, ◌∙◌}
use Prim.Native.Nat.{ℕ, ◌+◌, ◌-◌}
use native.Mathlib.Omega.{arith}
use lib.ListN.{take, drop}
use denote.Ref.{Bor}
use Rattle.laws.specs.Parts.{whole_of, part_of}
use Rattle.look.specs.declared.leaf.Sought.{Sought}
use Rattle.look.specs.declared.leaf.Sought.TheVariants.{At, Empty, NotThere}
use Rattle.look.specs.Matches.{sought_part}

-- a part from its start to its end is a part of its length
pub part_long : (text : List ℕ) (start n : ℕ) → take (start + n - start) (drop start text) ≡ take n (drop start text)
part_long text start n = ap (λ (k : ℕ). take k (drop start text)) (let e : start + n - start ≡ n = omega arith in e)

-- what comes back of a text area and a substitute, by what was found
module _ (text substitute : Bor (List ℕ)) {s : Sought} where
  pub part_found : (start n : ℕ) → s ≡ At start n → sought_part text substitute s ≡ part_of text start n
  unfolding sought_part
  part_found start n e = ap (sought_part text substitute) e

  -- cut from its start to its end
  pub part_cut : (start n : ℕ) → s ≡ At start n → part_of text start (start + n - start) ≡ sought_part text substitute s
  part_cut start n e = ap (part_of text start) (let e : start + n - start ≡ n = omega arith in e) ∙ sym (part_found start n e)

  pub empty_part : s ≡ Empty → sought_part text substitute s ≡ part_of text 0 0
  unfolding sought_part
  empty_part e = ap (sought_part text substitute) e

  pub no_part : s ≡ NotThere → sought_part text substitute s ≡ whole_of substitute
  unfolding sought_part
  no_part e = ap (sought_part text substitute) e
