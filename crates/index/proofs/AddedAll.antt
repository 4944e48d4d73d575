-- Codes added one after the other (X2): each law of one code, carried along the list.
-- Assumes nothing.
use mathlib.Core.Bool.{Bool, true, false, ◌||◌}
use mathlib.Core.List.{List, [], ◌∷◌, ◌++◌}
use mathlib.Core.Path.{◌≡◌, refl, sym, ap, ◌∙◌}
use Prim.Native.Nat.{ℕ, suc, ◌+◌, ◌≤◌}
use native.Mathlib.Omega.{arith}
use borrow.Author.Tests.{lt-ltb}
use lib.Dec.{ltb}
use lib.ListN.{length}
use Rattle.laws.specs.Lists.{same, count}
use Rattle.laws.specs.Every.{All, none, also}
use Rattle.laws.proofs.Lists.{count_pass, count_fail}
use Rattle.laws.proofs.Tests.{Tested, passed, failed, tested, or_second}
use Rattle.index.specs.Order.{byte_order}
use Rattle.index.specs.Index.{Entry, entry_code, rises, names, count_of}
use Rattle.index.specs.Adding.{code_added, added_all, too_large}
use Rattle.index.proofs.Sizes.{Sized, Fit}
use Rattle.index.proofs.Orders.{Three, is_b, is_s, is_a, three, order_alike_same}
use Rattle.index.proofs.Steps.{added_here, added_sooner, added-later}
use Rattle.index.proofs.Added.{added-sized, added-rises, names-added, once, once_hit, once_miss, count-added, length-added}
use Rattle.index.proofs.Large.{large-added}
use Rattle.index.proofs.SamePlaces.{place_list, same-added}

-- two lists of codes in a row, and one code behind
pub added_all-append : (cs ds : List (List ℕ)) (es : List Entry) → added_all (cs ++ ds) es ≡ added_all ds (added_all cs es)
unfolding added_all
added_all-append [] ds es = refl
added_all-append (c ∷ cs) ds es = added_all-append cs ds (code_added c es)

pub added_all-last : (cs : List (List ℕ)) (c : List ℕ) (es : List Entry) → added_all (cs ++ (c ∷ [])) es ≡ code_added c (added_all cs es)
unfolding added_all
added_all-last cs c es = added_all-append cs (c ∷ []) es

-- the entries stay whole and rising
pub all-sized : (cs : List (List ℕ)) (es : List Entry) → All Fit cs → Sized es → Sized (added_all cs es)
unfolding added_all
all-sized [] es none w = w
all-sized (c ∷ cs) es (also fit fits) w = all-sized cs (code_added c es) fits (added-sized c es fit w)

pub all-rises : (cs : List (List ℕ)) (es : List Entry) → All Fit cs → rises es ≡ true → rises (added_all cs es) ≡ true
unfolding added_all
all-rises [] es none w = w
all-rises (c ∷ cs) es (also fit fits) w = all-rises cs (code_added c es) fits (added-rises c es fit w)

-- each code is counted as often as it was added
pub count-all : (cs : List (List ℕ)) (es : List Entry) → All Fit cs → rises es ≡ true → (d : List ℕ)
    → count_of (added_all cs es) d ≡ count_of es d + count (λ (c : List ℕ). same c d) cs
unfolding added_all count
count-all [] es none w d = omega arith
count-all (c ∷ cs) es (also fit fits) w d =
    go (tested (same c d)) (count-all cs (code_added c es) fits (added-rises c es fit w) d) (count-added c es w d)
  where
    go : Tested (same c d) → count_of (added_all cs (code_added c es)) d ≡ count_of (code_added c es) d + count (λ (c : List ℕ). same c d) cs
        → count_of (code_added c es) d ≡ count_of es d + once c d
        → count_of (added_all cs (code_added c es)) d ≡ count_of es d + count (λ (c : List ℕ). same c d) (c ∷ cs)
    go (passed h) ih one = omega (arith, ih, one, once_hit c d h, count_pass (λ (c : List ℕ). same c d) c cs h)
    go (failed h) ih one = omega (arith, ih, one, once_miss c d h, count_fail (λ (c : List ℕ). same c d) c cs h)

-- what is named: what was, and what was added
pub names-all : (cs : List (List ℕ)) (es : List Entry) (d : List ℕ)
    → names (added_all cs es) d ≡ (names es d || ltb 0 (count (λ (c : List ℕ). same c d) cs))
unfolding added_all count
names-all [] es d = go (names es d)
  where
    go : (b : Bool) → b ≡ (b || false)
    go true = refl
    go false = refl
names-all (c ∷ cs) es d =
    go (tested (same c d))
    (names-all cs (code_added c es) d ∙ ap (λ (b : Bool). b || ltb 0 (count (λ (c : List ℕ). same c d) cs)) (names-added c es d))
  where
    go : Tested (same c d) → names (added_all cs (code_added c es)) d ≡ (same c d || names es d || ltb 0 (count (λ (c : List ℕ). same c d) cs))
        → names (added_all cs (code_added c es)) d ≡ (names es d || ltb 0 (count (λ (c : List ℕ). same c d) (c ∷ cs)))
    go (passed h) ih =
        ih
        ∙ ap (λ (b : Bool). b || names es d || ltb 0 (count (λ (c : List ℕ). same c d) cs)) h
        ∙ sym (or_second (names es d)
        (lt-ltb 0 (count (λ (c : List ℕ). same c d) (c ∷ cs)) (omega (arith, count_pass (λ (c : List ℕ). same c d) c cs h))))
    go (failed h) ih =
        ih
        ∙ ap (λ (b : Bool). b || names es d || ltb 0 (count (λ (c : List ℕ). same c d) cs)) h
        ∙ ap (λ (n : ℕ). names es d || ltb 0 n) (sym (count_fail (λ (c : List ℕ). same c d) c cs h))

-- no entry goes
pub length_grows : (c : List ℕ) (es : List Entry) → length es ≤ length (code_added c es)
length_grows c [] = omega arith
length_grows c (e ∷ es) = go (three (byte_order c (entry_code e))) (length_grows c es)
  where
    go : Three (byte_order c (entry_code e)) → length es ≤ length (code_added c es) → suc (length es) ≤ length (code_added c (e ∷ es))
    go (is_b h) ih = omega (arith, ap length (added_sooner c e es h))
    go (is_s h) ih = omega (arith, ap length (added_here c e es (order_alike_same c (entry_code e) h)))
    go (is_a h) ih = omega (arith, ap length (added-later c e es h))

pub length-all : (cs : List (List ℕ)) (es : List Entry) → length es ≤ length (added_all cs es)
unfolding added_all
length-all [] es = omega arith
length-all (c ∷ cs) es = omega (arith, length_grows c es, length-all cs (code_added c es))

-- codes that were all named take no place
pub length-all-named : (cs : List (List ℕ)) (es : List Entry) → All Fit cs → rises es ≡ true → All (λ (c : List ℕ). names es c ≡ true) cs
    → length (added_all cs es) ≡ length es
unfolding added_all
length-all-named [] es none w none = refl
length-all-named (c ∷ cs) es (also fit fits) w (also h hs) =
    length-all-named cs (code_added c es) fits (added-rises c es fit w) (still hs)
    ∙ length-added c es w
    ∙ ap {B = ℕ} (λ (b : Bool). elim b [ true ↦ length es | false ↦ suc (length es) ]) h
  where
    still : {ds : List (List ℕ)} → All (λ (d : List ℕ). names es d ≡ true) ds → All (λ (d : List ℕ). names (code_added c es) d ≡ true) ds
    still none = none
    still (also {a = d} k ks) = also (names-added c es d ∙ or_second (same c d) k) (still ks)

-- what is too large stays so
pub large-all : (cs : List (List ℕ)) (es : List Entry) → too_large es ≡ true → too_large (added_all cs es) ≡ true
unfolding added_all
large-all [] es w = w
large-all (c ∷ cs) es w = large-all cs (code_added c es) (large-added c es w)

-- entries with the same places have the same places after it
pub places-all : (cs : List (List ℕ)) (es fs : List Entry) → place_list es ≡ place_list fs → place_list (added_all cs es) ≡ place_list (added_all cs fs)
unfolding added_all
places-all [] es fs alike = alike
places-all (c ∷ cs) es fs alike = places-all cs (code_added c es) (code_added c fs) (same-added es fs alike c)
