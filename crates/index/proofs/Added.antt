-- One code added (X2): what it leaves whole and rising, what is named, counted and too large then; and that where it goes is a matter of the
-- places alone, not of the counts.
-- Assumes nothing.
use mathlib.Core.Bool.{Bool, true, false, ◌||◌}
use mathlib.Core.List.{List, [], ◌∷◌}
use mathlib.Core.Path.{◌≡◌, refl, sym, ap, ◌∙◌, subst⁻¹}
use Prim.Native.Nat.{ℕ, suc, ◌+◌, ◌-◌}
use native.Mathlib.Omega.{arith}
use lib.ListN.{length, replicate}
use lib.Seq.{take-append_seam}
use Rattle.laws.specs.Lists.{same}
use Rattle.laws.specs.Every.{none, also}
use Rattle.laws.proofs.Every.{all_first, all_rest}
use Rattle.laws.proofs.Lists.{same_equal}
use Rattle.laws.proofs.Tests.{Tested, passed, failed, tested, or_first, or_second, or_fails}
use Rattle.index.specs.declared.code.Compared.TheVariants.{Before}
use Rattle.index.specs.Order.{byte_order}
use Rattle.index.specs.Index.{Entry, code_most, entry_code, rises_after, rises, names, count_of}
use Rattle.index.specs.Adding.{place_of_code, new_entry, one_more, code_added}
use Rattle.index.proofs.Sizes.{Sized, Fit}
use Rattle.index.proofs.Orders.{Three, is_b, is_s, is_a, three, order_same, order_alike_same, after_differs, after-before, some-behind}
use Rattle.index.proofs.Steps.{same_sym, names_hit, names_miss, count_hit, count_miss, added_here, added_sooner, added-later}
use Rattle.index.proofs.Steps.{Rising, rises-rising, rising-rises, rising_sooner, sooner_unnamed, unnamed_uncounted}
use Rattle.index.proofs.PlacedCode.{length-placed}

-- a new entry has the code that it was made of
pub code_new : (c : List ℕ) → entry_code (new_entry c) ≡ c
unfolding place_of_code
code_new c = take-append_seam c (replicate (code_most - length c) 0)

same_new : (c d : List ℕ) → same d (entry_code (new_entry c)) ≡ same c d
same_new c d = ap (same d) (code_new c) ∙ same_sym d c

pub added-sized : (c : List ℕ) (es : List Entry) → Fit c → Sized es → Sized (code_added c es)
unfolding code_added
added-sized c [] fit w = also (length-placed c fit.short) none
added-sized c (e ∷ es) fit w = go (three (byte_order c (entry_code e))) (added-sized c es fit (all_rest w))
  where
    go : Three (byte_order c (entry_code e)) → Sized (code_added c es) → Sized (code_added c (e ∷ es))
    go (is_b h) ih = subst⁻¹ Sized (added_sooner c e es h) (also (length-placed c fit.short) w)
    go (is_s h) ih = subst⁻¹ Sized (added_here c e es (order_alike_same c (entry_code e) h)) (also (all_first w) (all_rest w))
    go (is_a h) ih = subst⁻¹ Sized (added-later c e es h) (also (all_first w) ih)

-- the codes still rise

-- a new entry before what rises after its code
new_rises : (last c : List ℕ) (es : List Entry) → Fit c → byte_order last c ≡ Before → rises_after c es ≡ true
    → rises_after last (new_entry c ∷ es) ≡ true
unfolding place_of_code
new_rises last c es fit h w =
    rising-rises last (new_entry c) es (record {
      some = fit.some;
      short = fit.short;
      behind = ap (byte_order last) (code_new c) ∙ h;
      rest = ap (λ (d : List ℕ). rises_after d es) (code_new c) ∙ w;
    })

added-after : (last c : List ℕ) (es : List Entry) → Fit c → byte_order last c ≡ Before → rises_after last es ≡ true
    → rises_after last (code_added c es) ≡ true
unfolding code_added rises_after
added-after last c [] fit h w = new_rises last c [] fit h refl
added-after last c (e ∷ es) fit h w =
    go (three (byte_order c (entry_code e))) (rises-rising last e es w) (added-after (entry_code e) c es fit)
  where
    go : Three (byte_order c (entry_code e)) → Rising last e es
        → (byte_order (entry_code e) c ≡ Before → rises_after (entry_code e) es ≡ true → rises_after (entry_code e) (code_added c es) ≡ true)
        → rises_after last (code_added c (e ∷ es)) ≡ true
    go (is_b k) r ih =
        ap (rises_after last) (added_sooner c e es k)
        ∙ new_rises last c (e ∷ es) fit h (rising_sooner c r k)
    go (is_s k) r ih = ap (rises_after last) (added_here c e es (order_alike_same c (entry_code e) k)) ∙ w
    go (is_a k) r ih =
        ap (rises_after last) (added-later c e es k)
        ∙ rising-rises last e (code_added c es)
        (record { some = r.some; short = r.short; behind = r.behind; rest = ih (after-before c (entry_code e) k) r.rest })

pub added-rises : (c : List ℕ) (es : List Entry) → Fit c → rises es ≡ true → rises (code_added c es) ≡ true
added-rises c es fit w = added-after [] c es fit (some-behind c fit.some) w

-- what is named: the code that was added, and what was named before
pub names-added : (c : List ℕ) (es : List Entry) (d : List ℕ) → names (code_added c es) d ≡ (same c d || names es d)
unfolding code_added names
names-added c [] d = go (tested (same c d))
  where
    go : Tested (same c d) → names (new_entry c ∷ []) d ≡ (same c d || false)
    go (passed h) = names_hit (new_entry c) [] d (same_new c d ∙ h) ∙ sym (or_first false h)
    go (failed h) = names_miss (new_entry c) [] d (same_new c d ∙ h) ∙ sym (or_fails h refl)
names-added c (e ∷ es) d = go (three (byte_order c (entry_code e))) (tested (same c d)) (tested (same d (entry_code e))) (names-added c es d)
  where
    go : Three (byte_order c (entry_code e)) → Tested (same c d) → Tested (same d (entry_code e)) → names (code_added c es) d ≡ (same c d || names es d)
        → names (code_added c (e ∷ es)) d ≡ (same c d || names (e ∷ es) d)
    go (is_b h) (passed k) f ih =
        ap (λ (l : List Entry). names l d) (added_sooner c e es h)
        ∙ names_hit (new_entry c) (e ∷ es) d (same_new c d ∙ k)
        ∙ sym (or_first (names (e ∷ es) d) k)
    go (is_b h) (failed k) f ih =
        ap (λ (l : List Entry). names l d) (added_sooner c e es h)
        ∙ names_miss (new_entry c) (e ∷ es) d (same_new c d ∙ k)
        ∙ sym (ap (λ (b : Bool). b || names (e ∷ es) d) k)
    go (is_s h) (passed k) f ih =
        ap (λ (l : List Entry). names l d) (added_here c e es (order_alike_same c (entry_code e) h))
        ∙ names_hit (one_more e) es d
        (ap (same d) (sym (order_same c (entry_code e) h)) ∙ same_sym d c ∙ k)
        ∙ sym (or_first (names (e ∷ es) d) k)
    go (is_s h) (failed k) f ih =
        ap (λ (l : List Entry). names l d) (added_here c e es (order_alike_same c (entry_code e) h))
        ∙ sym (ap (λ (b : Bool). b || names (e ∷ es) d) k)
    go (is_a h) t (passed f) ih =
        ap (λ (l : List Entry). names l d) (added-later c e es h)
        ∙ names_hit e (code_added c es) d f
        ∙ sym (or_second (same c d) (names_hit e es d f))
    go (is_a h) t (failed f) ih =
        ap (λ (l : List Entry). names l d) (added-later c e es h)
        ∙ names_miss e (code_added c es) d f
        ∙ ih
        ∙ ap (λ (b : Bool). same c d || b) (sym (names_miss e es d f))

-- what is counted: once more for the code that was added

-- 1 where the codes are the same, else 0
abbrev pub once : List ℕ → List ℕ → ℕ
once c d = elim (same c d) [ true ↦ 1 | false ↦ 0 ]

pub once_hit : (c d : List ℕ) → same c d ≡ true → once c d ≡ 1
once_hit c d h = ap (λ (b : Bool). elim b [ true ↦ 1 | false ↦ 0 ]) h

pub once_miss : (c d : List ℕ) → same c d ≡ false → once c d ≡ 0
once_miss c d h = ap (λ (b : Bool). elim b [ true ↦ 1 | false ↦ 0 ]) h

-- a new entry before what does not name its code
count_new : (c : List ℕ) (es : List Entry) (d : List ℕ) → names es c ≡ false → count_of (new_entry c ∷ es) d ≡ count_of es d + once c d
count_new c es d n = go (tested (same c d))
  where
    go : Tested (same c d) → count_of (new_entry c ∷ es) d ≡ count_of es d + once c d
    go (passed h) =
        let none : count_of es d ≡ 0 = ap (count_of es) (sym (same_equal c d h)) ∙ unnamed_uncounted es c n in
        omega (arith, count_hit (new_entry c) es d (same_new c d ∙ h), once_hit c d h)
    go (failed h) = omega (arith, count_miss (new_entry c) es d (same_new c d ∙ h), once_miss c d h)

count-after : (last c : List ℕ) (es : List Entry) → rises_after last es ≡ true → (d : List ℕ) → count_of (code_added c es) d ≡ count_of es d + once c d
unfolding code_added names
count-after last c [] w d = count_new c [] d refl
count-after last c (e ∷ es) w d =
    go (three (byte_order c (entry_code e))) (tested (same d (entry_code e))) (rises-rising last e es w) (λ v. count-after (entry_code e) c es v d)
  where
    go : Three (byte_order c (entry_code e)) → Tested (same d (entry_code e)) → Rising last e es
        → (rises_after (entry_code e) es ≡ true → count_of (code_added c es) d ≡ count_of es d + once c d)
        → count_of (code_added c (e ∷ es)) d ≡ count_of (e ∷ es) d + once c d
    go (is_b h) t r ih =
        ap (λ (l : List Entry). count_of l d) (added_sooner c e es h) ∙ count_new c (e ∷ es) d (sooner_unnamed c r h)
    go (is_s h) (passed f) r ih =
        let same_code : same c d ≡ true = ap (same c) (same_equal d (entry_code e) f) ∙ order_alike_same c (entry_code e) h in
        ap (λ (l : List Entry). count_of l d) (added_here c e es (order_alike_same c (entry_code e) h))
        ∙ omega (arith, count_hit (one_more e) es d f, count_hit e es d f, once_hit c d same_code)
    go (is_s h) (failed f) r ih =
        let other-code : same c d ≡ false = same_sym c d ∙ ap (same d) (order_same c (entry_code e) h) ∙ f in
        ap (λ (l : List Entry). count_of l d) (added_here c e es (order_alike_same c (entry_code e) h))
        ∙ omega (arith, count_miss (one_more e) es d f, count_miss e es d f, once_miss c d other-code)
    go (is_a h) (passed f) r ih =
        let other-code : same c d ≡ false = ap (same c) (same_equal d (entry_code e) f) ∙ after_differs c (entry_code e) h in
        ap (λ (l : List Entry). count_of l d) (added-later c e es h)
        ∙ omega (arith, count_hit e (code_added c es) d f, count_hit e es d f, once_miss c d other-code)
    go (is_a h) (failed f) r ih =
        ap (λ (l : List Entry). count_of l d) (added-later c e es h)
        ∙ omega (arith, count_miss e (code_added c es) d f, count_miss e es d f, ih r.rest)

pub count-added : (c : List ℕ) (es : List Entry) → rises es ≡ true → (d : List ℕ)
    → count_of (code_added c es) d ≡ count_of es d + elim (same c d) [ true ↦ 1 | false ↦ 0 ]
count-added c es w d = count-after [] c es w d

-- how many are named: one more where the code was not
length-after : (last c : List ℕ) (es : List Entry) → rises_after last es ≡ true
    → length (code_added c es) ≡ elim (names es c) [ true ↦ length es | false ↦ suc (length es) ]
unfolding code_added names
length-after last c [] w = refl
length-after last c (e ∷ es) w = go (three (byte_order c (entry_code e))) (rises-rising last e es w) (length-after (entry_code e) c es)
  where
    go : Three (byte_order c (entry_code e)) → Rising last e es
        → (rises_after (entry_code e) es ≡ true → length (code_added c es) ≡ elim (names es c) [ true ↦ length es | false ↦ suc (length es) ])
        → length (code_added c (e ∷ es)) ≡ elim (names (e ∷ es) c) [ true ↦ suc (length es) | false ↦ suc (suc (length es)) ]
    go (is_b h) r ih =
        ap length (added_sooner c e es h)
        ∙ sym (ap (λ (b : Bool). elim b [ true ↦ suc (length es) | false ↦ suc (suc (length es)) ])
        (sooner_unnamed c r h))
    go (is_s h) r ih =
        ap length (added_here c e es (order_alike_same c (entry_code e) h))
        ∙ sym (ap (λ (b : Bool). elim b [ true ↦ suc (length es) | false ↦ suc (suc (length es)) ])
        (names_hit e es c (order_alike_same c (entry_code e) h)))
    go (is_a h) r ih =
        ap length (added-later c e es h)
        ∙ ap suc (ih r.rest)
        ∙ by (names es c)
        ∙ sym (ap (λ (b : Bool). elim b [ true ↦ suc (length es) | false ↦ suc (suc (length es)) ])
        (names_miss e es c (after_differs c (entry_code e) h)))
      where
        by : (b : Bool)
            → suc (elim b [ true ↦ length es | false ↦ suc (length es) ]) ≡ elim b [ true ↦ suc (length es) | false ↦ suc (suc (length es)) ]
        by true = refl
        by false = refl

pub length-added : (c : List ℕ) (es : List Entry) → rises es ≡ true
    → length (code_added c es) ≡ elim (names es c) [ true ↦ length es | false ↦ suc (length es) ]
length-added c es w = length-after [] c es w
