-- Counts that are too large (X3): of rising entries where that of some code is; and where one code is added, what was too large stays so, and else
-- the code's own count alone decides.
-- Assumes nothing.
use mathlib.Core.Bool.{true, false}
use mathlib.Core.List.{List, [], ◌∷◌}
use mathlib.Core.Logic.{◌⊎◌, inl, inr}
use mathlib.Core.Path.{◌≡◌, refl, sym, ap, ◌∙◌}
use Prim.Native.Nat.{ℕ, suc, ◌<◌, ◌≤◌}
use native.Mathlib.Omega.{arith}
use borrow.Author.Tests.{leb-true, leb-false, le-leb, lt-leb}
use lib.Dec.{leb}
use Rattle.laws.specs.Lists.{same}
use Rattle.laws.proofs.Lists.{same_self, same_equal}
use Rattle.laws.proofs.Tests.{Tested, passed, failed, tested, never_both, never-holds, or_first, or_second, or_fails, or_cases}
use Rattle.index.specs.Order.{byte_order}
use Rattle.index.specs.Index.{Entry, counts_past, entry_code, rises_after, rises, names, count_of}
use Rattle.index.specs.Adding.{new_entry, one_more, code_added, too_large}
use Rattle.index.proofs.Orders.{Three, is_b, is_s, is_a, three, order_alike_same, after_differs}
use Rattle.index.proofs.Steps.{names_hit, names_miss, count_hit, count_miss, added_here, added_sooner, added-later}
use Rattle.index.proofs.Steps.{Rising, rises-rising, rises-unnamed, sooner_unnamed, unnamed_uncounted}

-- the first count is too large, or one of the rest; or none is
module _ (e : Entry) (es : List Entry) where
  large-first : counts_past ≤ e.count → too_large (e ∷ es) ≡ true
  unfolding too_large
  large-first h = or_first (too_large es) (le-leb counts_past e.count h)

  large-rest : too_large es ≡ true → too_large (e ∷ es) ≡ true
  unfolding too_large
  large-rest h = or_second (leb counts_past e.count) h

  large_cases : too_large (e ∷ es) ≡ true → (counts_past ≤ e.count) ⊎ (too_large es ≡ true)
  unfolding too_large
  large_cases h = go (or_cases (leb counts_past e.count) (too_large es) h)
    where
      go : (leb counts_past e.count ≡ true) ⊎ (too_large es ≡ true) → (counts_past ≤ e.count) ⊎ (too_large es ≡ true)
      go (inl k) = inl (leb-true counts_past e.count k)
      go (inr k) = inr k

  small_both : e.count < counts_past → too_large es ≡ false → too_large (e ∷ es) ≡ false
  unfolding too_large
  small_both h k = or_fails (lt-leb counts_past e.count h) k

  small_first : too_large (e ∷ es) ≡ false → e.count < counts_past
  small_first h = go (tested (leb counts_past e.count))
    where
      go : Tested (leb counts_past e.count) → e.count < counts_past
      go (passed k) = absurd (never_both (large-first (leb-true counts_past e.count k)) h)
      go (failed k) = leb-false counts_past e.count k

  small_rest : too_large (e ∷ es) ≡ false → too_large es ≡ false
  small_rest h = never-holds (too_large es) (λ k. never_both (large-rest k) h)

-- of rising entries a count is too large exactly where that of some code is
pub large-some : (last : List ℕ) (es : List Entry) → rises_after last es ≡ true → too_large es ≡ true → (c : List ℕ) × (counts_past ≤ count_of es c)
unfolding too_large
large-some last [] w h = absurd (never_both h refl)
large-some last (e ∷ es) w h = by (large_cases e es h) (large-some (entry_code e) es (rises-rising last e es w).rest)
  where
    later : (c : List ℕ) → counts_past ≤ count_of es c → Tested (same c (entry_code e)) → counts_past ≤ count_of (e ∷ es) c
    later c k (passed s) =
        let none : count_of es c ≡ 0 =
        ap (count_of es) (same_equal c (entry_code e) s)
        ∙ unnamed_uncounted es (entry_code e) (rises-unnamed (entry_code e) es (rises-rising last e es w).rest) in
        absurd (omega (arith, k, none))
    later c k (failed s) = omega (arith, k, count_miss e es c s)

    by : (counts_past ≤ e.count) ⊎ (too_large es ≡ true) → (too_large es ≡ true → (c : List ℕ) × (counts_past ≤ count_of es c))
        → (c : List ℕ) × (counts_past ≤ count_of (e ∷ es) c)
    by (inl k) ih = (entry_code e, omega (arith, k, count_hit e es (entry_code e) (same_self (entry_code e))))
    by (inr k) ih = let found = ih k in (found.0, later found.0 found.1 (tested (same found.0 (entry_code e))))

pub some-large : (es : List Entry) (c : List ℕ) → counts_past ≤ count_of es c → too_large es ≡ true
unfolding count_of
some-large [] c h = absurd (omega (arith, h))
some-large (e ∷ es) c h = by (tested (same c (entry_code e))) (some-large es c)
  where
    by : Tested (same c (entry_code e)) → (counts_past ≤ count_of es c → too_large es ≡ true) → too_large (e ∷ es) ≡ true
    by (passed s) ih = large-first e es (omega (arith, h, count_hit e es c s))
    by (failed s) ih = large-rest e es (ih (omega (arith, h, count_miss e es c s)))

-- no count shrinks
pub large-added : (c : List ℕ) (es : List Entry) → too_large es ≡ true → too_large (code_added c es) ≡ true
unfolding too_large
large-added c [] w = absurd (never_both w refl)
large-added c (e ∷ es) w = go (three (byte_order c (entry_code e))) (large_cases e es w) (large-added c es)
  where
    go : Three (byte_order c (entry_code e)) → (counts_past ≤ e.count) ⊎ (too_large es ≡ true) → (too_large es ≡ true → too_large (code_added c es) ≡ true)
        → too_large (code_added c (e ∷ es)) ≡ true
    go (is_b h) k ih = ap too_large (added_sooner c e es h) ∙ large-rest (new_entry c) (e ∷ es) w
    go (is_s h) (inl k) ih =
        ap too_large (added_here c e es (order_alike_same c (entry_code e) h))
        ∙ large-first (one_more e) es (let m : counts_past ≤ suc e.count = omega arith in m)
    go (is_s h) (inr k) ih = ap too_large (added_here c e es (order_alike_same c (entry_code e) h)) ∙ large-rest (one_more e) es k
    go (is_a h) (inl k) ih = ap too_large (added-later c e es h) ∙ large-first e (code_added c es) k
    go (is_a h) (inr k) ih = ap too_large (added-later c e es h) ∙ large-rest e (code_added c es) (ih k)

-- a new code is counted once, which is not too large
pub small_new : (c : List ℕ) (es : List Entry) → names es c ≡ false → too_large es ≡ false → too_large (code_added c es) ≡ false
unfolding code_added too_large
small_new c [] n w = refl
small_new c (e ∷ es) n w = go (three (byte_order c (entry_code e))) (small_new c es)
  where
    go : Three (byte_order c (entry_code e)) → (names es c ≡ false → too_large es ≡ false → too_large (code_added c es) ≡ false)
        → too_large (code_added c (e ∷ es)) ≡ false
    go (is_b h) ih = ap too_large (added_sooner c e es h) ∙ w
    go (is_s h) ih = absurd (never_both (names_hit e es c (order_alike_same c (entry_code e) h)) n)
    go (is_a h) ih =
        ap too_large (added-later c e es h)
        ∙ small_both e (code_added c es) (small_first e es w)
        (ih (sym (names_miss e es c (after_differs c (entry_code e) h)) ∙ n) (small_rest e es w))

-- of a code that is named, its own count decides

small_after : (last c : List ℕ) (es : List Entry) → rises_after last es ≡ true → names es c ≡ true → suc (count_of es c) < counts_past
    → too_large es ≡ false → too_large (code_added c es) ≡ false
unfolding names
small_after last c [] v n less w = absurd (never_both n refl)
small_after last c (e ∷ es) v n less w =
    go (three (byte_order c (entry_code e))) (rises-rising last e es v) (small_after (entry_code e) c es)
  where
    go : Three (byte_order c (entry_code e)) → Rising last e es
        → (rises_after (entry_code e) es ≡ true → names es c ≡ true → suc (count_of es c) < counts_past → too_large es ≡ false
        → too_large (code_added c es) ≡ false)
        → too_large (code_added c (e ∷ es)) ≡ false
    go (is_b h) r ih = absurd (never_both n (sooner_unnamed c r h))
    go (is_s h) r ih =
        let here = order_alike_same c (entry_code e) h in
        ap too_large (added_here c e es here)
        ∙ small_both (one_more e) es (let m : suc e.count < counts_past = omega (arith, count_hit e es c here) in m) (small_rest e es w)
    go (is_a h) r ih =
        let other = after_differs c (entry_code e) h in
        ap too_large (added-later c e es h)
        ∙ small_both e (code_added c es) (small_first e es w)
        (ih r.rest (sym (names_miss e es c other) ∙ n)
        (let m : suc (count_of es c) < counts_past = omega (arith, count_miss e es c other) in m) (small_rest e es w))

pub small_named : (c : List ℕ) (es : List Entry) → rises es ≡ true → names es c ≡ true → suc (count_of es c) < counts_past → too_large es ≡ false
    → too_large (code_added c es) ≡ false
small_named c es v n less w = small_after [] c es v n less w

large-after : (last c : List ℕ) (es : List Entry) → rises_after last es ≡ true → names es c ≡ true → counts_past ≤ suc (count_of es c)
    → too_large (code_added c es) ≡ true
unfolding names
large-after last c [] v n past = absurd (never_both n refl)
large-after last c (e ∷ es) v n past = go (three (byte_order c (entry_code e))) (rises-rising last e es v) (large-after (entry_code e) c es)
  where
    go : Three (byte_order c (entry_code e)) → Rising last e es
        → (rises_after (entry_code e) es ≡ true → names es c ≡ true → counts_past ≤ suc (count_of es c) → too_large (code_added c es) ≡ true)
        → too_large (code_added c (e ∷ es)) ≡ true
    go (is_b h) r ih = absurd (never_both n (sooner_unnamed c r h))
    go (is_s h) r ih =
        let here = order_alike_same c (entry_code e) h in
        ap too_large (added_here c e es here)
        ∙ large-first (one_more e) es (let m : counts_past ≤ suc e.count = omega (arith, count_hit e es c here) in m)
    go (is_a h) r ih =
        let other = after_differs c (entry_code e) h in
        ap too_large (added-later c e es h)
        ∙ large-rest e (code_added c es)
        (ih r.rest (sym (names_miss e es c other) ∙ n) (let m : counts_past ≤ suc (count_of es c) = omega (arith, count_miss e es c other) in m))

pub large-named : (c : List ℕ) (es : List Entry) → rises es ≡ true → names es c ≡ true → counts_past ≤ suc (count_of es c)
    → too_large (code_added c es) ≡ true
large-named c es v n past = large-after [] c es v n past
