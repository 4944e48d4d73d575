-- The numbers that pass a test, `passing`: the first of them, how far a search for it has come, and which numbers they are; a search in two parts.
-- Assumes nothing.
use mathlib.Core.Bool.{Bool, true, false}
use mathlib.Core.List.{List, [], ◌∷◌}
use mathlib.Core.Logic.{◌⊎◌, inl, inr}
use mathlib.Core.Path.{◌≡◌, refl, sym, ap, ap₂, ◌∙◌, subst⁻¹}
use Prim.Native.Nat.{ℕ, zero, suc, ◌+◌, ◌-◌, ◌≤◌, ◌<◌}
use native.Mathlib.Numerals.{add-one}
use native.Mathlib.Omega.{arith}
use lib.ListN.{length, get_or}
use Rattle.laws.specs.Tables.{passing}
use Rattle.laws.proofs.Cases.{less_or_not}
use Rattle.laws.proofs.Tests.{Tested, passed, failed, tested, never_both}

module _ (test : ℕ → Bool) where
  pub passing_hit : (i n : ℕ) → test i ≡ true → passing test i (suc n) ≡ i ∷ passing test (suc i) n
  unfolding passing
  passing_hit i n e = rw (e, passing)

  pub passing_miss : (i n : ℕ) → test i ≡ false → passing test i (suc n) ≡ passing test (suc i) n
  unfolding passing
  passing_miss i n e = rw (e, passing)

  -- where none passes
  pub passing-none : (i n : ℕ) → ((k : ℕ) → i ≤ k → k < i + n → test k ≡ false) → passing test i n ≡ []
  unfolding passing
  passing-none i zero fails = refl
  passing-none i (suc n) fails =
      passing_miss i n (fails i (omega arith) (omega arith)) ∙ passing-none (suc i) n (λ k g h. fails k (omega (arith, g)) (omega (arith, h)))

  -- numbers in front that do not pass are passed over, and so are numbers behind
  pub passing-behind : (m i n total : ℕ) → m + n ≡ total → ((k : ℕ) → i ≤ k → k < i + m → test k ≡ false) → passing test i total ≡ passing test (i + m) n
  passing-behind zero i n total e fails =
      ap₂ (λ (j k : ℕ). passing test j k) (let q : i ≡ i + 0 = omega arith in q) (let q : total ≡ n = omega (arith, e) in q)
  passing-behind (suc m) i n zero e fails = absurd (omega (arith, e))
  passing-behind (suc m) i n (suc total) e fails =
      passing_miss i total (fails i (omega arith) (omega arith))
      ∙ passing-behind m (suc i) n total (omega (arith, e)) (λ k g h. fails k (omega (arith, g)) (omega (arith, h)))
      ∙ ap (λ (j : ℕ). passing test j n) (let q : suc i + m ≡ i + suc m = omega arith in q)

  pub passing-before : (m i total : ℕ) → m ≤ total → ((k : ℕ) → i + m ≤ k → k < i + total → test k ≡ false) → passing test i total ≡ passing test i m
  unfolding passing
  passing-before zero i total h fails = passing-none i total (λ k g l. fails k (omega (arith, g)) (omega (arith, l)))
  passing-before (suc m) i zero h fails = absurd (omega (arith, h))
  passing-before (suc m) i (suc total) h fails =
      by (tested (test i)) (passing-before m (suc i) total (omega (arith, h)) (λ k g l. fails k (omega (arith, g)) (omega (arith, l))))
    where
      by : Tested (test i) → passing test (suc i) total ≡ passing test (suc i) m → passing test i (suc total) ≡ passing test i (suc m)
      by (passed e) later = passing_hit i total e ∙ ap (λ (s : List ℕ). i ∷ s) later ∙ sym (passing_hit i m e)
      by (failed e) later = passing_miss i total e ∙ later ∙ sym (passing_miss i m e)

  -- no more than there are numbers
  pub length-passing : (i n : ℕ) → length (passing test i n) ≤ n
  unfolding passing
  length-passing i zero = omega arith
  length-passing i (suc n) = by (tested (test i)) (length-passing (suc i) n)
    where
      by : Tested (test i) → length (passing test (suc i) n) ≤ n → length (passing test i (suc n)) ≤ suc n
      by (passed e) later = omega (arith, later, ap length (passing_hit i n e))
      by (failed e) later = omega (arith, later, ap length (passing_miss i n e))

  -- which numbers they are: each lies within and passes
  pub record Passes (i n j : ℕ) : Type 0 where
    pub from : i ≤ j
    pub to : j < i + n
    pub passes : test j ≡ true

  pub passing_passes : (i n k : ℕ) → k < length (passing test i n) → Passes i n (get_or (passing test i n) k 0)
  unfolding passing
  passing_passes i zero k h = absurd (omega (arith, h))
  passing_passes i (suc n) k h = by (tested (test i)) (passing_passes (suc i) n) k h
    where
      wider : (j : ℕ) → Passes (suc i) n j → Passes i (suc n) j
      wider j w = record { from = omega (arith, w.from); to = omega (arith, w.to); passes = w.passes }

      by : Tested (test i) → ((l : ℕ) → l < length (passing test (suc i) n) → Passes (suc i) n (get_or (passing test (suc i) n) l 0))
          → (l : ℕ) → l < length (passing test i (suc n)) → Passes i (suc n) (get_or (passing test i (suc n)) l 0)
      by (failed e) later l =
          subst⁻¹ (λ (s : List ℕ). l < length s → Passes i (suc n) (get_or s l 0)) (passing_miss i n e) (λ w. wider (get_or (passing test (suc i) n) l 0) (later l w))
      by (passed e) later zero =
          subst⁻¹ (λ (s : List ℕ). 0 < length s → Passes i (suc n) (get_or s 0 0)) (passing_hit i n e)
          (λ w. record { from = omega arith; to = omega arith; passes = e })
      by (passed e) later (suc l) =
          subst⁻¹ (λ (s : List ℕ). suc l < length s → Passes i (suc n) (get_or s (suc l) 0)) (passing_hit i n e)
          (λ w. wider (get_or (passing test (suc i) n) l 0) (later l (omega (arith, w))))

  -- they rise
  pub passing-rises : (i n k : ℕ) → suc k < length (passing test i n) → get_or (passing test i n) k 0 < get_or (passing test i n) (suc k) 0
  unfolding passing
  passing-rises i zero k h = absurd (omega (arith, h))
  passing-rises i (suc n) k h = by (tested (test i)) (passing-rises (suc i) n) k h
    where
      by : Tested (test i)
          → ((l : ℕ) → suc l < length (passing test (suc i) n) → get_or (passing test (suc i) n) l 0 < get_or (passing test (suc i) n) (suc l) 0)
          → (l : ℕ) → suc l < length (passing test i (suc n)) → get_or (passing test i (suc n)) l 0 < get_or (passing test i (suc n)) (suc l) 0
      by (failed e) later l = subst⁻¹ (λ (s : List ℕ). suc l < length s → get_or s l 0 < get_or s (suc l) 0) (passing_miss i n e) (later l)
      by (passed e) later zero =
          subst⁻¹ (λ (s : List ℕ). 1 < length s → get_or s 0 0 < get_or s 1 0) (passing_hit i n e)
          (λ w. omega (arith, (passing_passes (suc i) n 0 (omega (arith, w))).from))
      by (passed e) later (suc l) =
          subst⁻¹ (λ (s : List ℕ). suc (suc l) < length s → get_or s (suc l) 0 < get_or s (suc (suc l)) 0) (passing_hit i n e) (λ w. later l (omega (arith, w)))

  -- and none that passes is left out: it is the k-th, counted from 0
  pub record Listed (i n j : ℕ) : Type 0 where
    pub which : ℕ
    pub within : which < length (passing test i n)
    pub there : get_or (passing test i n) which 0 ≡ j

  pub passing_lists : (i n j : ℕ) → Passes i n j → Listed i n j
  unfolding passing
  passing_lists i zero j w = absurd (omega (arith, w.from, w.to))
  passing_lists i (suc n) j w = by (tested (test i)) (less_or_not i j) (passing_lists (suc i) n j)
    where
      by : Tested (test i) → (i < j) ⊎ (j ≤ i) → (Passes (suc i) n j → Listed (suc i) n j) → Listed i (suc n) j
      by (passed e) (inl h) later =
          let l = later (record { from = omega (arith, h); to = omega (arith, w.to); passes = w.passes }) in
          record {
            which = suc l.which;
            within = omega (arith, l.within, ap length (passing_hit i n e));
            there = ap (λ (s : List ℕ). get_or s (suc l.which) 0) (passing_hit i n e) ∙ l.there;
          }
      by (failed e) (inl h) later =
          let l = later (record { from = omega (arith, h); to = omega (arith, w.to); passes = w.passes }) in
          record {
            which = l.which;
            within = omega (arith, l.within, ap length (passing_miss i n e));
            there = ap (λ (s : List ℕ). get_or s l.which 0) (passing_miss i n e) ∙ l.there;
          }
      by (passed e) (inr h) later =
          record {
            which = 0;
            within = omega (arith, ap length (passing_hit i n e));
            there = ap (λ (s : List ℕ). get_or s 0 0) (passing_hit i n e) ∙ omega (arith, h, w.from);
          }
      by (failed e) (inr h) later =
          absurd (never_both w.passes (ap test (let q : j ≡ i = omega (arith, h, w.from) in q) ∙ e))

  -- the first one, or none
  pub data Passed (i n : ℕ) : Type 0 where
    none : passing test i n ≡ [] → Passed i n
    first : (k : ℕ) → i ≤ k → k < i + n → test k ≡ true → passing test i n ≡ k ∷ passing test (suc k) (i + n - suc k) → Passed i n

  pub first-passed : (i n : ℕ) → Passed i n
  unfolding passing
  first-passed i zero = none refl
  first-passed i (suc n) = by (tested (test i)) (first-passed (suc i) n)
    where
      by : Tested (test i) → Passed (suc i) n → Passed i (suc n)
      by (passed e) later =
          first i (omega arith) (omega arith) e
          (passing_hit i n e ∙ ap (λ (m : ℕ). i ∷ passing test (suc i) m) (let q : n ≡ i + suc n - suc i = omega arith in q))
      by (failed e) (none q) = none (passing_miss i n e ∙ q)
      by (failed e) (first k g h p q) =
          first k (omega (arith, g)) (omega (arith, h)) p
          (passing_miss i n e ∙ q ∙ ap (λ (m : ℕ). k ∷ passing test (suc k) m) (let w : suc i + n - suc k ≡ i + suc n - suc k = omega arith in w))

  -- that r is the first from `from` on and below `end` that passes
  pub record FirstPassed (from end r : ℕ) : Type 0 where
    pub later : from ≤ r
    pub within : r < end
    pub passes : test r ≡ true
    pub rest : passing test from (end - from) ≡ r ∷ passing test (suc r) (end - suc r)

  -- a search from `from` on that answers `end` where none passes
  module _ (from end r : ℕ) (rising : from ≤ end) (found : r ≡ get_or (passing test from (end - from)) 0 end) where
    pub found_first : (r ≡ end → ⊥) → FirstPassed from end r
    found_first here = by (first-passed from (end - from))
      where
        by : Passed from (end - from) → FirstPassed from end r
        by (none q) = absurd (here (found ∙ ap (λ (s : List ℕ). get_or s 0 end) q))
        by (first k g h p q) =
            let e : k ≡ r = sym (found ∙ ap (λ (s : List ℕ). get_or s 0 end) q) in
            record {
              later = omega (arith, g, e);
              within = omega (arith, h, e, rising);
              passes = ap test (sym e) ∙ p;
              rest = q
                  ∙ ap (λ (m : ℕ). k ∷ passing test (suc k) m) (let w : from + (end - from) - suc k ≡ end - suc k = omega (arith, rising) in w)
                  ∙ ap (λ (j : ℕ). j ∷ passing test (suc j) (end - suc j)) e;
            }

    pub found_none : r ≡ end → passing test from (end - from) ≡ []
    found_none past = by (first-passed from (end - from))
      where
        by : Passed from (end - from) → passing test from (end - from) ≡ []
        by (none q) = q
        by (first k g h p q) =
            let e : k ≡ r = sym (found ∙ ap (λ (s : List ℕ). get_or s 0 end) q) in
            absurd (omega (arith, h, e, past, rising))

  -- a loop that searches, before its turn at i: what is left gives the whole
  pub record Passing (from end i : ℕ) : Type 0 where
    pub later : from ≤ i
    pub within : i ≤ end
    pub rest : get_or (passing test i (end - i)) 0 end ≡ get_or (passing test from (end - from)) 0 end

  pub passing_begins : (from end : ℕ) → from ≤ end → Passing from end from
  passing_begins from end h = record { later = omega arith; within = h; rest = refl }

  module _ {from end i : ℕ} (s : Passing from end i) where
    turn : i < end → get_or (passing test i (suc (end - (i + 1)))) 0 end ≡ get_or (passing test from (end - from)) 0 end
    turn h = ap (λ (n : ℕ). get_or (passing test i n) 0 end) (let e : suc (end - (i + 1)) ≡ end - i = omega arith in e) ∙ s.rest

    pub passing-found : i < end → test i ≡ true → i ≡ get_or (passing test from (end - from)) 0 end
    passing-found h e = ap (λ (s : List ℕ). get_or s 0 end) (sym (passing_hit i (end - (i + 1)) e)) ∙ turn h

    pub passing_on : i < end → test i ≡ false → Passing from end (i + 1)
    passing_on h e =
        record {
          later = omega (arith, s.later);
          within = omega arith;
          rest =
              ap (λ (k : ℕ). get_or (passing test k (end - (i + 1))) 0 end) (add-one i)
              ∙ ap (λ (s : List ℕ). get_or s 0 end) (sym (passing_miss i (end - (i + 1)) e))
              ∙ turn h;
        }

    -- none is left: at the end, or where no number from here on passes
    pub passing-ends : ((k : ℕ) → i ≤ k → k < end → test k ≡ false) → end ≡ get_or (passing test from (end - from)) 0 end
    passing-ends fails =
        ap (λ (s : List ℕ). get_or s 0 end) (sym (passing-none i (end - i) (λ k g h. fails k g (omega (arith, h, s.within))))) ∙ s.rest

    pub passing-done : end ≤ i → end ≡ get_or (passing test from (end - from)) 0 end
    passing-done h = passing-ends (λ k g l. absurd (omega (arith, g, l)))

  -- the first lies where the search goes: not before its beginning, nor past its end
  pub first_bounds : (from end : ℕ) → from ≤ end → (from ≤ get_or (passing test from (end - from)) 0 end) × (get_or (passing test from (end - from)) 0 end ≤ end)
  first_bounds from end rising = by (first-passed from (end - from))
    where
      by : Passed from (end - from) → (from ≤ get_or (passing test from (end - from)) 0 end) × (get_or (passing test from (end - from)) 0 end ≤ end)
      by (none q) = let e = ap (λ (s : List ℕ). get_or s 0 end) q in (omega (arith, e, rising), omega (arith, e))
      by (first k g h p q) = let e = ap (λ (s : List ℕ). get_or s 0 end) q in (omega (arith, e, g), omega (arith, e, h, rising))

  -- none before it passes
  none-before-from : (i n end k : ℕ) → i + n ≡ end → i ≤ k → k < get_or (passing test i n) 0 end → test k ≡ false
  unfolding passing
  none-before-from i zero end k total g h = absurd (omega (arith, total, g, h))
  none-before-from i (suc n) end k total g h = by (tested (test i)) (less_or_not i k) (none-before-from (suc i) n end k (omega (arith, total)))
    where
      by : Tested (test i) → (i < k) ⊎ (k ≤ i) → (suc i ≤ k → k < get_or (passing test (suc i) n) 0 end → test k ≡ false) → test k ≡ false
      by (passed e) s later = absurd (omega (arith, h, g, ap (λ (s : List ℕ). get_or s 0 end) (passing_hit i n e)))
      by (failed e) (inl l) later = later (omega (arith, l)) (omega (arith, h, ap (λ (s : List ℕ). get_or s 0 end) (passing_miss i n e)))
      by (failed e) (inr l) later = ap test (let q : k ≡ i = omega (arith, g, l) in q) ∙ e

  pub none_before : (from end k : ℕ) → from ≤ end → from ≤ k → k < get_or (passing test from (end - from)) 0 end → test k ≡ false
  none_before from end k rising g h = none-before-from from (end - from) end k (omega (arith, rising)) g h

  -- numbers that do not pass are passed over at once
  pub passing_over : {from end i : ℕ} (j : ℕ) → Passing from end i → i ≤ j → j ≤ end → ((k : ℕ) → i ≤ k → k < j → test k ≡ false)
      → Passing from end j
  passing_over {from} {end} {i} j s g h fails =
      record {
        later = omega (arith, s.later);
        within = h;
        rest =
            ap (λ (n : ℕ). get_or (passing test n (end - j)) 0 end) (let e : j ≡ i + (j - i) = omega (arith, g) in e)
            ∙ ap (λ (l : List ℕ). get_or l 0 end)
            (sym (passing-behind (j - i) i (end - j) (end - i) (omega (arith, g, h)) (λ k low high. fails k low (omega (arith, high, g)))))
            ∙ s.rest;
      }

  -- a search in two parts: what the first part finds, or else what the second does
  module _ {from mid end r : ℕ} (low : from ≤ mid) (high : mid ≤ end) (found : r ≡ get_or (passing test from (mid - from)) 0 mid) where
    pub first_part : r < mid → r ≡ get_or (passing test from (end - from)) 0 end
    first_part h =
        let here = found_first from mid r low found (λ e. omega (arith, e, h)) in
        passing-found
        (passing_over r (passing_begins from end (omega (arith, low, high))) here.later (omega (arith, h, high))
        (λ k g l. none_before from mid k low g (omega (arith, l, found))))
        (omega (arith, h, high)) here.passes

    pub second_part : mid ≤ r → Passing from end mid
    second_part h =
        passing_over mid (passing_begins from end (omega (arith, low, high))) low high
        (λ k g l. none_before from mid k low g (omega (arith, l, found, h)))

-- two tests that agree on some numbers let the same of them pass
pub passing_alike : (test other : ℕ → Bool) (i n : ℕ) → ((k : ℕ) → i ≤ k → k < i + n → test k ≡ other k) → passing test i n ≡ passing other i n
unfolding passing
passing_alike test other i zero alike = refl
passing_alike test other i (suc n) alike =
    by (tested (other i)) (passing_alike test other (suc i) n (λ k g h. alike k (omega (arith, g)) (omega (arith, h))))
  where
    by : Tested (other i) → passing test (suc i) n ≡ passing other (suc i) n → passing test i (suc n) ≡ passing other i (suc n)
    by (passed e) later =
        passing_hit test i n (alike i (omega arith) (omega arith) ∙ e) ∙ ap (λ (s : List ℕ). i ∷ s) later ∙ sym (passing_hit other i n e)
    by (failed e) later = passing_miss test i n (alike i (omega arith) (omega arith) ∙ e) ∙ later ∙ sym (passing_miss other i n e)
