-- The lowest rule that fails, and the first row that fails it (R4), found row by row: what the rows so far show, and the verdict from all of them.
-- Assumes nothing.
use mathlib.Core.Bool.{Bool, true, false}
use mathlib.Core.List.{List, [], ◌∷◌}
use mathlib.Core.Logic.{◌⊎◌, inl, inr}
use mathlib.Core.Path.{◌≡◌, refl, sym, ap, ap₂, ◌∙◌}
use Prim.Native.Nat.{ℕ, zero, suc, ◌+◌, ◌-◌, ◌≤◌, ◌<◌}
use native.Mathlib.Omega.{arith}
use Rattle.std.specs.Prelude.{Option, Some, None, MatchOption, IsTrue, nat_lt}
use borrow.Author.Tests.{ltb-true, ltb-false}
use Rattle.std.specs.Option.{unwrap_or}
use lib.ListN.{length, get_or}
use Rattle.laws.specs.Tables.{passing}
use Rattle.laws.proofs.Cases.{equal_or_not}
use Rattle.laws.proofs.Passing.{passing_hit, passing-none, passing-behind, found_first}
use Rattle.table.specs.Lent.{Lent}
use Rattle.screen.specs.declared.Verdict.{Verdict}
use Rattle.screen.specs.Refusals.{first_rule}
use Rattle.screen.specs.Rules.{Rule, once, wanted_fields, codes, value_rules, rules}
use Rattle.screen.specs.Meeting.{fails}
use Rattle.screen.specs.Verdicts.{yes, at_first, judged_by}
use Rattle.screen.specs.inner.Rows.{past_rules, fails_at, first_failed}
use Rattle.laws.proofs.Passing.{first_bounds, none_before}
use Rattle.screen.proofs.FirstFound.{number_found, end_found, found_below}

-- the rows that fail a rule, where one is the first of them, and where there is none
first-row : (test : ℕ → Bool) (n p : ℕ) → p < n → test p ≡ true → ((m : ℕ) → m < p → test m ≡ false)
    → passing test 0 n ≡ p ∷ passing test (suc p) (n - suc p)
first-row test n p h e none =
    passing-behind test p 0 (suc (n - suc p)) n (omega (arith, h)) (λ k g l. none k (omega (arith, l)))
    ∙ ap (λ (k : ℕ). passing test k (suc (n - suc p))) (let q : 0 + p ≡ p = omega arith in q) ∙ passing_hit test p (n - suc p) e

-- the lowest rule that is kept, past the rules for none; its place; and the verdict on it
abbrev pub kept_number : Option Verdict → ℕ
kept_number None = past_rules
kept_number (Some v) = v.number

abbrev pub kept_place : Option Verdict → ℕ
kept_place None = 0
kept_place (Some v) = v.place

abbrev pub kept_verdict : Option Verdict → Verdict
kept_verdict None = yes
kept_verdict (Some v) = v

pub kept_or : (o : Option Verdict) → unwrap_or o yes ≡ kept_verdict o
kept_or None = refl
kept_or (Some v) = refl

-- what the test for a lower rule says
lower_told : (o : Option Verdict) (r : ℕ) {b : Bool} → MatchOption o (IsTrue b) (λ (v : Verdict). b ≡ nat_lt r v.number) → b ≡ true → r < past_rules
    → r < kept_number o
lower_told None r m e h = h
lower_told (Some v) r m e h = ltb-true r v.number (sym m ∙ e)

other_told : (o : Option Verdict) (r : ℕ) {b : Bool} → MatchOption o (IsTrue b) (λ (v : Verdict). b ≡ nat_lt r v.number) → b ≡ false → kept_number o ≤ r
other_told None r m e = let never : false ≡ true = sym e ∙ m in cc
other_told (Some v) r m e = ltb-false r v.number (sym m ∙ e)

module _ (t : Lent) where
  abbrev count : ℕ
  count = t.card.segments

  -- no row fails the first k of some rules, and row p is the first that fails the next
  module _ (p : ℕ) (h : p < count) where
    pub judged_no : (rs : List Rule) (number k : ℕ) → k < length rs
        → ((j : ℕ) → j < k → (m : ℕ) → m < count → fails t (get_or rs j (once [])) m ≡ false)
        → fails t (get_or rs k (once [])) p ≡ true → ((m : ℕ) → m < p → fails t (get_or rs k (once [])) m ≡ false)
        → judged_by t number rs ≡ record { number = number + k; place = suc p }
    unfolding judged_by at_first
    judged_no [] number k l none e first = absurd (omega (arith, l))
    judged_no (r ∷ rs) number zero l none e first =
        ap (λ (rows : List ℕ). at_first number rows (judged_by t (suc number) rs)) (first-row (fails t r) count p h e first)
        ∙ ap {B = Verdict} (λ (n : ℕ). record { number = n; place = suc p }) (let q : number ≡ number + 0 = omega arith in q)
    judged_no (r ∷ rs) number (suc k) l none e first =
        ap (λ (rows : List ℕ). at_first number rows (judged_by t (suc number) rs))
        (passing-none (fails t r) 0 count (λ m g w. none 0 (omega arith) m (omega (arith, w))))
        ∙ judged_no rs (suc number) k (omega (arith, l)) (λ j w m v. none (suc j) (omega (arith, w)) m v) e first
        ∙ ap {B = Verdict} (λ (n : ℕ). record { number = n; place = suc p }) (let q : suc number + k ≡ number + suc k = omega arith in q)

  -- no row fails any of some rules
  pub judged-yes : (rs : List Rule) (number : ℕ) → ((j : ℕ) → j < length rs → (m : ℕ) → m < count → fails t (get_or rs j (once [])) m ≡ false)
      → judged_by t number rs ≡ yes
  unfolding judged_by at_first
  judged-yes [] number none = refl
  judged-yes (r ∷ rs) number none =
      ap (λ (rows : List ℕ). at_first number rows (judged_by t (suc number) rs))
      (passing-none (fails t r) 0 count (λ m g w. none 0 (omega arith) m (omega (arith, w))))
      ∙ judged-yes rs (suc number) (λ j w m v. none (suc j) (omega (arith, w)) m v)

  -- what the rows before row i show: the lowest rule that one of them fails, and the first row that fails it, counted from 1
  pub record LowestSoFar (i lowest place : ℕ) : Type 0 where
    pub within : i ≤ count
    pub from : first_rule ≤ lowest
    pub to : lowest ≤ past_rules
    pub none_lower : (n : ℕ) → first_rule ≤ n → n < lowest → (m : ℕ) → m < i → fails_at t m n ≡ false
    pub placed : lowest < past_rules → (1 ≤ place) × (place ≤ i)
    pub failed : lowest < past_rules → fails_at t (place - 1) lowest ≡ true
    pub first : lowest < past_rules → (m : ℕ) → m < place - 1 → fails_at t m lowest ≡ false

  -- one row more, and the first rule that it fails; past the rules where it fails none
  abbrev first_or_past : ℕ → ℕ
  first_or_past i = get_or (passing (fails_at t i) first_rule (past_rules - first_rule)) 0 past_rules

  module _ {i lowest place : ℕ} (w : LowestSoFar i lowest place) (here : i < count) {r : ℕ} (found : r ≡ first_or_past i) where
    bounds : (first_rule ≤ r) × (r ≤ past_rules)
    bounds = let b = first_bounds (fails_at t i) first_rule past_rules (omega arith) in (omega (arith, b.0, found), omega (arith, b.1, found))

    kept-below : (n : ℕ) → first_rule ≤ n → n < r → fails_at t i n ≡ false
    kept-below n g h = none_before (fails_at t i) first_rule past_rules n (omega arith) g (omega (arith, h, found))

    lower_row : r < lowest → LowestSoFar (i + 1) r (i + 1)
    lower_row h =
        record {
          within = omega (arith, here);
          from = bounds.0;
          to = bounds.1;
          none_lower = λ n g l m v. by n g l m v (equal_or_not m i);
          placed = λ l. (omega arith, omega arith);
          failed = λ l.
              ap (λ (m : ℕ). fails_at t m r) (let q : i + 1 - 1 ≡ i = omega arith in q)
              ∙ (found_first (fails_at t i) first_rule past_rules r (omega arith) found (λ e. omega (arith, e, l))).passes;
          first = λ l m v. w.none_lower r bounds.0 h m (omega (arith, v));
        }
      where
        by : (n : ℕ) → first_rule ≤ n → n < r → (m : ℕ) → m < i + 1 → (m ≡ i) ⊎ (m ≡ i → ⊥) → fails_at t m n ≡ false
        by n g l m v (inl e) = ap (λ (j : ℕ). fails_at t j n) e ∙ kept-below n g l
        by n g l m v (inr e) = w.none_lower n g (omega (arith, l, h)) m (omega (arith, v, e))

    other_row : lowest ≤ r → LowestSoFar (i + 1) lowest place
    other_row h =
        record {
          within = omega (arith, here);
          from = w.from;
          to = w.to;
          none_lower = λ n g l m v. by n g l m v (equal_or_not m i);
          placed = λ l. ((w.placed l).0, omega (arith, (w.placed l).1));
          failed = w.failed;
          first = w.first;
        }
      where
        by : (n : ℕ) → first_rule ≤ n → n < lowest → (m : ℕ) → m < i + 1 → (m ≡ i) ⊎ (m ≡ i → ⊥) → fails_at t m n ≡ false
        by n g l m v (inl e) = ap (λ (j : ℕ). fails_at t j n) e ∙ kept-below n g (omega (arith, l, h))
        by n g l m v (inr e) = w.none_lower n g l m (omega (arith, v, e))

  pub rule_count : length rules ≡ past_rules - first_rule
  unfolding rules wanted_fields codes value_rules
  rule_count = refl

  -- the same of the verdict on the lowest rule so far, where there is one
  pub record LowestKept (i : ℕ) (lowest : Option Verdict) : Type 0 where
    pub so_far : LowestSoFar i (kept_number lowest) (kept_place lowest)
    pub a_rule : (v : Verdict) → lowest ≡ Some v → v.number < past_rules

  -- a row that fails no rule; one that fails the lowest so far; and one that does not fail a lower one
  module _ {i : ℕ} {lowest : Option Verdict} (w : LowestKept i lowest) (here : i < count) where
    pub kept_over : None ≡ first_failed t i first_rule past_rules → LowestKept (i + 1) lowest
    kept_over e =
        record {
          so_far = other_row w.so_far here (end_found (fails_at t i) first_rule past_rules e) w.so_far.to;
          a_rule = w.a_rule;
        }

    module _ {r : ℕ} {b : Bool} (e : Some r ≡ first_failed t i first_rule past_rules) (m : MatchOption lowest (IsTrue b) (λ (v : Verdict). b ≡ nat_lt r v.number)) where
      pub kept_new : b ≡ true → LowestKept (i + 1) (Some (record { number = r; place = i + 1 }))
      kept_new q =
          let below = found_below (fails_at t i) first_rule past_rules (omega arith) e in
          record {
            so_far = lower_row w.so_far here (number_found (fails_at t i) first_rule past_rules e) (lower_told lowest r m q below);
            a_rule = λ v g. let same : r ≡ v.number = ap kept_number g in omega (arith, same, below);
          }

      pub kept_old : b ≡ false → LowestKept (i + 1) lowest
      kept_old q =
          record {
            so_far = other_row w.so_far here (number_found (fails_at t i) first_rule past_rules e) (other_told lowest r m q);
            a_rule = w.a_rule;
          }

  -- all rows give the verdict: yes where no rule is kept
  pub all-judged : {i : ℕ} {lowest : Option Verdict} → LowestKept i lowest → count ≤ i → kept_verdict lowest ≡ judged_by t first_rule rules
  all-judged {i} {lowest} w all = by lowest w.so_far w.a_rule
    where
      below : {number place : ℕ} → LowestSoFar i number place → (k : ℕ) → k < number - first_rule → (m : ℕ) → m < count → fails t (get_or rules k (once [])) m ≡ false
      below s k h m v =
          ap (λ (n : ℕ). fails t (get_or rules n (once [])) m) (let q : k ≡ first_rule + k - first_rule = omega arith in q)
          ∙ s.none_lower (first_rule + k) (omega arith) (omega (arith, h)) m (omega (arith, v, all))

      by : (o : Option Verdict) → LowestSoFar i (kept_number o) (kept_place o) → ((v : Verdict) → o ≡ Some v → v.number < past_rules) → kept_verdict o ≡ judged_by t first_rule rules
      by None s low = sym (judged-yes rules first_rule (λ j h. below s j (omega (arith, h, rule_count))))
      by (Some v) s low =
          let past : v.number < past_rules = low v refl in
          ap₂ {C = Verdict} (λ (a b : ℕ). record { number = a; place = b })
          (let q : v.number ≡ first_rule + (v.number - first_rule) = omega (arith, s.from) in q)
          (let q : v.place ≡ suc (v.place - 1) = omega (arith, (s.placed past).0) in q)
          ∙ sym (judged_no (v.place - 1) (omega (arith, (s.placed past).0, (s.placed past).1, s.within)) rules first_rule (v.number - first_rule)
          (omega (arith, past, s.from, rule_count)) (below s) (s.failed past) (s.first past))
