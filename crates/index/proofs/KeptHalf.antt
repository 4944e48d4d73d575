-- Finding a place by halving: the turns of the loop, and that the place found is among those that are named, or right behind them.
-- Assumes nothing.
use mathlib.Core.Bool.{true, false≢true}
use mathlib.Core.List.{List}
use mathlib.Core.Path.{◌≡◌, refl, sym, ap, ◌∙◌, subst}
use Prim.Native.Nat.{ℕ, zero, suc, ◌+◌, ◌-◌, ◌/◌, ◌<◌, ◌≤◌}
use native.Mathlib.Omega.{arith}
use borrow.Author.Tests.{lt-ltb, le-ltb, ltb-true, ltb-false}
use lib.Dec.{ltb}
use Rattle.laws.proofs.Tests.{Tested, passed, failed, tested}
use Rattle.index.specs.declared.code.Compared.{Compared}
use Rattle.index.specs.declared.code.Compared.TheVariants.{Before, Same, After}
use Rattle.index.specs.declared.finding.Found.{Found}
use Rattle.index.specs.Index.{codes_most}
use Rattle.index.specs.inner.Halving.{compared_at, stands_at, missing_at, halved, sought_among}

-- one step: the half before the middle is kept, or the one behind it, or the code stands there
module _ (n : ℕ) (codes code : List ℕ) (low high : ℕ) where
  pub halved_none : high ≤ low → halved (suc n) codes code low high ≡ missing_at low
  unfolding halved
  halved_none h = rw (le-ltb low high h, halved)

  module _ (h : low < high) where
    pub halved-before : compared_at codes code ((low + high) / 2) ≡ Before
        → halved (suc n) codes code low high ≡ halved n codes code low ((low + high) / 2)
    unfolding halved
    halved-before e = rw (lt-ltb low high h, e, halved)

    pub halved-same : compared_at codes code ((low + high) / 2) ≡ Same → halved (suc n) codes code low high ≡ stands_at ((low + high) / 2)
    unfolding halved
    halved-same e = rw (lt-ltb low high h, e, halved)

    pub halved-after : compared_at codes code ((low + high) / 2) ≡ After
        → halved (suc n) codes code low high ≡ halved n codes code ((low + high) / 2 + 1) high
    unfolding halved
    halved-after e = rw (lt-ltb low high h, e, halved)

-- so many places are halved by so many comparisons, until none is left
unfoldable pub doubled : ℕ → ℕ
doubled zero = 1
doubled (suc n) = doubled n + doubled n

-- before a turn: some comparisons that do for what is left, and they come to the place
pub record Halving (codes : List ℕ) (named : ℕ) (code : List ℕ) (low high : ℕ) : Type 0 where
  pub comparisons : ℕ
  pub enough : high < low + doubled comparisons
  pub ordered : low ≤ high
  pub within : high ≤ named
  pub rest : halved comparisons codes code low high ≡ sought_among codes named code

pub halving_begins : (codes : List ℕ) (named : ℕ) (code : List ℕ) → named ≤ codes_most → Halving codes named code 0 named
unfolding sought_among doubled
halving_begins codes named code few =
    record { comparisons = 10; enough = omega arith; ordered = omega arith; within = omega arith; rest = refl }

module _ {codes : List ℕ} {named : ℕ} {code : List ℕ} {low high : ℕ} (u : Halving codes named code low high) where
  module _ (h : low < high) where
    abbrev middle : ℕ
    middle = (low + high) / 2

    pub middle_named : middle < named
    middle_named = omega (arith, u.within)

    -- a comparison is left
    abbrev fewer : ℕ
    fewer = u.comparisons - 1

    one_left : u.comparisons ≡ suc fewer
    unfolding doubled
    one_left = go u.comparisons u.enough
      where
        go : (n : ℕ) → high < low + doubled n → n ≡ suc (n - 1)
        go zero enough = absurd (omega arith)
        go (suc n) enough = omega arith

    enough_left : high < low + (doubled fewer + doubled fewer)
    unfolding doubled
    enough_left = subst (λ (n : ℕ). high < low + doubled n) one_left u.enough

    rest-left : halved (suc fewer) codes code low high ≡ sought_among codes named code
    rest-left = ap (λ (n : ℕ). halved n codes code low high) (sym one_left) ∙ u.rest

    pub keeps_before : compared_at codes code middle ≡ Before → Halving codes named code low middle
    keeps_before e =
        record {
          comparisons = fewer;
          enough = omega (arith, enough_left);
          ordered = omega arith;
          within = omega (arith, u.within);
          rest = sym (halved-before fewer codes code low high h e) ∙ rest-left;
        }

    pub keeps_after : compared_at codes code middle ≡ After → Halving codes named code (middle + 1) high
    keeps_after e =
        record {
          comparisons = fewer;
          enough = omega (arith, enough_left);
          ordered = omega arith;
          within = omega (arith, u.within);
          rest = sym (halved-after fewer codes code low high h e) ∙ rest-left;
        }

    pub stops : compared_at codes code middle ≡ Same → stands_at middle ≡ sought_among codes named code
    stops e = sym (halved-same fewer codes code low high h e) ∙ rest-left

  end_here : (n : ℕ) → halved n codes code low high ≡ sought_among codes named code → high ≤ low
      → missing_at low ≡ sought_among codes named code
  unfolding halved
  end_here zero rest h = rest
  end_here (suc n) rest h = sym (halved_none n codes code low high h) ∙ rest

  pub halving_ends : high ≤ low → missing_at low ≡ sought_among codes named code
  halving_ends h = end_here u.comparisons u.rest h

-- a place up to the end; where the code is named, before it
pub record Within (high : ℕ) (f : Found) : Type 0 where
  pub place : f.at ≤ high
  pub entry : f.named ≡ true → f.at < high

pub missing_within : (low high : ℕ) → low ≤ high → Within high (missing_at low)
missing_within low high h = record { place = h; entry = λ e. absurd (false≢true e) }

within_further : (middle high : ℕ) (f : Found) → middle ≤ high → Within middle f → Within high f
within_further middle high f h w = record { place = omega (arith, w.place); entry = λ e. omega (arith, w.entry e) }

pub halved-within : (n : ℕ) (codes code : List ℕ) (low high : ℕ) → low ≤ high → Within high (halved n codes code low high)
unfolding halved
halved-within zero codes code low high h = missing_within low high h
halved-within (suc n) codes code low high h =
    go (tested (ltb low high)) (compared_at codes code ((low + high) / 2)) refl
    (λ l. halved-within n codes code low ((low + high) / 2) (omega (arith, l)))
    (λ l. halved-within n codes code ((low + high) / 2 + 1) high (omega (arith, l)))
  where
    go : Tested (ltb low high) → (o : Compared) → compared_at codes code ((low + high) / 2) ≡ o
        → (low < high → Within ((low + high) / 2) (halved n codes code low ((low + high) / 2)))
        → (low < high → Within high (halved n codes code ((low + high) / 2 + 1) high))
        → Within high (halved (suc n) codes code low high)
    go (failed t) o e first second = rw (halved_none n codes code low high (ltb-false low high t)) (missing_within low high h)
    go (passed t) Before e first second =
        let l = ltb-true low high t in
        rw (halved-before n codes code low high l e)
        (within_further ((low + high) / 2) high (halved n codes code low ((low + high) / 2)) (omega (arith, l)) (first l))
    go (passed t) Same e first second =
        let l = ltb-true low high t in
        rw (halved-same n codes code low high l e) (record { place = omega (arith, l); entry = λ q. omega (arith, l) })
    go (passed t) After e first second =
        let l = ltb-true low high t in rw (halved-after n codes code low high l e) (second l)

pub sought_within : (codes : List ℕ) (named : ℕ) (code : List ℕ) → Within named (sought_among codes named code)
unfolding sought_among
sought_within codes named code = halved-within 10 codes code 0 named (omega arith)
