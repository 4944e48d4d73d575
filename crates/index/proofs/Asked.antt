-- What the planner asks: by the tests of the buffers and of what is asked for.
-- Assumes nothing.
use mathlib.Core.Bool.{true, false}
use mathlib.Core.List.{List}
use mathlib.Core.Path.{◌≡◌, sym, ap, ◌∙◌, subst}
use Prim.Native.Nat.{ℕ, suc, ◌+◌, ◌-◌, ◌*◌, ◌<◌, ◌≤◌}
use native.Mathlib.Omega.{arith}
use borrow.Author.Tests.{le-leb, lt-leb, leb-true, leb-false}
use lib.Dec.{leb}
use lib.ListN.{length, get_or}
use Rattle.laws.proofs.Cases.{at_least_one}
use Rattle.laws.proofs.Tests.{Tested, passed, failed, tested}
use Rattle.index.specs.declared.finding.Found.{Found}
use Rattle.index.specs.declared.asking.Codes.TheVariants as C
use Rattle.index.specs.declared.asking.Count.TheVariants as N
use Rattle.index.specs.declared.asking.Code.TheVariants as K
use Rattle.index.specs.Index.{code_most, place_size, named_in, roomy}
use Rattle.index.specs.Finding.{place_found, codes_asked, count_at, count_asked, code_asked}
use Rattle.index.specs.inner.Halving.{sought_among, missing_at}
use Rattle.index.specs.inner.Rising.{length_at}
use Rattle.index.proofs.KeptHalf.{Within, missing_within, sought_within}

module _ (codes counts : List ℕ) where
  -- how many codes are named

  pub no_codes : roomy codes counts ≡ false → C.NoIndex ≡ codes_asked codes counts
  unfolding codes_asked
  no_codes e = rw (e, codes_asked)

  pub some-codes : roomy codes counts ≡ true → C.Named (named_in counts) ≡ codes_asked codes counts
  unfolding codes_asked
  some-codes e = rw (e, codes_asked)

  -- the place of a code

  module _ (code : List ℕ) where
    pub found_nowhere : roomy codes counts ≡ false → missing_at 0 ≡ place_found codes counts code
    unfolding place_found
    found_nowhere e = rw (e, place_found)

    pub too_long : roomy codes counts ≡ true → code_most < length code → missing_at 0 ≡ place_found codes counts code
    unfolding place_found
    too_long e h = rw (e, lt-leb (length code) code_most h, place_found)

    pub found_sought : roomy codes counts ≡ true → length code ≤ code_most → sought_among codes (named_in counts) code ≡ place_found codes counts code
    unfolding place_found
    found_sought e h = rw (e, le-leb (length code) code_most h, place_found)

    pub found_within : roomy codes counts ≡ true → {f : Found} → f ≡ place_found codes counts code → Within (named_in counts) f
    found_within e {f} found = subst (Within (named_in counts)) (sym found) (go (tested (leb (length code) code_most)))
      where
        go : Tested (leb (length code) code_most) → Within (named_in counts) (place_found codes counts code)
        go (passed t) =
            subst (Within (named_in counts)) (found_sought e (leb-true (length code) code_most t)) (sought_within codes (named_in counts) code)
        go (failed t) =
            subst (Within (named_in counts)) (too_long e (leb-false (length code) code_most t)) (missing_within 0 (named_in counts) (omega arith))

    -- the count of a code

    pub no_count : roomy codes counts ≡ false → N.NoIndex ≡ count_asked codes counts code
    unfolding count_asked
    no_count e = rw (e, count_asked)

    pub count-found : roomy codes counts ≡ true → {f : Found} → f ≡ place_found codes counts code → count_at counts f ≡ count_asked codes counts code
    unfolding count_asked
    count-found e {f} found = ap (count_at counts) found ∙ (rw (e, count_asked))

  -- the k-th code

  module _ (k : ℕ) where
    pub no_code : roomy codes counts ≡ false → K.NoIndex ≡ code_asked codes counts k
    unfolding code_asked
    no_code e = rw (e, code_asked)

    module _ (e : roomy codes counts ≡ true) where
      pub code_zero : k ≡ 0 → K.NotNamed ≡ code_asked codes counts k
      unfolding code_asked
      code_zero z = rw (e, lt-leb 1 k (omega (arith, z)), code_asked)

      module _ (some : k ≡ 0 → ⊥) where
        pub code_past : named_in counts < k → K.NotNamed ≡ code_asked codes counts k
        unfolding code_asked
        code_past h = rw (e, le-leb 1 k (at_least_one k some), lt-leb k (named_in counts) h, code_asked)

        module _ (named : k ≤ named_in counts) where
          pub empty_place : length_at codes (k - 1) ≡ 0 → K.NoIndex ≡ code_asked codes counts k
          unfolding code_asked
          empty_place z =
              rw
              (e, le-leb 1 k (at_least_one k some), le-leb k (named_in counts) named, lt-leb 1 (length_at codes (k - 1)) (omega (arith, z)), code_asked)

          module _ (filled : length_at codes (k - 1) ≡ 0 → ⊥) where
            pub long-place : code_most < length_at codes (k - 1) → K.NoIndex ≡ code_asked codes counts k
            unfolding code_asked
            long-place h =
                rw (
                  e,
                  le-leb 1 k (at_least_one k some),
                  le-leb k (named_in counts) named,
                  le-leb 1 (length_at codes (k - 1)) (at_least_one (length_at codes (k - 1)) filled),
                  lt-leb (length_at codes (k - 1)) code_most h,
                  code_asked,
                )

            pub code-asked : length_at codes (k - 1) ≤ code_most
                → K.At ((k - 1) * place_size + 1) (length_at codes (k - 1)) (get_or counts k 0) ≡ code_asked codes counts k
            unfolding code_asked
            code-asked h =
                rw (
                  e,
                  le-leb 1 k (at_least_one k some),
                  le-leb k (named_in counts) named,
                  le-leb 1 (length_at codes (k - 1)) (at_least_one (length_at codes (k - 1)) filled),
                  le-leb (length_at codes (k - 1)) code_most h,
                  code_asked,
                )

-- a count by the place that is found
pub not_named : (counts : List ℕ) (f : Found) → f.named ≡ false → N.NotNamed ≡ count_at counts f
unfolding count_at
not_named counts f e = rw (e, count_at)

pub times_there : (counts : List ℕ) (f : Found) → f.named ≡ true → N.Times (get_or counts (f.at + 1) 0) ≡ count_at counts f
unfolding count_at
times_there counts f e =
    ap (λ (n : ℕ). N.Times (get_or counts n 0)) (let q : f.at + 1 ≡ suc f.at = omega arith in q) ∙ (rw (e, count_at))
