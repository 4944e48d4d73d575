-- What fits an index: entries whose places are whole, codes of 1 to 22 bytes, and buffers with room for all of it.
-- Assumes nothing.
use mathlib.Core.Bool.{true, false, ◌&&◌}
use mathlib.Core.List.{List}
use mathlib.Core.Path.{◌≡◌}
use Prim.Native.Nat.{ℕ, suc, ◌*◌, ◌<◌, ◌≤◌}
use borrow.Author.Tests.{leb-true, le-leb, lt-leb}
use lib.Dec.{leb}
use lib.ListN.{length}
use Rattle.laws.specs.Every.{All}
use Rattle.laws.proofs.Tests.{and_first, and_second, and_both}
use Rattle.index.specs.Index.{Entry, codes_most, code_most, place_size, named_in, roomy}

-- every place is whole
abbrev pub Sized : List Entry → Type 0
Sized es = All (λ (e : Entry). length e.place ≡ place_size) es

-- a code that an index can name
pub record Fit (c : List ℕ) : Type 0 where
  pub some : 1 ≤ length c
  pub short : length c ≤ code_most

-- what the test `roomy` says
pub record Roomy (codes counts : List ℕ) : Type 0 where
  pub codes_room : codes_most * place_size ≤ length codes
  pub counts_room : suc codes_most ≤ length counts
  pub few_named : named_in counts ≤ codes_most

module _ (codes counts : List ℕ) where
  pub roomy_parts : roomy codes counts ≡ true → Roomy codes counts
  unfolding roomy
  roomy_parts h =
      let a = leb (codes_most * place_size) (length codes) in
      let b = leb (suc codes_most) (length counts) in
      let c = leb (named_in counts) codes_most in
      let ab = and_first (a && b) c h in
      record {
        codes_room = leb-true (codes_most * place_size) (length codes) (and_first a b ab);
        counts_room = leb-true (suc codes_most) (length counts) (and_second a b ab);
        few_named = leb-true (named_in counts) codes_most (and_second (a && b) c h);
      }

  pub parts_roomy : Roomy codes counts → roomy codes counts ≡ true
  unfolding roomy
  parts_roomy r =
      and_both (and_both (le-leb (codes_most * place_size) (length codes) r.codes_room) (le-leb (suc codes_most) (length counts) r.counts_room))
      (le-leb (named_in counts) codes_most r.few_named)

  -- the first test that fails decides, or the last
  pub codes-short : length codes < codes_most * place_size → false ≡ roomy codes counts
  unfolding roomy
  codes-short h = rw (lt-leb (codes_most * place_size) (length codes) h)

  module _ (long : codes_most * place_size ≤ length codes) where
    pub counts-short : length counts < suc codes_most → false ≡ roomy codes counts
    unfolding roomy
    counts-short h = rw (le-leb (codes_most * place_size) (length codes) long, lt-leb (suc codes_most) (length counts) h)

    pub named_decides : suc codes_most ≤ length counts → leb (named_in counts) codes_most ≡ roomy codes counts
    unfolding roomy
    named_decides h = rw (le-leb (codes_most * place_size) (length codes) long, le-leb (suc codes_most) (length counts) h)
