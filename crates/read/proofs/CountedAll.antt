-- All rows counted, one after the other: what the rows so far come to, and what all of them come to.
-- Assumes nothing.
use mathlib.Core.Bool.{Bool, true, false}
use mathlib.Core.List.{List, [], ◌∷◌, ◌++◌, append-nil}
use mathlib.Core.Logic.{⊎_elim}
use mathlib.Core.Path.{◌≡◌, refl, sym, ap, ap₂, ◌∙◌, subst, subst⁻¹}
use Prim.Native.Nat.{ℕ, zero, suc, ◌+◌, ◌≤◌, ◌<◌}
use native.Mathlib.Omega.{arith}
use Rattle.std.specs.Prelude.{None, Some, Result, Ok, Err}
use lib.Dec.{eqb, ltb}
use lib.ListN.{length, get_or, take, drop, length-append, length-map, take-append-drop}
use lib.Seq.{take_all, take-suc, length-take-le}
use borrow.Author.Tests.{eq-eqb, ne_eqb, lt-ltb, le-ltb, lt-leb}
use Rattle.laws.specs.Lists.{first_from}
use Rattle.laws.specs.Tables.{values}
use Rattle.laws.specs.Every.{All, none, also}
use Rattle.laws.proofs.Every.{all_append}
use Rattle.laws.proofs.Lists.{get_d_map, first-append, first_hit, first_miss, first_held_here}
use Rattle.laws.proofs.Tests.{Tested, passed, failed, tested, either, or_fails}
use Rattle.form.specs.declared.limits.Limits.{Limits}
use Rattle.form.specs.declared.separators.Separators.{Separators}
use Rattle.index.specs.Refusals.{long_code, full_index, full_count}
use Rattle.index.specs.Index.{Entry, code_most, codes_most, counts_past, named_in, entry_at, entries_in, rises, sound_index}
use Rattle.index.specs.Adding.{code_added, added_all, too_many, too_large}
use Rattle.index.proofs.Sizes.{Fit, roomy_parts}
use Rattle.index.proofs.Entries.{length-entries}
use Rattle.index.proofs.SamePlaces.{same_many}
use Rattle.index.proofs.AddedAll.{added_all-last, all-rises}
use Rattle.index.proofs.Halved.{sound-roomy, sound-rises}
use Rattle.read.specs.declared.census.Census.{Census}
use Rattle.read.specs.declared.refused.Refused.{Refused}
use Rattle.read.specs.Codes.{code_carried, codes_counted, first_long}
use Rattle.read.specs.Sound.{segments_in}
use Rattle.read.specs.inner.Census.{carried_in, carried_by, census_number, lower_of, CensusOf, uncounted, all_counted, RowCounted, passed_over, long, tried}
use Rattle.read.proofs.CountState.{CountState, held, large, many, CountedOn, counted_on}

-- what is present of some codes and one more
present-append : (cs : List (List ℕ)) (c : List ℕ) → codes_counted (cs ++ (c ∷ [])) ≡ codes_counted cs ++ codes_counted (c ∷ [])
unfolding codes_counted
present-append [] c = refl
present-append (d ∷ cs) c = go (tested (eqb (length d) 0)) (present-append cs c)
  where
    go : Tested (eqb (length d) 0) → codes_counted (cs ++ (c ∷ [])) ≡ codes_counted cs ++ codes_counted (c ∷ [])
        → codes_counted (d ∷ (cs ++ (c ∷ []))) ≡ codes_counted (d ∷ cs) ++ codes_counted (c ∷ [])
    go (passed e) ih = rw (e, codes_counted) ih
    go (failed e) ih = rw (e, codes_counted) (ap (λ (t : List (List ℕ)). d ∷ t) ih)

module _ (c : List ℕ) where
  present-none : length c ≡ 0 → codes_counted (c ∷ []) ≡ []
  unfolding codes_counted
  present-none h = rw (eq-eqb (length c) 0 h, codes_counted)

  present-one : 1 ≤ length c → codes_counted (c ∷ []) ≡ c ∷ []
  unfolding codes_counted
  present-one h = rw (ne_eqb (length c) 0 (λ e. omega arith), codes_counted)

-- what is first stays first, whatever follows
first_stays_first : (p : List ℕ → Bool) (n : ℕ) (s t : List (List ℕ)) → (first_from p n s ≡ 0 → ⊥) → first_from p n (s ++ t) ≡ first_from p n s
unfolding first_from
first_stays_first p n [] t h = absurd (h refl)
first_stays_first p n (a ∷ s) t h = go (tested (p a)) (first_stays_first p (suc n) s t)
  where
    go : Tested (p a) → ((first_from p (suc n) s ≡ 0 → ⊥) → first_from p (suc n) (s ++ t) ≡ first_from p (suc n) s) → first_from p n (a ∷ (s ++ t)) ≡ first_from p n (a ∷ s)
    go (passed e) ih = first_hit p n a (s ++ t) e ∙ sym (first_hit p n a s e)
    go (failed e) ih = first_miss p n a (s ++ t) e ∙ ih (λ z. h (first_miss p n a s e ∙ z)) ∙ sym (first_miss p n a s e)

long_stays_first : (s t : List (List ℕ)) → (first_long s ≡ 0 → ⊥) → first_long (s ++ t) ≡ first_long s
unfolding first_long
long_stays_first s t = first_stays_first (λ (d : List ℕ). ltb code_most (length d)) 1 s t

-- a code that is too long is the first such where none before it is; one that is not changes nothing
module _ (cs : List (List ℕ)) (c : List ℕ) (before : first_long cs ≡ 0) where
  long_here : code_most < length c → first_long (cs ++ (c ∷ [])) ≡ suc (length cs)
  unfolding first_long
  long_here h =
      first-append (λ (d : List ℕ). ltb code_most (length d)) 0 cs c
      ∙ first_held_here (first_from (λ (d : List ℕ). ltb code_most (length d)) 1 cs) (ltb code_most (length c)) (1 + length cs) before
      ∙ ap {B = ℕ} (λ (t : Bool). elim t [ true ↦ 1 + length cs | false ↦ 0 ]) (lt-ltb code_most (length c) h) ∙ (let e : 1 + length cs ≡ suc (length cs) = omega arith in e)

  not_long_here : length c ≤ code_most → first_long (cs ++ (c ∷ [])) ≡ 0
  unfolding first_long
  not_long_here h =
      first-append (λ (d : List ℕ). ltb code_most (length d)) 0 cs c
      ∙ first_held_here (first_from (λ (d : List ℕ). ltb code_most (length d)) 1 cs) (ltb code_most (length c)) (1 + length cs) before
      ∙ ap {B = ℕ} (λ (t : Bool). elim t [ true ↦ 1 + length cs | false ↦ 0 ]) (le-ltb code_most (length c) h)

-- the number of a census, test by test
module _ (cs : List (List ℕ)) (E : List Entry) where
  census_long : (first_long cs ≡ 0 → ⊥) → census_number cs E ≡ long_code
  unfolding census_number
  census_long h = rw (ne_eqb (first_long cs) 0 h, census_number)

  module _ (none-long : first_long cs ≡ 0) where
    census_many : too_many E ≡ true → census_number cs E ≡ full_index
    unfolding census_number
    census_many h = rw (eq-eqb (first_long cs) 0 none-long, h, census_number)

    census_large : too_many E ≡ false → too_large E ≡ true → census_number cs E ≡ full_count
    unfolding census_number
    census_large h k = rw (eq-eqb (first_long cs) 0 none-long, h, k, census_number)

    census_held : too_many E ≡ false → too_large E ≡ false → census_number cs E ≡ 0
    unfolding census_number
    census_held h k = rw (eq-eqb (first_long cs) 0 none-long, h, k, census_number)

-- counts of 32 bits are not too large
small_entries : (codes counts : List ℕ) → ((i : ℕ) → get_or counts i 0 < counts_past) → too_large (entries_in codes counts) ≡ false
unfolding entries_in values too_large
small_entries codes counts small = go 0 (named_in counts)
  where
    go : (i n : ℕ) → too_large (values (entry_at codes counts) i n) ≡ false
    go i zero = refl
    go i (suc n) = or_fails (lt-leb counts_past (get_or counts (suc i) 0) (small (suc i))) (go (suc i) n)

-- no more are present than there are, nor more taken than are asked for
few-present : (ds : List (List ℕ)) → length (codes_counted ds) ≤ length ds
unfolding codes_counted
few-present [] = omega arith
few-present (d ∷ ds) =
    ⊎_elim
    (λ (e : eqb (length d) 0 ≡ true). rw (e, codes_counted) (omega (arith, few-present ds)))
    (λ (e : eqb (length d) 0 ≡ false). rw (e, codes_counted) (omega (arith, few-present ds)))
    (either (eqb (length d) 0))

length_taken : (n : ℕ) (ds : List (List ℕ)) → length (take n ds) ≤ n
length_taken zero ds = omega arith
length_taken (suc n) [] = omega arith
length_taken (suc n) (d ∷ ds) = omega (arith, length_taken n ds)

-- the rows so far
pub record RowsCounted (cs : List (List ℕ)) (es : List Entry) (row : ℕ) (census : Census) (codes counts : List ℕ) : Type 0 where
  pub none-long : first_long (take row cs) ≡ 0
  pub fit : All Fit (codes_counted (take row cs))
  pub rise : rises es ≡ true
  pub results : census.results ≡ length (codes_counted (take row cs))
  pub state : CountedOn (added_all (codes_counted (take row cs)) es) census.refused codes counts

pub rows_begin : {cs : List (List ℕ)} {codes counts : List ℕ} → sound_index codes counts ≡ true → ((i : ℕ) → get_or counts i 0 < counts_past)
    → RowsCounted cs (entries_in codes counts) 0 (record { refused = None; results = 0 }) codes counts
unfolding first_long first_from codes_counted added_all
rows_begin {codes = codes} {counts = counts} sound small =
    record {
      none-long = refl;
      fit = none;
      rise = sound-rises codes counts sound;
      results = refl;
      state = record { sound = sound; state = held refl refl (small_entries codes counts small) };
    }

module _ {cs : List (List ℕ)} {es : List Entry} {row : ℕ} {census : Census} {codes counts : List ℕ} (w : RowsCounted cs es row census codes counts) where
  -- the results counted are no more than the rows
  pub few-results : census.results ≤ row
  few-results = omega (arith, w.results, few-present (take row cs), length_taken row cs)

  module _ (within : row < length cs) where
    abbrev c : List ℕ
    c = get_or cs row []

    next_row : take (row + 1) cs ≡ take row cs ++ (c ∷ [])
    next_row = ap (λ (n : ℕ). take n cs) (let e : row + 1 ≡ suc row = omega arith in e) ∙ take-suc cs row [] within

    next-present : codes_counted (take (row + 1) cs) ≡ codes_counted (take row cs) ++ codes_counted (c ∷ [])
    next-present = ap codes_counted next_row ∙ present-append (take row cs) c

    -- one row more
    pub rows_on : {q : Census} {codes' counts' : List ℕ} → RowCounted c row census codes counts (Ok q) codes' counts' → RowsCounted cs es (row + 1) q codes' counts'
    rows_on {q} {codes'} {counts'} (passed_over none-there is same_codes same-counts) =
        let nothing : codes_counted (take (row + 1) cs) ≡ codes_counted (take row cs)
        = next-present ∙ ap (λ (t : List (List ℕ)). codes_counted (take row cs) ++ t) (present-none c none-there) ∙ append-nil (codes_counted (take row cs)) in
        let same-census : q ≡ census = cc in
        record {
          none-long = ap first_long next_row ∙ not_long_here (take row cs) c w.none-long (omega arith);
          fit = subst⁻¹ (All Fit) nothing w.fit;
          rise = w.rise;
          results = ap (λ (x : Census). x.results) same-census ∙ w.results ∙ ap length (sym nothing);
          state =
              subst⁻¹ (λ (t : List (List ℕ)). CountedOn (added_all t es) q.refused codes' counts') nothing
              (subst⁻¹ (λ (x : Census). CountedOn (added_all (codes_counted (take row cs)) es) x.refused codes' counts') same-census
              (subst⁻¹ (λ (s : List ℕ). CountedOn (added_all (codes_counted (take row cs)) es) census.refused s counts') same_codes
              (subst⁻¹ (λ (s : List ℕ). CountedOn (added_all (codes_counted (take row cs)) es) census.refused codes s) same-counts w.state)));
        }
    rows_on (long too_long is) = cc
    rows_on {q} {codes'} {counts'} (tried some short number adds is) =
        let one : codes_counted (take (row + 1) cs) ≡ codes_counted (take row cs) ++ (c ∷ [])
        = next-present ∙ ap (λ (t : List (List ℕ)). codes_counted (take row cs) ++ t) (present-one c some) in
        let fits : Fit c = record { some = some; short = short } in
        let E : List Entry = added_all (codes_counted (take row cs)) es in
        let more : q ≡ record { refused = lower_of census.refused number; results = census.results + 1 } = cc in
        record {
          none-long = ap first_long next_row ∙ not_long_here (take row cs) c w.none-long short;
          fit = subst⁻¹ (All Fit) one (all_append w.fit (also fits none));
          rise = w.rise;
          results =
              ap (λ (x : Census). x.results) more ∙ ap (λ (n : ℕ). n + 1) w.results
              ∙ sym (ap length one ∙ length-append (codes_counted (take row cs)) (c ∷ []));
          state =
              subst⁻¹ (λ (t : List Entry). CountedOn t q.refused codes' counts') (ap (λ (t : List (List ℕ)). added_all t es) one ∙ added_all-last (codes_counted (take row cs)) c es)
              (subst⁻¹ (λ (x : Census). CountedOn (code_added c E) x.refused codes' counts') more
              (counted_on E (all-rises (codes_counted (take row cs)) es w.fit w.rise) census.refused c codes counts w.state fits adds));
        }

    -- a row whose code is too long
    pub rows_long : {u : Refused} {codes' counts' : List ℕ} → RowCounted c row census codes counts (Err u) codes' counts' → CensusOf cs es (Err u) codes' counts'
    rows_long (passed_over none-there is same_codes same-counts) = cc
    rows_long {u} (long too_long is) =
        let here : first_long (take (row + 1) cs) ≡ suc (length (take row cs)) = ap first_long next_row ∙ long_here (take row cs) c w.none-long too_long in
        let first : first_long cs ≡ first_long (take (row + 1) cs)
        = ap first_long (sym (take-append-drop (row + 1) cs)) ∙ stays (λ e. omega (arith, here, e)) in
        let number = census_long cs (added_all (codes_counted cs) es) (λ e. omega (arith, first, here, e)) in
        let place : row + 1 ≡ first_long cs = sym (first ∙ here ∙ ap suc (length-take-le row cs (omega arith)) ∙ add_one_sym row) in
        let same : u ≡ record { number = long_code; place = row + 1 } = cc in
        uncounted (λ z. let y : ⊥ = omega (arith, z, number) in y)
        (ap {B = Result ℕ Refused} (λ (v : Refused). Err v) (same ∙ ap₂ {C = Refused} (λ (n k : ℕ). record { number = n; place = k }) (sym number) place))
      where
        stays : (first_long (take (row + 1) cs) ≡ 0 → ⊥) → first_long (take (row + 1) cs ++ drop (row + 1) cs) ≡ first_long (take (row + 1) cs)
        stays = long_stays_first (take (row + 1) cs) (drop (row + 1) cs)

        add_one_sym : (n : ℕ) → suc n ≡ n + 1
        add_one_sym n = omega arith
    rows_long (tried some short number adds is) = cc

  -- all rows
  module _ (past : length cs ≤ row) where
    all-taken : take row cs ≡ cs
    all-taken = take_all row cs past

    abbrev E : List Entry
    E = added_all (codes_counted cs) es

    none-long_in : first_long cs ≡ 0
    none-long_in = ap first_long (sym all-taken) ∙ w.none-long

    few : length (entries_in codes counts) ≤ codes_most
    few = omega (arith, length-entries codes counts, (roomy_parts codes counts (sound-roomy codes counts w.state.sound)).few_named)

    state_in : CountState E census.refused codes counts
    state_in = subst (λ (t : List (List ℕ)). CountState (added_all (codes_counted t) es) census.refused codes counts) all-taken w.state.state

    pub rows-done : census.refused ≡ None → CensusOf cs es (Ok census.results) codes counts
    rows-done n = by state_in
      where
        by : CountState E census.refused codes counts → CensusOf cs es (Ok census.results) codes counts
        by (held z same small) =
            all_counted (census_held cs E none-long_in (le-ltb codes_most (length E) (subst (λ (t : List Entry). length t ≤ codes_most) same few)) small)
            (ap {B = Result ℕ Refused} (λ (k : ℕ). Ok k) (w.results ∙ ap (λ (t : List (List ℕ)). length (codes_counted t)) all-taken))
            (sound-roomy codes counts w.state.sound) same
        by (large z same big) = cc
        by (many z h) = cc

    pub rows-refused : {n : ℕ} → census.refused ≡ Some n → CensusOf cs es (Err (record { number = n; place = 0 })) codes counts
    rows-refused {n} e = by state_in
      where
        -- by the number of the census
        refused_by : {k : ℕ} → census.refused ≡ Some k → census_number cs E ≡ k → (k ≡ 0 → ⊥) → CensusOf cs es (Err (record { number = n; place = 0 })) codes counts
        refused_by {k} z is some =
            let same : n ≡ k = cc in
            uncounted (λ y. some (sym is ∙ y))
            (ap₂ {C = Result ℕ Refused} (λ (i j : ℕ). Err (record { number = i; place = j })) (same ∙ sym is) (sym none-long_in))

        by : CountState E census.refused codes counts → CensusOf cs es (Err (record { number = n; place = 0 })) codes counts
        by (held z same small) = cc
        by (large z same big) =
            refused_by z (census_large cs E none-long_in (le-ltb codes_most (length E) (omega (arith, few, same_many (entries_in codes counts) E same))) big)
            (λ y. let f : ⊥ = omega (arith, y) in f)
        by (many z h) = refused_by z (census_many cs E none-long_in h) (λ y. let f : ⊥ = omega (arith, y) in f)

-- what the segment of a row carries is the row's code
pub carried_at : (L : Limits) (ps : Separators) (m : List ℕ) (row : ℕ) → row < length (segments_in L ps m) → get_or (carried_in L ps m) row [] ≡ carried_by L ps m row
carried_at L ps m row h = get_d_map (code_carried ps) (segments_in L ps m) row [] [] h

pub carried_many : (L : Limits) (ps : Separators) (m : List ℕ) → length (carried_in L ps m) ≡ length (segments_in L ps m)
carried_many L ps m = length-map (segments_in L ps m) (code_carried ps)

-- so one row counted is one of the codes counted
pub row-there : (L : Limits) (ps : Separators) (m : List ℕ) (row : ℕ) {census : Census} {r : Result Census Refused} {codes counts codes' counts' : List ℕ} → row < length (segments_in L ps m)
    → RowCounted (carried_by L ps m row) row census codes counts r codes' counts' → RowCounted (get_or (carried_in L ps m) row []) row census codes counts r codes' counts'
row-there L ps m row {census} {r} {codes} {counts} {codes'} {counts'} h w =
    subst⁻¹ (λ (c : List ℕ). RowCounted c row census codes counts r codes' counts') (carried_at L ps m row h) w
