-- Halving finds the place (X4): in entries that rise, the place that halving comes to is the code's own, or where it would stand; so adding
-- by that place is adding by what the entries name and count.
-- Assumes nothing.
use mathlib.Core.Bool.{Bool, true, false}
use mathlib.Core.List.{List, [], ◌∷◌, ◌++◌}
use mathlib.Core.Logic.{◌⊎◌, inl, inr}
use mathlib.Core.Path.{◌≡◌, refl, sym, ap, ap₂, ◌∙◌, subst, subst⁻¹}
use Prim.Native.Nat.{ℕ, zero, suc, ◌+◌, ◌*◌, ◌/◌, ◌<◌, ◌≤◌}
use native.Mathlib.Omega.{arith}
use borrow.Author.Tests.{ltb-true, ltb-false, le-leb, ne_eqb}
use lib.Dec.{leb, ltb, eqb}
use lib.ListN.{length, take, drop, get_or, length-drop}
use Rattle.laws.specs.Lists.{same}
use Rattle.laws.proofs.Cases.{equal_or_not}
use Rattle.laws.proofs.Lists.{same_self}
use Rattle.laws.proofs.Tests.{Tested, passed, failed, tested, never_both, and_first, and_second}
use Rattle.index.specs.declared.code.Compared.TheVariants.{Before, After}
use Rattle.index.specs.declared.finding.Found.{Found}
use Rattle.index.specs.Order.{byte_order}
use Rattle.index.specs.Refusals.{long_code, full_index, full_count, no_index_number}
use Rattle.index.specs.Index.{Entry, codes_most, code_most, place_size, counts_past, entry_code, named_in, entry_at, entries_in}
use Rattle.index.specs.Index.{roomy, rises_after, rises, sound_index, names, count_of}
use Rattle.index.specs.Adding.{nothing, new_entry, one_more, code_added, Addition, declines, leaves, gives, addition_at, addition_of, addition}
use Rattle.index.specs.inner.Halving.{compared_at, stands_at, missing_at, halved, sought_among}
use Rattle.index.specs.inner.Rising.{length_at}
use Rattle.index.proofs.Sizes.{Fit, roomy_parts}
use Rattle.index.proofs.Orders.{Three, is_b, is_s, is_a, three, order_same, before-after, after-before, before_trans}
use Rattle.index.proofs.Orders.{before_differs, after_differs, compared-order}
use Rattle.index.proofs.Entries.{length-entries, entry-there}
use Rattle.index.proofs.RisingParts.{PartRises, rises_part}
use Rattle.index.proofs.RisingEntries.{length-there, code-there}
use Rattle.index.proofs.KeptHalf.{doubled, halved_none, halved-before, halved-same, halved-after}
use Rattle.index.proofs.Steps.{names_hit, names_miss, count_hit, count_miss, added_here, added_sooner, added-later, rises-rising, rises_lower}

-- the code at a place of some entries
abbrev pub code_there : List Entry → ℕ → List ℕ
code_there es i = entry_code (get_or es i nothing)

-- entries that rise: each code is behind the last one, and each before the later ones

pub rises-behind : (last : List ℕ) (es : List Entry) → rises_after last es ≡ true → (i : ℕ) → i < length es → byte_order last (code_there es i) ≡ Before
rises-behind last [] w i h = absurd (omega arith)
rises-behind last (e ∷ es) w zero h = (rises-rising last e es w).behind
rises-behind last (e ∷ es) w (suc i) h =
    let r = rises-rising last e es w in
    rises-behind last es (rises_lower last (entry_code e) es r.behind r.rest) i (omega arith)

pub rises-between : (last : List ℕ) (es : List Entry) → rises_after last es ≡ true → (i j : ℕ) → i < j → j < length es
    → byte_order (code_there es i) (code_there es j) ≡ Before
rises-between last [] w i j h k = absurd (omega arith)
rises-between last (e ∷ es) w i zero h k = absurd (omega arith)
rises-between last (e ∷ es) w zero (suc j) h k = rises-behind (entry_code e) es (rises-rising last e es w).rest j (omega arith)
rises-between last (e ∷ es) w (suc i) (suc j) h k =
    rises-between (entry_code e) es (rises-rising last e es w).rest i j (omega arith) (omega arith)

-- a place in front of which every code is before c, and from which on every one is behind it
pub record Apart (es : List Entry) (c : List ℕ) (at : ℕ) : Type 0 where
  pub within : at ≤ length es
  pub front : (i : ℕ) → i < at → byte_order c (code_there es i) ≡ After
  pub back : (i : ℕ) → at ≤ i → i < length es → byte_order c (code_there es i) ≡ Before

-- a place that has the code itself
pub record Here (es : List Entry) (c : List ℕ) (at : ℕ) : Type 0 where
  pub inside : at < length es
  pub code : code_there es at ≡ c

-- what halving is to come to
pub data ComesTo (es : List Entry) (c : List ℕ) : Found → Type 0 where
  found : (i : ℕ) → Here es c i → ComesTo es c (stands_at i)
  missing : (i : ℕ) → Apart es c i → ComesTo es c (missing_at i)

-- entries that rise, and codes that compare as theirs do
module _ (es : List Entry) (codes c : List ℕ) (w : rises es ≡ true)
    (agree : (i : ℕ) → i < length es → compared_at codes c i ≡ byte_order c (code_there es i)) where
  -- what lies outside from `low` up to `high` is settled, and what lies inside is little enough
  record Narrowed (n low high : ℕ) : Type 0 where
    pub ordered : low ≤ high
    pub within : high ≤ length es
    pub few : high < low + doubled n
    pub front : (i : ℕ) → i < low → byte_order c (code_there es i) ≡ After
    pub back : (i : ℕ) → high ≤ i → i < length es → byte_order c (code_there es i) ≡ Before

  -- none is left
  settled : {n low high : ℕ} → Narrowed n low high → high ≤ low → Apart es c low
  settled v e = record {
    within = omega (arith, v.ordered, v.within);
    front = v.front;
    back = λ i h k. v.back i (omega (arith, e)) k;
  }

  -- before the code in the middle, so before all behind it
  lower_half : {n low high : ℕ} (m : ℕ) → Narrowed (suc n) low high → m ≡ (low + high) / 2 → low < high
      → byte_order c (code_there es m) ≡ Before → Narrowed n low m
  unfolding doubled
  lower_half {n} {low} {high} m v e less o = record {
    ordered = omega arith;
    within = omega (arith, v.within);
    few = omega (arith, v.few);
    front = v.front;
    back = λ i h k. go i h k (equal_or_not m i);
  }
    where
      go : (i : ℕ) → m ≤ i → i < length es → (m ≡ i) ⊎ (m ≡ i → ⊥) → byte_order c (code_there es i) ≡ Before
      go i h k (inl q) = ap (λ (j : ℕ). byte_order c (code_there es j)) (sym q) ∙ o
      go i h k (inr q) =
          before_trans c (code_there es m) (code_there es i) o
          (rises-between [] es w m i (let l : m < i = omega (arith, q) in l) k)

  -- behind the code in the middle, so behind all before it
  upper_half : {n low high : ℕ} (m : ℕ) → Narrowed (suc n) low high → m ≡ (low + high) / 2 → low < high
      → byte_order c (code_there es m) ≡ After → Narrowed n (m + 1) high
  unfolding doubled
  upper_half {n} {low} {high} m v e less o = record {
    ordered = omega arith;
    within = v.within;
    few = omega (arith, v.few);
    front = λ i h. go i h (equal_or_not i m);
    back = v.back;
  }
    where
      inside : m < length es
      inside = omega (arith, v.within)

      go : (i : ℕ) → i < m + 1 → (i ≡ m) ⊎ (i ≡ m → ⊥) → byte_order c (code_there es i) ≡ After
      go i h (inl q) = ap (λ (j : ℕ). byte_order c (code_there es j)) q ∙ o
      go i h (inr q) =
          before-after (code_there es i) c
          (before_trans (code_there es i) (code_there es m) c
          (rises-between [] es w i m (let l : i < m = omega (arith, q) in l) inside) (after-before c (code_there es m) o))

  halved_sought : (n low high : ℕ) → Narrowed n low high → ComesTo es c (halved n codes c low high)
  unfolding halved doubled
  halved_sought zero low high v = missing low (settled v (let l : high ≤ low = omega (arith, v.few) in l))
  halved_sought (suc n) low high v = go (tested (ltb low high)) (halved_sought n low) (λ l. halved_sought n l high)
    where
      turn : low < high
          → ((h : ℕ) → Narrowed n low h → ComesTo es c (halved n codes c low h))
          → ((l : ℕ) → Narrowed n l high → ComesTo es c (halved n codes c l high))
          → Three (compared_at codes c ((low + high) / 2))
          → compared_at codes c ((low + high) / 2) ≡ byte_order c (code_there es ((low + high) / 2))
          → ComesTo es c (halved (suc n) codes c low high)
      turn less lower upper (is_b h) q =
          subst⁻¹ (ComesTo es c) (halved-before n codes c low high less h)
          (lower ((low + high) / 2) (lower_half ((low + high) / 2) v refl less (sym q ∙ h)))
      turn less lower upper (is_s h) q =
          subst⁻¹ (ComesTo es c) (halved-same n codes c low high less h)
          (found ((low + high) / 2)
          (record {
            inside = omega (arith, v.within);
            code = sym (order_same c (code_there es ((low + high) / 2)) (sym q ∙ h));
          }))
      turn less lower upper (is_a h) q =
          subst⁻¹ (ComesTo es c) (halved-after n codes c low high less h)
          (upper ((low + high) / 2 + 1) (upper_half ((low + high) / 2) v refl less (sym q ∙ h)))

      go : Tested (ltb low high) → ((h : ℕ) → Narrowed n low h → ComesTo es c (halved n codes c low h))
          → ((l : ℕ) → Narrowed n l high → ComesTo es c (halved n codes c l high)) → ComesTo es c (halved (suc n) codes c low high)
      go (passed t) lower upper =
          let less = ltb-true low high t in
          turn less lower upper (three (compared_at codes c ((low + high) / 2)))
          (agree ((low + high) / 2) (let l : (low + high) / 2 < length es = omega (arith, v.within) in l))
      go (failed t) lower upper =
          let past = ltb-false low high t in
          subst⁻¹ (ComesTo es c) (halved_none n codes c low high past) (missing low (settled v past))

  all_sought : length es ≤ codes_most → ComesTo es c (sought_among codes (length es) c)
  unfolding sought_among doubled
  all_sought few =
      halved_sought 10 0 (length es)
      (record {
        ordered = omega arith;
        within = omega arith;
        few = let l : length es < 0 + 1024 = omega arith in l;
        front = λ i h. absurd (omega arith);
        back = λ i h k. absurd (omega arith);
      })

-- a code that is named: its place, its count, and what adding it gives
pub record NamedThere (es : List Entry) (c : List ℕ) (at : ℕ) : Type 0 where
  pub name : names es c ≡ true
  pub counted : (get_or es at nothing).count ≡ count_of es c
  pub put : take at es ++ (one_more (get_or es at nothing) ∷ drop (suc at) es) ≡ code_added c es

pub here_named : (last : List ℕ) (es : List Entry) (c : List ℕ) → rises_after last es ≡ true → (at : ℕ) → Here es c at → NamedThere es c at
here_named last [] c w at h = absurd (omega (arith, h.inside))
here_named last (e ∷ es) c w zero h =
    let it : same c (entry_code e) ≡ true = ap (same c) h.code ∙ same_self c in
    record { name = names_hit e es c it; counted = sym (count_hit e es c it); put = sym (added_here c e es it) }
here_named last (e ∷ es) c w (suc i) h =
    let r = rises-rising last e es w in
    let inside : i < length es = omega (arith, h.inside) in
    let ih = here_named (entry_code e) es c r.rest i (record { inside = inside; code = h.code }) in
    let o : byte_order c (entry_code e) ≡ After =
    before-after (entry_code e) c (ap (byte_order (entry_code e)) (sym h.code) ∙ rises-behind (entry_code e) es r.rest i inside) in
    let other = after_differs c (entry_code e) o in
    record {
      name = names_miss e es c other ∙ ih.name;
      counted = ih.counted ∙ sym (count_miss e es c other);
      put = ap (λ (l : List Entry). e ∷ l) ih.put ∙ sym (added-later c e es o);
    }

-- a code that is not: where it would stand, and what adding it gives
pub record UnnamedThere (es : List Entry) (c : List ℕ) (at : ℕ) : Type 0 where
  pub name : names es c ≡ false
  pub put : take at es ++ (new_entry c ∷ drop at es) ≡ code_added c es

-- every code is behind c
behind-unnamed : (es : List Entry) (c : List ℕ) → ((i : ℕ) → i < length es → byte_order c (code_there es i) ≡ Before) → names es c ≡ false
unfolding names
behind-unnamed [] c h = refl
behind-unnamed (e ∷ es) c h =
    names_miss e es c (before_differs c (entry_code e) (h 0 (omega arith))) ∙ behind-unnamed es c (λ i k. h (suc i) (omega arith))

pub apart-unnamed : (es : List Entry) (c : List ℕ) (at : ℕ) → Apart es c at → UnnamedThere es c at
unfolding names code_added
apart-unnamed [] c zero a = record { name = refl; put = refl }
apart-unnamed [] c (suc i) a = absurd (omega (arith, a.within))
apart-unnamed (e ∷ es) c zero a = record {
  name = behind-unnamed (e ∷ es) c (λ i k. a.back i (omega arith) k);
  put = sym (added_sooner c e es (a.back 0 (omega arith) (omega arith)));
}
apart-unnamed (e ∷ es) c (suc at) a =
    let o : byte_order c (entry_code e) ≡ After = a.front 0 (omega arith) in
    let ih =
    apart-unnamed es c at
    (record {
      within = omega (arith, a.within);
      front = λ i h. a.front (suc i) (omega arith);
      back = λ i h k. a.back (suc i) (omega arith) (omega arith);
    }) in
    record {
      name = names_miss e es c (after_differs c (entry_code e) o) ∙ ih.name;
      put = ap (λ (l : List Entry). e ∷ l) ih.put ∙ sym (added-later c e es o);
    }

-- adding by the place that is found
pub addition-found : (es : List Entry) (c : List ℕ) → rises es ≡ true → (f : Found) → ComesTo es c f → addition_at c es f ≡ addition_of c es
unfolding addition_at addition_of
addition-found es c w f (found i h) =
    let n = here_named [] es c w i h in
    ap₂ (λ (m : ℕ) (l : List Entry). elim (leb counts_past (suc m)) [ true ↦ declines full_count | false ↦ gives l ]) n.counted n.put
    ∙ sym (ap
    (λ (b : Bool).
    elim b [
      | true ↦ elim (leb counts_past (suc (count_of es c))) [ true ↦ declines full_count | false ↦ gives (code_added c es) ]
      | false ↦ elim (leb codes_most (length es)) [ true ↦ declines full_index | false ↦ gives (code_added c es) ]
    ])
    n.name)
addition-found es c w f (missing i a) =
    let n = apart-unnamed es c i a in
    ap (λ (l : List Entry). elim (leb codes_most (length es)) [ true ↦ declines full_index | false ↦ gives l ]) n.put
    ∙ sym (ap
    (λ (b : Bool).
    elim b [
      | true ↦ elim (leb counts_past (suc (count_of es c))) [ true ↦ declines full_count | false ↦ gives (code_added c es) ]
      | false ↦ elim (leb codes_most (length es)) [ true ↦ declines full_index | false ↦ gives (code_added c es) ]
    ])
    n.name)

-- a lent index that is sound

-- what halving comes to, said of what is found
pub record FoundSound (es : List Entry) (c : List ℕ) (f : Found) : Type 0 where
  pub name : f.named ≡ names es c
  pub here : f.named ≡ true → Here es c f.at
  pub counted : f.named ≡ true → (get_or es f.at nothing).count ≡ count_of es c
  pub apart : f.named ≡ false → Apart es c f.at

sought_sound : (es : List Entry) (c : List ℕ) → rises es ≡ true → (f : Found) → ComesTo es c f → FoundSound es c f
sought_sound es c w f (found i h) =
    let n = here_named [] es c w i h in
    record { name = sym n.name; here = λ e. h; counted = λ e. n.counted; apart = λ e. absurd (never_both refl e) }
sought_sound es c w f (missing i a) =
    let n = apart-unnamed es c i a in
    record { name = sym n.name; here = λ e. absurd (never_both e refl); counted = λ e. absurd (never_both e refl); apart = λ e. a }

-- adding, by the answers of its three tests
addition_by : (c codes counts : List ℕ) → roomy codes counts ≡ true → eqb (length c) 0 ≡ false → leb (length c) code_most ≡ true
    → addition c codes counts ≡ addition_at c (entries_in codes counts) (sought_among codes (named_in counts) c)
unfolding addition
addition_by c codes counts e f g =
    let all = addition_at c (entries_in codes counts) (sought_among codes (named_in counts) c) in
    ap {B = Addition}
    (λ (b : Bool).
    elim b [
      | true ↦ elim (eqb (length c) 0) [ true ↦ leaves | false ↦ elim (leb (length c) code_most) [ true ↦ all | false ↦ declines long_code ] ]
      | false ↦ declines no_index_number
    ])
    e
    ∙ ap {B = Addition} (λ (b : Bool). elim b [ true ↦ leaves | false ↦ elim (leb (length c) code_most) [ true ↦ all | false ↦ declines long_code ] ]) f
    ∙ ap {B = Addition} (λ (b : Bool). elim b [ true ↦ all | false ↦ declines long_code ]) g

module _ (codes counts : List ℕ) (sound : sound_index codes counts ≡ true) where
  pub sound-roomy : roomy codes counts ≡ true
  unfolding sound_index
  sound-roomy = and_first (roomy codes counts) (rises (entries_in codes counts)) sound

  pub sound-rises : rises (entries_in codes counts) ≡ true
  unfolding sound_index
  sound-rises = and_second (roomy codes counts) (rises (entries_in codes counts)) sound

  -- the length at a named place is 1 to 22
  named_part : PartRises (entry_at codes counts) [] 0 (named_in counts)
  unfolding entries_in
  named_part = rises_part (entry_at codes counts) [] 0 (named_in counts) sound-rises

  pub place-filled : (i : ℕ) → i < named_in counts → 1 ≤ length_at codes i
  place-filled i h = subst (λ (n : ℕ). 1 ≤ n) (length-there codes counts i) (named_part.lengths i (omega arith) (omega (arith, h))).0

  pub place-fits : (i : ℕ) → i < named_in counts → length_at codes i ≤ code_most
  place-fits i h = subst (λ (n : ℕ). n ≤ code_most) (length-there codes counts i) (named_part.lengths i (omega arith) (omega (arith, h))).1

  -- so the code there is inside of the buffer
  pub code_inside : (i : ℕ) → i < named_in counts → length_at codes i ≤ length (drop (i * place_size + 1) codes)
  code_inside i h =
      let room = roomy_parts codes counts sound-roomy in
      omega (arith, length-drop (i * place_size + 1) codes, place-fits i h, room.codes_room, room.few_named)

  -- a code beside the one at a place: as the entry's code stands to it
  pub compared-there : (c : List ℕ) (i : ℕ) → i < named_in counts → compared_at codes c i ≡ byte_order c (code_there (entries_in codes counts) i)
  compared-there c i h =
      compared-order c (length_at codes i) (drop (i * place_size + 1) codes) (code_inside i h)
      ∙ ap (byte_order c) (sym (code-there codes counts i (place-fits i h)))
      ∙ ap (λ (e : Entry). byte_order c (entry_code e)) (sym (entry-there codes counts i h))

  pub sought_there : (c : List ℕ) → ComesTo (entries_in codes counts) c (sought_among codes (named_in counts) c)
  sought_there c =
      let room = roomy_parts codes counts sound-roomy in
      let long = length-entries codes counts in
      subst (λ (n : ℕ). ComesTo (entries_in codes counts) c (sought_among codes n c)) long
      (all_sought (entries_in codes counts) codes c sound-rises (λ i h. compared-there c i (omega (arith, long)))
      (let l : length (entries_in codes counts) ≤ codes_most = omega (arith, room.few_named) in l))

  pub found-sound : (c : List ℕ) → FoundSound (entries_in codes counts) c (sought_among codes (named_in counts) c)
  found-sound c = sought_sound (entries_in codes counts) c sound-rises (sought_among codes (named_in counts) c) (sought_there c)

  -- adding a code to a sound index: what it names and counts says it all
  pub addition-sound : (c : List ℕ) → Fit c → addition c codes counts ≡ addition_of c (entries_in codes counts)
  addition-sound c fit =
      addition_by c codes counts sound-roomy
      (ne_eqb (length c) 0 (λ (e : length c ≡ 0). omega (arith, fit.some)))
      (le-leb (length c) code_most fit.short)
      ∙ addition-found (entries_in codes counts) c sound-rises (sought_among codes (named_in counts) c) (sought_there c)
