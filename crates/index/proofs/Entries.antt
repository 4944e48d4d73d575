-- Entries and the two buffers: what is put at their front is read from there again, and fits.
-- Assumes nothing.
use mathlib.Core.Bool.{true}
use mathlib.Core.List.{List, [], ◌∷◌, ◌++◌, append_assoc}
use mathlib.Core.Path.{◌≡◌, refl, sym, ap, ap₂, ◌∙◌}
use Prim.Native.Nat.{ℕ, zero, suc, ◌+◌, ◌*◌, ◌<◌, ◌≤◌}
use native.Mathlib.Nat.{zero-add}
use native.Mathlib.Omega.{arith}
use lib.ListN.{length, take, drop, get_or, length-append, length-drop, length-map}
use lib.Seq.{sets, sets-eq, length-sets, length-take-le, take_at, drop_at, drop-drop}
use Rattle.laws.specs.Lists.{concat}
use Rattle.laws.specs.Every.{All, none, also}
use Rattle.laws.specs.Tables.{values}
use Rattle.laws.proofs.Every.{all_first, all_rest}
use Rattle.laws.proofs.Lists.{get_d_map}
use Rattle.laws.proofs.Stores.{get_or_sets_within}
use Rattle.laws.proofs.Tables.{length-values, get_or_values_zero, values_same, values-entries}
use Rattle.index.specs.Index.{Entry, codes_most, place_size, named_in, entry_at, entries_in, roomy, codes_put, counts_put}
use Rattle.index.specs.Adding.{nothing}
use Rattle.index.proofs.Sizes.{Sized, roomy_parts, parts_roomy}

-- what holds of each value of a table holds of all
pub all-values {ℓ ℓ'} : {A : Type ℓ} {P : A → Type ℓ'} (f : ℕ → A) (i n : ℕ) → ((k : ℕ) → k < i + n → P (f k)) → All P (values f i n)
unfolding values
all-values f i zero h = none
all-values f i (suc n) h = also (h i (omega arith)) (all-values f (suc i) n (λ k less. h k (omega arith)))

-- the entries that stand in the buffers
module _ (codes counts : List ℕ) where
  pub length-entries : length (entries_in codes counts) ≡ named_in counts
  unfolding entries_in
  length-entries = length-values (entry_at codes counts) 0 (named_in counts)

  pub entry-there : (i : ℕ) → i < named_in counts → get_or (entries_in codes counts) i nothing ≡ entry_at codes counts i
  unfolding entries_in
  entry-there i h = get_or_values_zero (entry_at codes counts) (named_in counts) i nothing h

  pub entries_empty : named_in counts ≡ 0 → entries_in codes counts ≡ []
  unfolding entries_in values
  entries_empty e = ap (values (entry_at codes counts) 0) e

  pub place-whole : codes_most * place_size ≤ length codes → (i : ℕ) → i < codes_most → length (entry_at codes counts i).place ≡ place_size
  place-whole room i h =
      length-take-le place_size (drop (i * place_size) codes)
      (let w : place_size ≤ length (drop (i * place_size) codes) = omega (arith, length-drop (i * place_size) codes) in w)

  pub entries-sized : roomy codes counts ≡ true → Sized (entries_in codes counts)
  unfolding entries_in
  entries-sized h =
      let room = roomy_parts codes counts h in
      all-values (entry_at codes counts) 0 (named_in counts) (λ k less. place-whole room.codes_room k (omega (arith, room.few_named)))

-- what entries put
pub length-codes_put : (es : List Entry) → Sized es → length (codes_put es) ≡ length es * place_size
unfolding codes_put concat
length-codes_put [] w = refl
length-codes_put (e ∷ es) w = omega (arith, length-append e.place (codes_put es), all_first w, length-codes_put es (all_rest w))

pub length-counts_put : (es : List Entry) → length (counts_put es) ≡ suc (length es)
unfolding counts_put
length-counts_put es = ap suc (length-map es (λ (e : Entry). e.count))

-- the k-th place, where whole places stand in a row
pub place-put : (es : List Entry) (rest : List ℕ) (k : ℕ) → Sized es → k < length es
    → take place_size (drop (k * place_size) (codes_put es ++ rest)) ≡ (get_or es k nothing).place
unfolding codes_put concat
place-put [] rest k w h = absurd (omega arith)
place-put (e ∷ es) rest zero w h =
    ap (take place_size) (append_assoc e.place (codes_put es) rest) ∙ take_at e.place (codes_put es ++ rest) place_size (all_first w)
place-put (e ∷ es) rest (suc k) w h =
    ap₂ (λ (n : ℕ) (s : List ℕ). take place_size (drop n s)) (let q : suc k * place_size ≡ place_size + k * place_size = omega arith in q)
    (append_assoc e.place (codes_put es) rest)
    ∙ ap (take place_size) (sym (drop-drop (k * place_size) place_size (e.place ++ (codes_put es ++ rest))))
    ∙ ap (λ (s : List ℕ). take place_size (drop (k * place_size) s)) (drop_at e.place (codes_put es ++ rest) place_size (all_first w))
    ∙ place-put es rest k (all_rest w) (omega arith)

module _ (es : List Entry) (codes counts : List ℕ) (whole : Sized es) (few : length es ≤ codes_most)
    (codes_room : codes_most * place_size ≤ length codes) (counts_room : codes_most < length counts) where
  pub named_put : named_in (sets counts 0 (counts_put es)) ≡ length es
  unfolding counts_put
  named_put =
      get_or_sets_within counts 0 0 (counts_put es) 0 (omega (arith, length-counts_put es))
      (let w : 0 + length (counts_put es) ≤ length counts = omega (arith, length-counts_put es) in w)

  place_back : (k : ℕ) → k < length es → take place_size (drop (k * place_size) (sets codes 0 (codes_put es))) ≡ (get_or es k nothing).place
  place_back k h =
      ap (λ (s : List ℕ). take place_size (drop (k * place_size) s))
      (sets-eq (codes_put es) codes 0 (let w : 0 + length (codes_put es) ≤ length codes = omega (arith, length-codes_put es whole) in w))
      ∙ place-put es (drop (0 + length (codes_put es)) codes) k whole h

  count_back : (k : ℕ) → k < length es → get_or (sets counts 0 (counts_put es)) (suc k) 0 ≡ (get_or es k nothing).count
  unfolding counts_put
  count_back k h =
      ap (λ (n : ℕ). get_or (sets counts 0 (counts_put es)) n 0) (sym (zero-add (suc k)))
      ∙ get_or_sets_within counts 0 (suc k) (counts_put es) 0 (omega (arith, length-counts_put es))
      (let w : 0 + length (counts_put es) ≤ length counts = omega (arith, length-counts_put es) in w)
      ∙ get_d_map (λ (e : Entry). e.count) es k nothing 0 h

  -- what is put is read again
  pub entries-put : entries_in (sets codes 0 (codes_put es)) (sets counts 0 (counts_put es)) ≡ es
  unfolding entries_in
  entries-put =
      let codes' = sets codes 0 (codes_put es) in
      let counts' = sets counts 0 (counts_put es) in
      ap (values (entry_at codes' counts') 0) named_put
      ∙ values_same (entry_at codes' counts') (λ k. get_or es k nothing) 0 (length es)
      (λ k low high.
      ap₂ {C = Entry} (λ (p : List ℕ) (n : ℕ). record { place = p; count = n }) (place_back k (omega arith)) (count_back k (omega arith)))
      ∙ values-entries es nothing

  -- and has room
  pub roomy-put : roomy (sets codes 0 (codes_put es)) (sets counts 0 (counts_put es)) ≡ true
  roomy-put =
      parts_roomy (sets codes 0 (codes_put es)) (sets counts 0 (counts_put es))
      (record {
        codes_room = omega (arith, length-sets codes 0 (codes_put es));
        counts_room = omega (arith, length-sets counts 0 (counts_put es));
        few_named = omega (arith, named_put);
      })
