-- What entries put at the front of the two buffers: the entries of an index put back what stands there, and so all but what is changed stays.
-- Assumes nothing.
use mathlib.Core.Bool.{true}
use mathlib.Core.List.{List, [], ◌∷◌, ◌++◌, map}
use mathlib.Core.Path.{◌≡◌, refl, sym, ap, ap₂, ◌∙◌}
use Prim.Native.Nat.{ℕ, zero, suc, ◌+◌, ◌-◌, ◌*◌, ◌<◌, ◌≤◌}
use native.Mathlib.Omega.{arith}
use lib.ListN.{length, get_or, set, take, drop, take-append-drop, length-append, length-drop, length-set}
use lib.Seq.{sets, sets-eq, length-take-le, take_at, drop_at, take-add, drop-drop, drop-cons, set-append_left, set_split, map-set_same}
use Rattle.laws.specs.Lists.{concat}
use Rattle.laws.specs.Tables.{values}
use Rattle.laws.proofs.Lists.{map-append}
use Rattle.laws.proofs.Stores.{sets-append, sets_in_front}
use Rattle.laws.proofs.Sums.{concat-append}
use Rattle.laws.proofs.Tables.{length-values, values-append}
use Rattle.index.specs.Index.{Entry, place_size, named_in, entry_at, entries_in, roomy, codes_put, counts_put}
use Rattle.index.specs.Adding.{place_of_code, nothing, new_entry, one_more}
use Rattle.index.specs.inner.Changing.{inserted, Insertable}
use Rattle.index.proofs.PlacedCode.{length-placed}
use Rattle.index.proofs.Sizes.{roomy_parts}
use Rattle.index.proofs.Entries.{length-entries, entry-there}

-- lists

module _ {ℓ} {A : Type ℓ} where
  -- what stands in a list, stored there
  pub sets_own : (l : List A) (i k : ℕ) → i + k ≤ length l → sets l i (take k (drop i l)) ≡ l
  sets_own l i k h =
      let long : length (take k (drop i l)) ≡ k = length-take-le k (drop i l) (omega (arith, length-drop i l)) in
      sets-eq (take k (drop i l)) l i (omega (arith, long))
      ∙ ap₂ (λ (s : List A) (n : ℕ). s ++ drop (i + n) l) (sym (take-add i k l)) long
      ∙ take-append-drop (i + k) l

  -- and more behind it
  pub sets-kept : (l : List A) (i k : ℕ) (s : List A) → i + k ≤ length l → sets l i (take k (drop i l) ++ s) ≡ sets l (i + k) s
  sets-kept l i k s h =
      sym (sets-append l i (take k (drop i l)) s)
      ∙ ap₂ (λ (t : List A) (n : ℕ). sets t (i + n) s) (sets_own l i k h)
      (length-take-le k (drop i l) (omega (arith, length-drop i l)))

  -- something put between what stands there and what is moved behind it
  pub put-between : (l : List A) (i k : ℕ) (s behind : List A) → i + k ≤ length l
      → sets (sets l (i + k + length s) behind) (i + k) s ≡ sets l i (take k (drop i l) ++ (s ++ behind))
  put-between l i k s behind h = sets_in_front l (i + k) s behind ∙ sym (sets-kept l i k (s ++ behind) h)

  -- one element of what it begins with, changed
  pub sets_changed : (l : List A) (k j : ℕ) (v : A) → j < k → k ≤ length l → sets l 0 (set (take k l) j v) ≡ set l j v
  sets_changed l k j v h within =
      let long : length (take k l) ≡ k = length-take-le k l within in
      let same-long : length (set (take k l) j v) ≡ k = length-set (take k l) j v ∙ long in
      sets-eq (set (take k l) j v) l 0 (omega (arith, same-long, within))
      ∙ ap (λ (n : ℕ). set (take k l) j v ++ drop n l) (let e : 0 + length (set (take k l) j v) ≡ k = omega (arith, same-long) in e)
      ∙ sym (set-append_left (take k l) (drop k l) j v (omega (arith, long, h)))
      ∙ ap (λ (s : List A). set s j v) (take-append-drop k l)

  pub map-set {κ} : {B : Type κ} (f : A → B) (l : List A) (j : ℕ) (a : A) → map f (set l j a) ≡ set (map f l) j (f a)
  map-set f [] j a = refl
  map-set f (x ∷ l) zero a = refl
  map-set {B = B} f (x ∷ l) (suc j) a = ap (λ (s : List B). f x ∷ s) (map-set f l j a)

  pub take-values : (f : ℕ → A) (i n p : ℕ) → p ≤ n → take p (values f i n) ≡ values f i p
  take-values f i n p h =
      ap (λ (m : ℕ). take p (values f i m)) (let e : n ≡ p + (n - p) = omega arith in e)
      ∙ ap (take p) (values-append f i p (n - p))
      ∙ take_at (values f i p) (values f (i + p) (n - p)) p (length-values f i p)

  pub drop-values : (f : ℕ → A) (i n p : ℕ) → p ≤ n → drop p (values f i n) ≡ values f (i + p) (n - p)
  drop-values f i n p h =
      ap (λ (m : ℕ). drop p (values f i m)) (let e : n ≡ p + (n - p) = omega arith in e)
      ∙ ap (drop p) (values-append f i p (n - p))
      ∙ drop_at (values f i p) (values f (i + p) (n - p)) p (length-values f i p)

-- the parts of an entry

abbrev pub place_of : Entry → List ℕ
place_of e = e.place

abbrev pub count_in : Entry → ℕ
count_in e = e.count

module _ (codes counts : List ℕ) where
  -- the places of entries, one after the other, are the bytes there
  pub places-there : (n i : ℕ) → concat (map place_of (values (entry_at codes counts) i n)) ≡ take (n * place_size) (drop (i * place_size) codes)
  unfolding concat values
  places-there zero i = refl
  places-there (suc n) i =
      ap (λ (s : List ℕ). take place_size (drop (i * place_size) codes) ++ s) (places-there n (suc i))
      ∙ ap (λ (k : ℕ). take place_size (drop (i * place_size) codes) ++ take (n * place_size) (drop k codes))
      (let e : suc i * place_size ≡ i * place_size + place_size = omega arith in e)
      ∙ ap (λ (s : List ℕ). take place_size (drop (i * place_size) codes) ++ take (n * place_size) s)
      (sym (drop-drop place_size (i * place_size) codes))
      ∙ sym (take-add place_size (n * place_size) (drop (i * place_size) codes))
      ∙ ap (λ (k : ℕ). take k (drop (i * place_size) codes)) (let e : place_size + n * place_size ≡ suc n * place_size = omega arith in e)

  -- and their counts those behind the number of them
  pub counts-there : (n i : ℕ) → suc i + n ≤ length counts → map count_in (values (entry_at codes counts) i n) ≡ take n (drop (suc i) counts)
  unfolding values
  counts-there zero i h = refl
  counts-there (suc n) i h =
      ap (λ (s : List ℕ). get_or counts (suc i) 0 ∷ s) (counts-there n (suc i) (omega arith))
      ∙ sym (ap (take (suc n)) (drop-cons counts (suc i) 0 (omega arith)))

-- the first of the counts is the number of codes
first_count : (counts : List ℕ) (n : ℕ) → 0 < length counts → named_in counts ∷ take n (drop 1 counts) ≡ take (suc n) counts
first_count [] n h = absurd (omega arith)
first_count (a ∷ s) n h = refl

pub put-codes : (codes counts : List ℕ) → roomy codes counts ≡ true → codes_put (entries_in codes counts) ≡ take (named_in counts * place_size) codes
unfolding codes_put entries_in
put-codes codes counts e = places-there codes counts (named_in counts) 0

pub put-counts : (codes counts : List ℕ) → roomy codes counts ≡ true → counts_put (entries_in codes counts) ≡ take (suc (named_in counts)) counts
unfolding counts_put entries_in
put-counts codes counts e =
    let r = roomy_parts codes counts e in
    ap₂ (λ (n : ℕ) (s : List ℕ). n ∷ s) (length-entries codes counts)
    (counts-there codes counts (named_in counts) 0 (omega (arith, r.counts_room, r.few_named)))
    ∙ first_count counts (named_in counts) (omega (arith, r.counts_room))

-- a new code at a place

module _ (c : List ℕ) (p n : ℕ) (codes counts : List ℕ) (asked : Insertable c p n codes counts) where
  abbrev es : List Entry
  es = entries_in codes counts

  first-entries : take p es ≡ values (entry_at codes counts) 0 p
  unfolding entries_in
  first-entries = take-values (entry_at codes counts) 0 (named_in counts) p (omega (arith, asked.within, asked.known))

  last-entries : drop p es ≡ values (entry_at codes counts) p (n - p)
  unfolding entries_in
  last-entries =
      drop-values (entry_at codes counts) 0 (named_in counts) p (omega (arith, asked.within, asked.known))
      ∙ ap₂ (λ (i m : ℕ). values (entry_at codes counts) i (m - p)) (let e : 0 + p ≡ p = omega arith in e) (sym asked.known)

  inserted-codes :
      codes_put (inserted c p es)
      ≡ take (p * place_size) codes ++ (place_of_code c ++ take (n * place_size - p * place_size) (drop (p * place_size) codes))
  unfolding codes_put concat
  inserted-codes =
      ap concat (map-append place_of (take p es) (new_entry c ∷ drop p es))
      ∙ concat-append (map place_of (take p es)) (map place_of (new_entry c ∷ drop p es))
      ∙ ap₂ (λ (s t : List ℕ). s ++ (place_of_code c ++ t))
      (ap (λ (s : List Entry). concat (map place_of s)) first-entries ∙ places-there codes counts p 0)
      (ap (λ (s : List Entry). concat (map place_of s)) last-entries ∙ places-there codes counts (n - p) p)
      ∙ ap (λ (k : ℕ). take (p * place_size) codes ++ (place_of_code c ++ take k (drop (p * place_size) codes)))
      (let e : (n - p) * place_size ≡ n * place_size - p * place_size = omega arith in e)

  pub new_codes :
      sets (sets codes (p * place_size + place_size) (take (n * place_size - p * place_size) (drop (p * place_size) codes))) (p * place_size) (place_of_code c)
      ≡ sets codes 0 (codes_put (inserted c p es))
  new_codes =
      let behind = take (n * place_size - p * place_size) (drop (p * place_size) codes) in
      let long = (roomy_parts codes counts asked.room).codes_room in
      sym
      (ap₂ (λ (i k : ℕ). sets (sets codes (i + k) behind) i (place_of_code c)) (let e : 0 + p * place_size ≡ p * place_size = omega arith in e)
      (length-placed c asked.short))
      ∙ put-between codes 0 (p * place_size) (place_of_code c) behind (omega (arith, long, asked.within, asked.free))
      ∙ sym (ap (sets codes 0) inserted-codes)

  inserted-counts : counts_put (inserted c p es) ≡ suc n ∷ (take p (drop 1 counts) ++ (1 ∷ take (n - p) (drop (suc p) counts)))
  unfolding counts_put
  inserted-counts =
      let r = roomy_parts codes counts asked.room in
      let all : length (inserted c p es) ≡ suc n =
      length-append (take p es) (new_entry c ∷ drop p es)
      ∙ ap₂ (λ (a b : ℕ). a + suc b) (length-take-le p es (omega (arith, length-entries codes counts, asked.known, asked.within)))
      (length-drop p es)
      ∙ omega (arith, length-entries codes counts, asked.known, asked.within) in
      ap₂ (λ (k : ℕ) (s : List ℕ). k ∷ s) all
      (map-append count_in (take p es) (new_entry c ∷ drop p es)
      ∙ ap₂ (λ (s t : List ℕ). s ++ (1 ∷ t))
      (ap (λ (s : List Entry). map count_in s) first-entries
      ∙ counts-there codes counts p 0 (omega (arith, r.counts_room, asked.within, asked.free)))
      (ap (λ (s : List Entry). map count_in s) last-entries
      ∙ counts-there codes counts (n - p) p (omega (arith, r.counts_room, asked.within, asked.free))))

  pub new_counts :
      set (set (sets counts (p + 1 + 1) (take (n + 1 - (p + 1)) (drop (p + 1) counts))) (p + 1) 1) 0 (n + 1)
      ≡ sets counts 0 (counts_put (inserted c p es))
  new_counts =
      let long = (roomy_parts codes counts asked.room).counts_room in
      let behind = take (n - p) (drop (suc p) counts) in
      sym
      (ap₂ (λ (i m : ℕ). set (set (sets counts (i + 1) behind) i 1) 0 m) (let e : 1 + p ≡ p + 1 = omega arith in e)
      (let e : suc n ≡ n + 1 = omega arith in e)
      ∙ ap₂ (λ (k i : ℕ). set (set (sets counts (p + 1 + 1) (take k (drop i counts))) (p + 1) 1) 0 (n + 1))
      (let e : n - p ≡ n + 1 - (p + 1) = omega arith in e) (let e : suc p ≡ p + 1 = omega arith in e))
      ∙ ap (λ (s : List ℕ). set s 0 (suc n)) (put-between counts 1 p (1 ∷ []) behind (omega (arith, long, asked.within, asked.free)))
      ∙ sets_in_front counts 0 (suc n ∷ []) (take p (drop 1 counts) ++ (1 ∷ behind))
      ∙ sym (ap (sets counts 0) inserted-counts)

-- an entry counted once more

module _ (codes counts : List ℕ) (e : roomy codes counts ≡ true) (i : ℕ) (h : i < named_in counts) where
  abbrev all : List Entry
  all = entries_in codes counts

  abbrev more : Entry
  more = one_more (get_or all i nothing)

  as_set : take i all ++ (more ∷ drop (suc i) all) ≡ set all i more
  as_set = sym (set_split all i more (omega (arith, length-entries codes counts, h)))

  pub kept-codes : sets codes 0 (codes_put (take i all ++ (more ∷ drop (suc i) all))) ≡ codes
  unfolding codes_put
  kept-codes =
      let r = roomy_parts codes counts e in
      ap (λ (s : List Entry). sets codes 0 (concat (map place_of s))) as_set
      ∙ ap (λ (s : List (List ℕ)). sets codes 0 (concat s)) (map-set_same place_of all i more nothing refl)
      ∙ ap (sets codes 0) (put-codes codes counts e)
      ∙ sets_own codes 0 (named_in counts * place_size) (omega (arith, r.codes_room, r.few_named))

  pub once-more-counts :
      sets counts 0 (counts_put (take i all ++ (more ∷ drop (suc i) all))) ≡ set counts (suc i) (suc (get_or counts (suc i) 0))
  unfolding counts_put
  once-more-counts =
      let r = roomy_parts codes counts e in
      ap (λ (s : List Entry). sets counts 0 (length s ∷ map count_in s)) as_set
      ∙ ap₂ (λ (n : ℕ) (s : List ℕ). sets counts 0 (n ∷ s)) (length-set all i more) (map-set count_in all i more)
      ∙ ap₂ (λ (s : List ℕ) (n : ℕ). sets counts 0 (set s (suc i) (suc n))) (put-counts codes counts e) (ap count_in (entry-there codes counts i h))
      ∙ sets_changed counts (suc (named_in counts)) (suc i) (suc (get_or counts (suc i) 0)) (omega (arith, h))
      (omega (arith, r.counts_room, r.few_named))
