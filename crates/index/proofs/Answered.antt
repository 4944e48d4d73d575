-- What the planner's questions answer of a sound index (X4): as many codes as it has entries, of each code its count, and the k-th code where it
-- stands.
-- Assumes nothing.
use mathlib.Core.Bool.{Bool, true, false}
use mathlib.Core.List.{List}
use mathlib.Core.Logic.{◌⊎◌, inl, inr}
use mathlib.Core.Path.{◌≡◌, refl, sym, ap, ap₂, ◌∙◌, subst}
use Prim.Native.Nat.{ℕ, suc, ◌+◌, ◌-◌, ◌*◌, ◌<◌, ◌≤◌}
use native.Mathlib.Omega.{arith}
use lib.ListN.{length, take, drop, get_or}
use lib.Seq.{length-take-le}
use Rattle.laws.proofs.Cases.{less_or_not}
use Rattle.laws.proofs.Tests.{Tested, passed, failed, tested, never_both, never-holds}
use Rattle.index.specs.declared.finding.Found.{Found}
use Rattle.index.specs.declared.asking.Codes.TheVariants as C
use Rattle.index.specs.declared.asking.Count.{Count}
use Rattle.index.specs.declared.asking.Count.TheVariants as N
use Rattle.index.specs.declared.asking.Code.TheVariants as K
use Rattle.index.specs.Index.{Entry, code_most, place_size, entry_code, named_in, entry_at, entries_in, sound_index, names, count_of}
use Rattle.index.specs.Adding.{nothing}
use Rattle.index.specs.Finding.{place_found, codes_asked, count_at, count_asked, code_asked}
use Rattle.index.specs.inner.Halving.{sought_among}
use Rattle.index.specs.inner.Rising.{length_at}
use Rattle.index.proofs.Entries.{length-entries, entry-there}
use Rattle.index.proofs.RisingEntries.{code-there}
use Rattle.index.proofs.Halved.{Here, sound-roomy, place-filled, place-fits, code_inside, found-sound}
use Rattle.index.proofs.Asked.{some-codes, too_long, found_sought, count-found, not_named, times_there, code_zero, code_past, code-asked}

-- what a finder is to say of any code, also of one that is too long for a place: whether it is named, and where it stands
pub record FindsCode (es : List Entry) (c : List ℕ) (f : Found) : Type 0 where
  pub name : f.named ≡ names es c
  pub here : f.named ≡ true → Here es c f.at
  pub counted : f.named ≡ true → (get_or es f.at nothing).count ≡ count_of es c

module _ (codes counts : List ℕ) (sound : sound_index codes counts ≡ true) where
  abbrev es : List Entry
  es = entries_in codes counts

  -- a code has as many bytes as its place says
  length-code : (i : ℕ) → i < named_in counts → length (entry_code (entry_at codes counts i)) ≡ length_at codes i
  length-code i h =
      ap (λ (c : List ℕ). length c) (code-there codes counts i (place-fits codes counts sound i h))
      ∙ length-take-le (length_at codes i) (drop (i * place_size + 1) codes) (code_inside codes counts sound i h)

  -- how many codes
  pub codes_answered : codes_asked codes counts ≡ C.Named (length es)
  codes_answered =
      sym (some-codes codes counts (sound-roomy codes counts sound)) ∙ ap (λ (n : ℕ). C.Named n) (sym (length-entries codes counts))

  -- a code that is named has at most 22 bytes
  named-short : (c : List ℕ) → names es c ≡ true → length c ≤ code_most
  named-short c n =
      let f = sought_among codes (named_in counts) c in
      let s = found-sound codes counts sound c in
      let here = s.here (s.name ∙ n) in
      let inside : f.at < named_in counts = omega (arith, here.inside, length-entries codes counts) in
      let long : length c ≡ length_at codes f.at =
      ap (λ (d : List ℕ). length d) (sym here.code)
      ∙ ap (λ (e : Entry). length (entry_code e)) (entry-there codes counts f.at inside)
      ∙ length-code f.at inside in
      omega (arith, long, place-fits codes counts sound f.at inside)

  -- whatever code is looked for: halving finds what is named, and a code too long for a place is not
  pub finds_code : (c : List ℕ) → FindsCode es c (place_found codes counts c)
  finds_code c = go (less_or_not code_most (length c))
    where
      go : (code_most < length c) ⊎ (length c ≤ code_most) → FindsCode es c (place_found codes counts c)
      go (inl long) =
          subst (FindsCode es c) (too_long codes counts c (sound-roomy codes counts sound) long)
          (record {
            name = sym (never-holds (names es c) (λ n. omega (arith, long, named-short c n)));
            here = λ e. absurd (never_both e refl);
            counted = λ e. absurd (never_both e refl);
          })
      go (inr short) =
          let s = found-sound codes counts sound c in
          subst (FindsCode es c) (found_sought codes counts c (sound-roomy codes counts sound) short)
          (record { name = s.name; here = s.here; counted = s.counted })

  -- how often a code was counted, by what a finder says
  abbrev told_of : List ℕ → Bool → Count
  told_of c b = elim b [ true ↦ N.Times (count_of es c) | false ↦ N.NotNamed ]

  count_by : (c : List ℕ) (f : Found) → FindsCode es c f → Tested f.named → count_at counts f ≡ told_of c (names es c)
  count_by c f s (passed t) =
      let inside : f.at < named_in counts = omega (arith, (s.here t).inside, length-entries codes counts) in
      let number : get_or counts (f.at + 1) 0 ≡ count_of es c =
      ap (λ (n : ℕ). get_or counts n 0) (let q : f.at + 1 ≡ suc f.at = omega arith in q)
      ∙ ap (λ (e : Entry). e.count) (sym (entry-there codes counts f.at inside))
      ∙ s.counted t in
      sym (times_there counts f t) ∙ ap (λ (n : ℕ). N.Times n) number ∙ ap (told_of c) (sym t ∙ s.name)
  count_by c f s (failed t) = sym (not_named counts f t) ∙ ap (told_of c) (sym t ∙ s.name)

  pub count_answered : (c : List ℕ) → count_asked codes counts c ≡ elim (names es c) [ true ↦ N.Times (count_of es c) | false ↦ N.NotNamed ]
  count_answered c =
      let f = place_found codes counts c in
      sym (count-found codes counts c (sound-roomy codes counts sound) {f = f} refl) ∙ count_by c f (finds_code c) (tested f.named)

  -- the k-th code: where it begins, its length, its count
  module _ (k : ℕ) (some : 1 ≤ k) (within : k ≤ named_in counts) where
    abbrev kth : Entry
    kth = entry_at codes counts (k - 1)

    inside : k - 1 < named_in counts
    inside = omega arith

    pub code_answered : code_asked codes counts k ≡ K.At ((k - 1) * place_size + 1) (length (entry_code kth)) kth.count
    code_answered =
        sym (code-asked codes counts k (sound-roomy codes counts sound) (λ z. omega (arith, z)) within
        (λ z. omega (arith, z, place-filled codes counts sound (k - 1) inside)) (place-fits codes counts sound (k - 1) inside))
        ∙ ap₂ (λ (n m : ℕ). K.At ((k - 1) * place_size + 1) n m) (sym (length-code (k - 1) inside))
        (ap (λ (n : ℕ). get_or counts n 0) (let q : k ≡ suc (k - 1) = omega arith in q))

    -- and the bytes there are the code
    pub code_where : take (length (entry_code kth)) (drop ((k - 1) * place_size + 1) codes) ≡ entry_code kth
    code_where =
        ap (λ (n : ℕ). take n (drop ((k - 1) * place_size + 1) codes)) (length-code (k - 1) inside)
        ∙ sym (code-there codes counts (k - 1) (place-fits codes counts sound (k - 1) inside))

  -- codes are counted from 1, and none stands past the last
  pub no_code_answered : (k : ℕ) → (k ≡ 0) ⊎ (named_in counts < k) → code_asked codes counts k ≡ K.NotNamed
  no_code_answered k (inl z) = sym (code_zero codes counts k (sound-roomy codes counts sound) z)
  no_code_answered k (inr past) = sym (code_past codes counts k (sound-roomy codes counts sound) (λ z. omega (arith, z, past)) past)
