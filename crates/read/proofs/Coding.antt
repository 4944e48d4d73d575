-- The code of a segment, gathered byte by byte: what has been gathered, and what is left of the text, give the segment's leaf 10.4.1.
-- Assumes nothing.
use mathlib.Core.Bool.{true, false}
use mathlib.Core.List.{List, [], ◌∷◌, ◌++◌, append_assoc, append-nil}
use mathlib.Core.Logic.{⊎_elim}
use mathlib.Core.Path.{◌≡◌, refl, sym, ap, ◌∙◌}
use Prim.Native.Nat.{ℕ, zero, suc, ◌-◌, ◌≤◌, ◌<◌}
use native.Mathlib.Omega.{arith}
use lib.Dec.{eqb}
use lib.ListN.{get_or}
use borrow.Author.Tests.{eq-eqb, ne_eqb}
use Rattle.laws.specs.Lists.{among}
use Rattle.laws.specs.Every.{All, also}
use Rattle.laws.proofs.Cases.{equal_or_not}
use Rattle.laws.proofs.Lists.{among_miss, first_hit, first_miss, first-least, not_first_among, found_among}
use Rattle.laws.proofs.Tests.{never_both}
use Rattle.form.specs.declared.separators.Separators.{Separators}
use Rattle.form.specs.Header.{splitting}
use Rattle.table.specs.inner.Classes.{class_table, sort_of}
use Rattle.table.proofs.Classes.{class_sort}
use Rattle.read.specs.Codes.{part_numbered, leaf_code}
use Rattle.read.specs.inner.Coding.{Gathered, nothing_gathered, code_byte, field_byte, gather_byte, gather_bytes}
use Rattle.read.proofs.FieldLaws.{no_fields, first-cut, later-cut, first_more, later_same}

-- a byte of a segment: one that ends no line
abbrev pub Shown : Separators → ℕ → Type 0
Shown ps b = (b < 256) × (get_or (class_table ps) b 0 ≡ 5 → ⊥)

-- of a text the first part between the bytes of a separator, of that the first between those of the next, and so on
first_of_all : List ℕ → List ℕ → List ℕ
first_of_all [] s = s
first_of_all (p ∷ finer) s = first_of_all finer (part_numbered p 0 s)

first-nothing : (seps : List ℕ) → first_of_all seps [] ≡ []
unfolding first_of_all
first-nothing [] = refl
first-nothing (p ∷ finer) = ap (first_of_all finer) (no_fields p 0) ∙ first-nothing finer

-- a byte that separates ends it, any other belongs to it
first_ends : (seps : List ℕ) (b : ℕ) (s : List ℕ) → among seps b ≡ true → first_of_all seps (b ∷ s) ≡ []
unfolding first_of_all among
first_ends [] b s h = absurd (never_both h refl)
first_ends (p ∷ finer) b s h =
    ⊎_elim
    (λ (e : b ≡ p). ap (first_of_all finer) (first-cut p b s e) ∙ first-nothing finer)
    (λ (e : b ≡ p → ⊥).
    ap (first_of_all finer) (first_more p b s e) ∙ first_ends finer b (part_numbered p 0 s) (sym (among_miss p finer b (ne_eqb b p e)) ∙ h))
    (equal_or_not b p)

first_goes_on : (seps : List ℕ) (b : ℕ) (s : List ℕ) → among seps b ≡ false → first_of_all seps (b ∷ s) ≡ b ∷ first_of_all seps s
unfolding first_of_all among
first_goes_on [] b s h = refl
first_goes_on (p ∷ finer) b s h =
    ⊎_elim
    (λ (e : b ≡ p). absurd (never_both (among_hit_here e) h))
    (λ (e : b ≡ p → ⊥).
    ap (first_of_all finer) (first_more p b s e) ∙ first_goes_on finer b (part_numbered p 0 s) (sym (among_miss p finer b (ne_eqb b p e)) ∙ h))
    (equal_or_not b p)
  where
    among_hit_here : b ≡ p → among (p ∷ finer) b ≡ true
    among_hit_here e = rw (eq-eqb b p e, among)

module _ (ps : Separators) where
  -- what a text still adds to a code, with so many field separators to come up to the one that ends its field
  code_left : ℕ → List ℕ → List ℕ
  code_left zero s = []
  code_left (suc zero) s = first_of_all (splitting ps) s
  code_left (suc (suc n)) s = first_of_all (ps.repeater ∷ ps.subfield ∷ ps.subsubfield ∷ []) (part_numbered ps.field (suc n) s)

  -- of a whole segment it is the leaf
  whole-left : (s : List ℕ) → code_left 4 s ≡ leaf_code ps s
  unfolding code_left first_of_all leaf_code
  whole-left s = refl

  nothing_left : (n : ℕ) → code_left n [] ≡ []
  unfolding code_left
  nothing_left zero = refl
  nothing_left (suc zero) = first-nothing (splitting ps)
  nothing_left (suc (suc n)) = ap (first_of_all (ps.repeater ∷ ps.subfield ∷ ps.subsubfield ∷ [])) (no_fields ps.field (suc n)) ∙ first-nothing _

  -- behind a field separator one fewer is to come
  next_field : (n b : ℕ) (s : List ℕ) → b ≡ ps.field → code_left (suc (suc n)) (b ∷ s) ≡ code_left (suc n) s
  unfolding code_left first_of_all splitting
  next_field zero b s e = ap (first_of_all (ps.repeater ∷ ps.subfield ∷ ps.subsubfield ∷ [])) (later-cut ps.field b s zero e)
  next_field (suc n) b s e = ap (first_of_all (ps.repeater ∷ ps.subfield ∷ ps.subsubfield ∷ [])) (later-cut ps.field b s (suc n) e)

  same_field : (n b : ℕ) (s : List ℕ) → (b ≡ ps.field → ⊥) → code_left (suc (suc n)) (b ∷ s) ≡ code_left (suc (suc n)) s
  unfolding code_left
  same_field n b s e = ap (first_of_all (ps.repeater ∷ ps.subfield ∷ ps.subsubfield ∷ [])) (later_same ps.field b s n e)

  -- the sort of a byte that is shown: 1 where it is the field separator, 0 where it does not split
  module _ (b : ℕ) (shown : Shown ps b) where
    sort_is : get_or (class_table ps) b 0 ≡ sort_of ps b
    sort_is = class_sort ps b shown.0 shown.1

    field_sort : get_or (class_table ps) b 0 ≡ 1 → b ≡ ps.field
    unfolding sort_of splitting
    field_sort h =
        ⊎_elim (λ (e : b ≡ ps.field). e)
        (λ (e : b ≡ ps.field → ⊥).
        let later = first_miss (eqb b) 1 ps.field (ps.repeater ∷ ps.subfield ∷ ps.subsubfield ∷ []) (ne_eqb b ps.field e) in
        absurd (omega (arith, h, sort_is, later, first-least (eqb b) 2 (ps.repeater ∷ ps.subfield ∷ ps.subsubfield ∷ []) (λ z. omega (arith, h, sort_is, later)))))
        (equal_or_not b ps.field)

    other_sort : (get_or (class_table ps) b 0 ≡ 1 → ⊥) → b ≡ ps.field → ⊥
    unfolding sort_of splitting
    other_sort h e = h (sort_is ∙ first_hit (eqb b) 1 ps.field _ (eq-eqb b ps.field e))

    text_sort : get_or (class_table ps) b 0 ≡ 0 → among (splitting ps) b ≡ false
    unfolding sort_of
    text_sort h = not_first_among b 0 (splitting ps) (sym sort_is ∙ h)

    split_sort : (get_or (class_table ps) b 0 ≡ 0 → ⊥) → among (splitting ps) b ≡ true
    unfolding sort_of
    split_sort h = found_among b 1 (splitting ps) (λ z. h (sort_is ∙ z))

  -- the code once the rest of a text has come
  abbrev code_with : Gathered → List ℕ → List ℕ
  code_with g s = g.code ++ code_left g.left s

  -- a byte gathered, or still to come: the code is the same
  module _ (b : ℕ) (shown : Shown ps b) (s : List ℕ) where
    abbrev sort : ℕ
    sort = get_or (class_table ps) b 0

    code_byte_lem : (code : List ℕ) → code_with (code_byte sort b code) s ≡ code ++ code_left 1 (b ∷ s)
    unfolding code_byte code_left
    code_byte_lem code =
        ⊎_elim
        (λ (e : sort ≡ 0).
        ap (λ (g : Gathered). code_with g s) (let text : code_byte sort b code ≡ record { left = 1; code = code ++ (b ∷ []) } = rw (eq-eqb sort 0 e, code_byte) in text)
        ∙ append_assoc code (b ∷ []) (code_left 1 s)
        ∙ ap (λ (t : List ℕ). code ++ t) (sym (first_goes_on (splitting ps) b s (text_sort b shown e))))
        (λ (e : sort ≡ 0 → ⊥).
        ap (λ (g : Gathered). code_with g s) (let ended : code_byte sort b code ≡ record { left = 0; code = code } = rw (ne_eqb sort 0 e, code_byte) in ended)
        ∙ ap (λ (t : List ℕ). code ++ t) (sym (first_ends (splitting ps) b s (split_sort b shown e))))
        (equal_or_not sort 0)

    field_byte_lem : (n : ℕ) (code : List ℕ) → code_with (field_byte sort (suc n) code) s ≡ code ++ code_left (suc (suc n)) (b ∷ s)
    unfolding field_byte
    field_byte_lem n code =
        ⊎_elim
        (λ (e : sort ≡ 1).
        ap (λ (g : Gathered). code_with g s) (let next : field_byte sort (suc n) code ≡ record { left = suc n; code = code } = rw (eq-eqb sort 1 e, field_byte) in next)
        ∙ ap (λ (t : List ℕ). code ++ t) (sym (next_field n b s (field_sort b shown e))))
        (λ (e : sort ≡ 1 → ⊥).
        ap (λ (g : Gathered). code_with g s) (let same : field_byte sort (suc n) code ≡ record { left = suc (suc n); code = code } = rw (ne_eqb sort 1 e, field_byte) in same)
        ∙ ap (λ (t : List ℕ). code ++ t) (sym (same_field n b s (other_sort b shown e))))
        (equal_or_not sort 1)

    byte_gathered : (n : ℕ) (code : List ℕ) → code_with (gather_byte sort b n code) s ≡ code ++ code_left n (b ∷ s)
    unfolding gather_byte code_left
    byte_gathered zero code = refl
    byte_gathered (suc zero) code = code_byte_lem code
    byte_gathered (suc (suc n)) code = field_byte_lem n code

  bytes-gathered : (a s : List ℕ) (g : Gathered) → All (Shown ps) a → code_with (gather_bytes (class_table ps) g a) s ≡ code_with g (a ++ s)
  unfolding gather_bytes
  bytes-gathered [] s g h = refl
  bytes-gathered (b ∷ a) s g (also h hs) =
      bytes-gathered a s (gather_byte (get_or (class_table ps) b 0) b g.left g.code) hs ∙ byte_gathered b h (a ++ s) g.left g.code

  -- what was gathered of a segment that ends here is its code; and of any that begins so, once the code is whole
  module _ (a : List ℕ) (shown : All (Shown ps) a) where
    pub gathered-ends : (gather_bytes (class_table ps) nothing_gathered a).code ≡ leaf_code ps a
    gathered-ends =
        let g : Gathered = gather_bytes (class_table ps) nothing_gathered a in
        sym (append-nil g.code)
        ∙ ap (λ (t : List ℕ). g.code ++ t) (sym (nothing_left g.left))
        ∙ bytes-gathered a [] nothing_gathered shown ∙ whole-left (a ++ []) ∙ ap (leaf_code ps) (append-nil a)

    pub gathered-whole : (s : List ℕ) → (gather_bytes (class_table ps) nothing_gathered a).left ≡ 0
        → (gather_bytes (class_table ps) nothing_gathered a).code ≡ leaf_code ps (a ++ s)
    unfolding code_left
    gathered-whole s e =
        let g : Gathered = gather_bytes (class_table ps) nothing_gathered a in
        sym (append-nil g.code)
        ∙ ap (λ (t : List ℕ). g.code ++ t) (let none : [] ≡ code_left g.left s = ap (λ (n : ℕ). code_left n s) (sym e) in none)
        ∙ bytes-gathered a s nothing_gathered shown ∙ whole-left (a ++ s)

-- the bytes of two pieces are those of the one and then of the other: a code may be cut anywhere
pub gather_append : (class : List ℕ) (g : Gathered) (a t : List ℕ) → gather_bytes class g (a ++ t) ≡ gather_bytes class (gather_bytes class g a) t
unfolding gather_bytes
gather_append class g [] t = refl
gather_append class g (b ∷ a) t = gather_append class (gather_byte (get_or class b 0) b g.left g.code) a t

-- once the code is whole no byte changes anything
pub gather_whole : (class : List ℕ) (g : Gathered) (t : List ℕ) → g.left ≡ 0 → gather_bytes class g t ≡ g
unfolding gather_bytes gather_byte
gather_whole class g [] h = refl
gather_whole class g (b ∷ t) h =
    ap (λ (k : Gathered). gather_bytes class k t) (whole_byte g.left h) ∙ gather_whole class g t h
  where
    whole_byte : (n : ℕ) → g.left ≡ 0 → gather_byte (get_or class b 0) b g.left g.code ≡ g
    whole_byte n e = ap {B = Gathered} (λ (m : ℕ). gather_byte (get_or class b 0) b m g.code) e ∙ ap {B = Gathered} (λ (m : ℕ). record { left = m; code = g.code }) (sym e)

-- the steps of gathering, by the sort of a byte
module _ (sort b : ℕ) (code : List ℕ) where
  pub byte_kept : sort ≡ 0 → gather_byte sort b 1 code ≡ record { left = 1; code = code ++ (b ∷ []) }
  unfolding gather_byte code_byte
  byte_kept e = rw (eq-eqb sort 0 e, gather_byte, code_byte)

  pub byte_ends : (sort ≡ 0 → ⊥) → gather_byte sort b 1 code ≡ record { left = 0; code = code }
  unfolding gather_byte code_byte
  byte_ends e = rw (ne_eqb sort 0 e, gather_byte, code_byte)

  pub byte_passed : (left : ℕ) → 1 ≤ left → (left ≡ 1 → ⊥)
      → gather_byte sort b left code ≡ record { left = elim (eqb sort 1) [ true ↦ left - 1 | false ↦ left ]; code = code }
  unfolding gather_byte field_byte
  byte_passed zero h e = absurd (let z : ⊥ = omega arith in z)
  byte_passed (suc zero) h e = absurd (e refl)
  byte_passed (suc (suc n)) h e =
      ⊎_elim
      (λ (y : sort ≡ 1). rw (eq-eqb sort 1 y, gather_byte, field_byte) (ap {B = Gathered} (λ (m : ℕ). record { left = m; code = code }) (omega arith)))
      (λ (f : sort ≡ 1 → ⊥). rw (ne_eqb sort 1 f, gather_byte, field_byte) refl)
      (equal_or_not sort 1)
