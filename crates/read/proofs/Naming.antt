-- The name in a field: the step equations of what one byte does, the turn of the loop over bytes, and what has been gathered in the end: the
-- letters of the field, however the segment was cut.
-- Assumes nothing.
use mathlib.Core.Bool.{true}
use mathlib.Core.List.{List, [], ◌∷◌, ◌++◌}
use mathlib.Core.Logic.{⊎_elim}
use mathlib.Core.Path.{◌≡◌, refl, sym, ap, ◌∙◌}
use Prim.Native.Nat.{ℕ, zero, suc, ◌+◌, ◌-◌, ◌≤◌, ◌<◌}
use native.Mathlib.Omega.{arith}
use lib.ListN.{length, get_or, drop, drop_of_length-le}
use borrow.Author.Tests.{eq-eqb, ne_eqb, lt-ltb, le-ltb}
use Rattle.laws.specs.Lists.{same, first_from}
use Rattle.laws.specs.Texts.{bytes}
use Rattle.laws.proofs.Cases.{equal_or_not}
use Rattle.laws.proofs.Lists.{every}
use Rattle.laws.proofs.Parts.{left_cons}
use Rattle.form.specs.declared.letters.Letters.{Letters}
use Rattle.form.specs.declared.separators.Separators.{Separators}
use Rattle.form.specs.Names.{kind_names, context_names, number_among, kind_of, context_of}
use Rattle.form.specs.inner.Lettering.{name_in, with_letter}
use Rattle.form.proofs.Names.{short, long-unknown, kinds-short, contexts_short}
use Rattle.table.specs.Leaves.{split, kind_of_segment, context_of_header}
use Rattle.read.specs.declared.name.Name.{Name}
use Rattle.read.specs.inner.Naming.{fresh, emptied, with_byte, with_bytes, gathered}
use Rattle.read.proofs.FieldLaws.{no_fields, first-cut, later-cut, first_more, later_same}

-- one more byte: of no matter, the separator that ends the field, one that ends an earlier field, or a letter
module _ (field : ℕ) (l : Name) (b : ℕ) where
  pub byte_settled : l.left ≡ 0 → with_byte field l b ≡ l
  unfolding with_byte
  byte_settled h = rw (eq-eqb l.left 0 h, with_byte)

  pub byte_ends : l.left ≡ 1 → b ≡ field → with_byte field l b ≡ record { left = 0; letters = l.letters }
  unfolding with_byte
  byte_ends o h = rw (ne_eqb l.left 0 (omega arith), eq-eqb b field h, eq-eqb l.left 1 o, with_byte)

  pub byte_next : 1 < l.left → b ≡ field → with_byte field l b ≡ record { left = l.left - 1; letters = emptied l.letters }
  unfolding with_byte
  byte_next m h = rw (ne_eqb l.left 0 (λ z. omega arith), eq-eqb b field h, ne_eqb l.left 1 (λ z. omega arith), with_byte)

  pub byte_letter : (l.left ≡ 0 → ⊥) → (b ≡ field → ⊥) → with_byte field l b ≡ record { left = l.left; letters = with_letter l.letters b }
  unfolding with_byte
  byte_letter z h = rw (ne_eqb l.left 0 z, ne_eqb b field h, with_byte)

  -- a field that is open, or has ended, stays so
  byte_begun : l.left ≤ 1 → (with_byte field l b).left ≤ 1
  byte_begun h =
      ⊎_elim
      (λ (z : l.left ≡ 0). rw (byte_settled z) h)
      (λ (z : l.left ≡ 0 → ⊥).
      ⊎_elim (λ (e : b ≡ field). rw (byte_ends (omega arith) e) (omega arith)) (λ (e : b ≡ field → ⊥). rw (byte_letter z e) h) (equal_or_not b field))
      (equal_or_not l.left 0)

-- bytes one after the other
module _ (field : ℕ) where
  pub bytes-none : (l : Name) → with_bytes field l [] ≡ l
  unfolding with_bytes
  bytes-none l = refl

  pub bytes-more : (l : Name) (b : ℕ) (s : List ℕ) → with_bytes field l (b ∷ s) ≡ with_bytes field (with_byte field l b) s
  unfolding with_bytes
  bytes-more l b s = refl

  -- once the field is settled no byte changes anything
  pub bytes_settled : (l : Name) (s : List ℕ) → l.left ≡ 0 → with_bytes field l s ≡ l
  unfolding with_bytes
  bytes_settled l [] h = refl
  bytes_settled l (b ∷ s) h = rw (byte_settled field l b h) (bytes_settled l s h)

  bytes-begun : (l : Name) (s : List ℕ) → l.left ≤ 1 → (with_bytes field l s).left ≤ 1
  unfolding with_bytes
  bytes-begun l [] h = h
  bytes-begun l (b ∷ s) h = bytes-begun (with_byte field l b) s (byte_begun field l b h)

  -- the bytes of two pieces are those of the one and then of the other: a field may be cut anywhere
  pub bytes-append : (l : Name) (x y : List ℕ) → with_bytes field l (x ++ y) ≡ with_bytes field (with_bytes field l x) y
  unfolding with_bytes
  bytes-append l [] y = refl
  bytes-append l (b ∷ x) y = bytes-append (with_byte field l b) x y

-- the loop over the bytes s: what is left from the byte i on, gathered on, gives the whole
pub record Gathering (field : ℕ) (s : List ℕ) (first l : Name) (i : ℕ) : Type 0 where
  pub whole : with_bytes field l (drop i s) ≡ with_bytes field first s

module _ {field : ℕ} {s : List ℕ} {first l : Name} {i : ℕ} (w : Gathering field s first l i) where
  pub gathering_turn : {k : Name} → i < length s → with_byte field l (get_or s i 0) ≡ k → Gathering field s first k (i + 1)
  gathering_turn h is =
      record {
        whole =
            ap (λ (m : Name). with_bytes field m (drop (i + 1) s)) (sym is)
            ∙ sym (bytes-more field l (get_or s i 0) (drop (i + 1) s))
            ∙ ap (with_bytes field l) (sym (left_cons s i 0 h))
            ∙ w.whole;
      }

  pub gathering_done : length s ≤ i → l ≡ with_bytes field first s
  gathering_done h = sym (bytes-none field l) ∙ ap (with_bytes field l) (sym (drop_of_length-le s h)) ∙ w.whole

  pub gathering_settled : l.left ≡ 0 → l ≡ with_bytes field first s
  gathering_settled h = sym (bytes_settled field l (drop i s) h) ∙ w.whole

-- what has come of the field, as long as others are to end before it and from then on
module _ (l : Name) where
  pub gathered-nothing : 1 < l.left → gathered l ≡ []
  unfolding gathered
  gathered-nothing h = rw (lt-ltb 1 l.left h, gathered)

  pub gathered-name : l.left ≤ 1 → gathered l ≡ name_in l.letters
  unfolding gathered
  gathered-name h = rw (le-ltb 1 l.left h, gathered)

-- the letters of a text behind those of a name
lettered : Letters → List ℕ → Letters
lettered l [] = l
lettered l (b ∷ t) = lettered (with_letter l b) t

-- once in the field, the bytes up to the next field separator are its letters
letters_of_field : (field : ℕ) (s : List ℕ) (l : Name) → l.left ≡ 1 → (with_bytes field l s).letters ≡ lettered l.letters (get_or (split field s) 0 [])
unfolding lettered
letters_of_field field [] l h = ap (λ (k : Name). k.letters) (bytes-none field l) ∙ ap (lettered l.letters) (sym (no_fields field 0))
letters_of_field field (b ∷ s) l h =
    ⊎_elim
    (λ (e : b ≡ field).
    ap (λ (k : Name). k.letters)
    (bytes-more field l b s
    ∙ ap (λ (k : Name). with_bytes field k s) (byte_ends field l b h e)
    ∙ bytes_settled field (record { left = 0; letters = l.letters }) s refl)
    ∙ ap (lettered l.letters) (sym (first-cut field b s e)))
    (λ (e : b ≡ field → ⊥).
    ap (λ (k : Name). k.letters) (bytes-more field l b s ∙ ap (λ (k : Name). with_bytes field k s) (byte_letter field l b (λ z. omega arith) e))
    ∙ letters_of_field field s (record { left = l.left; letters = with_letter l.letters b }) h
    ∙ ap (lettered l.letters) (sym (first_more field b s e)))
    (equal_or_not b field)

-- after a fourth letter no later one changes anything
many_letters : (a b c : ℕ) (t : List ℕ) → lettered (record { length = 4; first = a; second = b; third = c }) t ≡ record { length = 4; first = a; second = b; third = c }
unfolding lettered with_letter
many_letters a b c [] = refl
many_letters a b c (d ∷ t) = many_letters a b c t

module _ (names : List (List ℕ)) (all_short : every short names ≡ true) (field : ℕ) where
  -- the letters of a text tell its number
  letters_of_text : (l : Letters) (t : List ℕ) → number_among names (name_in (lettered (emptied l) t)) ≡ number_among names t
  unfolding lettered with_letter
  letters_of_text l [] = refl
  letters_of_text l (a ∷ []) = refl
  letters_of_text l (a ∷ b ∷ []) = refl
  letters_of_text l (a ∷ b ∷ c ∷ []) = refl
  letters_of_text l (a ∷ b ∷ c ∷ d ∷ t) =
      ap (λ (k : Letters). number_among names (name_in k)) (many_letters a b c t)
      ∙ long-unknown names all_short (a ∷ b ∷ c ∷ 0 ∷ []) (omega arith)
      ∙ sym (long-unknown names all_short (a ∷ b ∷ c ∷ d ∷ t) (omega arith))

  -- what has been gathered of the first field tells its text
  first-gathered : (l : Letters) (s : List ℕ) → number_among names (name_in (with_bytes field (record { left = 1; letters = emptied l }) s).letters)
      ≡ number_among names (get_or (split field s) 0 [])
  first-gathered l s =
      ap (λ (k : Letters). number_among names (name_in k)) (letters_of_field field s (record { left = 1; letters = emptied l }) refl)
      ∙ letters_of_text l (get_or (split field s) 0 [])

  abbrev Gathers : List ℕ → ℕ → Name → Type 0
  Gathers s n l = number_among names (gathered (with_bytes field l s)) ≡ number_among names (get_or (split field s) n [])

  begun-gathered : (l : Letters) (s : List ℕ) → Gathers s 0 (record { left = 1; letters = emptied l })
  begun-gathered l s =
      ap (number_among names) (gathered-name (with_bytes field (record { left = 1; letters = emptied l }) s)
      (bytes-begun field (record { left = 1; letters = emptied l }) s (omega arith)))
      ∙ first-gathered l s

  -- and of a later one its text, or nothing where it has not come
  next-gathered : (s : List ℕ) → ((n : ℕ) (l : Name) → l.left ≡ suc (suc n) → Gathers s (suc n) l)
      → (n : ℕ) (l : Letters) → Gathers s n (record { left = suc n; letters = emptied l })
  next-gathered s later zero l = begun-gathered l s
  next-gathered s later (suc n) l = later n (record { left = suc (suc n); letters = emptied l }) refl

  field_gathered : (s : List ℕ) (n : ℕ) (l : Name) → l.left ≡ suc (suc n) → Gathers s (suc n) l
  field_gathered [] n l h =
      ap (λ (k : Name). number_among names (gathered k)) (bytes-none field l)
      ∙ ap (number_among names) (gathered-nothing l (omega arith) ∙ sym (no_fields field (suc n)))
  field_gathered (b ∷ s) n l h =
      ⊎_elim
      (λ (e : b ≡ field).
      ap (λ (k : Name). number_among names (gathered k))
      (bytes-more field l b s
      ∙ ap (λ (k : Name). with_bytes field k s)
      (byte_next field l b (omega arith) e
      ∙ ap {B = Name} (λ (m : ℕ). record { left = m; letters = emptied l.letters }) (let one : l.left - 1 ≡ suc n = omega arith in one)))
      ∙ next-gathered s (field_gathered s) n l.letters
      ∙ ap (number_among names) (sym (later-cut field b s n e)))
      (λ (e : b ≡ field → ⊥).
      ap (λ (k : Name). number_among names (gathered k))
      (bytes-more field l b s ∙ ap (λ (k : Name). with_bytes field k s) (byte_letter field l b (λ z. omega arith) e))
      ∙ field_gathered s n (record { left = l.left; letters = with_letter l.letters b }) h
      ∙ ap (number_among names) (sym (later_same field b s n e)))
      (equal_or_not b field)

-- the kind of a segment, and the context of a header, from what was gathered of their fields
module _ (ps : Separators) (s : List ℕ) where
  pub segment-kind : kind_of (name_in (with_bytes ps.field (fresh 1) s).letters) ≡ kind_of_segment ps s
  unfolding kind_of_segment kind_of
  segment-kind = first-gathered kind_names kinds-short ps.field (fresh 1).letters s

  pub header-context : context_of (gathered (with_bytes ps.field (fresh 5) (drop 7 s))) ≡ context_of_header ps s
  unfolding context_of_header context_of
  header-context = field_gathered context_names contexts_short ps.field (drop 7 s) 3 (fresh 5) refl

-- a context whose field has not come is none
pub no_context_text : context_of [] ≡ 0
unfolding context_of context_names number_among first_from same bytes
no_context_text = refl
