-- Whether a row of a table fails a rule (rules R1 to R3). Rows count from 0 here, but for those that are an owner (T2).
-- Assumes nothing.
use Rattle.std.specs.Prelude.{Bool, true, false, not, ◌&&◌, ◌||◌, List, [], ◌∷◌, ℕ, suc, ◌-◌, eqb, length, take, drop}
use Rattle.laws.specs.Lists.{among}
use Rattle.laws.specs.Tables.{passing}
use Rattle.table.specs.Lent.{Lent}
use Rattle.table.specs.Rows.{kind_in, owner_in}
use Rattle.look.specs.declared.leaf.Sought.{Sought}
use Rattle.look.specs.declared.leaf.Sought.TheVariants.{At, Empty, NotThere}
use Rattle.look.specs.inner.Searching.{sought_in}
use Rattle.look.specs.Looking.{patient_kind, result_kind, leaf_named, says_text}
use Rattle.screen.specs.Rules.{About, with_code, in_system, Rule, wants, once, takes}

-- whether row i is of a kind
abbrev pub has_kind : Lent → (kind : ℕ) → ℕ → Bool
has_kind t kind i = eqb (kind_in t.segment_rows i) kind

-- the leaf of row i that has a name (S5), as the lookup finds it (F1)
abbrev pub sought_of : Lent → (i field subfield : ℕ) → Sought
sought_of t i field subfield = sought_in t (leaf_named (suc i) field subfield)

-- whether what was sought is there and not empty
unfoldable pub has_text : Sought → Bool
has_text (At start n) = true
has_text Empty = false
has_text NotThere = false

-- whether a text is one of these letters
unfoldable pub is_letter : (letters : List ℕ) → List ℕ → Bool
is_letter letters [] = false
is_letter letters (b ∷ []) = among letters b
is_letter letters (b ∷ c ∷ s) = false

-- whether what was sought is there with one of these letters
unfoldable pub says_letter : (text letters : List ℕ) → Sought → Bool
says_letter text letters (At start n) = is_letter letters (take n (drop start text))
says_letter text letters Empty = false
says_letter text letters NotThere = false

-- whether a leaf of row i is there with just this text
abbrev pub leaf_is : Lent → (i field subfield : ℕ) → (wanted : List ℕ) → Bool
leaf_is t i field subfield wanted = says_text t.text wanted (sought_of t i field subfield)

-- whether the code of row i, 10.4.1, is this one
abbrev pub has_code : Lent → (code : List ℕ) → ℕ → Bool
has_code t code i = leaf_is t i 4 1 code

-- the row of the patient that result i belongs to: the owner of its order (O5)
abbrev pub patient_of : Lent → ℕ → ℕ
patient_of t i = owner_in t.segment_rows (owner_in t.segment_rows i - 1)

-- whether row i is a result, with a code, of the patient in a row
unfoldable pub coded_under : Lent → (patient : ℕ) (code : List ℕ) → ℕ → Bool
coded_under t patient code i = has_kind t result_kind i && eqb (patient_of t i) patient && has_code t code i

-- how many there are
abbrev pub count_under : Lent → (patient : ℕ) (code : List ℕ) → ℕ
count_under t patient code = length (passing (coded_under t patient code) 0 t.card.segments)

-- whether a rule of values is about result i: by its code; or by its type, 10.3, and the system of its code, 10.4.3 or 10.4.6
unfoldable pub is_about : Lent → About → ℕ → Bool
is_about t (with_code code) i = has_code t code i
is_about t (in_system type system) i = leaf_is t i 3 1 type && (leaf_is t i 4 3 system || leaf_is t i 4 6 system)

-- whether row i fails a rule; the value of a result is 10.6.1
unfoldable pub fails : Lent → Rule → ℕ → Bool
fails t (wants f) i = has_kind t f.kind i && not (has_text (sought_of t i f.field f.subfield))
fails t (once code) i = has_kind t patient_kind i && not (eqb (count_under t (suc i) code) 1)
fails t (takes about letters) i = has_kind t result_kind i && is_about t about i && not (says_letter t.text letters (sought_of t i 6 1))
