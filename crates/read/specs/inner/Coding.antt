-- The code of a segment, gathered byte by byte as its lines come, since a code may be cut anywhere (A3).
-- Assumes nothing.
use Rattle.std.specs.Prelude.{true, false, List, [], ◌∷◌, ◌++◌, ◌≡◌, ℕ, zero, suc, ◌+◌, ◌≤◌, ◌<◌, eqb, ltb, length, get_or, set, drop}
use Rattle.form.specs.declared.limits.Limits.{Limits}
use Rattle.form.specs.declared.separators.Separators.{Separators}
use Rattle.index.specs.Index.{code_most}
use Rattle.read.specs.declared.codes.Reached.{Reached}
use Rattle.read.specs.declared.codes.Reached.TheVariants.{Whole, Open}
use Rattle.read.specs.declared.codes.Taken.{Taken}
use Rattle.read.specs.Codes.{leaf_code}
use Rattle.read.specs.Sound.{segments_in}
use Rattle.read.specs.inner.Filling.{Fillable}
use Rattle.read.specs.inner.Noting.{BeginsAt}
use Rattle.read.specs.inner.Scanning.{run}
use Rattle.read.specs.inner.Segments.{line_text}

-- how far the gathering has come: field separators that are to come up to the one that ends field 4, 1 in that field itself, 0 once the code is
-- whole; and the code so far
pub record Gathered : Type 0 where
  pub left : ℕ
  pub code : List ℕ

-- nothing gathered yet
abbrev pub nothing_gathered : Gathered
nothing_gathered = record { left = 4; code = [] }

-- a byte of a sort in field 4: text goes to the code, anything else ends it
unfoldable pub code_byte : (sort b : ℕ) → List ℕ → Gathered
code_byte sort b code = elim (eqb sort 0) [ true ↦ record { left = 1; code = code ++ (b ∷ []) } | false ↦ record { left = 0; code = code } ]

-- in a field before it, with so many field separators to come besides the one that ends it: only that one counts
unfoldable pub field_byte : (sort left : ℕ) → List ℕ → Gathered
field_byte sort left code = elim (eqb sort 1) [ true ↦ record { left = left; code = code } | false ↦ record { left = suc left; code = code } ]

-- one byte more; and some more, by their classes
unfoldable pub gather_byte : (sort b left : ℕ) → List ℕ → Gathered
gather_byte sort b zero code = record { left = 0; code = code }
gather_byte sort b (suc zero) code = code_byte sort b code
gather_byte sort b (suc (suc n)) code = field_byte sort (suc n) code

unfoldable pub gather_bytes : (class : List ℕ) → Gathered → List ℕ → Gathered
gather_bytes class g [] = g
gather_bytes class g (b ∷ s) = gather_bytes class (gather_byte (get_or class b 0) b g.left g.code) s

-- a byte stored, where there is room for it
unfoldable pub kept : List ℕ → (at b : ℕ) → List ℕ
kept code at b = elim (ltb at code_most) [ true ↦ set code at b | false ↦ code ]

-- what is gathered, as it is held: the bytes of a code that is too long as far as there is room
pub record HeldCode (g : Gathered) (left size : ℕ) (code : List ℕ) : Type 0 where
  pub left_is : left ≡ g.left
  pub size_is : size ≡ length g.code
  pub bytes : (k : ℕ) → k < length g.code → k < code_most → get_or code k 0 ≡ get_or g.code k 0

-- what going over the fields before the code asks: the line's end lies ahead, and the code is not whole
pub record Skips (class message : List ℕ) (from left : ℕ) : Type 0 where
  pub inside : from + run class (drop from message) < length message
  pub begun : 1 ≤ left

-- what it gives: a later byte of the same line, from which on the line gives the code what it gives from `at` on
pub record FieldsSkipped (class message : List ℕ) (taken r : Taken) : Type 0 where
  pub later : taken.at ≤ r.at
  pub ends : r.at + run class (drop r.at message) ≡ taken.at + run class (drop taken.at message)
  pub begun : 1 ≤ r.left
  pub same : r.length ≡ taken.length
  pub rest : (code : List ℕ)
      → gather_bytes class (record { left = r.left; code = code }) (line_text class message r.at)
      ≡ gather_bytes class (record { left = taken.left; code = code }) (line_text class message taken.at)

-- what taking from a line asks: the line's end lies ahead, the code is not whole and no longer than the bytes so far
pub record TakesLine (class message : List ℕ) (taken : Taken) (code : List ℕ) : Type 0 where
  pub room : code_most ≤ length code
  pub inside : taken.at + run class (drop taken.at message) < length message
  pub begun : 1 ≤ taken.left
  pub short : taken.length ≤ taken.at

-- what the text of a line, gathered, leaves held
abbrev pub LineHeld : (class message : List ℕ) (taken : Taken) (code : List ℕ) (left size : ℕ) (code' : List ℕ) → Type 0
LineHeld class message taken code left size code' = (g : Gathered) → HeldCode g taken.left taken.length code
    → HeldCode (gather_bytes class g (line_text class message taken.at)) left size code'

-- what it gives: the line's text gathered, and where the line ends, but for a code that is whole
pub data LineTaken (class message : List ℕ) (taken : Taken) (code : List ℕ) (r : Reached) (code' : List ℕ) : Type 0 where
  made_whole : (size : ℕ) → r ≡ Whole size → LineHeld class message taken code 0 size code' → LineTaken class message taken code r code'
  left_open : (t : Taken) → r ≡ Open t → LineHeld class message taken code t.left t.length code' → t.at ≡ taken.at + run class (drop taken.at message)
      → 1 ≤ t.left → t.length ≤ t.at → LineTaken class message taken code r code'

-- what taking a segment's code asks: a message that was accepted, in which the segment of the number `row` begins at `start`
pub record CodeAhead (L : Limits) (class kinds : List ℕ) (ps : Separators) (context : ℕ) (message : List ℕ) (row start : ℕ) (code : List ℕ) : Type 0 where
  pub given : Fillable L class kinds ps context message
  pub bytes : (i : ℕ) → get_or message i 0 < 256
  pub room : code_most ≤ length code
  pub begins : BeginsAt L ps message row start

-- what it gives: how long the code is, and its bytes, as far as there is room
pub record CodeTaken (code : List ℕ) (r : ℕ) (bytes' : List ℕ) : Type 0 where
  pub size_is : r ≡ length code
  pub bytes : (k : ℕ) → k < length code → k < code_most → get_or bytes' k 0 ≡ get_or code k 0

-- the code of the segment with that number
abbrev pub code_of_row : Limits → Separators → List ℕ → ℕ → List ℕ
code_of_row L ps message row = leaf_code ps (get_or (segments_in L ps message) row [])
