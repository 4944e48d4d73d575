-- The header rule (rules H1 and H2): what the first seven bytes of a message say.
-- Assumes nothing.
use Rattle.std.specs.Prelude.{Bool, true, false, not, ◌&&◌, List, [], ◌∷◌, ℕ, leb, eqb, length, get_or}
use Rattle.laws.specs.Lists.{among}
use Rattle.form.specs.declared.separators.Separators.{Separators}
use Rattle.form.specs.declared.separators.Header.{Header}
use Rattle.form.specs.declared.separators.Header.TheVariants.{Sound, Broken}

-- whether b lies from low to high
unfoldable pub within : ℕ → ℕ → ℕ → Bool
within low high b = leb low b && leb b high

-- whether b may be a separator (H2): its code lies from 33 to 126, and it is no capital, no small letter and no digit
unfoldable pub allowed : ℕ → Bool
allowed b = within 33 126 b && not (within 65 90 b) && not (within 97 122 b) && not (within 48 57 b)

-- whether each of some bytes may be one (H2)
unfoldable pub all_allowed : List ℕ → Bool
all_allowed [] = true
all_allowed (b ∷ s) = allowed b && all_allowed s

-- whether no two of some bytes are the same (H2)
unfoldable pub different : List ℕ → Bool
different [] = true
different (b ∷ s) = not (among s b) && different s

-- the separators that a message names, behind its `H` (H1)
unfoldable pub separators_of : List ℕ → Separators
separators_of s = record { field = get_or s 1 0; subfield = get_or s 2 0; repeater = get_or s 3 0; escape = get_or s 4 0; subsubfield = get_or s 5 0 }

-- the five, in that order
unfoldable pub five : Separators → List ℕ
five ps = ps.field ∷ ps.subfield ∷ ps.repeater ∷ ps.escape ∷ ps.subsubfield ∷ []

-- the four that split (S2), the coarsest first: those of fields, repetitions, subfields and sub-subfields
unfoldable pub splitting : Separators → List ℕ
splitting ps = ps.field ∷ ps.repeater ∷ ps.subfield ∷ ps.subsubfield ∷ []

-- whether a message has seven bytes, begins with `H`, names five separators by H2, and then has the field separator once more (H1)
unfoldable pub sound_header : List ℕ → Bool
sound_header s =
    leb 7 (length s) && eqb (get_or s 0 0) 72 && all_allowed (five (separators_of s)) && different (five (separators_of s))
    && eqb (get_or s 6 0) (get_or s 1 0)

-- what the header says: its separators, or that it is broken
unfoldable pub header_of : List ℕ → Header
header_of s = elim (sound_header s) [ true ↦ Sound (separators_of s) | false ↦ Broken ]
