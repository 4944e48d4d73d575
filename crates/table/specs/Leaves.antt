-- The leaves of segments (rules S2, S4 and S5), and what two of their fields name: the kind (S1) and the context (C1).
-- Assumes nothing.
use Rattle.std.specs.Prelude.{true, false, List, [], ◌∷◌, ◌++◌, ℕ, suc, eqb, take, drop, get_or}
use Rattle.laws.specs.Lists.{numbered}
use Rattle.form.specs.declared.separators.Separators.{Separators}
use Rattle.form.specs.Header.{splitting}
use Rattle.form.specs.Names.{kind_of, context_of}

-- a byte put in front of the first of some parts
unfoldable pub onto : ℕ → List (List ℕ) → List (List ℕ)
onto b [] = (b ∷ []) ∷ []
onto b (t ∷ ts) = (b ∷ t) ∷ ts

-- the parts of a text between the bytes p: one more than there are such bytes, empty ones included
unfoldable pub split : ℕ → List ℕ → List (List ℕ)
split p [] = [] ∷ []
split p (b ∷ s) = elim (eqb b p) [ true ↦ [] ∷ split p s | false ↦ onto b (split p s) ]

-- a leaf: its text, and its place (S5): segment, field, repetition, subfield, sub-subfield
pub record Leaf : Type 0 where
  pub place : List ℕ
  pub text : List ℕ

-- the leaves of a text under some separators, the coarsest first (S2): split by the first, each part by the others, the parts numbered
-- from 1; `place` holds the numbers of the parts that the text stands in
unfoldable pub leaves : List ℕ → List ℕ → List ℕ → List Leaf
leaves [] place s = record { place = place; text = s } ∷ []
leaves (p ∷ finer) place s = numbered (λ n part. leaves finer (place ++ (n ∷ [])) part) 1 (split p s)

-- the leaves of the segment of a given number
unfoldable pub segment_leaves : Separators → ℕ → List ℕ → List Leaf
segment_leaves ps n s = leaves (splitting ps) (n ∷ []) s

-- those of the first segment (S4): its letter, the four separators behind the first, and from the eighth byte on fields that count from 3
unfoldable pub header_leaves : Separators → List ℕ → List Leaf
header_leaves ps s =
    record { place = 1 ∷ 1 ∷ 1 ∷ 1 ∷ 1 ∷ []; text = take 1 s }
    ∷ record { place = 1 ∷ 2 ∷ 1 ∷ 1 ∷ 1 ∷ []; text = take 4 (drop 2 s) }
    ∷ numbered (λ n part. leaves (drop 1 (splitting ps)) (1 ∷ n ∷ []) part) 3 (split ps.field (drop 7 s))

-- the leaves of each of some segments, the first of which has the number n; and of each segment of a message, the first of which is the H
unfoldable pub leaves_from : Separators → ℕ → List (List ℕ) → List (List Leaf)
leaves_from ps n [] = []
leaves_from ps n (s ∷ ss) = segment_leaves ps n s ∷ leaves_from ps (suc n) ss

unfoldable pub message_leaves : Separators → List (List ℕ) → List (List Leaf)
message_leaves ps [] = []
message_leaves ps (h ∷ ss) = header_leaves ps h ∷ leaves_from ps 2 ss

-- the kind of a segment by number, 0 where it is unknown: its first field names it (S1)
unfoldable pub kind_of_segment : Separators → List ℕ → ℕ
kind_of_segment ps s = kind_of (get_or (split ps.field s) 0 [])

-- the context that the first segment names, or 0 (C1): by its field 7, the fifth from the eighth byte on, and no text where that is missing
unfoldable pub context_of_header : Separators → List ℕ → ℕ
context_of_header ps h = context_of (get_or (split ps.field (drop 7 h)) 4 [])
