-- The worked examples K1 to K12: each message and what reading it gives, in either form, as one list. Where an example names no place, the
-- place is the one that N1 gives to its number.
-- Assumes nothing.
use Rattle.std.specs.Prelude.{List, [], ◌∷◌, ◌++◌, map, ℕ, length, replicate}
use Rattle.laws.specs.Lists.{concat}
use Rattle.laws.specs.Texts.{bytes}
use Rattle.form.specs.declared.forms.Form.{Form}
use Rattle.form.specs.Forms.{limits_of}
use Rattle.line.specs.Cutting.{cut}
use Rattle.order.specs.Owners.{level}
use Rattle.table.specs.Rows.{Table}
use Rattle.table.specs.Reading.{Outcome, refused, accepted, stated, reading}
use Rattle.table.specs.inner.Back.{segments_of, written}

-- what an example says: a refusal, or a table with the bytes that it is written in and the lines that each segment takes
pub data Says : Type 0 where
  refuses : (number place : ℕ) → Says
  files : Table → (bytes : ℕ) (lines : List ℕ) → Says

-- what an outcome gives, in the same terms; and what reading a message does
unfoldable pub says : Form → Outcome → Says
says f (refused number place) = refuses number place
says f (accepted t) =
    files t (length (written (limits_of f) t)) (map (λ (s : List ℕ). length (cut (limits_of f) t.card.separator s)) (segments_of t))

unfoldable pub read : Form → List ℕ → Says
read f message = says f (reading (limits_of f) level (stated (limits_of f)) message)

-- a table written out, with the field separator `|`: context, counts of segments, leaves and text bytes, then the rows and the text
unfoldable pub filed : ℕ → ℕ → ℕ → ℕ → List (List ℕ) → List (List ℕ) → List ℕ → Table
filed context segments leaves text segment_rows leaf_rows texts =
    record {
      card = record { separator = 124; context = context; segments = segments; leaves = leaves; text = text };
      segment_rows = concat segment_rows;
      leaf_rows = concat leaf_rows;
      text = texts;
    }

-- an example: a message and what it says
pub record Example : Type 0 where
  pub message : List ℕ
  pub expected : Says

-- the table of K1: its counts and its segment rows are those of K1's listing (G1)
unfoldable pub k1 : Table
k1 =
    filed 6 5 24 41
    ((1 ∷ 0 ∷ 1 ∷ 7 ∷ [])
    ∷ (2 ∷ 1 ∷ 8 ∷ 7 ∷ [])
    ∷ (5 ∷ 2 ∷ 15 ∷ 2 ∷ [])
    ∷ (6 ∷ 3 ∷ 17 ∷ 6 ∷ [])
    ∷ (11 ∷ 0 ∷ 23 ∷ 2 ∷ [])
    ∷ [])
    ((1 ∷ 1 ∷ 1 ∷ 1 ∷ 1 ∷ 0 ∷ 1 ∷ [])
    ∷ (1 ∷ 2 ∷ 1 ∷ 1 ∷ 1 ∷ 1 ∷ 4 ∷ [])
    ∷ (1 ∷ 3 ∷ 1 ∷ 1 ∷ 1 ∷ 5 ∷ 0 ∷ [])
    ∷ (1 ∷ 4 ∷ 1 ∷ 1 ∷ 1 ∷ 5 ∷ 0 ∷ [])
    ∷ (1 ∷ 5 ∷ 1 ∷ 1 ∷ 1 ∷ 5 ∷ 3 ∷ [])
    ∷ (1 ∷ 6 ∷ 1 ∷ 1 ∷ 1 ∷ 8 ∷ 0 ∷ [])
    ∷ (1 ∷ 7 ∷ 1 ∷ 1 ∷ 1 ∷ 8 ∷ 3 ∷ [])
    ∷ (2 ∷ 1 ∷ 1 ∷ 1 ∷ 1 ∷ 11 ∷ 1 ∷ [])
    ∷ (2 ∷ 2 ∷ 1 ∷ 1 ∷ 1 ∷ 12 ∷ 1 ∷ [])
    ∷ (2 ∷ 3 ∷ 1 ∷ 1 ∷ 1 ∷ 13 ∷ 0 ∷ [])
    ∷ (2 ∷ 4 ∷ 1 ∷ 1 ∷ 1 ∷ 13 ∷ 0 ∷ [])
    ∷ (2 ∷ 5 ∷ 1 ∷ 1 ∷ 1 ∷ 13 ∷ 0 ∷ [])
    ∷ (2 ∷ 6 ∷ 1 ∷ 1 ∷ 1 ∷ 13 ∷ 6 ∷ [])
    ∷ (2 ∷ 6 ∷ 1 ∷ 2 ∷ 1 ∷ 19 ∷ 4 ∷ [])
    ∷ (3 ∷ 1 ∷ 1 ∷ 1 ∷ 1 ∷ 23 ∷ 3 ∷ [])
    ∷ (3 ∷ 2 ∷ 1 ∷ 1 ∷ 1 ∷ 26 ∷ 1 ∷ [])
    ∷ (4 ∷ 1 ∷ 1 ∷ 1 ∷ 1 ∷ 27 ∷ 3 ∷ [])
    ∷ (4 ∷ 2 ∷ 1 ∷ 1 ∷ 1 ∷ 30 ∷ 1 ∷ [])
    ∷ (4 ∷ 3 ∷ 1 ∷ 1 ∷ 1 ∷ 31 ∷ 2 ∷ [])
    ∷ (4 ∷ 4 ∷ 1 ∷ 1 ∷ 1 ∷ 33 ∷ 3 ∷ [])
    ∷ (4 ∷ 5 ∷ 1 ∷ 1 ∷ 1 ∷ 36 ∷ 0 ∷ [])
    ∷ (4 ∷ 6 ∷ 1 ∷ 1 ∷ 1 ∷ 36 ∷ 3 ∷ [])
    ∷ (5 ∷ 1 ∷ 1 ∷ 1 ∷ 1 ∷ 39 ∷ 1 ∷ [])
    ∷ (5 ∷ 2 ∷ 1 ∷ 1 ∷ 1 ∷ 40 ∷ 1 ∷ [])
    ∷ [])
    (bytes "H~^\\&LABORUP1DUPONTJEANOBR1OBX1NMGLY1.2L1")

-- the table of K5 with a first line of 219 bytes
unfoldable pub k5 : Table
k5 =
    filed 6 5 25 242
    ((1 ∷ 0 ∷ 1 ∷ 8 ∷ [])
    ∷ (2 ∷ 1 ∷ 9 ∷ 7 ∷ [])
    ∷ (5 ∷ 2 ∷ 16 ∷ 2 ∷ [])
    ∷ (6 ∷ 3 ∷ 18 ∷ 6 ∷ [])
    ∷ (11 ∷ 0 ∷ 24 ∷ 2 ∷ [])
    ∷ [])
    ((1 ∷ 1 ∷ 1 ∷ 1 ∷ 1 ∷ 0 ∷ 1 ∷ [])
    ∷ (1 ∷ 2 ∷ 1 ∷ 1 ∷ 1 ∷ 1 ∷ 4 ∷ [])
    ∷ (1 ∷ 3 ∷ 1 ∷ 1 ∷ 1 ∷ 5 ∷ 0 ∷ [])
    ∷ (1 ∷ 4 ∷ 1 ∷ 1 ∷ 1 ∷ 5 ∷ 0 ∷ [])
    ∷ (1 ∷ 5 ∷ 1 ∷ 1 ∷ 1 ∷ 5 ∷ 3 ∷ [])
    ∷ (1 ∷ 6 ∷ 1 ∷ 1 ∷ 1 ∷ 8 ∷ 0 ∷ [])
    ∷ (1 ∷ 7 ∷ 1 ∷ 1 ∷ 1 ∷ 8 ∷ 3 ∷ [])
    ∷ (1 ∷ 8 ∷ 1 ∷ 1 ∷ 1 ∷ 11 ∷ 201 ∷ [])
    ∷ (2 ∷ 1 ∷ 1 ∷ 1 ∷ 1 ∷ 212 ∷ 1 ∷ [])
    ∷ (2 ∷ 2 ∷ 1 ∷ 1 ∷ 1 ∷ 213 ∷ 1 ∷ [])
    ∷ (2 ∷ 3 ∷ 1 ∷ 1 ∷ 1 ∷ 214 ∷ 0 ∷ [])
    ∷ (2 ∷ 4 ∷ 1 ∷ 1 ∷ 1 ∷ 214 ∷ 0 ∷ [])
    ∷ (2 ∷ 5 ∷ 1 ∷ 1 ∷ 1 ∷ 214 ∷ 0 ∷ [])
    ∷ (2 ∷ 6 ∷ 1 ∷ 1 ∷ 1 ∷ 214 ∷ 6 ∷ [])
    ∷ (2 ∷ 6 ∷ 1 ∷ 2 ∷ 1 ∷ 220 ∷ 4 ∷ [])
    ∷ (3 ∷ 1 ∷ 1 ∷ 1 ∷ 1 ∷ 224 ∷ 3 ∷ [])
    ∷ (3 ∷ 2 ∷ 1 ∷ 1 ∷ 1 ∷ 227 ∷ 1 ∷ [])
    ∷ (4 ∷ 1 ∷ 1 ∷ 1 ∷ 1 ∷ 228 ∷ 3 ∷ [])
    ∷ (4 ∷ 2 ∷ 1 ∷ 1 ∷ 1 ∷ 231 ∷ 1 ∷ [])
    ∷ (4 ∷ 3 ∷ 1 ∷ 1 ∷ 1 ∷ 232 ∷ 2 ∷ [])
    ∷ (4 ∷ 4 ∷ 1 ∷ 1 ∷ 1 ∷ 234 ∷ 3 ∷ [])
    ∷ (4 ∷ 5 ∷ 1 ∷ 1 ∷ 1 ∷ 237 ∷ 0 ∷ [])
    ∷ (4 ∷ 6 ∷ 1 ∷ 1 ∷ 1 ∷ 237 ∷ 3 ∷ [])
    ∷ (5 ∷ 1 ∷ 1 ∷ 1 ∷ 1 ∷ 240 ∷ 1 ∷ [])
    ∷ (5 ∷ 2 ∷ 1 ∷ 1 ∷ 1 ∷ 241 ∷ 1 ∷ [])
    ∷ [])
    (bytes "H~^\\&LABORU" ++ replicate 201 120 ++ bytes "P1DUPONTJEANOBR1OBX1NMGLY1.2L1")

-- the table of K6 in ORM
unfoldable pub k6 : Table
k6 =
    filed 2 4 13 19
    ((1 ∷ 0 ∷ 1 ∷ 7 ∷ [])
    ∷ (2 ∷ 1 ∷ 8 ∷ 2 ∷ [])
    ∷ (5 ∷ 2 ∷ 10 ∷ 2 ∷ [])
    ∷ (11 ∷ 0 ∷ 12 ∷ 2 ∷ [])
    ∷ [])
    ((1 ∷ 1 ∷ 1 ∷ 1 ∷ 1 ∷ 0 ∷ 1 ∷ [])
    ∷ (1 ∷ 2 ∷ 1 ∷ 1 ∷ 1 ∷ 1 ∷ 4 ∷ [])
    ∷ (1 ∷ 3 ∷ 1 ∷ 1 ∷ 1 ∷ 5 ∷ 0 ∷ [])
    ∷ (1 ∷ 4 ∷ 1 ∷ 1 ∷ 1 ∷ 5 ∷ 0 ∷ [])
    ∷ (1 ∷ 5 ∷ 1 ∷ 1 ∷ 1 ∷ 5 ∷ 3 ∷ [])
    ∷ (1 ∷ 6 ∷ 1 ∷ 1 ∷ 1 ∷ 8 ∷ 0 ∷ [])
    ∷ (1 ∷ 7 ∷ 1 ∷ 1 ∷ 1 ∷ 8 ∷ 3 ∷ [])
    ∷ (2 ∷ 1 ∷ 1 ∷ 1 ∷ 1 ∷ 11 ∷ 1 ∷ [])
    ∷ (2 ∷ 2 ∷ 1 ∷ 1 ∷ 1 ∷ 12 ∷ 1 ∷ [])
    ∷ (3 ∷ 1 ∷ 1 ∷ 1 ∷ 1 ∷ 13 ∷ 3 ∷ [])
    ∷ (3 ∷ 2 ∷ 1 ∷ 1 ∷ 1 ∷ 16 ∷ 1 ∷ [])
    ∷ (4 ∷ 1 ∷ 1 ∷ 1 ∷ 1 ∷ 17 ∷ 1 ∷ [])
    ∷ (4 ∷ 2 ∷ 1 ∷ 1 ∷ 1 ∷ 18 ∷ 1 ∷ [])
    ∷ [])
    (bytes "H~^\\&LABORMP1OBR1L1")

-- the table of K10: the AP behind the C is owned by the P, since a C owns nothing (O3)
unfoldable pub k10 : Table
k10 =
    filed 1 6 17 23
    ((1 ∷ 0 ∷ 1 ∷ 7 ∷ [])
    ∷ (2 ∷ 1 ∷ 8 ∷ 2 ∷ [])
    ∷ (12 ∷ 2 ∷ 10 ∷ 2 ∷ [])
    ∷ (3 ∷ 2 ∷ 12 ∷ 2 ∷ [])
    ∷ (4 ∷ 4 ∷ 14 ∷ 2 ∷ [])
    ∷ (11 ∷ 0 ∷ 16 ∷ 2 ∷ [])
    ∷ [])
    ((1 ∷ 1 ∷ 1 ∷ 1 ∷ 1 ∷ 0 ∷ 1 ∷ [])
    ∷ (1 ∷ 2 ∷ 1 ∷ 1 ∷ 1 ∷ 1 ∷ 4 ∷ [])
    ∷ (1 ∷ 3 ∷ 1 ∷ 1 ∷ 1 ∷ 5 ∷ 0 ∷ [])
    ∷ (1 ∷ 4 ∷ 1 ∷ 1 ∷ 1 ∷ 5 ∷ 0 ∷ [])
    ∷ (1 ∷ 5 ∷ 1 ∷ 1 ∷ 1 ∷ 5 ∷ 3 ∷ [])
    ∷ (1 ∷ 6 ∷ 1 ∷ 1 ∷ 1 ∷ 8 ∷ 0 ∷ [])
    ∷ (1 ∷ 7 ∷ 1 ∷ 1 ∷ 1 ∷ 8 ∷ 3 ∷ [])
    ∷ (2 ∷ 1 ∷ 1 ∷ 1 ∷ 1 ∷ 11 ∷ 1 ∷ [])
    ∷ (2 ∷ 2 ∷ 1 ∷ 1 ∷ 1 ∷ 12 ∷ 1 ∷ [])
    ∷ (3 ∷ 1 ∷ 1 ∷ 1 ∷ 1 ∷ 13 ∷ 1 ∷ [])
    ∷ (3 ∷ 2 ∷ 1 ∷ 1 ∷ 1 ∷ 14 ∷ 1 ∷ [])
    ∷ (4 ∷ 1 ∷ 1 ∷ 1 ∷ 1 ∷ 15 ∷ 2 ∷ [])
    ∷ (4 ∷ 2 ∷ 1 ∷ 1 ∷ 1 ∷ 17 ∷ 1 ∷ [])
    ∷ (5 ∷ 1 ∷ 1 ∷ 1 ∷ 1 ∷ 18 ∷ 2 ∷ [])
    ∷ (5 ∷ 2 ∷ 1 ∷ 1 ∷ 1 ∷ 20 ∷ 1 ∷ [])
    ∷ (6 ∷ 1 ∷ 1 ∷ 1 ∷ 1 ∷ 21 ∷ 1 ∷ [])
    ∷ (6 ∷ 2 ∷ 1 ∷ 1 ∷ 1 ∷ 22 ∷ 1 ∷ [])
    ∷ [])
    (bytes "H~^\\&LABADMP1C1AP1AC1L1")

-- the table of K11: the OBR is owned by the P, not by the last AC before it (O1, O2)
unfoldable pub k11 : Table
k11 =
    filed 3 7 19 28
    ((1 ∷ 0 ∷ 1 ∷ 7 ∷ [])
    ∷ (2 ∷ 1 ∷ 8 ∷ 2 ∷ [])
    ∷ (3 ∷ 2 ∷ 10 ∷ 2 ∷ [])
    ∷ (4 ∷ 3 ∷ 12 ∷ 2 ∷ [])
    ∷ (4 ∷ 3 ∷ 14 ∷ 2 ∷ [])
    ∷ (5 ∷ 2 ∷ 16 ∷ 2 ∷ [])  -- the OBR
    ∷ (11 ∷ 0 ∷ 18 ∷ 2 ∷ [])
    ∷ [])
    ((1 ∷ 1 ∷ 1 ∷ 1 ∷ 1 ∷ 0 ∷ 1 ∷ [])
    ∷ (1 ∷ 2 ∷ 1 ∷ 1 ∷ 1 ∷ 1 ∷ 4 ∷ [])
    ∷ (1 ∷ 3 ∷ 1 ∷ 1 ∷ 1 ∷ 5 ∷ 0 ∷ [])
    ∷ (1 ∷ 4 ∷ 1 ∷ 1 ∷ 1 ∷ 5 ∷ 0 ∷ [])
    ∷ (1 ∷ 5 ∷ 1 ∷ 1 ∷ 1 ∷ 5 ∷ 3 ∷ [])
    ∷ (1 ∷ 6 ∷ 1 ∷ 1 ∷ 1 ∷ 8 ∷ 0 ∷ [])
    ∷ (1 ∷ 7 ∷ 1 ∷ 1 ∷ 1 ∷ 8 ∷ 3 ∷ [])
    ∷ (2 ∷ 1 ∷ 1 ∷ 1 ∷ 1 ∷ 11 ∷ 1 ∷ [])
    ∷ (2 ∷ 2 ∷ 1 ∷ 1 ∷ 1 ∷ 12 ∷ 1 ∷ [])
    ∷ (3 ∷ 1 ∷ 1 ∷ 1 ∷ 1 ∷ 13 ∷ 2 ∷ [])
    ∷ (3 ∷ 2 ∷ 1 ∷ 1 ∷ 1 ∷ 15 ∷ 1 ∷ [])
    ∷ (4 ∷ 1 ∷ 1 ∷ 1 ∷ 1 ∷ 16 ∷ 2 ∷ [])
    ∷ (4 ∷ 2 ∷ 1 ∷ 1 ∷ 1 ∷ 18 ∷ 1 ∷ [])
    ∷ (5 ∷ 1 ∷ 1 ∷ 1 ∷ 1 ∷ 19 ∷ 2 ∷ [])
    ∷ (5 ∷ 2 ∷ 1 ∷ 1 ∷ 1 ∷ 21 ∷ 1 ∷ [])
    ∷ (6 ∷ 1 ∷ 1 ∷ 1 ∷ 1 ∷ 22 ∷ 3 ∷ [])
    ∷ (6 ∷ 2 ∷ 1 ∷ 1 ∷ 1 ∷ 25 ∷ 1 ∷ [])
    ∷ (7 ∷ 1 ∷ 1 ∷ 1 ∷ 1 ∷ 26 ∷ 1 ∷ [])
    ∷ (7 ∷ 2 ∷ 1 ∷ 1 ∷ 1 ∷ 27 ∷ 1 ∷ [])
    ∷ [])
    (bytes "H~^\\&LABORAP1AP1AC1AC2OBR1L1")

-- the table of K12
unfoldable pub k12 : Table
k12 =
    filed 5 6 17 1321
    ((1 ∷ 0 ∷ 1 ∷ 7 ∷ [])
    ∷ (10 ∷ 1 ∷ 8 ∷ 2 ∷ [])
    ∷ (10 ∷ 1 ∷ 10 ∷ 2 ∷ [])
    ∷ (10 ∷ 1 ∷ 12 ∷ 2 ∷ [])
    ∷ (10 ∷ 1 ∷ 14 ∷ 2 ∷ [])
    ∷ (11 ∷ 0 ∷ 16 ∷ 2 ∷ [])
    ∷ [])
    ((1 ∷ 1 ∷ 1 ∷ 1 ∷ 1 ∷ 0 ∷ 1 ∷ [])
    ∷ (1 ∷ 2 ∷ 1 ∷ 1 ∷ 1 ∷ 1 ∷ 4 ∷ [])
    ∷ (1 ∷ 3 ∷ 1 ∷ 1 ∷ 1 ∷ 5 ∷ 0 ∷ [])
    ∷ (1 ∷ 4 ∷ 1 ∷ 1 ∷ 1 ∷ 5 ∷ 0 ∷ [])
    ∷ (1 ∷ 5 ∷ 1 ∷ 1 ∷ 1 ∷ 5 ∷ 3 ∷ [])
    ∷ (1 ∷ 6 ∷ 1 ∷ 1 ∷ 1 ∷ 8 ∷ 0 ∷ [])
    ∷ (1 ∷ 7 ∷ 1 ∷ 1 ∷ 1 ∷ 8 ∷ 3 ∷ [])
    ∷ (2 ∷ 1 ∷ 1 ∷ 1 ∷ 1 ∷ 11 ∷ 3 ∷ [])
    ∷ (2 ∷ 2 ∷ 1 ∷ 1 ∷ 1 ∷ 14 ∷ 215 ∷ [])
    ∷ (3 ∷ 1 ∷ 1 ∷ 1 ∷ 1 ∷ 229 ∷ 3 ∷ [])
    ∷ (3 ∷ 2 ∷ 1 ∷ 1 ∷ 1 ∷ 232 ∷ 216 ∷ [])
    ∷ (4 ∷ 1 ∷ 1 ∷ 1 ∷ 1 ∷ 448 ∷ 3 ∷ [])
    ∷ (4 ∷ 2 ∷ 1 ∷ 1 ∷ 1 ∷ 451 ∷ 432 ∷ [])
    ∷ (5 ∷ 1 ∷ 1 ∷ 1 ∷ 1 ∷ 883 ∷ 3 ∷ [])
    ∷ (5 ∷ 2 ∷ 1 ∷ 1 ∷ 1 ∷ 886 ∷ 433 ∷ [])
    ∷ (6 ∷ 1 ∷ 1 ∷ 1 ∷ 1 ∷ 1319 ∷ 1 ∷ [])
    ∷ (6 ∷ 2 ∷ 1 ∷ 1 ∷ 1 ∷ 1320 ∷ 1 ∷ [])
    ∷ [])
    (bytes "H~^\\&LABERRERR" ++ replicate 215 97 ++ bytes "ERR" ++ replicate 216 98 ++ bytes "ERR" ++ replicate 432 99 ++ bytes "ERR" ++ replicate 433 100 ++ bytes "L1")

-- the examples, each with its message and what it says
unfoldable pub examples : List Example
examples =
    -- K1: a patient, an order and one result, in ORU
    record { message = bytes "H|~^\\&|||LAB||ORU\rP|1||||DUPONT~JEAN\rOBR|1\rOBX|1|NM|GLY||1.2\rL|1\r"; expected = files k1 65 (1 ∷ 1 ∷ 1 ∷ 1 ∷ 1 ∷ []) }
    -- K2: nothing at all is no header
    ∷ record { message = []; expected = refuses 3 0 }
    -- K3: in ORU no OBX follows a P
    ∷ record { message = bytes "H|~^\\&|||LAB||ORU\rP|1\rOBX|1\rL|1\r"; expected = refuses 10 3 }
    -- K4: K1 breaks off before its L, so the place is one past its last segment
    ∷ record { message = bytes "H|~^\\&|||LAB||ORU\rP|1||||DUPONT~JEAN\rOBR|1\rOBX|1|NM|GLY||1.2\r"; expected = refuses 10 5 }
    -- K5: a first line of 219 bytes is not too long (L3)
    ∷ record { message = bytes "H|~^\\&|||LAB||ORU|" ++ replicate 201 120 ++ bytes "\rP|1||||DUPONT~JEAN\rOBR|1\rOBX|1|NM|GLY||1.2\rL|1\r"; expected = files k5 267 (1 ∷ 1 ∷ 1 ∷ 1 ∷ 1 ∷ []) }
    -- and one of 220 is
    ∷ record { message = bytes "H|~^\\&|||LAB||ORU|" ++ replicate 202 120 ++ bytes "\rP|1||||DUPONT~JEAN\rOBR|1\rOBX|1|NM|GLY||1.2\rL|1\r"; expected = refuses 5 219 }
    -- K6: an order with no result stands in ORM
    ∷ record { message = bytes "H|~^\\&|||LAB||ORM\rP|1\rOBR|1\rL|1\r"; expected = files k6 32 (1 ∷ 1 ∷ 1 ∷ 1 ∷ []) }
    -- and not in ORU, where the L comes too early
    ∷ record { message = bytes "H|~^\\&|||LAB||ORU\rP|1\rOBR|1\rL|1\r"; expected = refuses 10 4 }
    -- K7: K1 with its OBR cut inside the name (A3): the table is the same
    ∷ record { message = bytes "H|~^\\&|||LAB||ORU\rP|1||||DUPONT~JEAN\rOB\rA|R|1\rOBX|1|NM|GLY||1.2\rL|1\r"; expected = files k1 65 (1 ∷ 1 ∷ 1 ∷ 1 ∷ 1 ∷ []) }
    -- K8: in K1 a line that is `A` alone: a segment (A2), and of unknown kind
    ∷ record { message = bytes "H|~^\\&|||LAB||ORU\rP|1||||DUPONT~JEAN\rOBR|1\rOBX|1|NM|GLY||1.2\rA\rL|1\r"; expected = refuses 8 5 }
    -- K9: no C follows the L (C3)
    ∷ record { message = bytes "H|~^\\&|||LAB||ORU\rP|1||||DUPONT~JEAN\rOBR|1\rOBX|1|NM|GLY||1.2\rL|1\rC|1\r"; expected = refuses 10 6 }
    -- but an addendum does, here an empty one: the table is that of K1
    ∷ record { message = bytes "H|~^\\&|||LAB||ORU\rP|1||||DUPONT~JEAN\rOBR|1\rOBX|1|NM|GLY||1.2\rL|1\rA|\r"; expected = files k1 65 (1 ∷ 1 ∷ 1 ∷ 1 ∷ 1 ∷ []) }
    -- K10: in ADM, with a C behind the P
    ∷ record { message = bytes "H|~^\\&|||LAB||ADM\rP|1\rC|1\rAP|1\rAC|1\rL|1\r"; expected = files k10 40 (1 ∷ 1 ∷ 1 ∷ 1 ∷ 1 ∷ 1 ∷ []) }
    -- K11: in ORA, with two AC before the OBR
    ∷ record { message = bytes "H|~^\\&|||LAB||ORA\rP|1\rAP|1\rAC|1\rAC|2\rOBR|1\rL|1\r"; expected = files k11 47 (1 ∷ 1 ∷ 1 ∷ 1 ∷ 1 ∷ 1 ∷ 1 ∷ []) }
    -- K12: in ERR, the rows 2 to 5 are segments of 219, 220, 436 and 437 bytes, which take 1, 2, 2 and 3 lines (W2)
    ∷ record {
      message =
          bytes "H|~^\\&|||LAB||ERR\rERR|" ++ replicate 215 97
          ++ bytes "\rERR|" ++ replicate 215 98 ++ bytes "\rA|b\rERR|" ++ replicate 215 99 ++ bytes "\rA|" ++ replicate 217 99
          ++ bytes "\rERR|" ++ replicate 215 100 ++ bytes "\rA|" ++ replicate 217 100 ++ bytes "\rA|d\rL|1\r";
      expected = files k12 1350 (1 ∷ 1 ∷ 2 ∷ 2 ∷ 3 ∷ 1 ∷ []);
    }
    ∷ []
