-- The listing of a message (rules G1 and G2).
-- Assumes nothing.
use Rattle.std.specs.Prelude.{true, false, List, [], ◌∷◌, ◌++◌, ◌≡◌, ℕ, ◌+◌, ◌*◌, ltb, length}
use Prim.Native.String.{String}
use Rattle.std.proofs.lemmas.List.Edits.{sets}
use Rattle.laws.specs.Lists.{concat}
use Rattle.laws.specs.Tables.{values}
use Rattle.laws.specs.Texts.{bytes}
use Rattle.form.specs.declared.limits.Limits.{Limits}
use Rattle.form.specs.Names.{kind_names, context_names, name_of}
use Rattle.form.specs.Numbers.{short_buffer}
use Rattle.table.specs.declared.Card.{Card}
use Rattle.table.specs.Rows.{kind_in, owner_in, first_in, count_in}
use Rattle.table.specs.Reading.{room_of, Outcome, refused, accepted, reading}
use Rattle.table.specs.inner.Back.{written}
use Rattle.read.specs.Answering.{text_put, segments_put, leaves_put}
use Rattle.listing.specs.Decimal.{decimal}

-- a line: a name with its `=`, a value, and the LF that ends it (G1)
unfoldable pub entry_of : List ℕ → List ℕ → List ℕ
entry_of name value = name ++ (value ++ (10 ∷ []))

-- the same, the name written as text
unfoldable pub entry : String → List ℕ → List ℕ
entry name value = entry_of (bytes name) value

-- a comma and a number
unfoldable pub and_number : ℕ → List ℕ
and_number n = 44 ∷ decimal n

-- what stands behind the number in the line of row i, counted from 0 (G1): kind by its name, owner, first leaf, count of leaves, a comma
-- before each
unfoldable pub columns : List ℕ → ℕ → List ℕ
columns rows i =
    44
    ∷ (name_of kind_names (kind_in rows i)
    ++ (and_number (owner_in rows i) ++ (and_number (first_in rows i) ++ and_number (count_in rows i))))

-- the line of row i, whose number counts from 1 (G1)
unfoldable pub row_line : List ℕ → ℕ → List ℕ
row_line rows i = entry "seg=" (decimal (i + 1) ++ columns rows i)

-- the lines of so many rows
unfoldable pub row_lines : List ℕ → ℕ → List ℕ
row_lines rows count = concat (values (row_line rows) 0 count)

-- the first three lines: the version of the listing's own form, the number that reading answers, its place (G1)
unfoldable pub answer_lines : ℕ → ℕ → List ℕ
answer_lines number place = bytes "form=1\n" ++ (entry "answer=" (decimal number) ++ entry "place=" (decimal place))

-- the line of a context, by its name
unfoldable pub context_line : ℕ → List ℕ
context_line context = entry "context=" (name_of context_names context)

-- the lines of a card, and of the bytes that the writer would give (G1)
unfoldable pub count_lines : Card → ℕ → List ℕ
count_lines card size =
    context_line card.context
    ++ (entry "segments=" (decimal card.segments)
    ++ (entry "leaves=" (decimal card.leaves) ++ (entry "text=" (decimal card.text) ++ entry "written=" (decimal size))))

-- the listing of what reading a message gives: of a refusal three lines (G2), of a table all of them (G1)
unfoldable pub listing : Limits → Outcome → List ℕ
listing L (refused number place) = answer_lines number place
listing L (accepted t) =
    answer_lines 0 0
    ++ (count_lines t.card (length (written L t))
    ++ row_lines t.segment_rows t.card.segments)

-- the bytes that every listing has room in: 256 for the first lines, 32 for each segment
unfoldable pub listing_size : Limits → ℕ
listing_size L = 256 + L.segments * 32

-- the listing of an outcome for a buffer of some length: nothing where that is short
unfoldable pub listing_for : Limits → Outcome → ℕ → List ℕ
listing_for L o size = elim (ltb size (listing_size L)) [ true ↦ [] | false ↦ listing L o ]

-- the outcome that the reader's buffers show: nothing is read where the listing's buffer is short
unfoldable pub shown : Limits → Outcome → ℕ → Outcome
shown L o size = elim (ltb size (listing_size L)) [ true ↦ refused short_buffer 0 | false ↦ o ]

-- the contract of listing: the listing's bytes, and every lent buffer
pub record Lists (L : Limits) (o : Outcome) (text segments leaves list : List ℕ) (r : ℕ) (text' segments' leaves' list' : List ℕ) : Type 0 where
  pub bytes : r ≡ length (listing_for L o (length list))
  pub listing : list' ≡ sets list 0 (listing_for L o (length list))
  pub text_area : text' ≡ sets text 0 (text_put (shown L o (length list)))
  pub segment_rows : segments' ≡ sets segments 0 (segments_put (shown L o (length list)))
  pub leaf_rows : leaves' ≡ sets leaves 0 (leaves_put (shown L o (length list)))

-- the same of a message, by what reading it gives
abbrev pub ListedAs :
    Limits → (ℕ → ℕ → ℕ) → (message text segments leaves list : List ℕ) → ℕ → (text' segments' leaves' list' : List ℕ) → Type 0
ListedAs L levels message text segments leaves list r text' segments' leaves' list' =
    Lists L (reading L levels (room_of text segments leaves) message) text segments leaves list r text' segments' leaves' list'
