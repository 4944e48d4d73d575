-- Turning back: the leaves of a text give the text again, and the table of segments gives the segments.
-- Assumes nothing.
use mathlib.Core.List.{List, [], ◌∷◌, ◌++◌, append_assoc, append-nil, nil≢cons}
use mathlib.Core.Path.{◌≡◌, refl, sym, ap, ap₂, ◌∙◌, subst}
use Prim.Native.Nat.{ℕ, ◌<◌}
use native.Mathlib.Omega.{arith}
use lib.ListN.{length, drop, get_or, take-append-drop}
use Rattle.laws.specs.Lists.{among}
use Rattle.laws.specs.Every.{All}
use Rattle.laws.proofs.Tests.{Tested, passed, failed, tested}
use Rattle.laws.proofs.Tables.{get_or_values}
use Rattle.form.specs.declared.separators.Separators.{Separators}
use Rattle.form.specs.Header.{splitting}
use Rattle.line.specs.Lines.{CR}
use Rattle.table.specs.Leaves.{Leaf, split}
use Rattle.table.specs.Rows.{Table, all_leaves, table_of}
use Rattle.table.specs.inner.Back.{leaf_at, leaves_of, separators_at, separators_in, between, unsplit_from, unsplit, segments_of}
use Rattle.table.specs.inner.Flat.{leaf, raised, flat, Without, glued_to, glued}
use Rattle.table.specs.inner.Filed.{header_bytes, Filed}
use Rattle.table.proofs.Splitting.{split-glued_to}
use Rattle.table.proofs.Flat.{flat_separator, flat-text, head_leaf, separators_leaf, message-flat}
use Rattle.table.proofs.Places.{length-raised, between-raised}
use Rattle.table.proofs.LeafRows.{leaves_of-table}

-- a leaf before the leaves of a text: its text, the separator, and what the others come from
pub unsplit-before : (ps : List ℕ) (l : Leaf) (place text s : List ℕ)
    → unsplit ps (l ∷ flat ps place text s) ≡ l.text ++ between ps l.place place ∷ unsplit ps (flat ps place text s)
unfolding unsplit unsplit_from flat
unsplit-before ps l place text [] = refl
unsplit-before ps l place text (b ∷ s) = go (tested (among ps b)) (unsplit-before ps l place (text ++ (b ∷ [])) s)
  where
    Before : List Leaf → Type 0
    Before ls = unsplit ps (l ∷ ls) ≡ l.text ++ between ps l.place place ∷ unsplit ps ls

    go : Tested (among ps b) → Before (flat ps place (text ++ (b ∷ [])) s) → Before (flat ps place text (b ∷ s))
    go (passed h) ih = rw (flat_separator ps place text b s h)
    go (failed h) ih = rw (flat-text ps place text b s h) ih

-- the leaves of a text give the text
pub unsplit-flat : (ps place text s : List ℕ) → length place ≡ length ps → unsplit ps (flat ps place text s) ≡ text ++ s
unfolding unsplit unsplit_from flat
unsplit-flat ps place text [] fits = sym (append-nil text)
unsplit-flat ps place text (b ∷ s) fits =
    go (tested (among ps b)) (unsplit-flat ps (raised ps b place) [] s (length-raised ps b place fits))
    (unsplit-flat ps place (text ++ (b ∷ [])) s fits)
  where
    go : Tested (among ps b) → unsplit ps (flat ps (raised ps b place) [] s) ≡ s
        → unsplit ps (flat ps place (text ++ (b ∷ [])) s) ≡ text ++ (b ∷ []) ++ s
        → unsplit ps (flat ps place text (b ∷ s)) ≡ text ++ b ∷ s
    go (passed h) closed begun =
        ap (unsplit ps) (flat_separator ps place text b s h)
        ∙ unsplit-before ps (leaf place text) (raised ps b place) [] s
        ∙ ap₂ (λ (c : ℕ) (t : List ℕ). text ++ c ∷ t) (between-raised ps b place fits h) closed
    go (failed h) closed begun = ap (unsplit ps) (flat-text ps place text b s h) ∙ begun ∙ append_assoc text (b ∷ []) s

-- the leaves of a message give the glued segments: between the first three stands the field separator
module _ (ps : Separators) (rest : List ℕ) (ss : List (List ℕ)) where
  abbrev header : List ℕ
  header = header_bytes ps ++ rest

  pub glued-header : header_bytes ps ++ drop 7 (glued_to header ss) ≡ glued_to header ss
  unfolding header_bytes glued_to
  glued-header =
      elim ss as (λ (ts : List (List ℕ)). header_bytes ps ++ drop 7 (glued_to header ts) ≡ glued_to header ts) [ [] ↦ refl | t ∷ ts ↦ refl ]

  abbrev filed : List Leaf
  filed = head_leaf header ∷ separators_leaf header ∷ flat (CR ∷ splitting ps) (1 ∷ 3 ∷ 1 ∷ 1 ∷ 1 ∷ []) [] (drop 7 (glued (header ∷ ss)))

  pub unsplit-message : unsplit (CR ∷ splitting ps) filed ≡ glued (header ∷ ss)
  unfolding header_bytes unsplit unsplit_from between splitting glued
  unsplit-message =
      ap {B = List ℕ} (λ r. 72 ∷ ps.field ∷ r)
      (unsplit-before (CR ∷ splitting ps) (separators_leaf header) (1 ∷ 3 ∷ 1 ∷ 1 ∷ 1 ∷ []) [] others
      ∙ ap {B = List ℕ} (λ r. ps.subfield ∷ ps.repeater ∷ ps.escape ∷ ps.subsubfield ∷ ps.field ∷ r)
      (unsplit-flat (CR ∷ splitting ps) (1 ∷ 3 ∷ 1 ∷ 1 ∷ 1 ∷ []) [] others refl))
      ∙ glued-header
    where
      others : List ℕ
      others = drop 7 (glued_to header ss)

  -- the table of such segments: its leaves, its separators, its segments
  module _ (levels : ℕ → ℕ → ℕ) (w : All (Without CR) (header ∷ ss)) where
    abbrev table : Table
    table = table_of levels ps (header ∷ ss)

    leaves-filed : all_leaves ps (header ∷ ss) ≡ filed
    unfolding header_bytes
    leaves-filed = message-flat ps header ss (omega arith) w

    second-leaf : leaf_at table.leaf_rows table.text 1 ≡ separators_leaf header
    unfolding table_of leaves_of
    second-leaf =
        sym (get_or_values (leaf_at table.leaf_rows table.text) 0 table.card.leaves 1 (leaf [] []) many)
        ∙ ap (λ (ls : List Leaf). get_or ls 1 (leaf [] [])) (leaves_of-table levels ps (header ∷ ss) ∙ leaves-filed)
      where
        many : 1 < table.card.leaves
        many = rw leaves-filed (omega arith)

    separators_filed : separators_in table ≡ ps
    unfolding separators_at header_bytes table_of
    separators_filed =
        ap {B = Separators} (λ l. stated l.text) second-leaf
      where
        stated : List ℕ → Separators
        stated s = record { field = ps.field; subfield = get_or s 0 0; repeater = get_or s 1 0; escape = get_or s 2 0; subsubfield = get_or s 3 0 }

    segments-filed : segments_of table ≡ header ∷ ss
    unfolding segments_of glued
    segments-filed =
        ap₂ (λ (q : Separators) (ls : List Leaf). split CR (unsplit (CR ∷ splitting q) ls)) separators_filed
        (leaves_of-table levels ps (header ∷ ss) ∙ leaves-filed)
        ∙ ap (split CR) unsplit-message
        ∙ split-glued_to header ss w

-- a filed message has a first segment, the header's bytes and more
pub filed-some : (ps : Separators) → Filed ps [] → ⊥
unfolding header_bytes
filed-some ps f = nil≢cons f.header

pub filed-header : (ps : Separators) (h : List ℕ) (ss : List (List ℕ)) → Filed ps (h ∷ ss) → header_bytes ps ++ drop 7 h ≡ h
filed-header ps h ss f = ap (λ (t : List ℕ). t ++ drop 7 h) (sym f.header) ∙ take-append-drop 7 h

-- the table of segments gives their separators and the segments
module _ (levels : ℕ → ℕ → ℕ) (ps : Separators) where
  pub separators_in-table : (segments : List (List ℕ)) → Filed ps segments → separators_in (table_of levels ps segments) ≡ ps
  separators_in-table [] f = absurd (filed-some ps f)
  separators_in-table (h ∷ ss) f =
      subst (λ (s : List ℕ). All (Without CR) (s ∷ ss) → separators_in (table_of levels ps (s ∷ ss)) ≡ ps) (filed-header ps h ss f)
      (separators_filed ps (drop 7 h) ss levels) f.lines

  pub segments_of-table : (segments : List (List ℕ)) → Filed ps segments → segments_of (table_of levels ps segments) ≡ segments
  segments_of-table [] f = absurd (filed-some ps f)
  segments_of-table (h ∷ ss) f =
      subst (λ (s : List ℕ). All (Without CR) (s ∷ ss) → segments_of (table_of levels ps (s ∷ ss)) ≡ s ∷ ss) (filed-header ps h ss f)
      (segments-filed ps (drop 7 h) ss levels) f.lines
