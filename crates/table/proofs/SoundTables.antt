-- The converse for a table: rows whose leaves are sound are those of the segments that they turn back to.
-- Assumes nothing.
use mathlib.Core.List.{List, [], ◌∷◌, ◌++◌}
use mathlib.Core.Path.{◌≡◌, refl, sym, ap, ◌∙◌, subst}
use Prim.Native.Nat.{ℕ}
use native.Mathlib.Omega.{arith}
use lib.ListN.{drop}
use Rattle.laws.specs.Every.{All, none, also}
use Rattle.laws.proofs.Every.{all_append}
use Rattle.form.specs.declared.separators.Separators.{Separators}
use Rattle.form.specs.Header.{splitting}
use Rattle.line.specs.Lines.{CR}
use Rattle.table.specs.Leaves.{Leaf, split}
use Rattle.table.specs.Rows.{Table, all_leaves}
use Rattle.table.specs.inner.Back.{leaves_of, separators_in, between, unsplit_from, unsplit, segments_of}
use Rattle.table.specs.inner.Flat.{Without, flat, glued}
use Rattle.table.specs.inner.Filed.{header_bytes, Filed}
use Rattle.table.specs.inner.Sound.{Sound}
use Rattle.table.proofs.Splitting.{first_part, other_parts, first_without, others_without, split-begun, glued_parts}
use Rattle.table.proofs.Flat.{head_leaf, separators_leaf, drop-glued_to, message-flat}
use Rattle.table.proofs.Back.{filed-header}
use Rattle.table.proofs.Sound.{flat_sound, unsplit-next, sound-flat}

-- the leaves of a message of given separators, from those that follow the first two
abbrev pub headed : Separators → List Leaf → List Leaf
headed ps ls = head_leaf (header_bytes ps) ∷ separators_leaf (header_bytes ps) ∷ ls

module _ (ps : Separators) {ls : List Leaf} (clear : Without CR (header_bytes ps))
    (sound : Sound (CR ∷ splitting ps) (1 ∷ 3 ∷ 1 ∷ 1 ∷ 1 ∷ []) ls) where
  -- they give the header's bytes and the text of the others
  unsplit_headed : unsplit (CR ∷ splitting ps) (headed ps ls) ≡ header_bytes ps ++ unsplit (CR ∷ splitting ps) ls
  unfolding header_bytes unsplit unsplit_from between splitting
  unsplit_headed =
      ap {B = List ℕ} (λ r. 72 ∷ ps.field ∷ r) (unsplit-next (CR ∷ splitting ps) (separators_leaf (header_bytes ps)) sound)

  -- whose segments are these
  first : List ℕ
  first = header_bytes ps ++ first_part CR (unsplit (CR ∷ splitting ps) ls)

  others : List (List ℕ)
  others = other_parts CR (unsplit (CR ∷ splitting ps) ls)

  segments_headed : split CR (unsplit (CR ∷ splitting ps) (headed ps ls)) ≡ first ∷ others
  unfolding first others
  segments_headed = ap (split CR) unsplit_headed ∙ split-begun CR (unsplit (CR ∷ splitting ps) ls) clear

  clear-segments : All (Without CR) (first ∷ others)
  unfolding first others
  clear-segments =
      also (all_append clear (first_without CR (unsplit (CR ∷ splitting ps) ls))) (others_without CR (unsplit (CR ∷ splitting ps) ls))

  -- they can be filed, and their leaves are the given ones
  pub sound-filed : Filed ps (split CR (unsplit (CR ∷ splitting ps) (headed ps ls)))
  unfolding first header_bytes
  sound-filed = subst (Filed ps) (sym segments_headed) (record { header = refl; lines = clear-segments })

  pub sound-leaves : all_leaves ps (split CR (unsplit (CR ∷ splitting ps) (headed ps ls))) ≡ headed ps ls
  unfolding first others header_bytes glued splitting
  sound-leaves =
      ap (all_leaves ps) segments_headed
      ∙ message-flat ps first others (omega arith) clear-segments
      ∙ ap (headed ps)
      (ap (flat (CR ∷ splitting ps) (1 ∷ 3 ∷ 1 ∷ 1 ∷ 1 ∷ []) [])
      (drop-glued_to 7 first others (omega arith) ∙ glued_parts (unsplit (CR ∷ splitting ps) ls))
      ∙ sound-flat (CR ∷ splitting ps) refl sound)

-- a filed message has such leaves: after the first two, one flat split of the rest, which is sound
module _ (ps : Separators) (h : List ℕ) (ss : List (List ℕ)) (f : Filed ps (h ∷ ss)) where
  abbrev pub after_header : List Leaf
  after_header = flat (CR ∷ splitting ps) (1 ∷ 3 ∷ 1 ∷ 1 ∷ 1 ∷ []) [] (drop 7 (glued (h ∷ ss)))

  pub filed-leaves : all_leaves ps (h ∷ ss) ≡ headed ps after_header
  unfolding header_bytes
  filed-leaves =
      subst
      (λ (s : List ℕ). All (Without CR) (s ∷ ss)
      → all_leaves ps (s ∷ ss) ≡ headed ps (flat (CR ∷ splitting ps) (1 ∷ 3 ∷ 1 ∷ 1 ∷ 1 ∷ []) [] (drop 7 (glued (s ∷ ss)))))
      (filed-header ps h ss f) (λ w. message-flat ps (header_bytes ps ++ drop 7 h) ss (omega arith) w) f.lines

  pub filed-sound : Sound (CR ∷ splitting ps) (1 ∷ 3 ∷ 1 ∷ 1 ∷ 1 ∷ []) after_header
  filed-sound = flat_sound (CR ∷ splitting ps) (1 ∷ 3 ∷ 1 ∷ 1 ∷ 1 ∷ []) (drop 7 (glued (h ∷ ss))) none

-- a table whose leaves are so turns back to segments that can be filed, and its leaves are theirs
module _ (t : Table) {ls : List Leaf} (clear : Without CR (header_bytes (separators_in t)))
    (sound : Sound (CR ∷ splitting (separators_in t)) (1 ∷ 3 ∷ 1 ∷ 1 ∷ 1 ∷ []) ls) (are : leaves_of t ≡ headed (separators_in t) ls) where
  pub table-filed : Filed (separators_in t) (segments_of t)
  unfolding segments_of
  table-filed = rw are (sound-filed (separators_in t) clear sound)

  pub table-leaves : all_leaves (separators_in t) (segments_of t) ≡ leaves_of t
  unfolding segments_of
  table-leaves = rw are (sound-leaves (separators_in t) clear sound)
