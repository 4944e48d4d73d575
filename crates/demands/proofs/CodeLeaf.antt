-- The leaf 10.4.1 among the leaves of a message (S2, S4, S5): the text of the first leaf at that place of a segment, no text where there is none, is
-- the segment's code (X2).
-- Assumes nothing.
use mathlib.Core.Bool.{Bool, true, false}
use mathlib.Core.List.{List, [], ◌∷◌, ◌++◌}
use mathlib.Core.Path.{◌≡◌, refl, sym, ap, ap₂, ◌∙◌}
use Prim.Native.Nat.{ℕ, zero, suc, ◌+◌, ◌<◌}
use native.Mathlib.Omega.{arith}
use lib.ListN.{drop, get_or}
use borrow.Author.Tests.{eq-eqb, ne_eqb}
use Rattle.laws.specs.Lists.{same, concat, numbered}
use Rattle.laws.specs.Every.{All, none, also}
use Rattle.laws.proofs.Every.{all_append}
use Rattle.laws.proofs.Tests.{Tested, passed, failed, tested, and_passed, and_fails_first}
use Rattle.form.specs.declared.separators.Separators.{Separators}
use Rattle.form.specs.Header.{splitting}
use Rattle.form.proofs.HeaderRule.{AllAllowed, AllDifferent}
use Rattle.table.specs.Leaves.{Leaf, split, header_leaves, leaves_from, message_leaves}
use Rattle.table.specs.Rows.{all_leaves}
use Rattle.table.specs.inner.Flat.{leaf, ones, flat, under}
use Rattle.table.specs.inner.Filed.{header_bytes, Filed}
use Rattle.table.proofs.Back.{filed-some, filed-header}
use Rattle.table.proofs.Flat.{parts, flat_parts, flat-none, header-flat, segments_parts}
use Rattle.table.proofs.Splitting.{split_parts, split-joined}
use Rattle.read.specs.Codes.{part_numbered, leaf_code}

-- the text of the first of some leaves that has a place, and no text where none has it
unfoldable pub text_at_place : List ℕ → List Leaf → List ℕ
text_at_place q [] = []
text_at_place q (l ∷ ls) = elim (same l.place q) [ true ↦ l.text | false ↦ text_at_place q ls ]

-- a leaf with another place
abbrev Elsewhere : List ℕ → Leaf → Type 0
Elsewhere q l = same l.place q ≡ false

module _ (q : List ℕ) where
  pub text_at_first : (l : Leaf) (ls : List Leaf) → same l.place q ≡ true → text_at_place q (l ∷ ls) ≡ l.text
  unfolding text_at_place
  text_at_first l ls h = rw (h, text_at_place)

  pub text_at_later : (l : Leaf) (ls : List Leaf) → Elsewhere q l → text_at_place q (l ∷ ls) ≡ text_at_place q ls
  unfolding text_at_place
  text_at_later l ls h = rw (h, text_at_place)

  -- leaves elsewhere before others, and alone
  past_elsewhere : {ks : List Leaf} (ls : List Leaf) → All (Elsewhere q) ks → text_at_place q (ks ++ ls) ≡ text_at_place q ls
  past_elsewhere ls none = refl
  past_elsewhere ls (also {a = k} {s = ks} h w) = text_at_later k (ks ++ ls) h ∙ past_elsewhere ls w

  all_elsewhere : {ks : List Leaf} → All (Elsewhere q) ks → text_at_place q ks ≡ []
  unfolding text_at_place
  all_elsewhere none = refl
  all_elsewhere (also {a = k} {s = ks} h w) = text_at_later k ks h ∙ all_elsewhere w

  -- leaves that have no text at the place, behind others
  textless_behind : (ks ls : List Leaf) → text_at_place q ls ≡ [] → text_at_place q (ks ++ ls) ≡ text_at_place q ks
  unfolding text_at_place
  textless_behind [] ls h = h
  textless_behind (k ∷ ks) ls h =
      ap {B = List ℕ} (λ (r : List ℕ). elim (same k.place q) [ true ↦ k.text | false ↦ r ]) (textless_behind ks ls h)

-- leaves under a number: that of the place, or another
module _ (q : List ℕ) where
  under_here : (n : ℕ) (ls : List Leaf) → text_at_place (n ∷ q) (under (n ∷ []) ls) ≡ text_at_place q ls
  unfolding text_at_place under same
  under_here n [] = refl
  under_here n (l ∷ ls) =
      ap₂ {C = List ℕ} (λ (b : Bool) (r : List ℕ). elim b [ true ↦ l.text | false ↦ r ])
      (and_passed (same l.place q) (eq-eqb n n refl)) (under_here n ls)

  under_elsewhere : (n m : ℕ) → (n ≡ m → ⊥) → (ls : List Leaf) → All (Elsewhere (m ∷ q)) (under (n ∷ []) ls)
  unfolding under same
  under_elsewhere n m other [] = none
  under_elsewhere n m other (l ∷ ls) = also (and_fails_first (same l.place q) (ne_eqb n m other)) (under_elsewhere n m other ls)

  module _ (finer : List ℕ) where
    -- numbered parts: none of them has a number before the first
    parts_elsewhere : (n m : ℕ) → m < n → (ts : List (List ℕ)) → All (Elsewhere (m ∷ q)) (parts finer n ts)
    unfolding numbered
    parts_elsewhere n m h [] = none
    parts_elsewhere n m h (t ∷ ts) =
        all_append (under_elsewhere n m (λ e. omega (arith, e, h)) (flat finer (ones finer) [] t)) (parts_elsewhere (suc n) m (omega (arith, h)) ts)

    -- a text without bytes has only leaves without
    empty_text : text_at_place q (flat finer (ones finer) [] []) ≡ []
    unfolding flat text_at_place
    empty_text = go (tested (same (ones finer) q))
      where
        go : Tested (same (ones finer) q) → text_at_place q (leaf (ones finer) [] ∷ []) ≡ []
        go (passed h) = text_at_first q (leaf (ones finer) []) [] h
        go (failed h) = text_at_later q (leaf (ones finer) []) [] h

    -- so a place in part k, counted from 0, is looked for in that part
    part_text : (n k : ℕ) (ts : List (List ℕ))
        → text_at_place ((n + k) ∷ q) (parts finer n ts) ≡ text_at_place q (flat finer (ones finer) [] (get_or ts k []))
    unfolding numbered text_at_place
    part_text n k [] = sym empty_text
    part_text n zero (t ∷ ts) =
        ap (λ (m : ℕ). text_at_place (m ∷ q) (parts finer n (t ∷ ts))) (let e : n + 0 ≡ n = omega arith in e)
        ∙ textless_behind (n ∷ q) (under (n ∷ []) (flat finer (ones finer) [] t)) (parts finer (suc n) ts)
        (all_elsewhere (n ∷ q) (parts_elsewhere (suc n) n (omega arith) ts))
        ∙ under_here n (flat finer (ones finer) [] t)
    part_text n (suc k) (t ∷ ts) =
        past_elsewhere ((n + suc k) ∷ q) (parts finer (suc n) ts)
        (under_elsewhere n (n + suc k) (λ e. omega (arith, e)) (flat finer (ones finer) [] t))
        ∙ ap (λ (m : ℕ). text_at_place (m ∷ q) (parts finer (suc n) ts)) (let e : n + suc k ≡ suc n + k = omega arith in e)
        ∙ part_text (suc n) k ts

    -- and in a text that a separator parts
    split_text : (p n k : ℕ) (s : List ℕ)
        → text_at_place ((n + k) ∷ q) (flat (p ∷ finer) (n ∷ ones finer) [] s) ≡ text_at_place q (flat finer (ones finer) [] (part_numbered p k s))
    unfolding numbered
    split_text p n k s =
        ap (text_at_place ((n + k) ∷ q)) (flat_parts p finer n (ones finer) [] s ∙ ap (parts finer n) (sym (split_parts p s)))
        ∙ part_text n k (split p s)

-- the place of a leaf of a field in its first repetition, subfield and sub-subfield
abbrev three_ones : List ℕ
three_ones = 1 ∷ 1 ∷ 1 ∷ []

abbrev pub code_place : ℕ → List ℕ
code_place row = row ∷ 4 ∷ three_ones

module _ (ps : Separators) where
  -- the first leaf of a field
  field_leaf : (s : List ℕ)
      → text_at_place three_ones (flat (ps.repeater ∷ ps.subfield ∷ ps.subsubfield ∷ []) three_ones [] s)
      ≡ part_numbered ps.subsubfield 0 (part_numbered ps.subfield 0 (part_numbered ps.repeater 0 s))
  unfolding ones text_at_place same
  field_leaf s =
      let repetition = part_numbered ps.repeater 0 s in
      let subfield = part_numbered ps.subfield 0 repetition in
      split_text (1 ∷ 1 ∷ []) (ps.subfield ∷ ps.subsubfield ∷ []) ps.repeater 1 0 s
      ∙ split_text (1 ∷ []) (ps.subsubfield ∷ []) ps.subfield 1 0 repetition
      ∙ split_text [] [] ps.subsubfield 1 0 subfield
      ∙ ap (text_at_place []) (flat-none [] [] (part_numbered ps.subsubfield 0 subfield))

  -- that of field 4 of a segment
  segment-code : (s : List ℕ) → text_at_place (4 ∷ three_ones) (flat (splitting ps) (ones (splitting ps)) [] s) ≡ leaf_code ps s
  unfolding splitting ones leaf_code
  segment-code s =
      split_text three_ones (ps.repeater ∷ ps.subfield ∷ ps.subsubfield ∷ []) ps.field 1 3 s ∙ field_leaf (part_numbered ps.field 3 s)

  -- and of the H, whose fields count from 3 behind its seven bytes
  module _ (allowed : AllAllowed ps) (different : AllDifferent ps) where
    header-split : (rest : List ℕ)
        → split ps.field (header_bytes ps ++ rest)
        ≡ (72 ∷ []) ∷ (ps.subfield ∷ ps.repeater ∷ ps.escape ∷ ps.subsubfield ∷ []) ∷ split ps.field rest
    unfolding header_bytes
    header-split rest =
        let f = ps.field in
        let others = ps.subfield ∷ ps.repeater ∷ ps.escape ∷ ps.subsubfield ∷ [] in
        split-joined f (others ++ (f ∷ rest)) (also (ne_eqb 72 f (λ e. allowed.field.no_capital (omega (arith, e)) (omega (arith, e)))) none)
        ∙ ap {B = List (List ℕ)} (λ r. (72 ∷ []) ∷ r)
        (split-joined f rest
        (also (ne_eqb ps.subfield f (λ e. different.field_subfield (sym e)))
        (also (ne_eqb ps.repeater f (λ e. different.field_repeater (sym e)))
        (also (ne_eqb ps.escape f (λ e. different.field_escape (sym e)))
        (also (ne_eqb ps.subsubfield f (λ e. different.field_subsubfield (sym e))) none)))))

    header-code : (rest : List ℕ)
        → text_at_place (4 ∷ three_ones) (flat (splitting ps) (3 ∷ three_ones) [] rest) ≡ leaf_code ps (header_bytes ps ++ rest)
    unfolding splitting ones leaf_code
    header-code rest =
        split_text three_ones (ps.repeater ∷ ps.subfield ∷ ps.subsubfield ∷ []) ps.field 3 1 rest
        ∙ field_leaf (part_numbered ps.field 1 rest)
        ∙ ap (λ (ts : List (List ℕ)).
        part_numbered ps.subsubfield 0 (part_numbered ps.subfield 0 (part_numbered ps.repeater 0 (get_or ts 3 []))))
        (sym (header-split rest))

  -- of all leaves of a message
  module _ (h : List ℕ) (ss : List (List ℕ)) where
    header_elsewhere : (j : ℕ) → All (Elsewhere (code_place (suc (suc j)))) (header_leaves ps h)
    unfolding same
    header_elsewhere j =
        let other : (q : List ℕ) → same (1 ∷ q) (code_place (suc (suc j))) ≡ false
        = λ q. and_fails_first (same q (4 ∷ three_ones)) (ne_eqb 1 (suc (suc j)) (λ e. omega (arith, e))) in
        rw (header-flat ps h)
        (also (other (1 ∷ three_ones))
        (also (other (2 ∷ three_ones))
        (under_elsewhere (4 ∷ three_ones) 1 (suc (suc j)) (λ e. omega (arith, e)) (flat (splitting ps) (3 ∷ three_ones) [] (drop 7 h)))))

    later-segment : (j : ℕ) → text_at_place (code_place (suc (suc j))) (all_leaves ps (h ∷ ss)) ≡ leaf_code ps (get_or ss j [])
    unfolding all_leaves message_leaves concat
    later-segment j =
        past_elsewhere (code_place (suc (suc j))) (concat (leaves_from ps 2 ss)) (header_elsewhere j)
        ∙ ap₂ (λ (n : ℕ) (ls : List Leaf). text_at_place (code_place n) ls) (let e : suc (suc j) ≡ 2 + j = omega arith in e) (segments_parts ps 2 ss)
        ∙ part_text (4 ∷ three_ones) (splitting ps) 2 j ss
        ∙ segment-code (get_or ss j [])

    first-segment : AllAllowed ps → AllDifferent ps → header_bytes ps ++ drop 7 h ≡ h → text_at_place (code_place 1) (all_leaves ps (h ∷ ss)) ≡ leaf_code ps h
    unfolding all_leaves message_leaves concat text_at_place same
    first-segment allowed different begins =
        textless_behind (code_place 1) (header_leaves ps h) (concat (leaves_from ps 2 ss))
        (ap (text_at_place (code_place 1)) (segments_parts ps 2 ss)
        ∙ all_elsewhere (code_place 1) (parts_elsewhere (4 ∷ three_ones) (splitting ps) 2 1 (omega arith) ss))
        ∙ ap (text_at_place (code_place 1)) (header-flat ps h)
        ∙ under_here (4 ∷ three_ones) 1 (flat (splitting ps) (3 ∷ three_ones) [] (drop 7 h))
        ∙ header-code allowed different (drop 7 h)
        ∙ ap (leaf_code ps) begins

-- of filed segments the first leaf at that place of segment i, counted from 0, has the segment's code as its text
pub code-leaf : (ps : Separators) → AllAllowed ps → AllDifferent ps → (segments : List (List ℕ)) → Filed ps segments
    → (i : ℕ) → text_at_place (code_place (suc i)) (all_leaves ps segments) ≡ leaf_code ps (get_or segments i [])
code-leaf ps allowed different [] f i = absurd (filed-some ps f)
code-leaf ps allowed different (h ∷ ss) f zero = first-segment ps h ss allowed different (filed-header ps h ss f)
code-leaf ps allowed different (h ∷ ss) f (suc j) = later-segment ps h ss j
