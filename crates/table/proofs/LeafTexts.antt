-- A message's segments are text, no byte below 32, exactly where its leaves' texts are.
-- Assumes nothing.
use mathlib.Core.Bool.{true, false}
use mathlib.Core.List.{List, [], ◌∷◌, ◌++◌, append-nil}
use mathlib.Core.Logic.{◌⊎◌, inl, inr, ◌↔◌}
use mathlib.Core.Path.{◌≡◌, refl, sym, ap, ◌∙◌, subst}
use Prim.Native.Nat.{ℕ, ◌≤◌}
use native.Mathlib.Omega.{arith}
use lib.Dec.{eqb}
use lib.ListN.{length, drop, length-take}
use borrow.Author.Tests.{eqb-true, eq-eqb}
use Rattle.laws.specs.Lists.{among}
use Rattle.laws.specs.Every.{All, none, also}
use Rattle.laws.proofs.Every.{all_append, all_left, all_right, all_first, all_rest, all_drop}
use Rattle.laws.proofs.Lists.{among_hit, among_miss}
use Rattle.laws.proofs.Tests.{Tested, passed, failed, tested, never_both}
use Rattle.form.specs.declared.separators.Separators.{Separators}
use Rattle.form.specs.Header.{splitting}
use Rattle.form.proofs.HeaderRule.{AllAllowed}
use Rattle.line.specs.Lines.{CR, space}
use Rattle.line.specs.inner.Sound.{Text}
use Rattle.table.specs.Leaves.{Leaf}
use Rattle.table.specs.Rows.{text_of, all_leaves}
use Rattle.table.specs.inner.Flat.{raised, flat, Without, glued_to, glued}
use Rattle.table.specs.inner.Filed.{header_bytes, Filed}
use Rattle.table.proofs.Flat.{flat_separator, flat-text, drop-glued_to}
use Rattle.table.proofs.Back.{filed-some, filed-header}
use Rattle.table.proofs.SoundTables.{headed, after_header, filed-leaves}
use Rattle.table.proofs.HeaderBytes.{header-text}

-- bytes of which none is below 32
abbrev pub AllText : List ℕ → Type 0
AllText s = All (λ (b : ℕ). space ≤ b) s

-- a byte of glued segments: CR, or one of text
abbrev LineByte : ℕ → Type 0
LineByte b = (b ≡ CR) ⊎ (space ≤ b)

-- a flat split by CR and others: its texts are text where the bytes are, CR aside
module _ (ps : List ℕ) where
  no_separator : (b : ℕ) → among (CR ∷ ps) b ≡ false → LineByte b → space ≤ b
  no_separator b h (inl e) = absurd (never_both (among_hit CR ps b (eq-eqb b CR e)) h)
  no_separator b h (inr e) = e

  flat-texts : (place text : List ℕ) {s : List ℕ} → AllText text → All LineByte s → AllText (text_of (flat (CR ∷ ps) place text s))
  unfolding flat text_of
  flat-texts place text v none = rw (append-nil text) v
  flat-texts place text v (also {a = b} {s = s} h w) =
      go (tested (among (CR ∷ ps) b)) (flat-texts (raised (CR ∷ ps) b place) [] none w) (λ u. flat-texts place (text ++ (b ∷ [])) u w)
    where
      go : Tested (among (CR ∷ ps) b) → AllText (text_of (flat (CR ∷ ps) (raised (CR ∷ ps) b place) [] s))
          → (AllText (text ++ (b ∷ [])) → AllText (text_of (flat (CR ∷ ps) place (text ++ (b ∷ [])) s)))
          → AllText (text_of (flat (CR ∷ ps) place text (b ∷ s)))
      go (passed e) closed begun = rw (flat_separator (CR ∷ ps) place text b s e) (all_append v closed)
      go (failed e) closed begun =
          rw (flat-text (CR ∷ ps) place text b s e) (begun (all_append v (also (no_separator b e h) none)))

  -- the text of the leaf begun is among them
  text-begun : (place text s : List ℕ) → AllText (text_of (flat (CR ∷ ps) place text s)) → AllText text
  unfolding flat text_of
  text-begun place text [] w = all_left text [] w
  text-begun place text (b ∷ s) w = go (tested (among (CR ∷ ps) b)) (text-begun place (text ++ (b ∷ [])) s)
    where
      go : Tested (among (CR ∷ ps) b) → (AllText (text_of (flat (CR ∷ ps) place (text ++ (b ∷ [])) s)) → AllText (text ++ (b ∷ [])))
          → AllText text
      go (passed e) ih = all_left text (text_of (flat (CR ∷ ps) (raised (CR ∷ ps) b place) [] s)) (rw (flat_separator (CR ∷ ps) place text b s e) at w)
      go (failed e) ih = all_left text (b ∷ []) (ih (rw (flat-text (CR ∷ ps) place text b s e) at w))

  -- and the bytes are text where the texts and the separators are
  module _ (separators : (b : ℕ) → among ps b ≡ true → space ≤ b) where
    separator_byte : (b : ℕ) → among (CR ∷ ps) b ≡ true → LineByte b
    separator_byte b h = go (tested (eqb b CR))
      where
        go : Tested (eqb b CR) → LineByte b
        go (passed e) = inl (eqb-true b CR e)
        go (failed e) = inr (separators b (sym (among_miss CR ps b e) ∙ h))

    texts-flat : (place text s : List ℕ) → AllText (text_of (flat (CR ∷ ps) place text s)) → All LineByte s
    unfolding flat text_of
    texts-flat place text [] w = none
    texts-flat place text (b ∷ s) w =
        go (tested (among (CR ∷ ps) b)) (texts-flat (raised (CR ∷ ps) b place) [] s) (texts-flat place (text ++ (b ∷ [])) s)
      where
        go : Tested (among (CR ∷ ps) b) → (AllText (text_of (flat (CR ∷ ps) (raised (CR ∷ ps) b place) [] s)) → All LineByte s)
            → (AllText (text_of (flat (CR ∷ ps) place (text ++ (b ∷ [])) s)) → All LineByte s) → All LineByte (b ∷ s)
        go (passed e) closed begun =
            also (separator_byte b e)
            (closed (all_right text (text_of (flat (CR ∷ ps) (raised (CR ∷ ps) b place) [] s)) (rw (flat_separator (CR ∷ ps) place text b s e) at w)))
        go (failed e) closed begun =
            let v : AllText (text_of (flat (CR ∷ ps) place (text ++ (b ∷ [])) s)) = rw (flat-text (CR ∷ ps) place text b s e) at w in
            also (inr (all_first (all_right text (b ∷ []) (text-begun place (text ++ (b ∷ [])) s v)))) (begun v)

-- glued segments
line-bytes : (s : List ℕ) → Text s → All LineByte s
line-bytes [] w = none
line-bytes (b ∷ s) (also h w) = also (inr h) (line-bytes s w)

glued-bytes : (s : List ℕ) (ss : List (List ℕ)) → All Text (s ∷ ss) → All LineByte (glued_to s ss)
unfolding glued_to
glued-bytes s [] w = line-bytes s (all_first w)
glued-bytes s (t ∷ ts) (also h w) = all_append (line-bytes s h) (also (inl refl) (glued-bytes t ts w))

clear-text : {s : List ℕ} → All LineByte s → Without CR s → Text s
clear-text none v = none
clear-text (also {a = b} (inl e) w) (also no-cr v) = absurd (never_both (eq-eqb b CR e) no-cr)
clear-text (also (inr h) w) (also no-cr v) = also h (clear-text w v)

bytes-glued : (s : List ℕ) (ss : List (List ℕ)) → All LineByte (glued_to s ss) → All (Without CR) (s ∷ ss) → All Text (s ∷ ss)
unfolding glued_to
bytes-glued s [] w (also v vs) = also (clear-text w v) none
bytes-glued s (t ∷ ts) w (also v vs) =
    also (clear-text (all_left s (CR ∷ glued_to t ts) w) v) (bytes-glued t ts (all_rest (all_right s (CR ∷ glued_to t ts) w)) vs)

-- the leaves of filed segments
module _ (ps : Separators) (allowed : AllAllowed ps) where
  splitting-text : (b : ℕ) → among (splitting ps) b ≡ true → space ≤ b
  unfolding splitting among
  splitting-text b h = go (tested (eqb b ps.field)) (tested (eqb b ps.repeater)) (tested (eqb b ps.subfield)) (tested (eqb b ps.subsubfield))
    where
      go : Tested (eqb b ps.field) → Tested (eqb b ps.repeater) → Tested (eqb b ps.subfield) → Tested (eqb b ps.subsubfield) → space ≤ b
      go (passed e) r s x = omega (arith, eqb-true b ps.field e, allowed.field.low)
      go (failed f) (passed e) s x = omega (arith, eqb-true b ps.repeater e, allowed.repeater.low)
      go (failed f) (failed r) (passed e) x = omega (arith, eqb-true b ps.subfield e, allowed.subfield.low)
      go (failed f) (failed r) (failed s) (passed e) = omega (arith, eqb-true b ps.subsubfield e, allowed.subsubfield.low)
      go (failed f) (failed r) (failed s) (failed x) =
          absurd
          (never_both h
          (among_miss ps.field (ps.repeater ∷ ps.subfield ∷ ps.subsubfield ∷ []) b f
          ∙ among_miss ps.repeater (ps.subfield ∷ ps.subsubfield ∷ []) b r
          ∙ among_miss ps.subfield (ps.subsubfield ∷ []) b s
          ∙ among_miss ps.subsubfield [] b x))

  pub headed_text : (ls : List Leaf) → AllText (text_of ls) → AllText (text_of (headed ps ls))
  unfolding header_bytes text_of
  headed_text ls w =
      let v = header-text ps allowed in
      also (all_first v) (all_append (all_left (ps.subfield ∷ ps.repeater ∷ ps.escape ∷ ps.subsubfield ∷ []) (ps.field ∷ []) (all_drop 2 v)) w)

  module _ (h : List ℕ) (ss : List (List ℕ)) (f : Filed ps (h ∷ ss)) where
    long : 7 ≤ length h
    unfolding header_bytes
    long = omega (arith, length-take 7 h, ap length f.header)

    rest-glued : drop 7 (glued (h ∷ ss)) ≡ glued_to (drop 7 h) ss
    unfolding glued
    rest-glued = drop-glued_to 7 h ss long

    pub segments-text : All Text (h ∷ ss) → AllText (text_of (all_leaves ps (h ∷ ss)))
    segments-text w =
        rw (filed-leaves ps h ss f)
        (headed_text (after_header ps h ss f)
        (flat-texts (splitting ps) (1 ∷ 3 ∷ 1 ∷ 1 ∷ 1 ∷ []) [] none
        (rw rest-glued (glued-bytes (drop 7 h) ss (also (all_drop 7 (all_first w)) (all_rest w))))))

    pub text-segments : AllText (text_of (all_leaves ps (h ∷ ss))) → All Text (h ∷ ss)
    unfolding text_of header_bytes
    text-segments w =
        let others : AllText (text_of (after_header ps h ss f)) = all_drop 5 (rw (filed-leaves ps h ss f) at w) in
        let bytes : All LineByte (glued_to (drop 7 h) ss) =
        rw rest-glued at (texts-flat (splitting ps) splitting-text (1 ∷ 3 ∷ 1 ∷ 1 ∷ 1 ∷ []) [] (drop 7 (glued (h ∷ ss))) others) in
        let parts : All Text (drop 7 h ∷ ss) = bytes-glued (drop 7 h) ss bytes (also (all_drop 7 (all_first f.lines)) (all_rest f.lines)) in
        also (subst Text (filed-header ps h ss f) (all_append (header-text ps allowed) (all_first parts))) (all_rest parts)

  -- a message's segments are text exactly where its leaves' texts are
  pub text-leaves : (ss : List (List ℕ)) → Filed ps ss → All Text ss ↔ AllText (text_of (all_leaves ps ss))
  text-leaves [] f = absurd (filed-some ps f)
  text-leaves (h ∷ ss) f = (segments-text h ss f, text-segments h ss f)
