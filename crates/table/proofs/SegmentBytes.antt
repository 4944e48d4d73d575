-- Bytes by leaves (S3, W1): the bytes of each segment and those written for it, counted from its leaves; and a message's
-- bytes are all text exactly where its leaves' texts are.
-- Assumes nothing.
use mathlib.Core.List.{List, [], ◌∷◌, ◌++◌}
use mathlib.Core.Path.{◌≡◌, refl, ap, ap₂, ◌∙◌}
use Prim.Native.Nat.{ℕ, suc, ◌+◌, ◌-◌, ◌≤◌}
use native.Mathlib.Omega.{arith}
use lib.ListN.{length, take, drop, length-append, length-take, length-drop}
use Rattle.laws.specs.Lists.{concat, sum_of}
use Rattle.form.specs.declared.limits.Limits.{Limits}
use Rattle.form.specs.declared.separators.Separators.{Separators}
use Rattle.form.specs.Limits.{Lawful}
use Rattle.form.specs.Header.{splitting}
use Rattle.form.proofs.RoundedUp.{line_count-addenda}
use Rattle.line.specs.Cutting.{cut, cuts, unlines}
use Rattle.line.proofs.Cutting.{cuts_nil, cuts_cons, unlines_nil, unlines-append, length-unlines-cut}
use Rattle.table.specs.Leaves.{Leaf, segment_leaves, header_leaves, leaves_from, message_leaves}
use Rattle.table.specs.Rows.{text_of}
use Rattle.table.specs.inner.Flat.{flat, under}
use Rattle.table.specs.inner.Filed.{header_bytes, Filed}
use Rattle.table.specs.inner.BySegment.{segment_bytes, written_bytes}
use Rattle.table.proofs.Flat.{head_leaf, separators_leaf, segment-flat, header-flat}
use Rattle.table.proofs.Back.{filed-some}
use Rattle.table.proofs.LeafRows.{text_of_append}
use Rattle.table.proofs.Counting.{length_text_of, length-segment_leaves, length-header_leaves}

-- numbers in front of places change no text
pub text_of_under : (pre : List ℕ) (ls : List Leaf) → text_of (under pre ls) ≡ text_of ls
unfolding text_of under
text_of_under pre [] = refl
text_of_under pre (l ∷ ls) = ap (λ (r : List ℕ). l.text ++ r) (text_of_under pre ls)

-- the texts of a header's leaves: five bytes, and those of the others
header-texts : (h : List ℕ) (ls : List Leaf) → 7 ≤ length h
    → length (text_of (head_leaf h ∷ separators_leaf h ∷ ls)) ≡ 5 + length (text_of ls)
unfolding text_of
header-texts h ls long =
    omega (
      arith,
      length-append (take 1 h) (take 4 (drop 2 h) ++ text_of ls),
      length-append (take 4 (drop 2 h)) (text_of ls),
      length-take 1 h,
      length-take 4 (drop 2 h),
      length-drop 2 h,
    )

-- what is written holds the texts at least
pub texts-written : (L : Limits) → Lawful L → (groups : List (List Leaf)) → length (text_of (concat groups)) ≤ sum_of (written_bytes L) groups
unfolding concat text_of sum_of written_bytes segment_bytes
texts-written L lawful [] = omega arith
texts-written L lawful (g ∷ gs) =
    omega (
      arith,
      texts-written L lawful gs,
      ap length (text_of_append g (concat gs)),
      length-append (text_of g) (text_of (concat gs)),
      line_count-addenda L lawful (length (text_of g) + (length g - 1)),
    )

module _ (ps : Separators) where
  -- a segment's bytes
  pub segment-bytes : (n : ℕ) (s : List ℕ) → segment_bytes (segment_leaves ps n s) ≡ length s
  unfolding segment_bytes
  segment-bytes n s =
      omega (
        arith,
        length-segment_leaves ps n s,
        ap (λ (ls : List Leaf). length (text_of ls)) (segment-flat ps n s),
        ap length (text_of_under (n ∷ []) (flat (splitting ps) (1 ∷ 1 ∷ 1 ∷ 1 ∷ []) [] s)),
        length_text_of (splitting ps) (1 ∷ 1 ∷ 1 ∷ 1 ∷ []) [] s,
      )

  -- those of the first: its two first leaves stand for the seven header bytes
  pub header-bytes : (h : List ℕ) → 7 ≤ length h → segment_bytes (header_leaves ps h) ≡ length h
  unfolding segment_bytes
  header-bytes h long =
      omega (
        arith,
        length-header_leaves ps h,
        ap (λ (ls : List Leaf). length (text_of ls)) (header-flat ps h),
        header-texts h (under (1 ∷ []) rest) long,
        ap length (text_of_under (1 ∷ []) rest),
        length_text_of (splitting ps) (3 ∷ 1 ∷ 1 ∷ 1 ∷ []) [] (drop 7 h),
        length-drop 7 h,
      )
    where
      rest : List Leaf
      rest = flat (splitting ps) (3 ∷ 1 ∷ 1 ∷ 1 ∷ []) [] (drop 7 h)

  -- the bytes written for one segment, for those after the first, for all
  module _ (L : Limits) (lawful : Lawful L) where
    cut-bytes : (ls : List Leaf) (s : List ℕ) → segment_bytes ls ≡ length s → length (unlines (cut L ps.field s)) ≡ written_bytes L ls
    unfolding written_bytes
    cut-bytes ls s e =
        rw e (omega (arith, length-unlines-cut L lawful ps.field s))

    later-bytes : (n : ℕ) (ss : List (List ℕ)) → length (unlines (cuts L ps.field ss)) ≡ sum_of (written_bytes L) (leaves_from ps n ss)
    unfolding leaves_from sum_of
    later-bytes n [] = ap (λ (ls : List (List ℕ)). length (unlines ls)) (cuts_nil L ps.field) ∙ ap length unlines_nil
    later-bytes n (s ∷ ss) =
        ap length (ap unlines (cuts_cons L ps.field s ss) ∙ unlines-append (cut L ps.field s) (cuts L ps.field ss))
        ∙ length-append (unlines (cut L ps.field s)) (unlines (cuts L ps.field ss))
        ∙ ap₂ (λ (x y : ℕ). x + y) (cut-bytes (segment_leaves ps n s) s (segment-bytes n s)) (later-bytes (suc n) ss)

    pub message-bytes : (h : List ℕ) (ss : List (List ℕ)) → 7 ≤ length h
        → length (unlines (cuts L ps.field (h ∷ ss))) ≡ sum_of (written_bytes L) (message_leaves ps (h ∷ ss))
    unfolding message_leaves sum_of
    message-bytes h ss long =
        ap length (ap unlines (cuts_cons L ps.field h ss) ∙ unlines-append (cut L ps.field h) (cuts L ps.field ss))
        ∙ length-append (unlines (cut L ps.field h)) (unlines (cuts L ps.field ss))
        ∙ ap₂ (λ (x y : ℕ). x + y) (cut-bytes (header_leaves ps h) h (header-bytes h long)) (later-bytes 2 ss)

    -- all that is written for segments that can be filed
    pub filed-bytes : (ss : List (List ℕ)) → Filed ps ss → length (unlines (cuts L ps.field ss)) ≡ sum_of (written_bytes L) (message_leaves ps ss)
    unfolding header_bytes
    filed-bytes [] f = absurd (filed-some ps f)
    filed-bytes (h ∷ ss) f = message-bytes h ss (omega (arith, length-take 7 h, ap length f.header))
