-- The leaves of a table: the header's two and the others, and what the segments of the leaves of filed segments are.
-- Assumes nothing.
use mathlib.Core.List.{List, [], ◌∷◌, map}
use mathlib.Core.Path.{◌≡◌, refl, sym, ap, ap₂, ◌∙◌}
use Prim.Native.Nat.{ℕ, zero, suc}
use native.Mathlib.Omega.{arith}
use lib.ListN.{length, drop, get_or}
use Rattle.laws.specs.Lists.{sum_of}
use Rattle.laws.specs.Tables.{values}
use Rattle.laws.proofs.Tables.{length-values}
use Rattle.form.specs.declared.limits.Limits.{Limits}
use Rattle.form.specs.declared.separators.Separators.{Separators}
use Rattle.form.specs.Limits.{Lawful}
use Rattle.form.specs.Header.{splitting}
use Rattle.form.proofs.HeaderRule.{AllAllowed}
use Rattle.line.specs.Lines.{CR}
use Rattle.line.specs.Cutting.{cuts, unlines}
use Rattle.table.specs.Leaves.{Leaf, message_leaves}
use Rattle.table.specs.inner.Flat.{leaf}
use Rattle.table.specs.inner.Filed.{header_bytes, Filed}
use Rattle.table.specs.Rows.{Table, kinds_of, context_in, all_leaves}
use Rattle.table.specs.inner.Back.{leaf_at, leaves_of, separators_at, separators_in}
use Rattle.table.specs.inner.Sound.{Sound, last, next}
use Rattle.table.specs.inner.BySegment.{by_segment, kind_among, context_among, written_bytes}
use Rattle.table.proofs.BySegment.{segments-found, length-message_leaves}
use Rattle.table.proofs.FieldNames.{kinds-among, context-among}
use Rattle.table.proofs.SegmentBytes.{filed-bytes}
use Rattle.table.proofs.SoundTables.{headed}
use Rattle.write.specs.inner.Local.{groups_of, kinds_among, HeaderRows, third_place}

-- a text of four bytes is its four bytes
four_bytes : (s : List ℕ) → length s ≡ 4 → s ≡ get_or s 0 0 ∷ get_or s 1 0 ∷ get_or s 2 0 ∷ get_or s 3 0 ∷ []
four_bytes [] h = absurd (omega arith)
four_bytes (a ∷ []) h = absurd (omega arith)
four_bytes (a ∷ b ∷ []) h = absurd (omega arith)
four_bytes (a ∷ b ∷ c ∷ []) h = absurd (omega arith)
four_bytes (a ∷ b ∷ c ∷ d ∷ []) h = refl
four_bytes (a ∷ b ∷ c ∷ d ∷ e ∷ s) h = absurd (omega arith)

sound-some : {ps place : List ℕ} {ls : List Leaf} → Sound ps place ls → ls ≡ [] → ⊥
sound-some (last w) e = let z : ◌≡◌ {A = ℕ} 0 1 = cc in omega arith
sound-some (next b w h others) e = let z : ◌≡◌ {A = ℕ} 0 1 = cc in omega arith

-- sound leaves from the third on: there are three at least, and the first two stand before them
two_first : (f : ℕ → Leaf) (n : ℕ) (ps place : List ℕ) → Sound ps place (drop 2 (values f 0 n))
    → values f 0 n ≡ f 0 ∷ f 1 ∷ drop 2 (values f 0 n)
unfolding values
two_first f zero ps place h = absurd (sound-some h refl)
two_first f (suc zero) ps place h = absurd (sound-some h refl)
two_first f (suc (suc n)) ps place h = refl

-- so a table's leaves are the header's two and the others
pub headed_leaves : (t : Table) → HeaderRows t → Sound (CR ∷ splitting (separators_in t)) third_place (drop 2 (leaves_of t))
    → leaves_of t ≡ headed (separators_in t) (drop 2 (leaves_of t))
unfolding leaves_of header_bytes separators_at
headed_leaves t w others =
    two_first (leaf_at t.leaf_rows t.text) t.card.leaves (CR ∷ splitting (separators_in t)) third_place others
    ∙ ap₂ (λ (l m : Leaf). l ∷ m ∷ drop 2 (leaves_of t)) w.first
    (ap₂ leaf w.second (four_bytes (leaf_at t.leaf_rows t.text 1).text w.four))

-- what the segments of a table's leaves are, where these are the leaves of segments that can be filed
module _ (t : Table) (ps : Separators) (allowed : AllAllowed ps) (ss : List (List ℕ)) (filed : Filed ps ss)
    (leaves : all_leaves ps ss ≡ leaves_of t) where
  pub same_groups : groups_of t ≡ message_leaves ps ss
  unfolding groups_of
  same_groups = ap by_segment (sym leaves) ∙ segments-found ps ss

  pub same-kinds : kinds_among t ≡ kinds_of ps ss
  unfolding kinds_among
  same-kinds = ap (map kind_among) same_groups ∙ kinds-among ps allowed ss filed

  pub same-context : context_among (groups_of t) ≡ context_in ps ss
  same-context = ap context_among same_groups ∙ context-among ps allowed ss filed

  pub same_count : length (groups_of t) ≡ length ss
  same_count = ap length same_groups ∙ length-message_leaves ps ss

  pub same_bytes : (L : Limits) → Lawful L → sum_of (written_bytes L) (groups_of t) ≡ length (unlines (cuts L ps.field ss))
  same_bytes L lawful = ap (sum_of (written_bytes L)) same_groups ∙ sym (filed-bytes ps L lawful ss filed)

  pub leaf-count : t.card.leaves ≡ length (all_leaves ps ss)
  unfolding leaves_of
  leaf-count = sym (ap length leaves ∙ length-values (leaf_at t.leaf_rows t.text) 0 t.card.leaves)
