-- The local conditions say exactly whether some message reads to a table (W4): what a writer tests row by row.
-- Assumes nothing.
use mathlib.Core.Bool.{true}
use mathlib.Core.List.{List, [], ◌∷◌}
use mathlib.Core.Logic.{◌↔◌}
use mathlib.Core.Path.{◌≡◌, refl, sym, ap, ap₂, ◌∙◌, subst}
use Prim.Native.Nat.{ℕ, ◌≤◌, ◌<◌}
use native.Mathlib.Omega.{arith}
use lib.ListN.{length, drop, get_or}
use Rattle.laws.specs.Every.{All}
use Rattle.laws.specs.Lists.{sum_of}
use Rattle.laws.proofs.Every.{all_from}
use Rattle.laws.proofs.Tables.{get_or_values}
use Rattle.form.specs.declared.limits.Limits.{Limits}
use Rattle.form.specs.declared.separators.Separators.{Separators}
use Rattle.form.specs.Limits.{Lawful}
use Rattle.form.specs.Header.{all_allowed, different, five, splitting}
use Rattle.form.proofs.HeaderRule.{AllAllowed, AllDifferent, all-allowed_facts, facts_all_allowed, different_facts, facts_different}
use Rattle.line.specs.Lines.{CR}
use Rattle.line.specs.Cutting.{cuts, unlines}
use Rattle.line.proofs.Fewest.{least-message}
use Rattle.line.proofs.Written.{Worded}
use Rattle.order.specs.inner.Place.{misplaced}
use Rattle.order.specs.Owners.{owners}
use Rattle.table.specs.Leaves.{Leaf}
use Rattle.table.specs.inner.Flat.{leaf}
use Rattle.table.specs.inner.Filed.{header_bytes, Filed}
use Rattle.table.specs.Rows.{Table, kinds_of, context_in, segment_rows_of, leaf_rows_from, text_of, all_leaves, table_of}
use Rattle.table.specs.Reading.{Room, stated}
use Rattle.table.specs.inner.Back.{leaf_at, leaves_of, separators_at, separators_in, segments_of, lines_of, written}
use Rattle.table.specs.inner.Sound.{Sound}
use Rattle.table.specs.inner.BySegment.{written_bytes}
use Rattle.table.proofs.Accepting.{Known, Judged, Accepted, accepting}
use Rattle.table.proofs.Back.{filed-some, separators_in-table}
use Rattle.table.proofs.Filing.{segments_of_accepted, accepted-header, accepted_worded, accepted-filed, all_worded}
use Rattle.table.proofs.HeaderBytes.{header-clear}
use Rattle.table.proofs.LeafTexts.{AllText, text-leaves}
use Rattle.table.proofs.LeafRows.{leaves_of-table}
use Rattle.table.proofs.Room.{stated-roomy}
use Rattle.table.proofs.SoundTables.{headed, after_header, filed-leaves, filed-sound, table-filed, table-leaves}
use Rattle.write.specs.inner.Local.{groups_of, kinds_among, third_place, Local}
use Rattle.write.specs.Writing.{ReadTo}
use Rattle.write.specs.inner.ReadsBack.{reads_back}
use Rattle.write.proofs.TableLeaves.{headed_leaves, same_groups, same-kinds, same-context, same_count, same_bytes, leaf-count}
use Rattle.write.proofs.SameTables.{same_numbers, same_parts}
use Rattle.write.proofs.RoundTrip.{written-accepted, reads_back_lem, reads_same}

-- a table that meets them
module _ {L : Limits} {levels : ℕ → ℕ → ℕ} {t : Table} (lawful : Lawful L) (w : Local L levels t) where
  all-allowed : AllAllowed (separators_in t)
  all-allowed = all-allowed_facts (separators_in t) w.header.allowed

  leaves_headed : leaves_of t ≡ headed (separators_in t) (drop 2 (leaves_of t))
  leaves_headed = headed_leaves t w.header w.others

  pub local_filed : Filed (separators_in t) (segments_of t)
  local_filed = table-filed t (header-clear (separators_in t) all-allowed) w.others leaves_headed

  pub local_leaves : all_leaves (separators_in t) (segments_of t) ≡ leaves_of t
  local_leaves = table-leaves t (header-clear (separators_in t) all-allowed) w.others leaves_headed

  kinds_are : kinds_among t ≡ kinds_of (separators_in t) (segments_of t)
  kinds_are = same-kinds t (separators_in t) all-allowed (segments_of t) local_filed local_leaves

  context_is : t.card.context ≡ context_in (separators_in t) (segments_of t)
  context_is = w.kinds.context ∙ same-context t (separators_in t) all-allowed (segments_of t) local_filed local_leaves

  leaves_are : t.card.leaves ≡ length (all_leaves (separators_in t) (segments_of t))
  leaves_are = leaf-count t (separators_in t) all-allowed (segments_of t) local_filed local_leaves

  text_is : t.text ≡ text_of (all_leaves (separators_in t) (segments_of t))
  text_is = w.text ∙ ap text_of (sym local_leaves)

  -- it is the table of its segments
  pub local_table : t ≡ table_of levels (separators_in t) (segments_of t)
  unfolding table_of separators_at
  local_table =
      same_parts t (table_of levels (separators_in t) (segments_of t))
      (same_numbers t.card (table_of levels (separators_in t) (segments_of t)).card refl context_is
      (w.segment_count ∙ same_count t (separators_in t) all-allowed (segments_of t) local_filed local_leaves)
      leaves_are
      (w.text_count ∙ ap length text_is))
      (w.segment_rows
      ∙ ap₂ (λ (ks : List ℕ) (c : ℕ). segment_rows_of ks (owners (levels c) ks) (groups_of t)) kinds_are context_is
      ∙ ap (segment_rows_of (kinds_of (separators_in t) (segments_of t)) (owners (levels (context_in (separators_in t) (segments_of t))) (kinds_of (separators_in t) (segments_of t))))
      (same_groups t (separators_in t) all-allowed (segments_of t) local_filed local_leaves))
      (w.leaf_rows ∙ ap (leaf_rows_from 0) (sym local_leaves))
      text_is

  local_judged : Judged L levels (separators_in t) (segments_of t) t
  local_judged =
      record {
        few-segments =
            omega (arith, w.segment_count, same_count t (separators_in t) all-allowed (segments_of t) local_filed local_leaves, w.few.segments);
        known = subst Known kinds_are w.kinds.known;
        context = λ e. w.kinds.named (context_is ∙ e);
        ordered = ap₂ misplaced (sym context_is) (sym kinds_are) ∙ w.kinds.ordered;
        few-leaves = omega (arith, leaves_are, w.few.leaves);
        table = local_table;
      }

  local_worded : All Worded (segments_of t)
  local_worded =
      all_worded (separators_in t) (segments_of t) (subst Known kinds_are w.kinds.known)
      ((text-leaves (separators_in t) all-allowed (segments_of t) local_filed).1 (subst AllText text_is w.bytes))

  -- the bytes of its segments are those that are written
  pub local_bytes : sum_of (written_bytes L) (groups_of t) ≡ length (written L t)
  unfolding written lines_of separators_at
  local_bytes = same_bytes t (separators_in t) all-allowed (segments_of t) local_filed local_leaves L lawful

  pub local_accepted : Accepted L levels (stated L) (written L t) t
  unfolding written lines_of separators_at
  local_accepted =
      written-accepted {ps = separators_in t} {segments = segments_of t} lawful all-allowed (different_facts (separators_in t) w.header.distinct) local_filed local_worded local_judged
      (stated-roomy L)
      (omega (arith, local_bytes, w.few.bytes))

-- the table of segments that can be filed and were accepted meets them
module _ (L : Limits) (lawful : Lawful L) (levels : ℕ → ℕ → ℕ) (ps : Separators) (allowed : AllAllowed ps) (unlike : AllDifferent ps) where
  -- its first two leaves, and those from the third on
  module _ (h : List ℕ) (ss : List (List ℕ)) (filed : Filed ps (h ∷ ss)) where
    abbrev table : Table
    table = table_of levels ps (h ∷ ss)

    table_headed : leaves_of table ≡ headed ps (after_header ps h ss filed)
    table_headed = leaves_of-table levels ps (h ∷ ss) ∙ filed-leaves ps h ss filed

    leaf_at_lem : (i : ℕ) → i < 2 → leaf_at table.leaf_rows table.text i ≡ get_or (headed ps (after_header ps h ss filed)) i (leaf [] [])
    unfolding leaves_of table_of
    leaf_at_lem i less =
        sym (get_or_values (leaf_at table.leaf_rows table.text) 0 table.card.leaves i (leaf [] []) many ∙ ap (leaf_at table.leaf_rows table.text) (omega arith))
        ∙ ap (λ (ls : List Leaf). get_or ls i (leaf [] [])) table_headed
      where
        many : i < table.card.leaves
        many = rw (filed-leaves ps h ss filed) (omega arith)

    table-others : Sound (CR ∷ splitting (separators_in table)) third_place (drop 2 (leaves_of table))
    table-others =
        subst (λ (q : Separators). Sound (CR ∷ splitting q) third_place (drop 2 (leaves_of table))) (sym (separators_in-table levels ps (h ∷ ss) filed))
        (subst (λ (ls : List Leaf). Sound (CR ∷ splitting ps) third_place (drop 2 ls)) (sym table_headed) (filed-sound ps h ss filed))

    pub filed_local : All Worded (h ∷ ss) → Judged L levels ps (h ∷ ss) table
        → length (unlines (cuts L ps.field (h ∷ ss))) ≤ L.bytes → Local L levels table
    unfolding header_bytes table_of
    filed_local worded judged fits =
        let separators = separators_in-table levels ps (h ∷ ss) filed in
        let leaves : all_leaves ps (h ∷ ss) ≡ leaves_of table = sym (leaves_of-table levels ps (h ∷ ss)) in
        let kinds = same-kinds table ps allowed (h ∷ ss) filed leaves in
        let groups = same_groups table ps allowed (h ∷ ss) filed leaves in
        let named = same-context table ps allowed (h ∷ ss) filed leaves in
        record {
          header =
              record {
                allowed = ap (λ (q : Separators). all_allowed (five q)) separators ∙ facts_all_allowed ps allowed;
                distinct = ap (λ (q : Separators). different (five q)) separators ∙ facts_different ps unlike;
                first = leaf_at_lem 0 (omega arith);
                second = ap (λ (l : Leaf). l.place) (leaf_at_lem 1 (omega arith));
                four = ap (λ (l : Leaf). length l.text) (leaf_at_lem 1 (omega arith));
              };
          others = table-others;
          leaf_rows = ap (leaf_rows_from 0) leaves;
          text = ap text_of leaves;
          bytes = (text-leaves ps allowed (h ∷ ss) filed).0 (all_from (λ s v. v.1) worded);
          kinds =
              record {
                known = subst Known (sym kinds) judged.known;
                context = sym named;
                named = judged.context;
                ordered = ap (misplaced (context_in ps (h ∷ ss))) kinds ∙ judged.ordered;
              };
          segment_rows =
              ap₂ (λ (ks : List ℕ) (gs : List (List Leaf)). segment_rows_of ks (owners (levels (context_in ps (h ∷ ss))) ks) gs)
              (sym kinds) (sym groups);
          segment_count = sym (same_count table ps allowed (h ∷ ss) filed leaves);
          text_count = refl;
          few =
              record {
                segments = judged.few-segments;
                leaves = judged.few-leaves;
                bytes = omega (arith, same_bytes table ps allowed (h ∷ ss) filed leaves L lawful, fits);
              };
        }

  pub segments_local : (segments : List (List ℕ)) → Filed ps segments → All Worded segments
      → Judged L levels ps segments (table_of levels ps segments) → length (unlines (cuts L ps.field segments)) ≤ L.bytes
      → Local L levels (table_of levels ps segments)
  segments_local [] filed worded judged fits = absurd (filed-some ps filed)
  segments_local (h ∷ ss) filed worded judged fits = filed_local h ss filed worded judged fits

module _ {L : Limits} {levels : ℕ → ℕ → ℕ} {room : Room} {m : List ℕ} {t : Table} (lawful : Lawful L) (w : Accepted L levels room m t) where
  pub accepted_local : Local L levels t
  accepted_local =
      subst (Local L levels) (sym w.segments.table)
      (segments_local L lawful levels w.separators (accepted-header lawful w).allowed (accepted-header lawful w).different (segments_of_accepted lawful w)
      (accepted-filed lawful w) (accepted_worded lawful w)
      (subst (Judged L levels w.separators (segments_of_accepted lawful w)) w.segments.table w.segments)
      (omega (arith, shorter, w.fits)))
    where
      shorter : length (unlines (cuts L w.separators.field (segments_of_accepted lawful w))) ≤ length m
      shorter = least-message L lawful w.separators.field (segments_of_accepted lawful w) m refl

-- so the table test says exactly whether they hold
module _ (L : Limits) (lawful : Lawful L) (levels : ℕ → ℕ → ℕ) (t : Table) where
  pub reads_back_local : (reads_back L levels t ≡ true) ↔ Local L levels t
  reads_back_local = (
    λ h. accepted_local lawful ((accepting L levels (stated L) (written L t) t).0 (reads_same L lawful levels t h)),
    λ w. (reads_back_lem L lawful levels t).1 (written L t, (accepting L levels (stated L) (written L t) t).1 (local_accepted lawful w)),
  )

  pub read_local : ReadTo L levels t ↔ Local L levels t
  read_local = (
    λ r. accepted_local lawful ((accepting L levels (stated L) r.0 t).0 r.1),
    λ w. (reads_back_lem L lawful levels t).0 (reads_back_local.1 w),
  )
