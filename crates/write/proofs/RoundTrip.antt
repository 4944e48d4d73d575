-- The round trip (W1, W4): what is written for a table that some message reads to is read back to this very
-- table. So the table test, which reads what would be written, refuses a table only where no message reads to it.
-- Assumes nothing.
use mathlib.Core.Bool.{true, false}
use mathlib.Core.List.{List, [], ◌∷◌, ◌++◌}
use mathlib.Core.Logic.{◌↔◌}
use mathlib.Core.Path.{◌≡◌, refl, sym, ap, ap₂, ◌∙◌, subst}
use Prim.Native.Nat.{ℕ, ◌≤◌}
use native.Mathlib.Omega.{arith}
use lib.ListN.{length, take, length-take}
use lib.Seq.{take-append-le, take-take}
use Rattle.laws.specs.Every.{All}
use Rattle.laws.proofs.Every.{all_first, all_rest}
use Rattle.form.specs.declared.limits.Limits.{Limits}
use Rattle.form.specs.declared.separators.Separators.{Separators}
use Rattle.form.specs.Limits.{Lawful}
use Rattle.form.proofs.HeaderRule.{AllAllowed, AllDifferent}
use Rattle.line.specs.Lines.{CR}
use Rattle.line.specs.Cutting.{cuts, unlines, addenda}
use Rattle.line.proofs.Cutting.{cuts_cons, cut-addenda, carried_pieces, unlines_cons}
use Rattle.line.proofs.Fewest.{least-message}
use Rattle.line.proofs.Written.{Worded, no_fault_written, joined-written}
use Rattle.table.specs.inner.Filed.{header_bytes, Filed}
use Rattle.table.specs.Rows.{Table, table_of}
use Rattle.table.specs.Reading.{Room, accepted, short, reading, stated}
use Rattle.table.specs.inner.Back.{segments_of, lines_of, written}
use Rattle.table.proofs.Accepting.{Judged, Accepted, accepting}
use Rattle.table.proofs.Back.{filed-some, segments_of-table}
use Rattle.table.proofs.Filing.{segments_of_accepted, accepted-header, accepted_worded, accepted-filed, all_whole}
use Rattle.table.proofs.HeaderBytes.{bytes-sound, header-text}
use Rattle.write.specs.Writing.{ReadTo}
use Rattle.write.specs.inner.ReadsBack.{reads_back}
use Rattle.write.proofs.SameTables.{gives-accepted}

-- what is written begins with the header's bytes: the first line keeps them
module _ (L : Limits) (lawful : Lawful L) (ps : Separators) where
  first-bytes : (h rest : List ℕ) → 7 ≤ length h → take 7 (take L.line h ++ rest) ≡ take 7 h
  first-bytes h rest long =
      take-append-le 7 (take L.line h) rest (omega (arith, length-take L.line h, lawful.header))
      ∙ take-take 7 L.line h lawful.header

  pub written-begins : (segments : List (List ℕ)) → Filed ps segments → take 7 (unlines (cuts L ps.field segments)) ≡ header_bytes ps
  unfolding header_bytes
  written-begins [] f = absurd (filed-some ps f)
  written-begins (h ∷ ss) f =
      let others = addenda ps.field (carried_pieces L h) ++ cuts L ps.field ss in
      ap (λ (ls : List (List ℕ)). take 7 (unlines ls))
      (cuts_cons L ps.field h ss ∙ ap (λ (ls : List (List ℕ)). ls ++ cuts L ps.field ss) (cut-addenda L lawful ps.field h))
      ∙ ap (take 7) (unlines_cons (take L.line h) others)
      ∙ first-bytes h (CR ∷ unlines others) (omega (arith, length-take 7 h, ap length f.header))
      ∙ f.header

-- segments that can be filed, that are text, and that pass the tests 7 to 11 are read back from the lines that they are cut into
module _ {L : Limits} {levels : ℕ → ℕ → ℕ} {room : Room} {ps : Separators} {segments : List (List ℕ)} {t : Table} (lawful : Lawful L) where
  pub written-accepted : AllAllowed ps → AllDifferent ps → Filed ps segments → All Worded segments → Judged L levels ps segments t
      → short L room ≡ false → length (unlines (cuts L ps.field segments)) ≤ L.bytes
      → Accepted L levels room (unlines (cuts L ps.field segments)) t
  unfolding header_bytes
  written-accepted allowed different filed worded judged roomy fits =
      let message = unlines (cuts L ps.field segments) in
      let text = header-text ps allowed in
      record {
        separators = ps;
        roomy = roomy;
        fits = fits;
        header = bytes-sound ps allowed different message (written-begins L lawful ps segments filed);
        no_fault = no_fault_written L lawful ps.field (all_first (all_rest text)) segments worded;
        segments =
            subst (λ (ss : List (List ℕ)). Judged L levels ps ss t)
            (sym
            (joined-written L lawful ps.field (all_first (all_rest text)) segments worded
            (all_whole ps allowed.field segments judged.known)))
            judged;
      }

-- a table that a message reads to: its segments are the message's, and what is written for it are their lines
module _ {L : Limits} {levels : ℕ → ℕ → ℕ} {room : Room} {m : List ℕ} {t : Table} (lawful : Lawful L) (w : Accepted L levels room m t) where
  pub table-segments : segments_of t ≡ segments_of_accepted lawful w
  table-segments =
      ap segments_of w.segments.table
      ∙ segments_of-table levels w.separators (segments_of_accepted lawful w) (accepted-filed lawful w)

  pub table_separator : t.card.separator ≡ w.separators.field
  unfolding table_of
  table_separator = ap (λ (u : Table). u.card.separator) w.segments.table

  pub table-lines : lines_of L t ≡ cuts L w.separators.field (segments_of_accepted lawful w)
  unfolding lines_of
  table-lines = ap₂ (cuts L) table_separator table-segments

  pub table-written : written L t ≡ unlines (cuts L w.separators.field (segments_of_accepted lawful w))
  unfolding written
  table-written = ap unlines table-lines

  pub rewritten : Accepted L levels room (written L t) t
  rewritten =
      subst (λ (s : List ℕ). Accepted L levels room s t) (sym table-written)
      (written-accepted lawful (accepted-header lawful w).allowed (accepted-header lawful w).different (accepted-filed lawful w)
      (accepted_worded lawful w) w.segments w.roomy (omega (arith, shorter, w.fits)))
    where
      shorter : length (unlines (cuts L w.separators.field (segments_of_accepted lawful w))) ≤ length m
      shorter = least-message L lawful w.separators.field (segments_of_accepted lawful w) m refl

module _ (L : Limits) (lawful : Lawful L) (levels : ℕ → ℕ → ℕ) where
  -- what some message reads to, what is written for it reads to, whatever buffers are lent
  pub round_trip : (room : Room) (m : List ℕ) (t : Table) → reading L levels room m ≡ accepted t
      → reading L levels room (written L t) ≡ accepted t
  round_trip room m t e =
      (accepting L levels room (written L t) t).1 (rewritten lawful ((accepting L levels room m t).0 e))

  -- so the table test says exactly whether some message within the limits reads to the table
  pub reads_back_lem : (t : Table) → (reads_back L levels t ≡ true) ↔ ReadTo L levels t
  unfolding reads_back
  reads_back_lem t = (
    λ h. (written L t, (gives-accepted t (reading L levels (stated L) (written L t))).0 h),
    λ r. (gives-accepted t (reading L levels (stated L) (written L t))).1 (round_trip (stated L) r.0 t r.1),
  )

  -- and what is written for a table that passes reads back to it, card and rows and text
  pub reads_same : (t : Table) → reads_back L levels t ≡ true → reading L levels (stated L) (written L t) ≡ accepted t
  unfolding reads_back
  reads_same t h = (gives-accepted t (reading L levels (stated L) (written L t))).0 h
