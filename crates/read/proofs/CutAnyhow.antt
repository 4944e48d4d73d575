-- How a message is cut into lines changes nothing (A3, L2, N4): messages with sound headers and lines that join to the same segments have
-- the same outcome, refusals included, whatever their lines and whatever low bytes follow their CRs.
-- Assumes nothing.
use mathlib.Core.List.{List, [], ◌∷◌, ◌++◌}
use mathlib.Core.Logic.{⊎_elim}
use mathlib.Core.Path.{◌≡◌, sym, ap, ◌∙◌, subst}
use Prim.Native.Nat.{ℕ, ◌≤◌, ◌<◌}
use lib.Dec.{lit≤}
use lib.ListN.{length, take, drop, get_or, take-append-drop}
use lib.Seq.{take-append-le, get_or-take, get_or-append_seam}
use borrow.Author.Tests.{eqb-false}
use Rattle.laws.proofs.Cases.{less_or_not}
use Rattle.laws.proofs.Every.{all_at}
use Rattle.form.specs.declared.limits.Limits.{Limits}
use Rattle.form.specs.declared.separators.Separators.{Separators}
use Rattle.form.specs.declared.separators.Header.TheVariants.{Sound}
use Rattle.form.specs.Limits.{Lawful}
use Rattle.form.specs.Header.{header_of}
use Rattle.form.specs.Numbers.{short_buffer}
use Rattle.form.proofs.HeaderRule.{SoundHeader, sound-header}
use Rattle.line.specs.Lines.{CR, walk, texts, fault_number}
use Rattle.line.specs.Joining.{letter_a, addendum, joined}
use Rattle.line.proofs.FirstLine.{FirstBegins, walk_begins}
use Rattle.line.proofs.Walking.{Low, walk_lows}
use Rattle.table.specs.inner.Filed.{header_bytes}
use Rattle.table.specs.Reading.{room_of, Room, Outcome, refuse_if, short, judged, reading}
use Rattle.table.proofs.Filing.{joined-header}
use Rattle.table.proofs.HeaderBytes.{from_bytes, header-bytes, header-text, header-clear, bytes-sound}
use Rattle.read.specs.declared.Answer.{Answer}
use Rattle.read.specs.Answering.{Gives, ReadAs}
use Rattle.read.specs.Sound.{segments_in}
use Rattle.read.specs.Sound.{SoundLines}
use Rattle.read.proofs.Acceptance.{sound-lines-judged}
use Rattle.read.proofs.CutLines.{addendum-put_in}

-- the first joined segment begins with the seven header bytes, so joined segments tell the separators

pub first-segment : (L : Limits) → Lawful L → (message : List ℕ) (ps : Separators) → SoundLines L message ps
    → take 7 (get_or (segments_in L ps message) 0 []) ≡ header_bytes ps
unfolding header_bytes
first-segment L lawful m ps s =
    let header = sound-header m ps s.header in
    joined-header ps (texts (walk L m))
    (subst (λ (t : List ℕ). fault_number (walk L t) ≡ 0 → FirstBegins (header_bytes ps) (texts (walk L t)))
    (ap (λ (u : List ℕ). u ++ drop 7 m) (sym (header-bytes ps m header)) ∙ take-append-drop 7 m)
    (walk_begins L (header_bytes ps) (drop 7 m) (lit≤ tt) lawful.header (header-text ps header.allowed))
    s.lines)

pub bytes_separators : (ps qs : Separators) → header_bytes ps ≡ header_bytes qs → ps ≡ qs
unfolding header_bytes from_bytes
bytes_separators ps qs h =
    let made
    : from_bytes ps.field ps.subfield ps.repeater ps.escape ps.subsubfield
    ≡ from_bytes qs.field qs.subfield qs.repeater qs.escape qs.subsubfield = cc in
    made

module _ (L : Limits) (lawful : Lawful L) {ps qs : Separators} (m n : List ℕ) (one : SoundLines L m ps) (two : SoundLines L n qs)
    (same : segments_in L ps m ≡ segments_in L qs n) where
  pub joined_separators : ps ≡ qs
  joined_separators =
      bytes_separators ps qs
      (sym (first-segment L lawful m ps one) ∙ ap (λ (ss : List (List ℕ)). take 7 (get_or ss 0 [])) same ∙ first-segment L lawful n qs two)

  -- the same outcome: the same table, or the same number at the same place
  pub same-joined : (levels : ℕ → ℕ → ℕ) (room : Room) → reading L levels room m ≡ reading L levels room n
  same-joined levels room =
      sound-lines-judged L levels room m ps one
      ∙ ap (λ (ss : List (List ℕ)). refuse_if (short L room) short_buffer (judged L levels ps ss)) same
      ∙ ap (λ (xs : Separators). refuse_if (short L room) short_buffer (judged L levels xs (segments_in L qs n))) joined_separators
      ∙ sym (sound-lines-judged L levels room n qs two)

  -- so what satisfies the contract on one of them satisfies it on the other
  pub same_contract : (levels : ℕ → ℕ → ℕ) {text segments leaves text' segments' leaves' : List ℕ} {r : Answer}
      → ReadAs L levels m text segments leaves r text' segments' leaves' → ReadAs L levels n text segments leaves r text' segments' leaves'
  same_contract levels {text} {segments} {leaves} {text'} {segments'} {leaves'} {r} g =
      subst (λ (o : Outcome). Gives o text segments leaves r text' segments' leaves') (same-joined levels (room_of text segments leaves)) g

-- two calls that give one outcome: the same answer, and the same entries stored at the front of each buffer
pub record SameCalls (text₁ segments₁ leaves₁ : List ℕ) (r₁ : Answer) (text₁' segments₁' leaves₁' : List ℕ)
    (text₂ segments₂ leaves₂ : List ℕ) (r₂ : Answer) (text₂' segments₂' leaves₂' : List ℕ) : Type 0 where
  pub outcome : Outcome
  pub first : Gives outcome text₁ segments₁ leaves₁ r₁ text₁' segments₁' leaves₁'
  pub second : Gives outcome text₂ segments₂ leaves₂ r₂ text₂' segments₂' leaves₂'
  pub answers : r₁ ≡ r₂

-- so under the contract, with buffers of the same lengths
module _ (L : Limits) (lawful : Lawful L) (levels : ℕ → ℕ → ℕ) {ps qs : Separators} (m n : List ℕ)
    {text₁ segments₁ leaves₁ text₁' segments₁' leaves₁' text₂ segments₂ leaves₂ text₂' segments₂' leaves₂' : List ℕ} {r₁ r₂ : Answer} where
  pub same-joined-read : SoundLines L m ps → SoundLines L n qs → segments_in L ps m ≡ segments_in L qs n
      → length text₁ ≡ length text₂ → length segments₁ ≡ length segments₂ → length leaves₁ ≡ length leaves₂
      → ReadAs L levels m text₁ segments₁ leaves₁ r₁ text₁' segments₁' leaves₁'
      → ReadAs L levels n text₂ segments₂ leaves₂ r₂ text₂' segments₂' leaves₂'
      → SameCalls text₁ segments₁ leaves₁ r₁ text₁' segments₁' leaves₁' text₂ segments₂ leaves₂ r₂ text₂' segments₂' leaves₂'
  same-joined-read one two same text segments leaves g h =
      let rooms : room_of text₁ segments₁ leaves₁ ≡ room_of text₂ segments₂ leaves₂ =
      λ i. record { text = text i; segment_rows = segments i; leaf_rows = leaves i } in
      let outcomes : reading L levels (room_of text₂ segments₂ leaves₂) n ≡ reading L levels (room_of text₁ segments₁ leaves₁) m =
      sym (ap (λ (room : Room). reading L levels room m) rooms ∙ same-joined L lawful m n one two same levels (room_of text₂ segments₂ leaves₂)) in
      let h' = subst (λ (o : Outcome). Gives o text₂ segments₂ leaves₂ r₂ text₂' segments₂' leaves₂') outcomes h in
      record {
        outcome = reading L levels (room_of text₁ segments₁ leaves₁) m;
        first = g;
        second = h';
        answers = g.answer ∙ sym h'.answer;
      }

-- a line cut in two anywhere, where its first part keeps its nature (`segment_keeps`, `long_part_keeps`)
pub cut_anywhere : (L : Limits) (levels : ℕ → ℕ → ℕ) (room : Room) (ps : Separators) (m n : List ℕ) → SoundLines L m ps → SoundLines L n ps
    → (x : List (List ℕ)) (l k : List ℕ) (y : List (List ℕ)) → addendum ps.field l ≡ addendum ps.field (l ++ k)
    → texts (walk L m) ≡ x ++ (l ++ k) ∷ y → texts (walk L n) ≡ x ++ l ∷ (letter_a ∷ ps.field ∷ k) ∷ y
    → reading L levels room m ≡ reading L levels room n
cut_anywhere L levels room ps m n one two x l k y keeps whole cut =
    sound-lines-judged L levels room m ps one
    ∙ ap (λ (ss : List (List ℕ)). refuse_if (short L room) short_buffer (judged L levels ps ss))
    (ap (joined ps.field) whole ∙ addendum-put_in ps.field x l k y keeps ∙ ap (joined ps.field) (sym cut))
    ∙ sym (sound-lines-judged L levels room n ps two)

-- control bytes put in behind a CR change nothing (L2): a sound header lies before the first CR (H3), so it stays as it is
module _ (ps : Separators) (a rest : List ℕ) (header : SoundHeader (a ++ CR ∷ rest) ps) where
  no_low_among : length a < 7 → ⊥
  unfolding header_bytes
  no_low_among h =
      eqb-false (get_or (header_bytes ps) (length a) 0) CR (all_at (length a) 0 (header-clear ps header.allowed) h)
      (ap (λ (s : List ℕ). get_or s (length a) 0) (sym (header-bytes ps (a ++ CR ∷ rest) header))
      ∙ get_or-take 7 (a ++ CR ∷ rest) (length a) 0 h
      ∙ get_or-append_seam a CR rest 0)

  header-before : 7 ≤ length a
  header-before = ⊎_elim (λ h. absurd (no_low_among h)) (λ h. h) (less_or_not (length a) 7)

  pub header-kept : (other : List ℕ) → header_of (a ++ CR ∷ other) ≡ Sound ps
  header-kept other =
      bytes-sound ps header.allowed header.different (a ++ CR ∷ other)
      (take-append-le 7 a (CR ∷ other) header-before ∙ sym (take-append-le 7 a (CR ∷ rest) header-before)
      ∙ header-bytes ps (a ++ CR ∷ rest) header)

module _ (L : Limits) (ps : Separators) (a low rest : List ℕ) (lows : Low low) where
  pub lows_sound : SoundLines L (a ++ CR ∷ rest) ps → length (a ++ CR ∷ (low ++ rest)) ≤ L.bytes → SoundLines L (a ++ CR ∷ (low ++ rest)) ps
  lows_sound s fits =
      record {
        fits = fits;
        header = header-kept ps a rest (sound-header (a ++ CR ∷ rest) ps s.header) (low ++ rest);
        lines = (walk_lows L low rest lows a).number ∙ s.lines;
      }

  pub lows_change_nothing : (levels : ℕ → ℕ → ℕ) (room : Room) → SoundLines L (a ++ CR ∷ rest) ps → length (a ++ CR ∷ (low ++ rest)) ≤ L.bytes
      → reading L levels room (a ++ CR ∷ (low ++ rest)) ≡ reading L levels room (a ++ CR ∷ rest)
  lows_change_nothing levels room s fits =
      sound-lines-judged L levels room (a ++ CR ∷ (low ++ rest)) ps (lows_sound s fits)
      ∙ ap (λ (ls : List (List ℕ)). refuse_if (short L room) short_buffer (judged L levels ps (joined ps.field ls))) (walk_lows L low rest lows a).lines
      ∙ sym (sound-lines-judged L levels room (a ++ CR ∷ rest) ps s)
