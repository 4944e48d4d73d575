-- The reader accepts exactly what the grammar derives (C2, C3): of sound messages those whose kinds are derived by the grammar of their
-- context, and each by one derivation.
-- Assumes nothing.
use mathlib.Core.Bool.{Bool, true, ◌&&◌}
use mathlib.Core.List.{List, [], ◌∷◌}
use mathlib.Core.Logic.{◌↔◌, ⊎_elim}
use mathlib.Core.Option.{Option, none, some}
use mathlib.Core.Path.{◌≡◌, refl, sym, ap, ◌∙◌, subst, subst⁻¹}
use Prim.Native.Nat.{ℕ, ◌≤◌}
use native.Mathlib.Omega.{arith}
use lib.Dec.{leb}
use lib.ListN.{length}
use borrow.Author.Tests.{le-ltb, leb-true}
use Rattle.laws.specs.Every.{All, none as nothing, also}
use Rattle.laws.specs.inner.Tests.{every_from}
use Rattle.laws.proofs.Tests.{and_first, and_second}
use Rattle.form.specs.declared.limits.Limits.{Limits}
use Rattle.form.specs.declared.separators.Separators.{Separators}
use Rattle.form.specs.declared.separators.Header.{Header}
use Rattle.form.specs.declared.separators.Header.TheVariants.{Sound, Broken}
use Rattle.form.specs.Header.{header_of}
use Rattle.form.specs.Numbers.{short_buffer, long_message, broken_header}
use Rattle.order.specs.Grammar.{Shape, never, only, ◌▸◌, any, plus, maybe, Tree, word, each, present, Derives}
use Rattle.order.specs.Contexts.{grammar}
use Rattle.order.proofs.Seven.{all_seven, context_or_never, grammars}
use Rattle.order.proofs.Misplaced.{derived_unless_misplaced}
use Rattle.order.proofs.OneTree.{one_derivation}
use Rattle.table.specs.Rows.{Table, kinds_of, context_in, all_leaves, table_of}
use Rattle.table.specs.Reading.{room_of, Room, Outcome, refused, accepted, refuse_if, short, judged, of_message, reading}
use Rattle.table.proofs.Accepting.{Known, Judged, judged-accepted, Accepted, accepting, refuse_passed}
use Rattle.read.specs.declared.Answer.{Answer}
use Rattle.read.specs.Answering.{answer_of, Gives, ReadAs}
use Rattle.read.specs.Sound.{segments_in, SoundLines, SoundMessage}
use Rattle.read.specs.Acceptance.{Read}
use Rattle.read.proofs.Deciding.{message-judged}
use Rattle.read.proofs.OnlyOne.{Numbered, reading-numbered}

-- every kind of a derived order is 1 to 12

unfoldable names_kinds : Shape → Bool
names_kinds never = true
names_kinds (only k) = leb 1 k && leb k 12
names_kinds (a ▸ b) = names_kinds a && names_kinds b
names_kinds (any a) = names_kinds a
names_kinds (plus a) = names_kinds a
names_kinds (maybe a) = names_kinds a

abbrev pub IsKind : ℕ → Type 0
IsKind k = (1 ≤ k) × (k ≤ 12)

each-kinds : {A : Type 0} (f : A → List ℕ → List ℕ) → ((t : A) (v : List ℕ) → All IsKind v → All IsKind (f t v))
    → (ts : List A) (v : List ℕ) → All IsKind v → All IsKind (each f ts v)
unfolding each
each-kinds f step [] v h = h
each-kinds f step (t ∷ ts) v h = step t (each f ts v) (each-kinds f step ts v h)

present-kinds : {A : Type 0} (f : A → List ℕ → List ℕ) → ((t : A) (v : List ℕ) → All IsKind v → All IsKind (f t v))
    → (t : Option A) (v : List ℕ) → All IsKind v → All IsKind (present f t v)
unfolding present
present-kinds f step none v h = h
present-kinds f step (some t) v h = step t v h

word-kinds : (r : Shape) → names_kinds r ≡ true → (t : Tree r) (v : List ℕ) → All IsKind v → All IsKind (word r t v)
unfolding word names_kinds
word-kinds never g t v h = absurd t
word-kinds (only k) g t v h =
    also (leb-true 1 k (and_first (leb 1 k) (leb k 12) g), leb-true k 12 (and_second (leb 1 k) (leb k 12) g)) h
word-kinds (a ▸ b) g t v h =
    word-kinds a (and_first (names_kinds a) (names_kinds b) g) t.0 (word b t.1 v)
    (word-kinds b (and_second (names_kinds a) (names_kinds b) g) t.1 v h)
word-kinds (any a) g t v h = each-kinds (word a) (word-kinds a g) t v h
word-kinds (plus a) g t v h = word-kinds a g t.0 (each (word a) t.1 v) (each-kinds (word a) (word-kinds a g) t.1 v h)
word-kinds (maybe a) g t v h = present-kinds (word a) (word-kinds a g) t v h

grammar-kinds : (c : ℕ) → names_kinds (grammar c) ≡ true
unfolding names_kinds grammars every_from
grammar-kinds c =
    ⊎_elim (all_seven (λ n. names_kinds (grammar n)) refl c) (λ e. subst⁻¹ (λ (r : Shape). names_kinds r ≡ true) e refl) (context_or_never c)

pub derived-kinds : (c : ℕ) (w : List ℕ) → Derives (grammar c) w → All IsKind w
derived-kinds c w d = subst (All IsKind) d.1 (word-kinds (grammar c) (grammar-kinds c) d.0 [] nothing)

kinds-known : {w : List ℕ} → All IsKind w → Known w
kinds-known nothing = nothing
kinds-known (also {a = k} h s) = also (λ (e : k ≡ 0). omega (arith, h.0)) (kinds-known s)

-- so no order with an unknown kind is derived; nor any in a context that is none
pub derived-known : (c : ℕ) (w : List ℕ) → Derives (grammar c) w → Known w
derived-known c w d = kinds-known (derived-kinds c w d)

nothing-derived : (w : List ℕ) → Derives (grammar 0) w → ⊥
unfolding grammar
nothing-derived w d = d.0

pub no_context_derives : (c : ℕ) (w : List ℕ) → c ≡ 0 → Derives (grammar c) w → ⊥
no_context_derives c w e d = nothing-derived w (subst (λ (n : ℕ). Derives (grammar n) w) e d)

-- an order has at most one derivation
pub one_derivation_only : (c : ℕ) (w : List ℕ) (d e : Derives (grammar c) w) → d.0 ≡ e.0
one_derivation_only c w d e = one_derivation c d.0 e.0 (d.1 ∙ sym e.1)

-- of sound lines, only the buffers and the tests 7 to 11 are left
pub sound-lines-judged : (L : Limits) (levels : ℕ → ℕ → ℕ) (room : Room) (message : List ℕ) (ps : Separators) → SoundLines L message ps
    → reading L levels room message ≡ refuse_if (short L room) short_buffer (judged L levels ps (segments_in L ps message))
unfolding reading
sound-lines-judged L levels room message ps s =
    ap (refuse_if (short L room) short_buffer)
    (refuse_passed long_message (by (header_of message)) (le-ltb L.bytes (length message) s.fits)
    ∙ ap by s.header ∙ message-judged L levels message ps s.lines)
  where
    by : Header → Outcome
    by h = elim h [ Sound ps ↦ of_message L levels message ps | Broken ↦ refused broken_header 0 ]

-- the number of an answer is 0 exactly where the outcome is a table
module _ {text segments leaves text' segments' leaves' : List ℕ} {r : Answer} where
  pub number-accepted : (o : Outcome) → Gives o text segments leaves r text' segments' leaves' → Numbered o
      → (r.number ≡ 0) ↔ ((t : Table) × (o ≡ accepted t))
  unfolding answer_of
  number-accepted (refused n p) g h = (
    λ e. let z : r.number ≡ n = ap (λ (a : Answer). a.number) g.answer in absurd (omega (arith, h.0)),
    λ w. let e : refused n p ≡ accepted w.0 = w.1 in let z : ◌≡◌ {A = ℕ} 0 1 = cc in absurd (omega arith),
  )
  number-accepted (accepted t) g h = (λ e. (t, refl), λ w. ap (λ (a : Answer). a.number) g.answer)

-- joined segments within the limits are accepted exactly where the grammar of their context derives their kinds
module _ (L : Limits) (levels : ℕ → ℕ → ℕ) (ps : Separators) (segs : List (List ℕ)) where
  pub judged_exactly : length segs ≤ L.segments → length (all_leaves ps segs) ≤ L.leaves
      → ((t : Table) × (judged L levels ps segs ≡ accepted t)) ↔ Derives (grammar (context_in ps segs)) (kinds_of ps segs)
  judged_exactly few few-leaves = (
    λ w. (derived_unless_misplaced (context_in ps segs) (kinds_of ps segs)).0 ((judged-accepted L levels ps segs w.0).0 w.1).ordered,
    λ d. (table_of levels ps segs, (judged-accepted L levels ps segs (table_of levels ps segs)).1 (passes d)),
  )
    where
      passes : Derives (grammar (context_in ps segs)) (kinds_of ps segs) → Judged L levels ps segs (table_of levels ps segs)
      passes d =
          record {
            few-segments = few;
            known = derived-known (context_in ps segs) (kinds_of ps segs) d;
            context = λ e. no_context_derives (context_in ps segs) (kinds_of ps segs) e d;
            ordered = (derived_unless_misplaced (context_in ps segs) (kinds_of ps segs)).1 d;
            few-leaves = few-leaves;
            table = refl;
          }

module _ (L : Limits) (levels : ℕ → ℕ → ℕ) (message : List ℕ) (ps : Separators) {text segments leaves text' segments' leaves' : List ℕ} {r : Answer} where
  -- a sound message is accepted exactly where the grammar of its context derives its kinds
  pub accepted_exactly : SoundMessage L (room_of text segments leaves) message ps
      → ReadAs L levels message text segments leaves r text' segments' leaves'
      → (r.number ≡ 0) ↔ Derives (grammar (context_in ps (segments_in L ps message))) (kinds_of ps (segments_in L ps message))
  accepted_exactly s g =
      let room = room_of text segments leaves in
      let segs = segments_in L ps message in
      let same : reading L levels room message ≡ judged L levels ps segs
      = sound-lines-judged L levels room message ps s.sound ∙ refuse_passed short_buffer (judged L levels ps segs) s.roomy in
      let read = number-accepted (reading L levels room message) g (reading-numbered L levels room message) in
      let judges = judged_exactly L levels ps segs s.few-segments s.few-leaves in (
        λ e. let w = read.0 e in judges.0 (w.0, sym same ∙ w.1),
        λ d. let w = judges.1 d in read.1 (w.0, same ∙ w.1),
      )

-- the separators of an accepted message are those of its header
same_separators : {L : Limits} {levels : ℕ → ℕ → ℕ} {room : Room} {message : List ℕ} {t : Table} {ps : Separators}
    (w : Accepted L levels room message t) → header_of message ≡ Sound ps → w.separators ≡ ps
same_separators {ps = ps} w header = let e : Sound w.separators ≡ Sound ps = sym w.header ∙ header in cc

module _ (L : Limits) (levels : ℕ → ℕ → ℕ) (message : List ℕ) (ps : Separators) (header : header_of message ≡ Sound ps)
    {text segments leaves text' segments' leaves' : List ℕ} {r : Answer} where
  pub accepted-read : ReadAs L levels message text segments leaves r text' segments' leaves' → r.number ≡ 0
      → Read L levels message ps text segments leaves r text' segments' leaves'
  accepted-read g e =
      let room = room_of text segments leaves in
      let segs = segments_in L ps message in
      let t = (number-accepted (reading L levels room message) g (reading-numbered L levels room message)).0 e in
      let w = (accepting L levels room message t.0).0 t.1 in
      let j : Judged L levels ps segs t.0 =
      subst (λ (q : Separators). Judged L levels q (segments_in L q message) t.0) (same_separators w header) w.segments in
      record {
        sound =
            record {
              sound = record { fits = w.fits; header = header; lines = w.no_fault };
              roomy = w.roomy;
              few-segments = j.few-segments;
              few-leaves = j.few-leaves;
            };
        derived = (derived_unless_misplaced (context_in ps segs) (kinds_of ps segs)).0 j.ordered;
        given =
            subst (λ (o : Outcome). Gives o text segments leaves r text' segments' leaves') (t.1 ∙ ap accepted j.table) g;
      }
