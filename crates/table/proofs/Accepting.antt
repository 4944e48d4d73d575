-- What an accepted message passed (N2): each of the tests 1 to 11, as one record, and the converse.
-- Assumes nothing.
use mathlib.Core.Bool.{Bool, true, false}
use mathlib.Core.List.{List, [], ◌∷◌}
use mathlib.Core.Logic.{◌↔◌}
use mathlib.Core.Path.{◌≡◌, refl, sym, ap, ◌∙◌}
use Prim.Native.Nat.{ℕ, ◌≤◌}
use native.Mathlib.Omega.{arith}
use lib.Dec.{ltb, eqb}
use lib.ListN.{length}
use borrow.Author.Tests.{ltb-false, le-ltb, eqb-true, eqb-false, eq-eqb, ne_eqb}
use Rattle.laws.specs.Lists.{among}
use Rattle.laws.specs.Every.{All, none, also}
use Rattle.laws.proofs.Tests.{Tested, passed, failed, tested, never_both}
use Rattle.laws.proofs.Lists.{among_hit, among_miss, first_not_among, not_first_among}
use Rattle.form.specs.declared.limits.Limits.{Limits}
use Rattle.form.specs.declared.separators.Separators.{Separators}
use Rattle.form.specs.declared.separators.Header.{Header}
use Rattle.form.specs.declared.separators.Header.TheVariants.{Sound, Broken}
use Rattle.form.specs.Header.{header_of}
use Rattle.form.specs.Numbers.{short_buffer, long_message, broken_header, many_segments, unknown_kind, no_context, misplaced_kind, many_leaves}
use Rattle.line.specs.Lines.{walk, texts, fault_number, fault_place}
use Rattle.line.specs.Joining.{joined}
use Rattle.order.specs.inner.Place.{misplaced}
use Rattle.table.specs.Rows.{Table, kinds_of, context_in, all_leaves, table_of}
use Rattle.table.specs.Reading.{Room, Outcome, refused, accepted, refuse_if, refuse_at, short, first_unknown, judged, of_message, reading, stated}
use Rattle.table.proofs.Room.{stated-roomy}

-- the step laws of the two forms of test: what an accepted outcome says of a test, and that a test passed leaves what follows
module _ (number : ℕ) {else : Outcome} {t : Table} where
  pub not_refused : (test : Bool) → refuse_if test number else ≡ accepted t → (test ≡ false) × (else ≡ accepted t)
  unfolding refuse_if
  not_refused true e = let z : ◌≡◌ {A = ℕ} 0 1 = cc in absurd (omega arith)
  not_refused false e = (refl, e)

  pub not_refused_at : (place : ℕ) → refuse_at place number else ≡ accepted t → (place ≡ 0) × (else ≡ accepted t)
  unfolding refuse_at
  not_refused_at place e = go (tested (eqb place 0))
    where
      go : Tested (eqb place 0) → (place ≡ 0) × (else ≡ accepted t)
      go (passed h) = (eqb-true place 0 h, rw (h, refuse_at) at e)
      go (failed h) =
          let clash : refused number place ≡ accepted t = rw (h, refuse_at) at e in
          let z : ◌≡◌ {A = ℕ} 0 1 = cc in absurd (omega arith)

pub refuse_passed : {test : Bool} (number : ℕ) (else : Outcome) → test ≡ false → refuse_if test number else ≡ else
unfolding refuse_if
refuse_passed number else h = rw h

pub refuse_at_passed : {place : ℕ} (number : ℕ) (else : Outcome) → place ≡ 0 → refuse_at place number else ≡ else
unfolding refuse_at
refuse_at_passed {place} number else h = rw (eq-eqb place 0 h, refuse_at)

-- buffers that are not short are as good as those of the stated sizes
pub any-room : (L : Limits) (levels : ℕ → ℕ → ℕ) (room : Room) (message : List ℕ) → short L room ≡ false
    → reading L levels room message ≡ reading L levels (stated L) message
unfolding reading
any-room L levels room message h = refuse_passed _ _ h ∙ sym (refuse_passed _ _ (stated-roomy L))

-- that no kind is unknown
abbrev pub Known : List ℕ → Type 0
Known kinds = All (λ (k : ℕ). k ≡ 0 → ⊥) kinds

pub known_absent : (kinds : List ℕ) → among kinds 0 ≡ false → Known kinds
unfolding among
known_absent [] h = none
known_absent (k ∷ kinds) h = go (tested (eqb 0 k)) (known_absent kinds)
  where
    go : Tested (eqb 0 k) → (among kinds 0 ≡ false → Known kinds) → Known (k ∷ kinds)
    go (passed e) ih = absurd (never_both (among_hit k kinds 0 e) h)
    go (failed e) ih = also (λ z. eqb-false 0 k e (sym z)) (ih (sym (among_miss k kinds 0 e) ∙ h))

pub absent_known : {kinds : List ℕ} → Known kinds → among kinds 0 ≡ false
unfolding among
absent_known none = refl
absent_known (also {a = k} {s = kinds} h w) = among_miss k kinds 0 (ne_eqb 0 k (λ z. h (sym z))) ∙ absent_known w

pub none-unknown : (kinds : List ℕ) → (first_unknown kinds ≡ 0) ↔ Known kinds
unfolding first_unknown
none-unknown kinds =
    (λ e. known_absent kinds (not_first_among 0 0 kinds e), λ w. first_not_among 0 1 kinds (absent_known w))

-- joined segments that pass the tests 7 to 11, and their table
pub record Judged (L : Limits) (levels : ℕ → ℕ → ℕ) (ps : Separators) (segments : List (List ℕ)) (t : Table) : Type 0 where
  pub few-segments : length segments ≤ L.segments
  pub known : Known (kinds_of ps segments)
  pub context : context_in ps segments ≡ 0 → ⊥
  pub ordered : misplaced (context_in ps segments) (kinds_of ps segments) ≡ 0
  pub few-leaves : length (all_leaves ps segments) ≤ L.leaves
  pub table : t ≡ table_of levels ps segments

pub judged-accepted : (L : Limits) (levels : ℕ → ℕ → ℕ) (ps : Separators) (segments : List (List ℕ)) (t : Table)
    → (judged L levels ps segments ≡ accepted t) ↔ Judged L levels ps segments t
unfolding judged
judged-accepted L levels ps segments t = (forth, back)
  where
    forth : judged L levels ps segments ≡ accepted t → Judged L levels ps segments t
    forth e =
        let seven = not_refused many_segments (ltb L.segments (length segments)) e in
        let eight = not_refused_at unknown_kind (first_unknown (kinds_of ps segments)) seven.1 in
        let nine = not_refused no_context (eqb (context_in ps segments) 0) eight.1 in
        let ten = not_refused_at misplaced_kind (misplaced (context_in ps segments) (kinds_of ps segments)) nine.1 in
        let eleven = not_refused many_leaves (ltb L.leaves (length (all_leaves ps segments))) ten.1 in
        record {
          few-segments = ltb-false L.segments (length segments) seven.0;
          known = (none-unknown (kinds_of ps segments)).0 eight.0;
          context = eqb-false (context_in ps segments) 0 nine.0;
          ordered = ten.0;
          few-leaves = ltb-false L.leaves (length (all_leaves ps segments)) eleven.0;
          table = let same : accepted (table_of levels ps segments) ≡ accepted t = eleven.1 in cc;
        }

    back : Judged L levels ps segments t → judged L levels ps segments ≡ accepted t
    back w =
        refuse_passed _ _ (le-ltb L.segments (length segments) w.few-segments)
        ∙ refuse_at_passed _ _ ((none-unknown (kinds_of ps segments)).1 w.known)
        ∙ refuse_passed _ _ (ne_eqb (context_in ps segments) 0 w.context)
        ∙ refuse_at_passed _ _ w.ordered
        ∙ refuse_passed _ _ (le-ltb L.leaves (length (all_leaves ps segments)) w.few-leaves)
        ∙ ap accepted (sym w.table)

-- a message that passes the tests 1 to 11, and its table
pub record Accepted (L : Limits) (levels : ℕ → ℕ → ℕ) (room : Room) (message : List ℕ) (t : Table) : Type 0 where
  pub separators : Separators
  pub roomy : short L room ≡ false
  pub fits : length message ≤ L.bytes
  pub header : header_of message ≡ Sound separators
  pub no_fault : fault_number (walk L message) ≡ 0
  pub segments : Judged L levels separators (joined separators.field (texts (walk L message))) t

-- a message is accepted with a table exactly where it is so
pub accepting : (L : Limits) (levels : ℕ → ℕ → ℕ) (room : Room) (message : List ℕ) (t : Table)
    → (reading L levels room message ≡ accepted t) ↔ Accepted L levels room message t
unfolding reading of_message
accepting L levels room message t = (forth, back)
  where
    by : Header → Outcome
    by h = elim h [ Sound ps ↦ of_message L levels message ps | Broken ↦ refused broken_header 0 ]

    lines : (ps : Separators) → header_of message ≡ Sound ps → of_message L levels message ps ≡ accepted t
        → short L room ≡ false → length message ≤ L.bytes → Accepted L levels room message t
    lines ps h e roomy fits = go (tested (eqb (fault_number (walk L message)) 0))
      where
        go : Tested (eqb (fault_number (walk L message)) 0) → Accepted L levels room message t
        go (passed f) =
            record {
              separators = ps;
              roomy = roomy;
              fits = fits;
              header = h;
              no_fault = eqb-true (fault_number (walk L message)) 0 f;
              segments = (judged-accepted L levels ps (joined ps.field (texts (walk L message))) t).0 (rw (f, of_message) at e);
            }
        go (failed f) =
            let clash : refused (fault_number (walk L message)) (fault_place (walk L message)) ≡ accepted t = rw (f, of_message) at e in
            let z : ◌≡◌ {A = ℕ} 0 1 = cc in absurd (omega arith)

    cases : (h : Header) → header_of message ≡ h → by h ≡ accepted t → short L room ≡ false → length message ≤ L.bytes
        → Accepted L levels room message t
    cases (Sound ps) h e roomy fits = lines ps h e roomy fits
    cases Broken h e roomy fits = let z : ◌≡◌ {A = ℕ} 0 1 = cc in absurd (omega arith)

    forth : reading L levels room message ≡ accepted t → Accepted L levels room message t
    forth e =
        let one = not_refused short_buffer (short L room) e in
        let two = not_refused long_message (ltb L.bytes (length message)) one.1 in
        cases (header_of message) refl two.1 one.0 (ltb-false L.bytes (length message) two.0)

    back : Accepted L levels room message t → reading L levels room message ≡ accepted t
    back w =
        refuse_passed _ _ w.roomy
        ∙ refuse_passed _ _ (le-ltb L.bytes (length message) w.fits)
        ∙ ap by w.header
        ∙ rw (eq-eqb (fault_number (walk L message)) 0 w.no_fault, of_message)
        ((judged-accepted L levels w.separators (joined w.separators.field (texts (walk L message))) t).1 w.segments)
