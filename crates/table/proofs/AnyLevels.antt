-- What levels do not change: whatever of an outcome is the same for the tables of two levels is the same for the two readings (N2, N4), so levels
-- refuse nothing and accept nothing.
-- Assumes nothing.
use mathlib.Core.Bool.{Bool, true, false}
use mathlib.Core.List.{List}
use mathlib.Core.Path.{◌≡◌, refl}
use Prim.Native.Nat.{ℕ}
use lib.Dec.{ltb, eqb}
use lib.ListN.{length}
use Rattle.form.specs.declared.limits.Limits.{Limits}
use Rattle.form.specs.declared.separators.Separators.{Separators}
use Rattle.form.specs.declared.separators.Header.{Header}
use Rattle.form.specs.declared.separators.Header.TheVariants.{Sound, Broken}
use Rattle.form.specs.Header.{header_of}
use Rattle.form.specs.Numbers.{short_buffer, long_message, broken_header, many_segments, unknown_kind, no_context, misplaced_kind, many_leaves}
use Rattle.line.specs.Lines.{walk, texts, fault_number, fault_place}
use Rattle.line.specs.Joining.{joined}
use Rattle.order.specs.inner.Place.{misplaced}
use Rattle.table.specs.Rows.{kinds_of, context_in, all_leaves, table_of}
use Rattle.table.specs.Reading.{Room, Outcome, refused, accepted, refuse_if, refuse_at, short, first_unknown, judged, of_message, reading}

module _ {ℓ} {A : Type ℓ} (seen : Outcome → A) where
  same_if : {one other : Outcome} (test : Bool) (number : ℕ) → seen one ≡ seen other → seen (refuse_if test number one) ≡ seen (refuse_if test number other)
  unfolding refuse_if
  same_if true number e = refl
  same_if false number e = e

  same_choice : {one other : Outcome} (else : Outcome) (test : Bool) → seen one ≡ seen other
      → seen (elim test [ true ↦ one | false ↦ else ]) ≡ seen (elim test [ true ↦ other | false ↦ else ])
  same_choice else true e = e
  same_choice else false e = refl

  same_at : {one other : Outcome} (place number : ℕ) → seen one ≡ seen other → seen (refuse_at place number one) ≡ seen (refuse_at place number other)
  unfolding refuse_at
  same_at place number e = same_choice (refused number place) (eqb place 0) e

  module _ (L : Limits) (levels others : ℕ → ℕ → ℕ)
      (unseen : (ps : Separators) (segs : List (List ℕ)) → seen (accepted (table_of levels ps segs)) ≡ seen (accepted (table_of others ps segs))) where
    same-judged : (ps : Separators) (segs : List (List ℕ)) → seen (judged L levels ps segs) ≡ seen (judged L others ps segs)
    unfolding judged
    same-judged ps segs =
        same_if (ltb L.segments (length segs)) many_segments
        (same_at (first_unknown (kinds_of ps segs)) unknown_kind
        (same_if (eqb (context_in ps segs) 0) no_context
        (same_at (misplaced (context_in ps segs) (kinds_of ps segs)) misplaced_kind
        (same_if (ltb L.leaves (length (all_leaves ps segs))) many_leaves (unseen ps segs)))))

    same_of_message : (message : List ℕ) (ps : Separators) → seen (of_message L levels message ps) ≡ seen (of_message L others message ps)
    unfolding of_message
    same_of_message message ps =
        same_choice (refused (fault_number (walk L message)) (fault_place (walk L message))) (eqb (fault_number (walk L message)) 0)
        (same-judged ps (joined ps.field (texts (walk L message))))

    same_by_header : (message : List ℕ) (h : Header) → seen (elim h [ Sound ps ↦ of_message L levels message ps | Broken ↦ refused broken_header 0 ])
        ≡ seen (elim h [ Sound ps ↦ of_message L others message ps | Broken ↦ refused broken_header 0 ])
    same_by_header message (Sound ps) = same_of_message message ps
    same_by_header message Broken = refl

    pub levels_unseen : (room : Room) (message : List ℕ) → seen (reading L levels room message) ≡ seen (reading L others room message)
    unfolding reading
    levels_unseen room message =
        same_if (short L room) short_buffer (same_if (ltb L.bytes (length message)) long_message (same_by_header message (header_of message)))
