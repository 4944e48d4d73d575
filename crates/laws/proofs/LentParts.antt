-- Parts of what is lent: they are told apart by where they lie, and a part of a part is a part.
-- Assumes nothing.
use mathlib.Core.List.{List, []}
use mathlib.Core.Path.{◌≡◌, refl, sym, ap, ◌∙◌}
use Prim.Native.Nat.{ℕ, ◌+◌, ◌≤◌}
use native.Mathlib.Nat.{zero-add}
use native.Mathlib.Omega.{arith}
use lib.ListN.{length, take, drop}
use lib.Seq.{take-length, drop-drop}
use denote.Ref.{Bor}
use Rattle.laws.specs.Parts.{Part, whole_of, part_of}
use Rattle.laws.proofs.Parts.{part_taken}

-- parts that agree in block, offset and bytes are the same
pub same_part : (p q : Part) → p.block ≡ q.block → p.offset ≡ q.offset → p.bytes ≡ q.bytes → p ≡ q
same_part p q block offset bytes i = record { block = block i; offset = offset i; bytes = bytes i }

-- a slice is the part of itself that has all its bytes
pub whole_part : (s : Bor (List ℕ)) → whole_of s ≡ part_of s 0 (length s.now)
whole_part s = same_part (whole_of s) (part_of s 0 (length s.now)) refl (sym (zero-add s.ref_ptr.1)) (sym (take-length s.now))

-- the part with no bytes at the start
pub none_part : (s : Bor (List ℕ)) → part_of s 0 0 ≡ record { block = s.ref_ptr.0; offset = s.ref_ptr.1; bytes = [] }
none_part s = same_part (part_of s 0 0) (record { block = s.ref_ptr.0; offset = s.ref_ptr.1; bytes = [] }) refl (zero-add s.ref_ptr.1) refl

module _ (r s : Bor (List ℕ)) (a n : ℕ) (e : whole_of r ≡ part_of s a n) where
  -- what comes back as a part of a lent slice lies in its block
  pub in_its_block : r.ref_ptr.0 ≡ s.ref_ptr.0
  in_its_block = ap (λ (p : Part). p.block) e

  -- a bytes behind its first one
  pub at_its_place : r.ref_ptr.1 ≡ a + s.ref_ptr.1
  at_its_place = ap (λ (p : Part). p.offset) e

  -- and has the bytes that stand there
  pub its_bytes : r.now ≡ take n (drop a s.now)
  its_bytes = ap (λ (p : Part). p.bytes) e

  -- so it lies at no other place of the slice, whatever bytes stand there
  pub at_no_other : (b : ℕ) → r.ref_ptr.1 ≡ b + s.ref_ptr.1 → b ≡ a
  at_no_other b lies = omega (arith, lies, at_its_place)

  -- a part of it is a part of the slice
  pub part_of_part : (b k : ℕ) → b + k ≤ n → part_of r b k ≡ part_of s (a + b) k
  part_of_part b k within =
      same_part (part_of r b k) (part_of s (a + b) k) in_its_block (omega (arith, at_its_place))
      (ap (λ (t : List ℕ). take k (drop b t)) its_bytes
      ∙ part_taken (drop a s.now) b k n within
      ∙ ap (take k) (drop-drop b a s.now))
