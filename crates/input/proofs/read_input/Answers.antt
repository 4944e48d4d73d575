-- What a read puts behind the bytes that came before is what the reader gave next.
use Rattle.std.proofs.Common.{◌≡◌, ℕ, ◌+◌, ◌≤◌, List, ◌++◌, rules, length, take, drop, sym, ap, ◌∙◌, subst, refl, le_refl, drop_at, length-take-le}
use Rattle.std.proofs.lemmas.Slice.{take-put_mid_below}
use Rattle.std.specs.Io.KnownBytes.{Consumes}
use Rattle.std.proofs.KnownBytes.{Consumes-trans}
use Rattle.std.specs.Prelude.{Option}
use borrow.Rule.Slice.PartMut.{put_mid, post_of}
use lib.Seq.{take-add, take-append-le}
use Rattle.input.proofs.read_input.Goals as goal

-- the front of a buffer whose bytes from a place on were read, up to behind the first n of those
take-read : (a k n : ℕ) (xs ys : List ℕ) → a ≤ length xs → n ≤ length ys → take (a + n) (put_mid a k xs ys) ≡ take a xs ++ take n ys
take-read a k n xs ys within fits =
    let after = post_of a k xs in
    take-add a n (put_mid a k xs ys)
    ∙ ap (λ l. l ++ take n (drop a (put_mid a k xs ys))) (take-put_mid_below a k xs ys a (le_refl a) within)
    ∙ ap (λ l. take a xs ++ take n l) (drop_at (take a xs) (ys ++ after) a (length-take-le a xs within))
    ∙ ap (λ l. take a xs ++ l) (take-append-le n ys after fits)

-- two reads, the second of n bytes behind the a bytes of the first
came-behind : (first then last : Option (List ℕ)) (a k n m : ℕ) (xs ys : List ℕ) → a ≤ length xs → n ≤ length ys → m ≡ a + n
    → Consumes first then (take a xs) → Consumes then last (take n ys) → Consumes first last (take m (put_mid a k xs ys))
came-behind first then last a k n m xs ys within fits same one other =
    subst (Consumes first last) (sym (ap (λ l. take l (put_mid a k xs ys)) same ∙ take-read a k n xs ys within fits)) (Consumes-trans first then last _ _ one other)

pub loop-bytes-preserved : goal.loop-bytes-preserved
loop-bytes-preserved g c = record {
  within = search rules;
  same_length = search rules;
  came = came-behind _ _ _ _ _ _ _ _ _ c.loop-bytes.invariant.within c.in-Ok.ensures.bound.0 refl c.loop-bytes.invariant.came c.in-Ok.ensures.bytes.0;
}
