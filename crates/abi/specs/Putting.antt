-- Several numbers that are answered into a buffer of the caller's (include/sargaceu.h).
-- Assumes nothing.
use Rattle.std.specs.Prelude.{true, false, List, ltb, length}
use Rattle.std.proofs.lemmas.List.Edits.{sets}

-- a buffer with the numbers at its front, or as it stood where they do not all fit
unfoldable pub put_all {ℓ} : {A : Type ℓ} → List A → List A → List A
put_all buffer numbers = elim (ltb (length buffer) (length numbers)) [ true ↦ buffer | false ↦ sets buffer 0 numbers ]
