-- Texts as the bytes that they are in a file: the byte of a character is its code in ISO 8859-1.
-- Assumes nothing.
use Rattle.std.specs.Prelude.{List, [], ◌∷◌, ℕ}
use Prim.Native.Char.{code}
use Prim.Native.String as Native
use Prim.Native.String.{String}

-- the bytes of a text, so that a name or a message is written as it is printed
unfoldable pub bytes : String → List ℕ
bytes Native.[] = []
bytes (Native.◌∷◌ c s) = code c ∷ bytes s
