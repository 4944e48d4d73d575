-- The seven contexts (rules C2 and C3): the grammar of each.
-- Assumes nothing.
use Rattle.std.specs.Prelude.{Bool, ◌&&◌, List, [], ◌∷◌, map, ℕ, leb, get_or}
use Rattle.order.specs.Grammar.{Shape, never, only, ◌▸◌, any, plus, maybe}

-- a segment of kind k that is neither C nor L, with the C behind it (C3)
unfoldable pub segment : ℕ → Shape
segment k = only k ▸ any (only 12)

-- the kinds by their names; behind an L there is no C (C3)
unfoldable pub H : Shape
H = segment 1

unfoldable pub P : Shape
P = segment 2

unfoldable pub AP : Shape
AP = segment 3

unfoldable pub AC : Shape
AC = segment 4

unfoldable pub OBR : Shape
OBR = segment 5

unfoldable pub OBX : Shape
OBX = segment 6

unfoldable pub FAC : Shape
FAC = segment 7

unfoldable pub REG : Shape
REG = segment 8

unfoldable pub ACT : Shape
ACT = segment 9

unfoldable pub ERR : Shape
ERR = segment 10

unfoldable pub L : Shape
L = only 11

-- orders: (OBR OBX*)+
unfoldable pub orders : Shape
orders = plus (OBR ▸ any OBX)

-- cover: (AP AC*)?
unfoldable pub cover : Shape
cover = maybe (AP ▸ any AC)

-- invoices: (FAC REG* ACT*)+
unfoldable pub invoices : Shape
invoices = plus (FAC ▸ any REG ▸ any ACT)

-- the bodies of the seven contexts, in the order of their numbers (C2)
unfoldable pub bodies : List Shape
bodies =
    plus (P ▸ cover)  -- ADM
    ∷ plus (P ▸ orders)  -- ORM
    ∷ plus (P ▸ AP ▸ any AC ▸ orders)  -- ORA
    ∷ plus (P ▸ plus REG)  -- REG
    ∷ plus ERR  -- ERR
    ∷ plus (P ▸ plus (OBR ▸ plus OBX))  -- ORU: no OBR without an OBX
    ∷ plus (P ▸ cover ▸ invoices)  -- FAC
    ∷ []

-- a message of a body: an H before it, an L behind it (C2)
unfoldable pub message_shape : Shape → Shape
message_shape body = H ▸ body ▸ L

-- the grammar of a context, by its number: a number that is no context derives nothing
unfoldable pub grammar : ℕ → Shape
grammar c = get_or (never ∷ map message_shape bodies) c never

-- whether a number is one of a context (C1)
unfoldable pub is_context : ℕ → Bool
is_context c = leb 1 c && leb c 7
