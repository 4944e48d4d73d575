-- What the exit of a `?` returns, where the error stays what it is.
-- Assumes nothing.
use Rattle.std.proofs.Common.{Result, Ok, Err}
use Rattle.std.specs.Result.{IsErrAnd}
use mathlib.Core.Path.{◌≡◌, ap}

pub passed_on : {T E : Type 0} {r : Result T E} {e : E} → IsErrAnd r (λ (x : E). x ≡ e) → r ≡ Err e
passed_on {r = Ok x} h = absurd h
passed_on {r = Err x} h = ap Err h
