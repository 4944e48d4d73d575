-- `value::reading::value_said` meets its contract: a number with its sign put on, or the refusal's
-- number.
-- Assumes nothing.
use Rattle.value.proofs.SignedValues.{few_said, signed_value, refused_value}
use Rattle.value.proofs.reading.value_said.Goals as goal

pub signed-requires : goal.signed-requires
signed-requires c = few_said c.requires c.in-Ok.is

pub returns-in-Ok : goal.returns-in-Ok
returns-in-Ok c = signed_value c.requires c.in-Ok.is c.signed.ensures

pub returns-in-Err : goal.returns-in-Err
returns-in-Err c = refused_value c.in-Err.is c.number.ensures
