use mathlib.Core.Path.{refl}
use Rattle.definition.specs.Bytes.{is_name, is_digit}
use Rattle.key_judge.proofs.is_name_byte.Goals as goal

pub returns : goal.returns
unfolding is_name is_digit
returns c = refl
