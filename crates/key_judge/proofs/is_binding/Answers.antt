use mathlib.Core.Path.{sym}
use Rattle.key_judge.proofs.Bytes.{binding, no_binding}
use Rattle.key_judge.proofs.is_binding.Goals as goal

pub returns-in-46 : goal.returns-in-46
returns-in-46 c = sym (binding c.args.c c.in-46.is)

pub returns-in_default : goal.returns-in_default
returns-in_default c = sym (no_binding c.args.c c.in_default.in_default-own.rest.1)
