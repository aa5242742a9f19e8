-- `plain_keys::first_name` meets its contract. Assumes nothing.
use mathlib.Core.Path.{sym, ◌∙◌}
use native.Mathlib.Omega.{arith}
use Rattle.plain_keys.proofs.Ends.{binding_on, ended_rest}
use Rattle.plain_keys.proofs.Keys.{bound_first, free_first}
use Rattle.plain_keys.proofs.first_name.Goals as goal

pub name_length-n-requires : goal.name_length-n-requires
name_length-n-requires c = (ended_rest c.requires 1 (omega (arith, binding_on c.requires 0 c.requires.some (sym c.is_binding.ensures ∙ c.if-is_binding.true))))

pub returns-then-is_binding : goal.returns-then-is_binding
returns-then-is_binding c = bound_first (sym c.is_binding.ensures ∙ c.if-is_binding.true) _ c.name_length-n.ensures.0

pub returns : goal.returns
returns c = free_first (sym c.is_binding.ensures ∙ c.if-is_binding.false) _ c.name_length-n-2.ensures.0
