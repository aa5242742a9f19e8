use mathlib.Core.Path.{sym, ◌∙◌}
use native.Mathlib.Omega.{arith}
use Rattle.components.proofs.Names.{no_name, wild, name_there}
use Rattle.components.proofs.next_component_name.Goals as goal

pub returns-then-len-gt0 : goal.returns-then-len-gt0
returns-then-len-gt0 c = name_there _ _ c.next_component_by-len.ensures c.if-len-gt0.true

pub returns-then-starts_with : goal.returns-then-starts_with
returns-then-starts_with c = wild _ (sym c.starts_with.ensures ∙ c.if-starts_with.true)

pub returns : goal.returns
returns c = no_name _ (omega (arith, c.next_component_by-len.ensures)) (sym c.starts_with.ensures ∙ c.if-starts_with.false)
