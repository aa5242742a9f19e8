use mathlib.Core.Path.{sym, ◌∙◌}
use borrow.Author.Rules.{rules}
use Rattle.components.proofs.Bindings.{binding_more, binding_stop, binding_end}
use Rattle.components.proofs.parse_binding.Goals as goal

pub returns-then-not-is_binding : goal.returns-then-not-is_binding
returns-then-not-is_binding c = binding_stop c.loop-len.invariant (search rules) (sym c.is_binding.ensures ∙ c.if-not-is_binding.true)

pub loop-len-preserved : goal.loop-len-preserved
loop-len-preserved c = binding_more c.loop-len.invariant (search rules) (sym c.is_binding.ensures ∙ c.if-not-is_binding.false)

pub returns : goal.returns
returns c = binding_end c.loop-len.invariant c.loop-len-test.false
