use Rattle.components.proofs.Bindings.{Binding-at}
use Rattle.components.proofs.parse_binding.Given as goal

abbrev pub invariant-loop-len : goal.invariant-loop-len
invariant-loop-len l = Binding-at l.text l.loose l.len
