-- `fields::decode` meets its contract. Assumes nothing.
use Rattle.fields.proofs.Digits.{Decoding}
use Rattle.fields.proofs.decode.Given as goal

abbrev pub invariant-loop-n : goal.invariant-loop-n
invariant-loop-n l = Decoding l.text l.initial.out l.out l.rest l.n
