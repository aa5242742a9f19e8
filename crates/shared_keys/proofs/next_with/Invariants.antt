-- `shared_keys::next_with` meets its contract: the first with that key from entry j on is the one. Assumes nothing.
use Rattle.definition.specs.Image.{key_parts}
use Rattle.shared_keys.proofs.Sharing.{Looking}
use Rattle.shared_keys.proofs.next_with.Given as goal

abbrev pub invariant-loop-j : goal.invariant-loop-j
invariant-loop-j l = Looking l.image.contents.now l.image.bodies.now (key_parts l.key) l.next l.j
