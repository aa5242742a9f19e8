-- `key_judge::walk_key` meets its contract. The invariant: the whole is a key if what is left ends one. Assumes nothing.
use mathlib.Core.Path.{◌≡◌}
use Rattle.definition.specs.Image.{is_key}
use Rattle.key_judge.proofs.Keys.{ends_key}
use Rattle.key_judge.proofs.walk_key.Given as goal

abbrev pub invariant-loop-parts : goal.invariant-loop-parts
invariant-loop-parts l = is_key l.key ≡ ends_key l._parts l.rest
