use mathlib.Core.Path.{◌≡◌}
use lib.ListN.{drop}
use Rattle.definition.specs.Value.{natural_of}
use Rattle.integers.specs.Readings.{magnitude}
use Rattle.integers.proofs.Numbers.{after}
use Rattle.integers.proofs.parse_natural.Given as goal

abbrev pub invariant-loop-c : goal.invariant-loop-c
invariant-loop-c l = magnitude (natural_of l.text) ≡ magnitude (after l.n (drop l.c-index l.text))
