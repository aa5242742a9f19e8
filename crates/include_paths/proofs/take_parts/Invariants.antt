-- `include_paths::take_parts` meets its contract. Assumes nothing.
use Prim.Native.Nat.{◌+◌}
use lib.ListN.{length}
use Rattle.include_paths.proofs.Taking.{later_bytes, Taking}
use Rattle.include_paths.proofs.take_parts.Given as goal

abbrev pub invariant-parts : goal.invariant-parts
invariant-parts l = Taking l.folder l.name l.initial.path l.path l.so_far l.in_name l.rest

abbrev pub decreases-parts : goal.decreases-parts
decreases-parts l = length l.rest + later_bytes l.name l.in_name
