-- `file_names::is_file_name` meets its contract. The invariant: the bytes from i on decide, after the part so far, as the whole name does. Assumes nothing.
use mathlib.Core.Path.{◌≡◌}
use Prim.Native.Nat.{◌≤◌}
use lib.ListN.{length, drop}
use Rattle.definition.specs.Limits.{file_name_bytes}
use Rattle.definition.specs.Archive.{is_file_name}
use Rattle.file_names.specs.Names.{walked}
use Rattle.file_names.proofs.is_file_name.Given as goal

abbrev pub invariant-loop-c : goal.invariant-loop-c
invariant-loop-c l = (length l.name ≤ file_name_bytes) × (is_file_name l.name ≡ walked l.part (drop l.c-index l.name))
