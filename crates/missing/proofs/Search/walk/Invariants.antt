-- `missing::Search::walk` meets its contract, and ends: each include is after the one before. Assumes nothing.
use Prim.Native.Nat.{◌-◌}
use mathlib.Core.Path.{◌≡◌}
use lib.ListN.{length, drop}
use Rattle.include_lines.specs.Includes.{includes_of}
use Rattle.missing.specs.Reaching.{reaching_all}
use Rattle.missing.proofs.Search.walk.Given as goal

abbrev pub invariant-loop-include : goal.invariant-loop-include
invariant-loop-include g l =
    (l.self.archive ≡ l.fn.self.archive)
    × (reaching_all l.fn.self.archive.bytes.now l.folder l.self.reached (includes_of (drop l.from l.text)) ≡ reaching_all l.fn.self.archive.bytes.now l.folder l.fn.self.reached (includes_of l.text))

abbrev pub decreases-loop-include : goal.decreases-loop-include
decreases-loop-include g l = length l.text - l.from
