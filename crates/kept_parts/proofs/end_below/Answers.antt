-- `kept_parts::end_below` meets its contract. Assumes nothing.
use mathlib.Core.Path.{sym}
use native.Mathlib.Omega.{arith}
use Rattle.kept_parts.proofs.Storing.{end_first, end_later}
use Rattle.kept_parts.proofs.end_below.Goals as goal

pub returns : goal.returns
returns c = sym (end_later _ _ (omega (arith, c.if-size-eq0.false)))

pub returns-then-size-eq0 : goal.returns-then-size-eq0
returns-then-size-eq0 c = sym (end_first _ _ c.if-size-eq0.true)
