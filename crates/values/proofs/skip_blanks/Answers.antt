-- `values::skip_blanks` meets its contract. Assumes nothing.
use mathlib.Core.Path.{ap}
use Prim.Native.Nat.{ℕ, ◌+◌}
use Rattle.values.proofs.Skipping.{blanks_left}
use Rattle.values.proofs.skip_blanks.Goals as goal

pub returns : goal.returns
returns c = (blanks_left c.args.text.now _ c.blanks-n.ensures, ap (λ (n : ℕ). (c.args.text.ref_ptr.0, n + c.args.text.ref_ptr.1)) c.blanks-n.ensures)
