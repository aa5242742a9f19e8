-- `skips::skip_byte` meets its contract. Assumes nothing.
use mathlib.Core.Path.{ap}
use Prim.Native.Nat.{ℕ, ◌+◌}
use lib.Dec.{eqb}
use Rattle.scan.proofs.Runs.{run_inside, run_rest}
use Rattle.skips.proofs.skip_byte.Goals as goal

pub slice_bounds-result-count : goal.slice_bounds-result-count
slice_bounds-result-count c = run_inside (eqb _) _ _ c.leading-n.ensures

pub returns : goal.returns
returns c = (run_rest (eqb _) c.args.text.now _ c.leading-n.ensures, ap (λ (n : ℕ). (c.args.text.ref_ptr.0, n + c.args.text.ref_ptr.1)) c.leading-n.ensures)

pub slice_bounds-result-start : goal.slice_bounds-result-start
slice_bounds-result-start c = run_inside (eqb _) _ _ c.leading-n.ensures
