-- `skips::skip_spaces` meets its contract. Assumes nothing.
use mathlib.Core.List.{List}
use mathlib.Core.Path.{ap, ◌∙◌}
use Prim.Native.Nat.{ℕ, ◌+◌}
use lib.Dec.{eqb}
use lib.ListN.{length}
use Rattle.definition.specs.Bytes.{space, is_space}
use Rattle.skips.proofs.Texts.{space_is}
use Rattle.scan.proofs.Runs.{take_while_agree, drop_while_agree}
use Rattle.skips.proofs.skip_spaces.Goals as goal

pub returns : goal.returns
returns c = (c.skip_byte.ensures.0 ∙ drop_while_agree (eqb space) is_space space_is c.args.text.now, c.skip_byte.ensures.1 ∙ ap (λ (l : List ℕ). (c.args.text.ref_ptr.0, length l + c.args.text.ref_ptr.1)) (take_while_agree (eqb space) is_space space_is c.args.text.now))
