use mathlib.Core.Path.{◌∙◌}
use Rattle.definition.specs.Value.{natural_of}
use Rattle.integers.proofs.Numbers.{natural_signed, nothing_signed}
use Rattle.integers.proofs.signed_number.Goals as goal

pub returns-in_err-n : goal.returns-in_err-n
returns-in_err-n c = rw c.from_residual.ensures (nothing_signed c.args.negative (natural_of c.args.text.now) c.in_err-n.ensures)

pub returns : goal.returns
returns c =
    c.with_sign.ensures ∙ natural_signed c.args.negative c.in_ok-n.n (natural_of c.args.text.now) c.in_ok-n.ensures
