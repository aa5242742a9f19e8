-- `key_judge::may_follow` meets its contract. Assumes nothing.
use mathlib.Core.Path.{refl}
use Rattle.key_judge.specs.Pairs.{may_follow}
use Rattle.key_judge.proofs.may_follow.Goals as goal

pub returns : goal.returns
unfolding may_follow
returns c = rw (c.is_binding-bound.ensures, c.is_binding-binding.ensures, c.is_name_byte-name.ensures) refl
