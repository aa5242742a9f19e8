-- `key_judge::is_key` meets its contract. Assumes nothing.
use mathlib.Core.Path.{sym}
use Rattle.key_judge.proofs.is_key.Goals as goal

pub returns-then-is_plain_key : goal.returns-then-is_plain_key
returns-then-is_plain_key c = sym (c.is_plain_key.ensures c.if-is_plain_key.true)
