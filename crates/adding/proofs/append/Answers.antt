-- `adding::append` meets its contract: the key, the value, the row, and the first two words. Assumes nothing.
use mathlib.Core.Path.{refl}
use Rattle.adding.proofs.Appending.{appended_is}
use Rattle.adding.proofs.append.Goals as goal

pub returns : goal.returns
returns c = appended_is c.requires c.write_key.ensures c.write_key.auto.store c.parse_value.ensures c.write_row.ensures c.write_row.auto.words refl
