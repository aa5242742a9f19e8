-- `byte_classes::Classes::allowed_in_quark_name` meets its contract: the class's bit of the byte's entry. Assumes nothing.
use borrow.Author.Rules.{rules}
use Rattle.byte_classes.proofs.Table.{at}
use Rattle.byte_classes.proofs.Classes.allowed_in_quark_name.Goals as goal

pub returns : goal.returns
returns c = (at _ (c.args.self.now.is_table) c.args.c (search rules)).name
