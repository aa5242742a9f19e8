-- `byte_classes::Classes::is_octal_digit` meets its contract: the class's bit of the byte's entry. Assumes nothing.
use borrow.Author.Rules.{rules}
use Rattle.byte_classes.proofs.Table.{at}
use Rattle.byte_classes.proofs.Classes.is_octal_digit.Goals as goal

pub returns : goal.returns
returns c = (at _ (c.args.self.now.is_table) c.args.c (search rules)).octal
